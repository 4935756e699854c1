-- What a group has behind its record 2.
use Rattle.std.proofs.Common.{◌≡◌, ℕ, false, List, [], ◌++◌, refl, Option, None, Some, is_some}
use Rattle.std.specs.Prelude.{IfSome}
use Rattle.std.specs.Option.{IsSomeAnd, option_to_list}
use Rattle.bsp_ret_records.specs.declared.codes.TransactionCode.{TransactionCode}
use Rattle.bsp_ret_records.specs.declared.codes.TransactionCode.TheVariants.{Tktt, Rfnd, Canx}
use Rattle.bsp_ret_records.specs.declared.codes.FormOfPayment.TheVariants.{Cash, Credit, Exchange}
use Rattle.bsp_ret_records.specs.Records.{related_fits, amounts_fit}
use Rattle.bsp_ret.specs.Ret.{Group, IsRecord, IsForm, AreRelated, HasBody}

-- what its other records say, where it has them
pub record BodyFacts (n : ℕ) (g : Group) : Type 0 where
  pub related : AreRelated n g.related g.second
  pub amounts : IfSome g.amounts (IsRecord 53 n amounts_fit)
  pub cash : IfSome g.cash (IsForm n Cash)
  pub credit : IfSome g.credit (IsForm n Credit)
  pub exchange : IfSome g.exchange (IsForm n Exchange)

if_some : {A : Type 0} (P : A → Type 0) (o : Option A) → IsSomeAnd o P → IfSome o P
if_some P None h = tt
if_some P (Some x) h = h

if_none : {A : Type 0} (P : A → Type 0) (o : Option A) → o ≡ None → IfSome o P
if_none P None h = tt
if_none P (Some x) h = absurd (cc h)

one_related : (n : ℕ) (related second : Option (List ℕ)) → IsSomeAnd related (IsRecord 51 n related_fits) → second ≡ None → AreRelated n related second
one_related n None second h none = absurd h
one_related n (Some line) None h none = h
one_related n (Some line) (Some second) h none = absurd (cc none)

no_related : (n : ℕ) (related second : Option (List ℕ)) → related ≡ None → second ≡ None → AreRelated n related second
no_related n None None first none = tt
no_related n (Some line) second first none = absurd (cc first)
no_related n None (Some second) first none = absurd (cc none)

-- each of the records 3
pub first_related : (n : ℕ) (related second : Option (List ℕ)) → AreRelated n related second → IfSome related (IsRecord 51 n related_fits)
first_related n None second h = tt
first_related n (Some line) None h = h
first_related n (Some line) (Some second) h = h.0

pub second_related : (n : ℕ) (related second : Option (List ℕ)) → AreRelated n related second → IfSome second (IsRecord 51 n related_fits)
second_related n related None h = tt
second_related n (Some line) (Some second) h = h.1
second_related n None (Some second) h = absurd h

pub no_forms : (cash credit exchange : Option (List ℕ)) → option_to_list cash ++ (option_to_list credit ++ option_to_list exchange) ≡ [] → (is_some cash ≡ false) × (is_some credit ≡ false) × (is_some exchange ≡ false)
no_forms None None None h = (refl, refl, refl)
no_forms None None (Some c) h = absurd (cc h)
no_forms None (Some b) exchange h = absurd (cc h)
no_forms (Some a) credit exchange h = absurd (cc h)

not_some : {A : Type 0} (o : Option A) → is_some o ≡ false → o ≡ None
not_some None h = refl
not_some (Some x) h = absurd (cc h)

pub body_facts : (n : ℕ) (g : Group) (code : TransactionCode) → HasBody n g (Some code) → BodyFacts n g
body_facts n g Tktt body = record {
  related = body.0;
  amounts = if_some (IsRecord 53 n amounts_fit) g.amounts body.2.amounts;
  cash = body.2.cash;
  credit = body.2.credit;
  exchange = body.2.exchange;
}
body_facts n g Rfnd body = record {
  related = one_related n g.related g.second body.0 body.1;
  amounts = if_some (IsRecord 53 n amounts_fit) g.amounts body.3.amounts;
  cash = body.3.cash;
  credit = body.3.credit;
  exchange = body.3.exchange;
}
body_facts n g Canx body = record {
  related = no_related n g.related g.second body.0 body.1;
  amounts = if_none (IsRecord 53 n amounts_fit) g.amounts body.2;
  cash = if_none (IsForm n Cash) g.cash (not_some g.cash ((no_forms g.cash g.credit g.exchange body.3).0));
  credit = if_none (IsForm n Credit) g.credit (not_some g.credit ((no_forms g.cash g.credit g.exchange body.3).1));
  exchange = if_none (IsForm n Exchange) g.exchange (not_some g.exchange ((no_forms g.cash g.credit g.exchange body.3).2));
}
