-- The forms of payment of a group, as options, against the last record.
use Rattle.std.proofs.Common.{◌≡◌, ℕ, Bool, true, false, List, ◌++◌, Option, Some, None, IfSome, IsSome, is_some, option_to_list, refl, inl, inr, ◌⊎◌}
use Rattle.bsp_ret_records.specs.declared.codes.FormOfPayment.TheVariants.{Cash, Credit, Exchange}
use Rattle.bsp_ret_records.specs.declared.codes.Profile.{Profile}
use Rattle.bsp_ret_records.specs.declared.codes.Profile.TheVariants.{P002}
use Rattle.bsp_ret_records.specs.declared.codes.TransactionCode.{TransactionCode}
use Rattle.bsp_ret_records.specs.declared.codes.TransactionCode.TheVariants.{Tktt, Rfnd, Canx}
use Rattle.bsp_ret.specs.declared.model.LastRecord.{LastRecord}
use Rattle.bsp_ret.specs.declared.model.LastRecord.TheVariants as last
use Rattle.bsp_ret.specs.Table.{is_complete, has_form, takes_form}
use Rattle.bsp_ret.specs.Ret.{Group}

abbrev pub group_of : List ℕ → Option (List ℕ) → Option (List ℕ) → Option (List ℕ) → Option (List ℕ) → Option (List ℕ) → Option (List ℕ) → Group
group_of sale related second amounts cash credit exchange = record { sale = sale; related = related; second = second; amounts = amounts; cash = cash; credit = credit; exchange = exchange }

-- the last record with a record that may stand behind another
abbrev pub or_last : Option (List ℕ) → LastRecord → LastRecord → LastRecord
or_last None new before = before
or_last (Some line) new before = new

-- the last record of a group with record 5 and these forms
abbrev pub last_form : Option (List ℕ) → Option (List ℕ) → Option (List ℕ) → LastRecord
last_form cash credit exchange = or_last exchange (last.Form Exchange) (or_last credit (last.Form Credit) (or_last cash (last.Form Cash) last.Amounts))

abbrev pub forms_list : Option (List ℕ) → Option (List ℕ) → Option (List ℕ) → List (List ℕ)
forms_list cash credit exchange = option_to_list cash ++ (option_to_list credit ++ option_to_list exchange)

-- a record 5 stands in a TKTT, and in an RFND behind a record 3
abbrev pub may_pay : TransactionCode → Bool → Bool
may_pay Tktt has_related = true
may_pay Rfnd has_related = has_related
may_pay Canx has_related = false

-- a second record 3 stands in a TKTT of profile 002
abbrev pub IsAllowed : TransactionCode → Profile → Option (List ℕ) → Type 0
IsAllowed code profile second = IfSome second (λ line. (code ≡ Tktt) × (profile ≡ P002))

-- ---- where a form may stand, no later one does

pub cash_first : (cash credit exchange : Option (List ℕ)) (code : TransactionCode) (b : Bool) → takes_form (last_form cash credit exchange) code b (Some Cash) ≡ true → (cash ≡ None) × (credit ≡ None) × (exchange ≡ None)
cash_first cash credit (Some line) code b h = absurd cc
cash_first cash (Some line) None code b h = absurd cc
cash_first (Some line) None None code b h = absurd cc
cash_first None None None code b h = (refl, refl, refl)

pub credit_next : (cash credit exchange : Option (List ℕ)) (code : TransactionCode) (b : Bool) → takes_form (last_form cash credit exchange) code b (Some Credit) ≡ true → (credit ≡ None) × (exchange ≡ None)
credit_next cash credit (Some line) code b h = absurd cc
credit_next cash (Some line) None code b h = absurd cc
credit_next cash None None code b h = (refl, refl)

pub exchange_last : (cash credit exchange : Option (List ℕ)) (code : TransactionCode) (b : Bool) → takes_form (last_form cash credit exchange) code b (Some Exchange) ≡ true → (exchange ≡ None) × (has_form code b Exchange ≡ true)
exchange_last cash credit (Some line) code b h = absurd cc
exchange_last cash (Some line) None code b h = (refl, h)
exchange_last (Some line) None None code b h = (refl, h)
exchange_last None None None code b h = (refl, h)

-- ---- and there it may stand

pub credit_taken : (cash : Option (List ℕ)) (code : TransactionCode) (b : Bool) → takes_form (last_form cash None None) code b (Some Credit) ≡ true
credit_taken None code b = refl
credit_taken (Some line) code b = refl

pub exchange_taken : (cash credit : Option (List ℕ)) (code : TransactionCode) (b : Bool) → has_form code b Exchange ≡ true → takes_form (last_form cash credit None) code b (Some Exchange) ≡ true
exchange_taken cash (Some line) code b h = h
exchange_taken (Some line) None code b h = h
exchange_taken None None code b h = h

-- ---- complete groups

-- a complete group has a form
pub some_form : (cash credit exchange : Option (List ℕ)) (code : TransactionCode) (b : Bool) → is_complete (last_form cash credit exchange) code b ≡ true → IsSome cash ⊎ (IsSome credit ⊎ IsSome exchange)
some_form cash credit (Some line) code b h = inr (inr refl)
some_form cash (Some line) None code b h = inr (inl refl)
some_form (Some line) None None code b h = inl refl
some_form None None None code b h = absurd cc

-- a complete TKTT without EX has no record 3
pub no_related : (cash credit : Option (List ℕ)) (b : Bool) → is_complete (last_form cash credit None) Tktt b ≡ true → b ≡ false
no_related cash (Some line) true h = absurd cc
no_related cash (Some line) false h = refl
no_related (Some line) None true h = absurd cc
no_related (Some line) None false h = refl
no_related None None b h = absurd cc

-- a TKTT with a form is complete where it has a record 3 exactly where it has an EX
pub tktt_complete : (related cash credit exchange : Option (List ℕ)) → IsSome cash ⊎ (IsSome credit ⊎ IsSome exchange) → is_some related ≡ is_some exchange → is_complete (last_form cash credit exchange) Tktt (is_some related) ≡ true
tktt_complete related cash credit (Some line) some h = refl
tktt_complete related cash (Some line) None some h = rw h refl
tktt_complete related (Some line) None None some h = rw h refl
tktt_complete related None None None some h = elim some [ inl x ↦ absurd cc | inr x ↦ elim x [ inl y ↦ absurd cc | inr y ↦ absurd cc ] ]

-- an RFND with a form is complete
pub rfnd_complete : (cash credit exchange : Option (List ℕ)) (b : Bool) → IsSome cash ⊎ (IsSome credit ⊎ IsSome exchange) → is_complete (last_form cash credit exchange) Rfnd b ≡ true
rfnd_complete cash credit (Some line) b some = refl
rfnd_complete cash (Some line) None b some = refl
rfnd_complete (Some line) None None b some = refl
rfnd_complete None None None b some = elim some [ inl x ↦ absurd cc | inr x ↦ elim x [ inl y ↦ absurd cc | inr y ↦ absurd cc ] ]
