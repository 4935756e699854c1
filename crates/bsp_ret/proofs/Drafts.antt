-- What was read so far, by the last record.
use Rattle.std.proofs.Common.{◌≡◌, ◌<◌, ◌≤◌, count_by, ℕ, suc, ◌+◌, Bool, true, List, [], ◌∷◌, ◌++◌, length, Option, Some, None, IfSome, IsSomeAnd, is_some, option_to_list, refl, sym, ap, subst, ◌∙◌, arith, append-nil, length-append}
use Rattle.std.specs.List.{list_all}
use Rattle.std.proofs.lemmas.Bool.{and_from, false≢true, le-leb, ltb-true}
use Rattle.std.proofs.lemmas.Grind.{flat_map-append}
use Rattle.std.proofs.lemmas.List.Folds.{list_all-append}
use Rattle.bsp_ret_records.specs.declared.codes.FormOfPayment.{FormOfPayment}
use Rattle.bsp_ret_records.specs.declared.codes.FormOfPayment.TheVariants.{Cash, Credit, Exchange}
use Rattle.bsp_ret_records.specs.declared.codes.Profile.{Profile}
use Rattle.bsp_ret_records.specs.declared.codes.Profile.TheVariants.{P001, P002}
use Rattle.bsp_ret_records.specs.declared.codes.TransactionCode.{TransactionCode}
use Rattle.bsp_ret_records.specs.declared.codes.TransactionCode.TheVariants.{Tktt, Rfnd, Canx}
use Rattle.bsp_ret.specs.declared.model.LastRecord.{LastRecord}
use Rattle.bsp_ret.specs.declared.model.LastRecord.TheVariants as last
use Rattle.bsp_ret_records.specs.Records.{profile_of, code_of, sale_fits, related_order, related_fits, amounts_fit}
use Rattle.bsp_ret.specs.Table.{has_ended, is_start, is_complete, is_related, takes_related, comes_behind, takes_amounts, takes_form, has_form}
use Rattle.bsp_ret.specs.Ret.{File, flatten, IsHeader, IsRecord, IsForm, IsPaid, AreRelated, Group, IsGroup, AreGroups, has_one_related, Ret}
use Rattle.bsp_ret.specs.Standings.{only_with}
use Rattle.bsp_ret.specs.Reading.{Draft, with_group, nothing}
use Rattle.bsp_ret.proofs.BodyLemmas.{BodyFacts}
use Rattle.bsp_ret.proofs.RelatedLemmas.{count_of, related_count}
use Rattle.bsp_ret.proofs.Forms.{IsAllowed, group_of, last_form, forms_list, may_pay, some_form, no_related}

-- ---- what was read so far

-- the lines before are a header of the profile, closed groups and the latest lines, of as many transactions
pub record Base (profile : Profile) (before : List (List ℕ)) (n : ℕ) (first : List ℕ) (closed : List (List (List ℕ))) (latest : List (List ℕ)) : Type 0 where
  pub lines_are : before ≡ first ∷ (flatten closed ++ latest)
  pub header : IsHeader first
  pub profile_is : profile_of first ≡ Some profile
  pub groups : AreGroups 1 closed
  pub one : profile ≡ P001 → list_all has_one_related closed ≡ true
  pub count : n ≡ length (with_group closed latest)

-- the latest lines are a record 2, and the records 3 that there are
pub record Sold (n : ℕ) (code : TransactionCode) (has_related : Bool) (related second : Option (List ℕ)) (latest : List (List ℕ)) : Type 0 where
  pub sale : List ℕ
  pub lines_are : latest ≡ sale ∷ (option_to_list related ++ option_to_list second)
  pub stands : IsRecord 50 n sale_fits sale
  pub code_is : code_of sale ≡ Some code
  pub related_is : is_some related ≡ has_related
  pub fits : AreRelated n related second

-- by what a record 3 is in order that has no second one behind it
abbrev pub only_of : List ℕ → Option (List ℕ) → Option ℕ
only_of line None = Some (related_order line)
only_of line (Some second) = None

-- the latest line is a record 3
pub record Relating (n : ℕ) (code : TransactionCode) (profile : Profile) (has_related : Bool) (only : Option ℕ) (latest : List (List ℕ)) : Type 0 where
  pub line : List ℕ
  pub second : Option (List ℕ)
  pub sold : Sold n code has_related (Some line) second latest
  pub allowed : IsAllowed code profile second
  pub only_is : only ≡ only_of line second
  pub pays : may_pay code has_related ≡ true

-- the latest lines have a record 5, and what records 8 there are
pub record Paying (n : ℕ) (code : TransactionCode) (profile : Profile) (has_related : Bool) (end : LastRecord) (latest : List (List ℕ)) : Type 0 where
  pub sale : List ℕ
  pub related : Option (List ℕ)
  pub second : Option (List ℕ)
  pub amounts : List ℕ
  pub cash : Option (List ℕ)
  pub credit : Option (List ℕ)
  pub exchange : Option (List ℕ)
  pub lines_are : latest ≡ sale ∷ (option_to_list related ++ (option_to_list second ++ (amounts ∷ forms_list cash credit exchange)))
  pub stands : IsRecord 50 n sale_fits sale
  pub code_is : code_of sale ≡ Some code
  pub related_is : is_some related ≡ has_related
  pub fits : AreRelated n related second
  pub allowed : IsAllowed code profile second
  pub pays : may_pay code has_related ≡ true
  pub price : IsRecord 53 n amounts_fit amounts
  pub by_cash : IfSome cash (IsForm n Cash)
  pub by_credit : IfSome credit (IsForm n Credit)
  pub by_exchange : IfSome exchange (IsForm n Exchange)
  pub exchanges : IfSome exchange (λ line. has_form code has_related Exchange ≡ true)
  pub end_is : end ≡ last_form cash credit exchange

abbrev pub BaseOf : Profile → List (List ℕ) → ℕ → Draft → Type 0
BaseOf profile before n d = Base profile before n d.header d.closed d.latest

abbrev pub file_of : Draft → File
file_of d = record { header = d.header; groups = d.closed; trailer = d.trailer }

-- what was read so far, by the last record
abbrev pub Read : LastRecord → TransactionCode → Profile → Bool → Option ℕ → ℕ → List (List ℕ) → Draft → Type 0
Read last.Start code profile b only n before d = (n ≡ 0) × (before ≡ []) × (d ≡ nothing)
Read last.Header code profile b only n before d = BaseOf profile before n d × (d.latest ≡ [])
Read last.Sale code profile b only n before d = BaseOf profile before n d × Sold n code b None None d.latest
Read last.Related code profile b only n before d = BaseOf profile before n d × Relating n code profile b only d.latest
Read last.Amounts code profile b only n before d = BaseOf profile before n d × Paying n code profile b last.Amounts d.latest
Read (last.Form kind) code profile b only n before d = BaseOf profile before n d × Paying n code profile b (last.Form kind) d.latest
Read last.Trailer code profile b only n before d = Ret before (file_of d)

-- all groups that were read are complete
pub record Whole (profile : Profile) (n : ℕ) (before : List (List ℕ)) (d : Draft) : Type 0 where
  pub base : BaseOf profile before n d
  pub groups : AreGroups 1 (with_group d.closed d.latest)
  pub one : profile ≡ P001 → list_all has_one_related (with_group d.closed d.latest) ≡ true

-- ---- groups

groups_snoc : (groups : List (List (List ℕ))) (n : ℕ) (group : List (List ℕ)) → AreGroups n groups → IsGroup (length groups + n) group → AreGroups n (groups ++ group ∷ [])
groups_snoc [] n group are is = (subst (λ (k : ℕ). IsGroup k group) (omega arith) is, tt)
groups_snoc (first ∷ groups) n group are is =
    let k : length (first ∷ groups) + n ≡ length groups + suc n = omega arith in
    (are.0, groups_snoc groups (suc n) group are.1 (subst (λ (m : ℕ). IsGroup m group) k is))

-- a complete last group makes the groups complete
groups_with : (closed : List (List (List ℕ))) (latest : List (List ℕ)) (n : ℕ) → AreGroups 1 closed → n ≡ length (with_group closed latest) → IsGroup n latest → AreGroups 1 (with_group closed latest)
groups_with closed [] n are count is = are
groups_with closed (line ∷ lines) n are count is =
    let k : n ≡ length closed + 1 = count ∙ length-append closed ((line ∷ lines) ∷ []) in
    groups_snoc closed 1 (line ∷ lines) are (subst (λ (m : ℕ). IsGroup m (line ∷ lines)) k is)

pub flatten_with : (closed : List (List (List ℕ))) (latest : List (List ℕ)) → flatten (with_group closed latest) ≡ flatten closed ++ latest
flatten_with closed [] = sym (append-nil (flatten closed))
flatten_with closed (line ∷ lines) = flat_map-append (λ group. group) closed ((line ∷ lines) ∷ []) ∙ ap (λ (x : List (List ℕ)). flatten closed ++ line ∷ x) (append-nil lines)

-- ---- records 3 in profile 001

-- the last group has one at most, too
one_with : (closed : List (List (List ℕ))) (latest : List (List ℕ)) → list_all has_one_related closed ≡ true → has_one_related latest ≡ true → list_all has_one_related (with_group closed latest) ≡ true
one_with closed [] all last = all
one_with closed (line ∷ lines) all last =
    list_all-append has_one_related closed ((line ∷ lines) ∷ []) ∙ and_from _ _ all (and_from _ _ last refl)

not_both : (profile : Profile) → profile ≡ P001 → profile ≡ P002 → ⊥
not_both profile old new = absurd (cc (old, new))

no_second : (code : TransactionCode) (profile : Profile) (second : Option (List ℕ)) → IsAllowed code profile second → profile ≡ P001 → count_of second ≡ 0
no_second code profile None allowed old = refl
no_second code profile (Some line) allowed old = absurd (not_both profile old allowed.1)

count_few : (o : Option (List ℕ)) → count_of o ≤ 1
count_few None = omega arith
count_few (Some line) = omega arith

-- ---- complete groups

-- a group of record 2 alone
canx_group : (n : ℕ) (b : Bool) (latest : List (List ℕ)) → Sold n Canx b None None latest → IsGroup n latest
canx_group n b latest s = record { group = group_of s.sale None None None None None None; lines_are = s.lines_are; sale = s.stands; body = rw s.code_is (refl, refl, refl, refl) }

canx_one : (n : ℕ) (b : Bool) (latest : List (List ℕ)) → Sold n Canx b None None latest → has_one_related latest ≡ true
canx_one n b latest s = rw (s.lines_are, s.stands.name) refl

-- a TKTT has a record 3 exactly where it has an EX
tktt_related : (related cash credit exchange : Option (List ℕ)) (b : Bool) → is_complete (last_form cash credit exchange) Tktt b ≡ true → is_some related ≡ b → IfSome exchange (λ line. has_form Tktt b Exchange ≡ true)
    → is_some related ≡ is_some exchange
tktt_related related cash credit None b complete is exchanges = is ∙ no_related cash credit b complete
tktt_related related cash credit (Some form) b complete is exchanges = is ∙ exchanges

rfnd_related : (n : ℕ) (related second : Option (List ℕ)) (b : Bool) → may_pay Rfnd b ≡ true → is_some related ≡ b → AreRelated n related second → IsSomeAnd related (IsRecord 51 n related_fits)
rfnd_related n None second b pays is fits = absurd (false≢true (is ∙ pays))
rfnd_related n (Some line) None b pays is fits = fits
rfnd_related n (Some line) (Some second) b pays is fits = fits.0

rfnd_second : (profile : Profile) (second : Option (List ℕ)) → IsAllowed Rfnd profile second → second ≡ None
rfnd_second profile None allowed = refl
rfnd_second profile (Some line) allowed = absurd (cc allowed.0)

rfnd_exchange : (exchange : Option (List ℕ)) (b : Bool) → IfSome exchange (λ line. has_form Rfnd b Exchange ≡ true) → exchange ≡ None
rfnd_exchange None b exchanges = refl
rfnd_exchange (Some line) b exchanges = absurd (cc exchanges)

-- the group of the latest lines
abbrev latest_group : (n : ℕ) (code : TransactionCode) (profile : Profile) (b : Bool) (end : LastRecord) (latest : List (List ℕ)) → Paying n code profile b end latest → Group
latest_group n code profile b end latest p = group_of p.sale p.related p.second (Some p.amounts) p.cash p.credit p.exchange

paid_group : (n : ℕ) (code : TransactionCode) (profile : Profile) (b : Bool) (end : LastRecord) (latest : List (List ℕ)) (p : Paying n code profile b end latest) → is_complete end code b ≡ true → IsPaid n (latest_group n code profile b end latest p)
paid_group n code profile b end latest p complete = record {
  amounts = p.price;
  cash = p.by_cash;
  credit = p.by_credit;
  exchange = p.by_exchange;
  some = some_form p.cash p.credit p.exchange code b (rw p.end_is at complete);
}

-- a group that is complete
form_group : (n : ℕ) (code : TransactionCode) (profile : Profile) (b : Bool) (end : LastRecord) (latest : List (List ℕ)) → Paying n code profile b end latest → is_complete end code b ≡ true → IsGroup n latest
form_group n Tktt profile b end latest p complete =
    let same = tktt_related p.related p.cash p.credit p.exchange b (rw p.end_is at complete) p.related_is p.exchanges in
    record { group = latest_group n Tktt profile b end latest p; lines_are = p.lines_are; sale = p.stands; body = rw p.code_is (p.fits, same, paid_group n Tktt profile b end latest p complete) }
form_group n Rfnd profile b end latest p complete =
    let related = rfnd_related n p.related p.second b p.pays p.related_is p.fits in
    let second = rfnd_second profile p.second p.allowed in
    let exchange = rfnd_exchange p.exchange b p.exchanges in
    record { group = latest_group n Rfnd profile b end latest p; lines_are = p.lines_are; sale = p.stands; body = rw p.code_is (related, second, exchange, paid_group n Rfnd profile b end latest p complete) }
form_group n Canx profile b end latest p complete = absurd (false≢true p.pays)

-- in profile 001 it has one record 3 at most
form_one : (n : ℕ) (code : TransactionCode) (profile : Profile) (b : Bool) (end : LastRecord) (latest : List (List ℕ)) → Paying n code profile b end latest → profile ≡ P001 → has_one_related latest ≡ true
form_one n code profile b end latest p old =
    let facts : BodyFacts n (latest_group n code profile b end latest p) = record { related = p.fits; amounts = p.price; cash = p.by_cash; credit = p.by_credit; exchange = p.by_exchange } in
    let count = ap (count_by is_related) p.lines_are ∙ related_count n (latest_group n code profile b end latest p) p.stands facts in
    le-leb (count_by is_related latest) 1 (omega (arith, count, no_second code profile p.second p.allowed old, count_few p.related))

-- the groups with the last one
complete_canx : (profile : Profile) (n : ℕ) (b : Bool) (before : List (List ℕ)) (d : Draft) → BaseOf profile before n d → Sold n Canx b None None d.latest → Whole profile n before d
complete_canx profile n b before d base s = record {
  base = base;
  groups = groups_with d.closed d.latest n base.groups base.count (canx_group n b d.latest s);
  one = λ old. one_with d.closed d.latest (base.one old) (canx_one n b d.latest s);
}

complete_form : (profile : Profile) (n : ℕ) (code : TransactionCode) (b : Bool) (end : LastRecord) (before : List (List ℕ)) (d : Draft) → BaseOf profile before n d → Paying n code profile b end d.latest → is_complete end code b ≡ true → Whole profile n before d
complete_form profile n code b end before d base p complete = record {
  base = base;
  groups = groups_with d.closed d.latest n base.groups base.count (form_group n code profile b end d.latest p complete);
  one = λ old. one_with d.closed d.latest (base.one old) (form_one n code profile b end d.latest p old);
}

no_latest : (profile : Profile) (n : ℕ) (before : List (List ℕ)) (d : Draft) → BaseOf profile before n d → d.latest ≡ [] → Whole profile n before d
no_latest profile n before d base none = record { base = base; groups = rw none base.groups; one = λ old. rw none (base.one old) }

-- ---- what the last record says of what was read

pub started : (l : LastRecord) (code : TransactionCode) (profile : Profile) (b : Bool) (only : Option ℕ) (n : ℕ) (before : List (List ℕ)) (d : Draft) → is_start l ≡ true → Read l code profile b only n before d → Read last.Start code profile b only n before d
started last.Start code profile b only n before d h r = r
started _ code profile b only n before d h r = absurd (false≢true h)

pub whole : (l : LastRecord) (code : TransactionCode) (profile : Profile) (b : Bool) (only : Option ℕ) (n : ℕ) (before : List (List ℕ)) (d : Draft) → is_complete l code b ≡ true → Read l code profile b only n before d → Whole profile n before d
whole last.Header code profile b only n before d h r = no_latest profile n before d r.0 r.1
whole last.Sale Canx profile b only n before d h r = complete_canx profile n b before d r.0 r.1
whole (last.Form Cash) code profile b only n before d h r = complete_form profile n code b (last.Form Cash) before d r.0 r.1 h
whole (last.Form Credit) code profile b only n before d h r = complete_form profile n code b (last.Form Credit) before d r.0 r.1 h
whole (last.Form Exchange) code profile b only n before d h r = complete_form profile n code b (last.Form Exchange) before d r.0 r.1 h
whole last.Sale Tktt profile b only n before d h r = absurd (false≢true h)
whole last.Sale Rfnd profile b only n before d h r = absurd (false≢true h)
whole last.Start code profile b only n before d h r = absurd (false≢true h)
whole last.Related code profile b only n before d h r = absurd (false≢true h)
whole last.Amounts code profile b only n before d h r = absurd (false≢true h)
whole last.Trailer code profile b only n before d h r = absurd (false≢true h)

-- ---- one more record 3

-- the latest lines are some, and with this one the latest line is a record 3
pub record RelatedMore (n : ℕ) (code : TransactionCode) (profile : Profile) (b : Bool) (latest : List (List ℕ)) (line : List ℕ) : Type 0 where
  pub first : List ℕ
  pub more : List (List ℕ)
  pub lines_are : latest ≡ first ∷ more
  pub relating : Relating n code profile true (only_with b (related_order line)) (latest ++ line ∷ [])

-- the first of its group
first_more : (n : ℕ) (code : TransactionCode) (profile : Profile) (b : Bool) (latest : List (List ℕ)) (line : List ℕ) → Sold n code b None None latest → may_pay code true ≡ true → IsRecord 51 n related_fits line → RelatedMore n code profile b latest line
first_more n code profile b latest line s pays is = record {
  first = s.sale;
  more = [];
  lines_are = s.lines_are;
  relating = record {
    line = line;
    second = None;
    sold = record { sale = s.sale; lines_are = ap (λ (x : List (List ℕ)). x ++ line ∷ []) s.lines_are; stands = s.stands; code_is = s.code_is; related_is = refl; fits = is };
    allowed = tt;
    only_is = ap (λ (x : Bool). only_with x (related_order line)) (sym s.related_is);
    pays = pays;
  };
}

-- the second
second_more : (n : ℕ) (b : Bool) (order : ℕ) (latest : List (List ℕ)) (first : List ℕ) (second : Option (List ℕ)) (line : List ℕ) → Sold n Tktt b (Some first) second latest → Some order ≡ only_of first second → IsRecord 51 n related_fits line
    → comes_behind (Some order) (related_order line) ≡ true → RelatedMore n Tktt P002 b latest line
second_more n b order latest first None line s alone is later =
    let same : order ≡ related_order first = cc alone in
    let rises : related_order first < related_order line = omega (arith, same, ltb-true order (related_order line) later) in
    record {
      first = s.sale;
      more = first ∷ [];
      lines_are = s.lines_are;
      relating = record {
        line = first;
        second = Some line;
        sold = record { sale = s.sale; lines_are = ap (λ (x : List (List ℕ)). x ++ line ∷ []) s.lines_are; stands = s.stands; code_is = s.code_is; related_is = refl; fits = (s.fits, is, rises) };
        allowed = (refl, refl);
        only_is = ap (λ (x : Bool). only_with x (related_order line)) (sym s.related_is);
        pays = refl;
      };
    }
second_more n b order latest first (Some second) line s alone is later = absurd (cc alone)

-- where a record 3 may stand
pub related_more : (l : LastRecord) (code : TransactionCode) (profile : Profile) (b : Bool) (only : Option ℕ) (n : ℕ) (before : List (List ℕ)) (d : Draft) (line : List ℕ) → takes_related l code profile only ≡ true → comes_behind only (related_order line) ≡ true → IsRecord 51 n related_fits line
    → Read l code profile b only n before d → BaseOf profile before n d × RelatedMore n code profile b d.latest line
related_more last.Sale Tktt profile b only n before d line h later is r = (r.0, first_more n Tktt profile b d.latest line r.1 refl is)
related_more last.Sale Rfnd profile b only n before d line h later is r = (r.0, first_more n Rfnd profile b d.latest line r.1 refl is)
related_more last.Sale Canx profile b only n before d line h later is r = absurd (false≢true h)
related_more last.Related Tktt P002 b (Some order) n before d line h later is r =
    (r.0, second_more n b order d.latest r.1.line r.1.second line r.1.sold r.1.only_is is later)
related_more last.Related Tktt P002 b None n before d line h later is r = absurd (false≢true h)
related_more last.Related Tktt P001 b only n before d line h later is r = absurd (false≢true h)
related_more last.Related Rfnd profile b only n before d line h later is r = absurd (false≢true h)
related_more last.Related Canx profile b only n before d line h later is r = absurd (false≢true h)
related_more _ code profile b only n before d line h later is r = absurd (false≢true h)

-- where a record 5 may stand
pub awaiting : (l : LastRecord) (code : TransactionCode) (profile : Profile) (b : Bool) (only : Option ℕ) (n : ℕ) (before : List (List ℕ)) (d : Draft) → takes_amounts l code ≡ true → Read l code profile b only n before d
    → BaseOf profile before n d × (may_pay code b ≡ true) × (related : Option (List ℕ)) × (second : Option (List ℕ)) × Sold n code b related second d.latest × IsAllowed code profile second
awaiting last.Sale Tktt profile b only n before d h r = (r.0, refl, None, None, r.1, tt)
awaiting last.Sale Rfnd profile b only n before d h r = absurd (false≢true h)
awaiting last.Sale Canx profile b only n before d h r = absurd (false≢true h)
awaiting last.Related code profile b only n before d h r = (r.0, r.1.pays, Some r.1.line, r.1.second, r.1.sold, r.1.allowed)
awaiting _ code profile b only n before d h r = absurd (false≢true h)

-- where a record 8 may stand
pub paying : (l : LastRecord) (code : TransactionCode) (profile : Profile) (b : Bool) (only : Option ℕ) (n : ℕ) (before : List (List ℕ)) (d : Draft) (form : Option FormOfPayment) → takes_form l code b form ≡ true → Read l code profile b only n before d
    → BaseOf profile before n d × Paying n code profile b l d.latest
paying last.Amounts code profile b only n before d form h r = r
paying (last.Form kind) code profile b only n before d form h r = r
paying _ code profile b only n before d form h r = absurd (false≢true h)

pub ended : (l : LastRecord) (code : TransactionCode) (profile : Profile) (b : Bool) (only : Option ℕ) (n : ℕ) (before : List (List ℕ)) (d : Draft) → has_ended l ≡ true → Read l code profile b only n before d → Ret before (file_of d)
ended last.Trailer code profile b only n before d h r = r
ended _ code profile b only n before d h r = absurd (false≢true h)
