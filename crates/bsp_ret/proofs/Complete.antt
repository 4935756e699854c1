-- What stands in Ret is read, and no other file is.
use Rattle.std.proofs.Common.{◌≡◌, ℕ, suc, ◌+◌, Bool, true, false, List, [], ◌∷◌, ◌++◌, length, count_by, Option, Some, None, IfSome, IsSomeAnd, is_some, option_to_list, Ok, refl, sym, ap, subst, ◌∙◌, arith, append_assoc, add-one, append-nil, length-append}
use Rattle.std.proofs.Math.IntN.{+ℤ_idl}
use Rattle.std.specs.List.{list_all}
use Rattle.std.proofs.lemmas.Bool.{and_parts, lt-ltb, leb-true}
use Rattle.std.proofs.lemmas.Option.{IfSome_then}
use Rattle.bsp_ret_records.specs.declared.codes.FormOfPayment.{FormOfPayment}
use Rattle.bsp_ret_records.specs.declared.codes.FormOfPayment.TheVariants.{Cash, Credit, Exchange}
use Rattle.bsp_ret_records.specs.declared.codes.Profile.{Profile}
use Rattle.bsp_ret_records.specs.declared.codes.Profile.TheVariants.{P001, P002}
use Rattle.bsp_ret_records.specs.declared.codes.TransactionCode.{TransactionCode}
use Rattle.bsp_ret_records.specs.declared.codes.TransactionCode.TheVariants.{Tktt, Rfnd, Canx}
use Rattle.bsp_ret.specs.declared.model.LastRecord.{LastRecord}
use Rattle.bsp_ret.specs.declared.model.LastRecord.TheVariants as last
use Rattle.bsp_ret.specs.declared.model.Standing.{Standing}
use Rattle.bsp_fields.specs.Columns.{identifier}
use Rattle.bsp_ret_records.specs.Records.{code_of, sale_fits, related_order, related_fits, amounts_fit, form_of}
use Rattle.bsp_ret.specs.Table.{is_related, paid, total_paid, standing, is_complete, takes_related, comes_behind, takes_amounts, takes_form, has_form}
use Rattle.bsp_ret.specs.Standings.{only_with, standing_behind}
use Rattle.bsp_ret.specs.Ret.{Group, File, flatten, lines_of, forms_of, IsRecord, IsForm, IsPaid, AreRelated, HasBody, IsGroup, AreGroups, has_one_related, IsTrailer, Ret}
use Rattle.bsp_ret.specs.Reading.{with_group, nothing, read_from, read_all}
use Rattle.bsp_ret.proofs.Rows.{Clean, clean_header, clean_sale, clean_related, clean_amounts, clean_form, clean_trailer}
use Rattle.bsp_ret.proofs.Steps.{standing_snoc, Stands, begins_49, has_profile, after_header, after_sale, after_related, after_amounts, after_form, after_trailer, only_behind_sale, only_behind_related, next, read_nil, draft, add_header, add_sale, add_trailer, add_more, is_further}
use Rattle.bsp_ret.proofs.RelatedLemmas.{count_cons}
use Rattle.bsp_ret.proofs.Forms.{IsAllowed, or_last, last_form, forms_list, credit_taken, exchange_taken, tktt_complete, rfnd_complete}

-- how lines stand with more of them
abbrev behind : Standing → List (List ℕ) → Standing
behind at [] = at
behind at (line ∷ lines) = behind (standing_behind at line) lines

behind_append : (at : Standing) (xs ys : List (List ℕ)) → behind at (xs ++ ys) ≡ behind (behind at xs) ys
behind_append at [] ys = refl
behind_append at (line ∷ xs) ys = behind_append (standing_behind at line) xs ys

standing_append : (before lines : List (List ℕ)) → behind (standing before) lines ≡ standing (before ++ lines)
standing_append before [] = rw append-nil refl
standing_append before (line ∷ lines) =
    let more = standing_append (before ++ line ∷ []) lines in
    ap (λ (at : Standing). behind at lines) (sym (standing_snoc before line)) ∙ more ∙ ap standing (append_assoc before (line ∷ []) lines)

-- ---- further records of a group

-- these lines are read as further records of the group, and then the lines stand so
record More (at : Standing) (lines : List (List ℕ)) (n : ℕ) (code : TransactionCode) (profile : Profile) (b : Bool) (l : LastRecord) : Type 0 where
  goes : (header : List ℕ) (closed : List (List (List ℕ))) (latest : List (List ℕ)) (trailer : List ℕ) (rest : List (List ℕ))
      → read_from at (draft header closed latest trailer) (lines ++ rest) ≡ read_from (behind at lines) (draft header closed (latest ++ lines) trailer) rest
  stands : Stands (behind at lines) n code profile b l

-- no further record
no_more : (at : Standing) (n : ℕ) (code : TransactionCode) (profile : Profile) (b : Bool) (l : LastRecord) → Stands at n code profile b l → More at [] n code profile b l
no_more at n code profile b l s = record { goes = λ header closed latest trailer rest. rw append-nil refl; stands = s }

-- some further records, and then others
more_joined : (at : Standing) (xs ys : List (List ℕ)) (n : ℕ) (code : TransactionCode) (profile : Profile) (b : Bool) (l : LastRecord) (n2 : ℕ) (code2 : TransactionCode) (profile2 : Profile) (b2 : Bool) (l2 : LastRecord) → More at xs n code profile b l → More (behind at xs) ys n2 code2 profile2 b2 l2
    → More at (xs ++ ys) n2 code2 profile2 b2 l2
more_joined at xs ys n code profile b l n2 code2 profile2 b2 l2 p q = record {
  goes = λ header closed latest trailer rest.
      ap (read_from at (draft header closed latest trailer)) (append_assoc xs ys rest)
      ∙ p.goes header closed latest trailer (ys ++ rest)
      ∙ q.goes header closed (latest ++ xs) trailer rest
      ∙ rw (behind_append, append_assoc) refl;
  stands = rw behind_append q.stands;
}

-- one further record
one_more : (at : Standing) (line : List ℕ) (letter n : ℕ) (code : TransactionCode) (profile : Profile) (b : Bool) (l : LastRecord) → Clean at line → identifier line ≡ letter → is_further letter ≡ true
    → Stands (standing_behind at line) n code profile b l → More at (line ∷ []) n code profile b l
one_more at line letter n code profile b l is name further s = record {
  goes = λ first closed latest last_line rest.
      next at (draft first closed latest last_line) line rest is
      ∙ ap (λ d. read_from (standing_behind at line) d rest) (add_more (draft first closed latest last_line) line letter name further);
  stands = s;
}

one_related : (at : Standing) (line : List ℕ) (n : ℕ) (code : TransactionCode) (profile : Profile) (b : Bool) (l : LastRecord) → Stands at n code profile b l → takes_related l code profile at.only ≡ true → IsRecord 51 n related_fits line
    → comes_behind at.only (related_order line) ≡ true → More at (line ∷ []) n code profile true last.Related
one_related at line n code profile b l s takes is later =
    let takes2 : takes_related at.last at.code at.profile at.only ≡ true = rw (s.last_is, s.code_is, s.profile_is) takes in
    let is2 : IsRecord 51 at.transactions related_fits line = rw s.transactions_are is in
    one_more at line 51 n code profile true last.Related (clean_related takes2 is2 later) is.name refl (after_related at line n code profile b l s is.name)

one_amounts : (at : Standing) (line : List ℕ) (n : ℕ) (code : TransactionCode) (profile : Profile) (b : Bool) (l : LastRecord) → Stands at n code profile b l → takes_amounts l code ≡ true → IsRecord 53 n amounts_fit line
    → More at (line ∷ []) n code profile b last.Amounts
one_amounts at line n code profile b l s takes is =
    let takes2 : takes_amounts at.last at.code ≡ true = rw (s.last_is, s.code_is) takes in
    let is2 : IsRecord 53 at.transactions amounts_fit line = rw s.transactions_are is in
    one_more at line 53 n code profile b last.Amounts (clean_amounts takes2 is2) is.name refl (after_amounts at line n code profile b l s is.name)

-- a form, where there is one
maybe_form : (at : Standing) (form : Option (List ℕ)) (n : ℕ) (code : TransactionCode) (profile : Profile) (b : Bool) (l : LastRecord) (kind : FormOfPayment) → Stands at n code profile b l → IfSome form (λ line. takes_form l code b (Some kind) ≡ true)
    → IfSome form (IsForm n kind) → More at (option_to_list form) n code profile b (or_last form (last.Form kind) l)
maybe_form at None n code profile b l kind s takes is = no_more at n code profile b l s
maybe_form at (Some line) n code profile b l kind s takes is =
    let takes2 : takes_form at.last at.code at.related (form_of line) ≡ true = rw (s.last_is, s.code_is, s.related_is, is.form) takes in
    let is2 = rw (← s.transactions_are) at is.stands in
    one_more at line 56 n code profile b (last.Form kind) (clean_form takes2 is2) is.stands.name refl (after_form at line n code profile b l kind s is.stands.name is.form)

-- ---- a group

given : {A : Type 0} (o : Option A) (P : Type 0) → P → IfSome o (λ x. P)
given None P h = tt
given (Some x) P h = h

-- the forms of a group
forms_read : (at : Standing) (n : ℕ) (code : TransactionCode) (profile : Profile) (b : Bool) (cash credit exchange : Option (List ℕ)) → Stands at n code profile b last.Amounts → IfSome cash (IsForm n Cash) → IfSome credit (IsForm n Credit) → IfSome exchange (IsForm n Exchange)
    → IfSome exchange (λ line. has_form code b Exchange ≡ true) → More at (forms_list cash credit exchange) n code profile b (last_form cash credit exchange)
forms_read at n code profile b cash credit exchange s by_cash by_credit by_exchange exchanges =
    let taken = IfSome_then exchange exchanges (λ line h. exchange_taken cash credit code b h) in
    let first = maybe_form at cash n code profile b last.Amounts Cash s (given cash _ refl) by_cash in
    let second = maybe_form (behind at (option_to_list cash)) credit n code profile b (last_form cash None None) Credit first.stands (given credit _ (credit_taken cash code b)) by_credit in
    let third = maybe_form (behind (behind at (option_to_list cash)) (option_to_list credit)) exchange n code profile b (last_form cash credit None) Exchange second.stands taken by_exchange in
    more_joined at _ _ _ _ _ _ _ _ _ _ _ _ first (more_joined (behind at (option_to_list cash)) _ _ _ _ _ _ _ _ _ _ _ _ second third)

-- a record 5 and its forms
paid_read : (at : Standing) (n : ℕ) (code : TransactionCode) (profile : Profile) (b : Bool) (l : LastRecord) (g : Group) (amounts : Option (List ℕ)) → Stands at n code profile b l → takes_amounts l code ≡ true → IsSomeAnd amounts (IsRecord 53 n amounts_fit) → IsPaid n g
    → IfSome g.exchange (λ line. has_form code b Exchange ≡ true) → More at (option_to_list amounts ++ forms_of g) n code profile b (last_form g.cash g.credit g.exchange)
paid_read at n code profile b l g None s takes price paid exchanges = absurd price
paid_read at n code profile b l g (Some line) s takes price paid exchanges =
    let first = one_amounts at line n code profile b l s takes price in
    more_joined at (line ∷ []) (forms_of g) _ _ _ _ _ _ _ _ _ _ first (forms_read (standing_behind at line) n code profile b g.cash g.credit g.exchange first.stands paid.cash paid.credit paid.exchange exchanges)

-- the records 3 of a group
related_read : (at : Standing) (n : ℕ) (code : TransactionCode) (profile : Profile) (related second : Option (List ℕ)) → Stands at n code profile false last.Sale → at.only ≡ None → takes_related last.Sale code profile None ≡ true → AreRelated n related second
    → IsAllowed code profile second → More at (option_to_list related ++ option_to_list second) n code profile (is_some related) (or_last related last.Related last.Sale)
related_read at n code profile None None s only takes are allowed = no_more at n code profile false last.Sale s
related_read at n code profile (Some line) None s only takes are allowed = one_related at line n code profile false last.Sale s (rw only takes) are (rw only refl)
related_read at n code profile (Some line) (Some second) s only takes are allowed =
    let first = one_related at line n code profile false last.Sale s (rw only takes) are.0 (rw only refl) in
    let alone : (standing_behind at line).only ≡ Some (related_order line) = only_behind_related at line are.0.name ∙ ap (λ (b : Bool). only_with b (related_order line)) s.related_is in
    let takes_second : takes_related last.Related code profile (standing_behind at line).only ≡ true = rw (alone, allowed.0, allowed.1) refl in
    let later : comes_behind (standing_behind at line).only (related_order second) ≡ true = rw alone (lt-ltb (related_order line) (related_order second) are.2) in
    more_joined at (line ∷ []) (second ∷ []) _ _ _ _ _ _ _ _ _ _ first (one_related (standing_behind at line) second n code profile true last.Related first.stands takes_second are.1 later)
related_read at n code profile None (Some second) s only takes are allowed = absurd are

-- what stands behind a record 2 that is no CANX
body_read : (at : Standing) (n : ℕ) (code : TransactionCode) (profile : Profile) (g : Group) → Stands at n code profile false last.Sale → at.only ≡ None → takes_related last.Sale code profile None ≡ true → AreRelated n g.related g.second
    → IsAllowed code profile g.second → takes_amounts (or_last g.related last.Related last.Sale) code ≡ true → IsPaid n g → IfSome g.exchange (λ line. has_form code (is_some g.related) Exchange ≡ true)
    → More at (option_to_list g.related ++ (option_to_list g.second ++ (option_to_list g.amounts ++ forms_of g))) n code profile (is_some g.related) (last_form g.cash g.credit g.exchange)
body_read at n code profile g s only takes are allowed pays paid exchanges =
    let front = option_to_list g.related ++ option_to_list g.second in
    let tail = option_to_list g.amounts ++ forms_of g in
    let first = related_read at n code profile g.related g.second s only takes are allowed in
    let more = paid_read (behind at front) n code profile (is_some g.related) (or_last g.related last.Related last.Sale) g g.amounts first.stands pays paid.amounts paid exchanges in
    let IsMore : List (List ℕ) → Type 0 = λ lines. More at lines n code profile (is_some g.related) (last_form g.cash g.credit g.exchange) in
    subst IsMore (append_assoc (option_to_list g.related) (option_to_list g.second) tail) (more_joined at front tail _ _ _ _ _ _ _ _ _ _ first more)

-- these lines are read as a group, and then groups are complete again
record Walks (at : Standing) (lines : List (List ℕ)) : Type 0 where
  goes : (header : List ℕ) (closed : List (List (List ℕ))) (latest : List (List ℕ)) (trailer : List ℕ) (rest : List (List ℕ))
      → read_from at (draft header closed latest trailer) (lines ++ rest) ≡ read_from (behind at lines) (draft header (with_group closed latest) lines trailer) rest
  complete : is_complete (behind at lines).last (behind at lines).code (behind at lines).related ≡ true
  count : (behind at lines).transactions ≡ at.transactions + 1
  profile : (behind at lines).profile ≡ at.profile

-- a record 2 and what stands behind it
walks : (at : Standing) (sale : List ℕ) (body : List (List ℕ)) (code : TransactionCode) (b : Bool) (l : LastRecord) → is_complete at.last at.code at.related ≡ true → IsRecord 50 (at.transactions + 1) sale_fits sale
    → More (standing_behind at sale) body (at.transactions + 1) code at.profile b l → is_complete l code b ≡ true → Walks at (sale ∷ body)
walks at sale body code b l between is more complete = record {
  goes = λ header closed latest trailer rest.
      next at (draft header closed latest trailer) sale (body ++ rest) (clean_sale between is)
      ∙ ap (λ d. read_from (standing_behind at sale) d (body ++ rest)) (add_sale (draft header closed latest trailer) sale is.name)
      ∙ more.goes header (with_group closed latest) (sale ∷ []) trailer rest;
  complete = rw (more.stands.last_is, more.stands.code_is, more.stands.related_is) complete;
  count = more.stands.transactions_are;
  profile = more.stands.profile_is;
}

-- two records 3 are more than one
two_related : (sale line second : List ℕ) (rest : List (List ℕ)) → identifier line ≡ 51 → identifier second ≡ 51 → has_one_related (sale ∷ line ∷ second ∷ rest) ≡ true → ⊥
two_related sale line second rest first_name second_name one =
    let first : count_by is_related (line ∷ second ∷ rest) ≡ 1 + count_by is_related (second ∷ rest) = count_cons line (second ∷ rest) ∙ rw first_name refl in
    let other : count_by is_related (second ∷ rest) ≡ 1 + count_by is_related rest = count_cons second rest ∙ rw second_name refl in
    absurd (omega (arith, count_cons sale (line ∷ second ∷ rest), first, other, leb-true (count_by is_related (sale ∷ line ∷ second ∷ rest)) 1 one))

-- a second record 3 stands in profile 002
second_allowed : (n : ℕ) (sale : List ℕ) (related second : Option (List ℕ)) (rest : List (List ℕ)) (profile : Profile) → AreRelated n related second
    → (profile ≡ P001 → has_one_related (sale ∷ (option_to_list related ++ (option_to_list second ++ rest))) ≡ true) → IsAllowed Tktt profile second
second_allowed n sale related None rest profile are one = tt
second_allowed n sale None (Some second) rest profile are one = absurd are
second_allowed n sale (Some line) (Some second) rest P002 are one = (refl, refl)
second_allowed n sale (Some line) (Some second) rest P001 are one = absurd (two_related sale line second rest are.0.name are.1.name (one refl))

-- an EX stands in a TKTT with record 3
tktt_exchange : (related exchange : Option (List ℕ)) → is_some related ≡ is_some exchange → IfSome exchange (λ line. has_form Tktt (is_some related) Exchange ≡ true)
tktt_exchange related None same = tt
tktt_exchange related (Some form) same = same

tktt_pays : (related : Option (List ℕ)) → takes_amounts (or_last related last.Related last.Sale) Tktt ≡ true
tktt_pays None = refl
tktt_pays (Some line) = refl

rfnd_pays : (n : ℕ) (related : Option (List ℕ)) → IsSomeAnd related (IsRecord 51 n related_fits) → takes_amounts (or_last related last.Related last.Sale) Rfnd ≡ true
rfnd_pays n None h = absurd h
rfnd_pays n (Some line) h = refl

rfnd_related : (n : ℕ) (related second : Option (List ℕ)) → IsSomeAnd related (IsRecord 51 n related_fits) → second ≡ None → AreRelated n related second
rfnd_related n None second h none = absurd h
rfnd_related n (Some line) None h none = h
rfnd_related n (Some line) (Some second) h none = absurd (cc none)

no_second : (second : Option (List ℕ)) (P : Type 0) → second ≡ None → IfSome second (λ line. P)
no_second None P none = tt
no_second (Some line) P none = absurd (cc none)

-- a CANX has nothing behind its record 2
canx_body : (related second amounts : Option (List ℕ)) (forms : List (List ℕ)) → related ≡ None → second ≡ None → amounts ≡ None → forms ≡ [] → option_to_list related ++ (option_to_list second ++ (option_to_list amounts ++ forms)) ≡ []
canx_body related second amounts forms a b c d = rw (a, b, c, d) refl

-- behind a record 2
sale_stands : (at : Standing) (line : List ℕ) (code : TransactionCode) → identifier line ≡ 50 → code_of line ≡ Some code → Stands (standing_behind at line) (at.transactions + 1) code at.profile false last.Sale
sale_stands at line code name is =
    after_sale at line at.transactions at.code code at.profile at.related at.last (record { transactions_are = refl; code_is = refl; profile_is = refl; related_is = refl; last_is = refl }) name is

-- a group, by its code
group_read : (at : Standing) (g : Group) (code : Option TransactionCode) → is_complete at.last at.code at.related ≡ true → (at.profile ≡ P001 → has_one_related (lines_of g) ≡ true) → IsRecord 50 (at.transactions + 1) sale_fits g.sale → code_of g.sale ≡ code
    → HasBody (at.transactions + 1) g code → Walks at (lines_of g)
group_read at g None between one is code body = absurd body
group_read at g (Some Tktt) between one is code body =
    let n = at.transactions + 1 in
    let s = sale_stands at g.sale Tktt is.name code in
    let allowed = second_allowed n g.sale g.related g.second (option_to_list g.amounts ++ forms_of g) at.profile body.0 one in
    let more = body_read (standing_behind at g.sale) n Tktt at.profile g s (only_behind_sale at g.sale is.name) refl body.0 allowed (tktt_pays g.related) body.2 (tktt_exchange g.related g.exchange body.1) in
    walks at g.sale _ Tktt (is_some g.related) _ between is more (tktt_complete g.related g.cash g.credit g.exchange body.2.some body.1)
group_read at g (Some Rfnd) between one is code body =
    let n = at.transactions + 1 in
    let s = sale_stands at g.sale Rfnd is.name code in
    let none : IfSome g.exchange (λ line. has_form Rfnd (is_some g.related) Exchange ≡ true) = rw body.2 tt in
    let more = body_read (standing_behind at g.sale) n Rfnd at.profile g s (only_behind_sale at g.sale is.name) refl (rfnd_related n g.related g.second body.0 body.1) (no_second g.second _ body.1) (rfnd_pays n g.related body.0) body.3 none in
    walks at g.sale _ Rfnd (is_some g.related) _ between is more (rfnd_complete g.cash g.credit g.exchange (is_some g.related) body.3.some)
group_read at g (Some Canx) between one is code body =
    let s = sale_stands at g.sale Canx is.name code in
    let empty = canx_body g.related g.second g.amounts (forms_of g) body.0 body.1 body.2 body.3 in
    subst (λ (x : List (List ℕ)). Walks at (g.sale ∷ x)) (sym empty) (walks at g.sale [] Canx false last.Sale between is (no_more _ _ _ _ _ _ s) refl)

-- ---- groups

-- these groups are read, and then groups are complete again
record WalksAll (at : Standing) (groups : List (List (List ℕ))) : Type 0 where
  goes : (header : List ℕ) (closed : List (List (List ℕ))) (latest : List (List ℕ)) (trailer : List ℕ) (rest : List (List ℕ))
      → (closed2 : List (List (List ℕ))) × (latest2 : List (List ℕ)) × (with_group closed2 latest2 ≡ with_group closed latest ++ groups)
      × (read_from at (draft header closed latest trailer) (flatten groups ++ rest) ≡ read_from (behind at (flatten groups)) (draft header closed2 latest2 trailer) rest)
  complete : is_complete (behind at (flatten groups)).last (behind at (flatten groups)).code (behind at (flatten groups)).related ≡ true
  count : (behind at (flatten groups)).transactions ≡ at.transactions + length groups

-- a group is not empty
with_whole : (closed : List (List (List ℕ))) (lines : List (List ℕ)) (n : ℕ) → IsGroup n lines → with_group closed lines ≡ closed ++ lines ∷ []
with_whole closed [] n is = absurd (cc is.lines_are)
with_whole closed (line ∷ lines) n is = refl

-- a group and further groups
walk_more : (at : Standing) (lines : List (List ℕ)) (groups : List (List (List ℕ))) (n : ℕ) → IsGroup n lines → Walks at lines → WalksAll (behind at lines) groups → WalksAll at (lines ∷ groups)
walk_more at lines groups n is first more = record {
  goes = λ header closed latest trailer rest.
      let w = more.goes header (with_group closed latest) lines trailer rest in (
        w.0,
        w.1,
        w.2 ∙ ap (λ x. x ++ groups) (with_whole (with_group closed latest) lines n is) ∙ append_assoc (with_group closed latest) (lines ∷ []) groups,
        rw (append_assoc, first.goes header closed latest trailer (flatten groups ++ rest), behind_append) w.3,
      );
  complete = rw behind_append more.complete;
  count = rw behind_append (omega (arith, more.count, first.count));
}

all_walk : (groups : List (List (List ℕ))) (at : Standing) → is_complete at.last at.code at.related ≡ true → (at.profile ≡ P001 → list_all has_one_related groups ≡ true) → AreGroups (suc at.transactions) groups → WalksAll at groups
all_walk [] at between one are = record { goes = λ header closed latest trailer rest. (closed, latest, sym (append-nil (with_group closed latest)), refl); complete = between; count = omega arith }
all_walk (lines ∷ groups) at between one are =
    let is : IsGroup (at.transactions + 1) lines = subst (λ (k : ℕ). IsGroup k lines) (omega arith) are.0 in
    let HasOne : List (List ℕ) → Type 0 = λ xs. has_one_related xs ≡ true in
    let here : at.profile ≡ P001 → has_one_related (lines_of is.group) ≡ true = λ old. subst HasOne is.lines_are (and_parts (has_one_related lines) (list_all has_one_related groups) (one old)).0 in
    let first : Walks at lines = rw is.lines_are (group_read at is.group (code_of is.group.sale) between here is.sale refl is.body) in
    let later : (behind at lines).profile ≡ P001 → list_all has_one_related groups ≡ true = λ old. (and_parts (has_one_related lines) (list_all has_one_related groups) (one (sym first.profile ∙ old))).1 in
    let others : AreGroups (suc (behind at lines).transactions) groups = rw (first.count, add-one) are.1 in
    walk_more at lines groups (at.transactions + 1) is first (all_walk groups (behind at lines) first.complete later others)

-- ---- the file

-- a trailer of these groups, as it is judged behind them
trailer_stands : (header trailer : List ℕ) (groups : List (List (List ℕ))) (lines : List (List ℕ)) (at : Standing) → lines ≡ header ∷ (flatten groups ++ trailer ∷ []) → identifier header ≡ 49
    → IsTrailer (length lines) (length groups) (total_paid (flatten groups)) trailer → at ≡ standing (header ∷ flatten groups) → at.transactions ≡ length groups → IsTrailer (at.records + 1) at.transactions at.sum trailer
trailer_stands header trailer groups lines at lines_are name is e count =
    let records : length lines ≡ at.records + 1 = ap length lines_are ∙ omega (arith, ap (λ (x : Standing). x.records) e, length-append (flatten groups) (trailer ∷ [])) in
    let sum : total_paid (flatten groups) ≡ at.sum = sym (ap (λ (x : Standing). x.sum) e ∙ rw name (+ℤ_idl (total_paid (flatten groups)))) in
    record { wide = is.wide; name = is.name; fields = is.fields; records_are = rw records at is.records_are; transactions_are = rw (← count) at is.transactions_are; sum_is = rw sum at is.sum_is }

-- behind complete groups a trailer ends the file
last_read : (at : Standing) (header : List ℕ) (closed : List (List (List ℕ))) (latest : List (List ℕ)) (trailer : List ℕ) → is_complete at.last at.code at.related ≡ true → IsTrailer (at.records + 1) at.transactions at.sum trailer
    → read_from at (draft header closed latest []) (trailer ∷ []) ≡ Ok (record { header = header; groups = with_group closed latest; trailer = trailer })
last_read at header closed latest trailer complete is =
    let d = draft header closed latest [] in
    next at d trailer [] (clean_trailer complete is)
    ∙ ap (λ d2. read_from (standing_behind at trailer) d2 []) (add_trailer d trailer is.name)
    ∙ read_nil (standing_behind at trailer) (draft header (with_group closed latest) [] trailer)
    ∙ rw (after_trailer at trailer is.name) refl

-- what stands in Ret is read
pub is_read : (lines : List (List ℕ)) (f : File) → Ret lines f → read_all lines ≡ Ok f
is_read lines f ret =
    let name = begins_49 f.header ret.header.begins in
    let rest = flatten f.groups ++ f.trailer ∷ [] in
    let at = standing_behind (standing []) f.header in
    let s = after_header (standing []) f.header 0 Tktt P001 false last.Start (record { transactions_are = refl; code_is = refl; profile_is = refl; related_is = refl; last_is = refl }) name in
    let first : read_from (standing []) nothing (f.header ∷ rest) ≡ read_from at (draft f.header [] [] []) rest =
    next (standing []) nothing f.header rest (clean_header refl ret.header) ∙ ap (λ d. read_from at d rest) (add_header nothing f.header name) in
    let between : is_complete at.last at.code at.related ≡ true = rw s.last_is refl in
    let one : at.profile ≡ P001 → list_all has_one_related f.groups ≡ true = λ old. ret.related (has_profile f.header ret.header.begins ∙ ap Some (sym s.profile_is ∙ old)) in
    let walk = all_walk f.groups at between one (rw s.transactions_are ret.groups) in
    let w = walk.goes f.header [] [] [] (f.trailer ∷ []) in
    let count : (behind at (flatten f.groups)).transactions ≡ length f.groups = omega (arith, walk.count, s.transactions_are) in
    let ends = trailer_stands f.header f.trailer f.groups lines (behind at (flatten f.groups)) ret.lines_are name ret.trailer (standing_append [] (f.header ∷ flatten f.groups)) count in
    let ending : read_from (behind at (flatten f.groups)) (draft f.header w.0 w.1 []) (f.trailer ∷ []) ≡ Ok (record { header = f.header; groups = with_group w.0 w.1; trailer = f.trailer }) =
    last_read (behind at (flatten f.groups)) f.header w.0 w.1 f.trailer walk.complete ends in
    let made : with_group w.0 w.1 ≡ f.groups = w.2 in
    ap read_all ret.lines_are ∙ first ∙ w.3 ∙ ending ∙ ap (λ (groups : List (List (List ℕ))). Ok (record { header = f.header; groups = groups; trailer = f.trailer })) made
