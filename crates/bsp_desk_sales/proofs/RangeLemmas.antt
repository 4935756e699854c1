-- An agent's very range, found in the list of its ranges; and the key of a range that meets none.
use Rattle.std.proofs.Common.{◌≡◌, ℕ, ◌≤◌, ◌==◌, Bool, true, false, not, Option, Some, None, if◌then◌else◌, refl, sym, ap, ◌∙◌, subst, nat_le}
use Rattle.std.specs.List.{Contains, filter, list_any}
use Rattle.std.specs.FinMap.{entries, get}
use Rattle.std.proofs.lemmas.Bool.{and_from, and_parts, both_ways, eq-eqb, eqb-true, false_from_ne_true, le-leb, ltb-false}
use Rattle.bsp_office_spec.proofs.ListLemmas.{contains_filter}
use Rattle.bsp_office_spec.proofs.ListedLemmas.{any_contains, contains_any}
use Rattle.bsp_rows.specs.Change.TheVariants.{Done, Held}
use Rattle.bsp_messages.specs.declared.office_bodies.StockChange.{StockChange}
use Rattle.bsp_messages.specs.declared.answer.Answer.{Answer as Message}
use Rattle.bsp_messages.specs.declared.refusal.RequestRefusal.TheVariants as refusal
use Rattle.bsp_messages.specs.declared.refusal.StockFault.TheVariants.{FirstAfterLast, NotRegistered, MeetsRange, NoSuchRange, RangeUsed}
use Rattle.bsp_rows.specs.Range.{Range}
use Rattle.bsp_rows.specs.Rows.{Rows, has_meeting, is_used_in, meets, range_at, range_key, range_of, ranges_of}
use Rattle.bsp_rows.specs.Sound.{Sound}
use Rattle.bsp_rows.specs.declared.keys.RangeKey.{RangeKey}
use Rattle.bsp_rows.proofs.KeyOrders.{range_exact, range_total}
use Rattle.bsp_rows.proofs.MapLemmas.{get_entry}
use Rattle.bsp_rows.proofs.RowLemmas.{mapped, range_among}
use Rattle.bsp_desk_sales.specs.After.{office_after, office_left}
use Rattle.bsp_office_spec.specs.Answers.{Answer}
use Rattle.bsp_office_spec.specs.Answers.Answer.{Changed, Refused}
use Rattle.bsp_office_spec.specs.Requests.{OfficeRequest}
use Rattle.bsp_office_spec.specs.Requests.OfficeRequest.{AllotRange, WithdrawRange}
use Rattle.bsp_office_spec.specs.Step.{has_range, is_last, is_out_of_order, is_registered, office_answer}
use Rattle.bsp_office_spec.specs.Texts.{Says}
use Rattle.bsp_desk_sales.specs.Replies.{is_same_range}

-- ---- the very range

among_ranges : (rows : Rows) (agent : ℕ) (k : RangeKey) (last : ℕ) → get rows.ranges k ≡ Some last → k.agent ≡ agent → Contains (ranges_of agent rows) (range_of (k, last))
among_ranges rows agent k last there own =
    mapped range_of (filter (λ (e : RangeKey × ℕ). e.0.agent == agent) (entries rows.ranges)) (k, last)
    (contains_filter (λ (e : RangeKey × ℕ). e.0.agent == agent) (entries rows.ranges) (k, last) (get_entry range_total range_exact rows.ranges k last there) (eq-eqb k.agent agent own))

listed_by : (rows : Rows) (agent : ℕ) (range : Range) (found : Option ℕ) → range_at (range_key agent range) rows ≡ found → is_last found range.last ≡ true → list_any (is_same_range range) (ranges_of agent rows) ≡ true
listed_by rows agent range None is h = absurd (cc h)
listed_by rows agent range (Some last) is h =
    any_contains (is_same_range range) (ranges_of agent rows) (record { first = range.first; last = last })
    (among_ranges rows agent (range_key agent range) last is refl)
    (and_from (range.first == range.first) (last == range.last) (eq-eqb range.first range.first refl) h)

found_of : (rows : Rows) (agent : ℕ) (range other : Range) → Contains (ranges_of agent rows) other → is_same_range range other ≡ true → has_range agent range rows ≡ true
found_of rows agent range other in' same =
    let (k, there, own, first) = range_among rows agent other in' in
    let parts = and_parts (other.first == range.first) (other.last == range.last) same in
    let at : other.first ≡ range.first = eqb-true other.first range.first parts.0 in
    let key : k ≡ range_key agent range = λ i. record { agent = own i; first = (first ∙ at) i } in
    let is : range_at (range_key agent range) rows ≡ Some other.last = subst (λ (x : RangeKey). get rows.ranges x ≡ Some other.last) key there in
    ap (λ o. is_last o range.last) is ∙ parts.1

has_by : (rows : Rows) (agent : ℕ) (range : Range) (b : Bool) → list_any (is_same_range range) (ranges_of agent rows) ≡ b → b ≡ has_range agent range rows
has_by rows agent range true h = let (other, in', same) = contains_any (is_same_range range) (ranges_of agent rows) h in sym (found_of rows agent range other in' same)
has_by rows agent range false h = sym (false_from_ne_true (has_range agent range rows) (λ has. both_ways _ h (listed_by rows agent range (range_at (range_key agent range) rows) refl has)))

pub has_listed : (rows : Rows) (agent : ℕ) (range : Range) → list_any (is_same_range range) (ranges_of agent rows) ≡ has_range agent range rows
has_listed rows agent range = has_by rows agent range (list_any (is_same_range range) (ranges_of agent rows)) refl

-- ---- a free key

meets_at : (rows : Rows) (agent : ℕ) (range : Range) (last : ℕ) → Sound rows → range.first ≤ range.last → range_at (range_key agent range) rows ≡ Some last → has_meeting range rows ≡ true
meets_at rows agent range last s order there =
    any_contains (λ e. meets range (range_of e)) (entries rows.ranges) (range_key agent range, last) (get_entry range_total range_exact rows.ranges (range_key agent range) last there)
    (and_from (nat_le range.first last) (nat_le range.first range.last) (le-leb range.first last (s.ranges.apart.numbers (range_key agent range) last there)) (le-leb range.first range.last order))

free_by : (rows : Rows) (agent : ℕ) (range : Range) (found : Option ℕ) → Sound rows → range.first ≤ range.last → has_meeting range rows ≡ false → range_at (range_key agent range) rows ≡ found → found ≡ None
free_by rows agent range None s order apart is = refl
free_by rows agent range (Some last) s order apart is = absurd (both_ways _ apart (meets_at rows agent range last s order is))

-- of a range that meets none
pub free_key : (rows : Rows) (agent : ℕ) (range : Range) → Sound rows → range.first ≤ range.last → has_meeting range rows ≡ false → range_at (range_key agent range) rows ≡ None
free_key rows agent range s order apart = free_by rows agent range (range_at (range_key agent range) rows) s order apart refl

-- first and last are in order
pub in_order : (range : Range) → is_out_of_order range ≡ false → range.first ≤ range.last
in_order range h = ltb-false range.last range.first h

-- ---- what is answered

module _ (P : Rows → Type 0) (rows : Rows) where
  said : (request : OfficeRequest) (answer : Answer) (message : Message) → office_answer request rows ≡ answer → Says answer message → P (office_left request answer rows) →
      Says (office_answer request rows) message × P (office_after request rows)
  said request answer message is says h =
      let Q : Answer → Type 0 = λ a. Says a message × P (office_left request a rows) in
      subst Q (sym is) (says, h)

-- by whether the range is out of order, the agent is registered and has it, and another one meets it
abbrev pub allot_by : Bool → Bool → Bool → Bool → Answer
allot_by out known held meeting =
    if out then Refused (refusal.Stock FirstAfterLast)
    else (if not known then Refused (refusal.Stock NotRegistered)
    else (if held then Changed Held
    else (if meeting then Refused (refusal.Stock MeetsRange) else Changed Done)))

-- and whether a number of it is used
abbrev pub withdraw_by : Bool → Bool → Bool → Bool → Answer
withdraw_by out known held used =
    if out then Refused (refusal.Stock FirstAfterLast)
    else (if not known then Refused (refusal.Stock NotRegistered)
    else (if not held then Refused (refusal.Stock NoSuchRange)
    else (if used then Refused (refusal.Stock RangeUsed) else Changed Done)))

module _ (P : Rows → Type 0) (rows : Rows) (agent : ℕ) (range : Range) (order : is_out_of_order range ≡ false) (known held : Bool) (registered : is_registered agent rows ≡ known) (has : has_range agent range rows ≡ held) where
  abbrev change : StockChange
  change = record { agent = record { code = Some agent }; range = range }

  pub allot_said : (meeting : Bool) (message : Message) → has_meeting range rows ≡ meeting → let answer = allot_by false known held meeting in Says answer message → P (office_left (AllotRange (Some change)) answer rows) →
      Says (office_answer (AllotRange (Some change)) rows) message × P (office_after (AllotRange (Some change)) rows)
  allot_said meeting message meets' says h = said P rows (AllotRange (Some change)) (allot_by false known held meeting) message (λ i. allot_by (order i) (registered i) (has i) (meets' i)) says h

  pub withdraw_said : (used : Bool) (message : Message) → is_used_in agent range rows ≡ used → let answer = withdraw_by false known held used in Says answer message → P (office_left (WithdrawRange (Some change)) answer rows) →
      Says (office_answer (WithdrawRange (Some change)) rows) message × P (office_after (WithdrawRange (Some change)) rows)
  withdraw_said used message uses says h = said P rows (WithdrawRange (Some change)) (withdraw_by false known held used) message (λ i. withdraw_by (order i) (registered i) (has i) (uses i)) says h
