-- The billings of a close, memo by memo.
use Rattle.std.proofs.Common.{◌≡◌, ℕ, Bool, true, false, cond, ◌&&◌, if◌then◌else◌, List, [], ◌∷◌, Option, Some, None, ℤ, refl, sym, ap, subst, ◌∙◌}
use Rattle.std.specs.Prelude.{is_none}
use Rattle.std.specs.FinMap.{FinMap, insert}
use Rattle.std.proofs.lemmas.Bool.{both_ways}
use Rattle.bsp_rows.specs.CivilDay.{CivilDay}
use Rattle.bsp_book.specs.Calls.{Meaning}
use Rattle.bsp_memos.specs.Billing.{admits, amount_due, billed_in, is_due}
use Rattle.bsp_memos.specs.Lives.{after_event}
use Rattle.bsp_memos.specs.Lives.Event.{Closed}
use Rattle.bsp_memos.specs.declared.fields.MemoFields.{MemoFields}
use Rattle.bsp_rows.specs.Changes.{each}
use Rattle.bsp_rows.specs.Rows.{Rows, is_unbilled, memo_cmp, memo_key, memos_of}
use Rattle.bsp_rows.specs.Sound.{Sound}
use Rattle.bsp_rows.specs.Writes.{changed, with_billing}
use Rattle.bsp_rows.specs.declared.questions.Memos.TheVariants.{Unbilled}
use Rattle.bsp_rows.proofs.KeyOrders.{memo_exact, memo_total}
use Rattle.bsp_rows.proofs.PartLemmas.{changed_some}
use Rattle.bsp_office_spec.proofs.Seen.{insert_same}
use Rattle.bsp_office_spec.specs.Ledger.{review_of}
use Rattle.bsp_desk_writes.specs.Billings.{IsAsRead, with_billings, with_closed_memo}
use Rattle.bsp_desk_writes.proofs.EachLemmas.{IsLeft, changed_each, changed_left, left_there, none_left, passed_left}

abbrev pub closed : ℕ → ℕ → CivilDay → MemoFields → MemoFields
closed review period day = after_event review (Closed period day)

again_by : (review period : ℕ) (day : CivilDay) (memo : MemoFields) (b : Bool) → admits memo day review ≡ b → closed review period day (cond b (billed_in period memo) memo) ≡ cond b (billed_in period memo) memo
again_by review period day memo true is = refl
again_by review period day memo false is = ap (λ b. cond b (billed_in period memo) memo) is

-- a billed memo is not billed again
pub again : (review period : ℕ) (day : CivilDay) (memo : MemoFields) → closed review period day (closed review period day memo) ≡ closed review period day memo
again review period day memo = again_by review period day memo (admits memo day review) refl

billed_stays : (review period : ℕ) (day : CivilDay) (memo : MemoFields) → is_unbilled memo ≡ false → closed review period day memo ≡ memo
billed_stays review period day memo h = ap (λ b. if b && is_due memo day review then billed_in period memo else memo) h

abbrev pub AreLeft : ℕ → ℕ → CivilDay → FinMap memo_cmp MemoFields → List MemoFields → Type 0
AreLeft review period day = IsLeft memo_total memo_exact memo_key (closed review period day) (again review period day)

-- the memos of the list are left to be billed, and the others are as the close leaves them
pub record IsBilling {B : Type 0} (m : Meaning B Rows) (book : B) (now last : Rows) (review period : ℕ) (day : CivilDay) (rest : List MemoFields) : Type 0 where
  pub memos : FinMap memo_cmp MemoFields
  pub left : AreLeft review period day memos rest
  pub same : each (closed review period day) memos ≡ each (closed review period day) now.memos
  pub on : day ≡ now.published.day
  pub within : review ≡ review_of now.published.terms
  pub holds : m.holds book (record now { memos = memos }) (Some last)

module _ {B : Type 0} (m : Meaning B Rows) (now last : Rows) (review period : ℕ) (day : CivilDay) where
  pub begun : (book : B) (memos : List MemoFields) → Sound now → memos ≡ memos_of Unbilled now → day ≡ now.published.day → review ≡ review_of now.published.terms → m.holds book now (Some last) →
      IsBilling m book now last review period day memos
  begun book memos s is on within h = record {
    memos = now.memos;
    left = subst (λ (ms : List MemoFields). AreLeft review period day now.memos ms) (sym is)
        (passed_left memo_total memo_exact memo_key (closed review period day) (again review period day) is_unbilled now.memos (λ k memo there. (s.memos.each k memo there).keyed) (billed_stays review period day));
    same = refl;
    on = on;
    within = within;
    holds = h;
  }

  pub continued : (old new : B) (memo : MemoFields) (rest : List MemoFields) → IsBilling m old now last review period day (memo ∷ rest) →
      ((rows begun : Rows) → IsAsRead memo rows → m.holds old rows (Some begun) → m.holds new (with_closed_memo memo period day review rows) (Some begun)) →
      IsBilling m new now last review period day rest
  continued old new memo rest b write =
      let f = closed review period day in
      let twice = again review period day in
      record {
        memos = changed f (memo_key memo) b.memos;
        left = changed_left memo_total memo_exact memo_key f twice b.memos memo rest b.left;
        same = changed_each memo_total memo_exact memo_key f twice b.memos memo rest b.left ∙ b.same;
        on = b.on;
        within = b.within;
        holds = write (record now { memos = b.memos }) last (left_there memo_total memo_exact memo_key f twice b.memos memo rest b.left) b.holds;
      }

  pub finished : (book : B) → IsBilling m book now last review period day [] → m.holds book (with_billings period now) (Some last)
  finished book b =
      let all : each (closed review period day) now.memos ≡ b.memos = sym b.same ∙ none_left memo_total memo_exact memo_key (closed review period day) (again review period day) b.memos b.left in
      subst (λ (rows : Rows). m.holds book rows (Some last))
      (λ i. record now { memos = (sym all ∙ (λ j. each (closed (b.within j) period (b.on j)) now.memos)) i }) b.holds

-- ---- one memo

none_due : (memo : MemoFields) (day : CivilDay) (review : ℕ) (found : Option ℤ) (b : Bool) → admits memo day review ≡ b → found ≡ cond b (Some memo.amount) None → is_none found ≡ true → admits memo day review ≡ false
none_due memo day review found true is due none = absurd (both_ways _ (ap is_none due) none)
none_due memo day review found false is due none = is

pub not_admitted : (memo : MemoFields) (day : CivilDay) (review : ℕ) (found : Option ℤ) → found ≡ amount_due memo day review → is_none found ≡ true → admits memo day review ≡ false
not_admitted memo day review found due none = none_due memo day review found (admits memo day review) refl due none

some_due : (memo : MemoFields) (day : CivilDay) (review : ℕ) (found : Option ℤ) (b : Bool) → admits memo day review ≡ b → found ≡ cond b (Some memo.amount) None → is_none found ≡ false → admits memo day review ≡ true
some_due memo day review found true is due some = is
some_due memo day review found false is due some = absurd (both_ways _ some (ap is_none due))

pub admitted : (memo : MemoFields) (day : CivilDay) (review : ℕ) (found : Option ℤ) → found ≡ amount_due memo day review → is_none found ≡ false → admits memo day review ≡ true
admitted memo day review found due some = some_due memo day review found (admits memo day review) refl due some

module _ (memo : MemoFields) (period : ℕ) (day : CivilDay) (review : ℕ) (rows : Rows) (there : IsAsRead memo rows) where
  abbrev left_as : MemoFields → Rows
  left_as left = record rows { memos = insert rows.memos (memo_key memo) left }

  closed_by : (b : Bool) → admits memo day review ≡ b → with_closed_memo memo period day review rows ≡ left_as (cond b (billed_in period memo) memo)
  closed_by b is =
      ap (λ (ms : FinMap memo_cmp MemoFields). record rows { memos = ms }) (changed_some memo_total memo_exact (closed review period day) (memo_key memo) rows.memos memo there)
      ∙ ap (λ c. left_as (cond c (billed_in period memo) memo)) is

  pub not_billed : admits memo day review ≡ false → rows ≡ with_closed_memo memo period day review rows
  not_billed h = sym (closed_by false h ∙ ap (λ (ms : FinMap memo_cmp MemoFields). record rows { memos = ms }) (insert_same memo_total memo_exact rows.memos (memo_key memo) memo there))

  pub billed : admits memo day review ≡ true → with_billing (memo_key memo) period rows ≡ with_closed_memo memo period day review rows
  billed h =
      ap (λ (ms : FinMap memo_cmp MemoFields). record rows { memos = ms }) (changed_some memo_total memo_exact (billed_in period) (memo_key memo) rows.memos memo there)
      ∙ sym (closed_by true h)
