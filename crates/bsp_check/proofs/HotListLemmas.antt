-- The list of the lines of a text.
use Rattle.std.proofs.Common.{◌≡◌, ℕ, ◌+◌, ◌≤◌, ◌<◌, ◌^◌, List, [], ◌∷◌, ◌++◌, length, Option, Some, None, refl, sym, ap, ap₂, subst, ◌∙◌, arith, append_assoc, append-nil, map}
use Rattle.std.proofs.lemmas.List.{length-append}
use Rattle.std.proofs.lemmas.Option.{none-some, same_Some}
use Rattle.std.specs.Prelude.{codes, IfSome, OnOk, Result, Ok, Err}
use Rattle.bsp_fields.specs.Money.{money_text}
use Rattle.bsp_fields.specs.declared.money.NoRoom.{NoRoom}
use Rattle.bsp_hot_records.specs.declared.form.FileForm.{FileForm}
use Rattle.bsp_hot_records.specs.declared.totals.Sums.{Sums}
use Rattle.bsp_hot_records.specs.declared.totals.Totals.{Totals}
use Rattle.bsp_hot_records.specs.declared.model.Part.{Part}
use Rattle.bsp_hot_records.specs.declared.model.PartOf.{PartOf}
use Rattle.bsp_hot_records.specs.declared.model.Record.{Record}
use Rattle.bsp_hot_records.specs.declared.model.Record.TheVariants as record_is
use Rattle.bsp_hot_records.specs.Judged.{IsSmallRecord}
use Rattle.bsp_hot_records.specs.Reading.{judged_at}
use Rattle.bsp_hot_records.specs.Sums.{add, one_document, sum_of, with_net}
use Rattle.bsp_hot_records.proofs.SumLemmas.{none_right, plus_assoc}
use Rattle.bsp_hot_records.proofs.SizeLemmas.{one_small, small_add, small_more}
use Rattle.bsp_hot_check.specs.Standings.{judged_sums}
use Rattle.bsp_hot_check.proofs.SizeLemmas.{small_part}
use Rattle.bsp_check.specs.HotLines.{amounts_text, charges_text, document_key, document_sums, form_after, issued_text, list_from, list_text, listed, listed_or, part_before, part_said, parts_in, payments_text}
use Rattle.bsp_check.specs.HotListing.{IsListOf, IsOtherTaken, IsSmallStage, begun, ended, left, stage_after, stage_with}
use Rattle.bsp_check.specs.declared.hot_list.HotList.{HotList}
use Rattle.bsp_check.specs.declared.hot_list.Stage.{Stage}
use Rattle.bsp_check.specs.declared.hot_list.Stage.TheVariants.{Between, Document, Ended}

pub list_none : (form : FileForm) (n : ℕ) → list_from form n [] ≡ []
unfolding list_from
list_none form n = refl

pub list_more : (form : FileForm) (n : ℕ) (line : List ℕ) (lines : List (List ℕ)) → list_from form n (line ∷ lines) ≡ listed_or (judged_at form n line) (λ r. listed r line (document_sums form (n + 1) lines) ++ list_from (form_after form r) (n + 1) lines)
unfolding list_from
list_more form n line lines = refl

pub parts_none : (form : FileForm) (n : ℕ) → parts_in form n [] ≡ []
unfolding parts_in
parts_none form n = refl

pub parts_more : (form : FileForm) (n : ℕ) (line : List ℕ) (lines : List (List ℕ)) → parts_in form n (line ∷ lines) ≡ part_before (part_said (judged_at form n line)) (parts_in form (n + 1) lines)
unfolding parts_in
parts_more form n line lines = refl

-- five names, each with its amount, and an end, one behind another
joined : (old a b c d e k l m n o z : List ℕ) → (((((old ++ (a ++ k)) ++ (b ++ l)) ++ (c ++ m)) ++ (d ++ n)) ++ (e ++ o)) ++ (z ++ []) ≡ old ++ ((a ++ (k ++ (b ++ l))) ++ ((c ++ (m ++ (d ++ n))) ++ (e ++ (o ++ z))))
joined old a b c d e k l m n o z = simp (append_assoc, append-nil)

-- the amounts of a line, one behind another
pub amounts_are : (t : Totals) (old a b c d e now : List ℕ)
    → a ≡ old ++ (codes " CA " ++ money_text t.sums.cash)
    → b ≡ a ++ (codes " CC " ++ money_text t.sums.credit)
    → c ≡ b ++ (codes " commission " ++ money_text t.sums.commission)
    → d ≡ c ++ (codes " tax " ++ money_text t.sums.tax)
    → e ≡ d ++ (codes " net " ++ money_text t.net)
    → now ≡ e ++ (codes "\n" ++ [])
    → now ≡ old ++ amounts_text t
unfolding amounts_text payments_text charges_text
amounts_are t old a b c d e now cash credit commission tax net last =
    rw (last, net, tax, commission, credit, cash) (joined old (codes " CA ") (codes " CC ") (codes " commission ") (codes " tax ") (codes " net ") (money_text t.sums.cash) (money_text t.sums.credit) (money_text t.sums.commission) (money_text t.sums.tax) (money_text t.net) (codes "\n"))

-- ---- what follows a record

abbrev Lines : Type 0
Lines = List (List ℕ)

-- what the parts add that lines begin with
abbrev left_sums : FileForm → ℕ → Lines → Sums
left_sums form n lines = sum_of (map judged_sums (parts_in form n lines))

-- what the lines add to the list
listed_more : (form : FileForm) (n : ℕ) (line : List ℕ) (more : Lines) (r : Record) → judged_at form n line ≡ Some r → list_from form n (line ∷ more) ≡ listed r line (document_sums form (n + 1) more) ++ list_from (form_after form r) (n + 1) more
listed_more form n line more r is = list_more form n line more ∙ rw is refl

-- a record is listed: what is known of it at once, and the rest after the lines that follow
begun_more : (form : FileForm) (n : ℕ) (line : List ℕ) (more : Lines) (r : Record) → begun r line ++ left (stage_after r) (form_after form r) n more ≡ listed r line (document_sums form n more) ++ list_from (form_after form r) n more
begun_more form n line more (record_is.Document d) =
    let amounts = amounts_text (with_net (document_sums form n more)) in
    append_assoc (document_key d) (issued_text line) (amounts ++ list_from form n more)
    ∙ ap (λ (x : List ℕ). document_key d ++ x) (sym (append_assoc (issued_text line) amounts (list_from form n more)))
    ∙ sym (append_assoc (document_key d) (issued_text line ++ amounts) (list_from form n more))
begun_more form n line more (record_is.FileHeader h) = refl
begun_more form n line more (record_is.PeriodHeader p) = refl
begun_more form n line more (record_is.OfficeHeader o) = refl
begun_more form n line more (record_is.TransactionHeader t) = refl
begun_more form n line more (record_is.PartOf x) = refl
begun_more form n line more (record_is.CodeTotals t) = refl
begun_more form n line more (record_is.OfficeTotals t) = refl
begun_more form n line more (record_is.PeriodTotals t) = refl
begun_more form n line more (record_is.FileTotals t) = refl

-- ---- the document whose records come

-- a part of it
part_left : (s : Sums) (form : FileForm) (n : ℕ) (line : List ℕ) (more : Lines) (x : PartOf) → judged_at form n line ≡ Some (record_is.PartOf x) → left (Document (add s (judged_sums x.part))) form (n + 1) more ≡ left (Document s) form n (line ∷ more)
part_left s form n line more x is =
    let parts : parts_in form n (line ∷ more) ≡ x.part ∷ parts_in form (n + 1) more = parts_more form n line more ∙ ap (λ o. part_before (part_said o) (parts_in form (n + 1) more)) is in
    let sums : add (add s (judged_sums x.part)) (left_sums form (n + 1) more) ≡ add s (left_sums form n (line ∷ more)) = plus_assoc s (judged_sums x.part) (left_sums form (n + 1) more) ∙ ap (λ (ps : List Part). add s (sum_of (map judged_sums ps))) (sym parts) in
    let rest : list_from form n (line ∷ more) ≡ list_from form (n + 1) more = listed_more form n line more (record_is.PartOf x) is in
    ap₂ (λ (t : Sums) (l : List ℕ). amounts_text (with_net t) ++ l) sums (sym rest)

with_found : (stage next : Stage) (form : FileForm) (n : ℕ) (line : List ℕ) (more : Lines) (o : Option Record) → judged_at form n line ≡ o → stage_with stage o ≡ Some next → left next form (n + 1) more ≡ left stage form n (line ∷ more)
with_found (Document s) next form n line more (Some (record_is.PartOf x)) is with =
    ap (λ st. left st form (n + 1) more) (sym (same_Some _ _ with)) ∙ part_left s form n line more x is
with_found Between next form n line more o is with = absurd (none-some next with)
with_found Ended next form n line more o is with = absurd (none-some next with)
with_found (Document s) next form n line more None is with = absurd (none-some next with)
with_found (Document s) next form n line more (Some (record_is.FileHeader h)) is with = absurd (none-some next with)
with_found (Document s) next form n line more (Some (record_is.PeriodHeader h)) is with = absurd (none-some next with)
with_found (Document s) next form n line more (Some (record_is.OfficeHeader h)) is with = absurd (none-some next with)
with_found (Document s) next form n line more (Some (record_is.TransactionHeader h)) is with = absurd (none-some next with)
with_found (Document s) next form n line more (Some (record_is.Document h)) is with = absurd (none-some next with)
with_found (Document s) next form n line more (Some (record_is.CodeTotals h)) is with = absurd (none-some next with)
with_found (Document s) next form n line more (Some (record_is.OfficeTotals h)) is with = absurd (none-some next with)
with_found (Document s) next form n line more (Some (record_is.PeriodTotals h)) is with = absurd (none-some next with)
with_found (Document s) next form n line more (Some (record_is.FileTotals h)) is with = absurd (none-some next with)

small_found : (stage next : Stage) (n : ℕ) (o : Option Record) → IsSmallStage n stage → IfSome o IsSmallRecord → stage_with stage o ≡ Some next → IsSmallStage (n + 1) next
small_found (Document s) next n (Some (record_is.PartOf x)) small one with =
    subst (IsSmallStage (n + 1)) (same_Some _ _ with) (small_add n 1 s (judged_sums x.part) small (small_part x.part one))
small_found Between next n o small one with = absurd (none-some next with)
small_found Ended next n o small one with = absurd (none-some next with)
small_found (Document s) next n None small one with = absurd (none-some next with)
small_found (Document s) next n (Some (record_is.FileHeader h)) small one with = absurd (none-some next with)
small_found (Document s) next n (Some (record_is.PeriodHeader h)) small one with = absurd (none-some next with)
small_found (Document s) next n (Some (record_is.OfficeHeader h)) small one with = absurd (none-some next with)
small_found (Document s) next n (Some (record_is.TransactionHeader h)) small one with = absurd (none-some next with)
small_found (Document s) next n (Some (record_is.Document h)) small one with = absurd (none-some next with)
small_found (Document s) next n (Some (record_is.CodeTotals h)) small one with = absurd (none-some next with)
small_found (Document s) next n (Some (record_is.OfficeTotals h)) small one with = absurd (none-some next with)
small_found (Document s) next n (Some (record_is.PeriodTotals h)) small one with = absurd (none-some next with)
small_found (Document s) next n (Some (record_is.FileTotals h)) small one with = absurd (none-some next with)

-- no part of it: its amounts are listed, and then the line
ended_left : (s : Sums) (form : FileForm) (n : ℕ) (line : List ℕ) (more : Lines) → part_said (judged_at form n line) ≡ None → left (Document s) form n (line ∷ more) ≡ ended (Document s) ++ list_from form n (line ∷ more)
ended_left s form n line more none =
    let parts : parts_in form n (line ∷ more) ≡ [] = parts_more form n line more ∙ ap (λ o. part_before o (parts_in form (n + 1) more)) none in
    ap (λ (t : Sums). amounts_text (with_net t) ++ list_from form n (line ∷ more)) (ap (λ (ps : List Part). add s (sum_of (map judged_sums ps))) parts ∙ none_right s)

no_part : (s : Sums) (o : Option Record) → stage_with (Document s) o ≡ None → part_said o ≡ None
no_part s None with = refl
no_part s (Some (record_is.PartOf x)) with = absurd (none-some _ (sym with))
no_part s (Some (record_is.FileHeader h)) with = refl
no_part s (Some (record_is.PeriodHeader h)) with = refl
no_part s (Some (record_is.OfficeHeader h)) with = refl
no_part s (Some (record_is.TransactionHeader h)) with = refl
no_part s (Some (record_is.Document h)) with = refl
no_part s (Some (record_is.CodeTotals h)) with = refl
no_part s (Some (record_is.OfficeTotals h)) with = refl
no_part s (Some (record_is.PeriodTotals h)) with = refl
no_part s (Some (record_is.FileTotals h)) with = refl

-- a line that is no part, after lines of which none ended the list
other_left : (stage : Stage) (form : FileForm) (n : ℕ) (line : List ℕ) (more : Lines) → stage_with stage (judged_at form n line) ≡ None → (stage ≡ Ended → ⊥) → left stage form n (line ∷ more) ≡ ended stage ++ list_from form n (line ∷ more)
other_left Between form n line more with going = refl
other_left (Document s) form n line more with going = ended_left s form n line more (no_part s (judged_at form n line) with)
other_left Ended form n line more with going = absurd (going refl)

-- ---- a line more

next_all : (ls more : Lines) (line : List ℕ) → list_text (ls ++ line ∷ more) ≡ list_text ((ls ++ line ∷ []) ++ more)
next_all ls more line = ap list_text (sym (append_assoc ls (line ∷ []) more))

more_lines : (list : HotList) (ls : Lines) (line : List ℕ) (n : ℕ) → list.next ≤ length ls + 1 → n ≤ list.next + 1 → n ≤ length (ls ++ line ∷ []) + 1
more_lines list ls line n few next = omega (arith, few, next, length-append ls (line ∷ []))

-- after the end of the list
pub ended_taken : (list : HotList) (line : List ℕ) (ls : Lines) → list.stage ≡ Ended → IsListOf list ls → IsListOf list (ls ++ line ∷ [])
ended_taken list line ls is has = record {
  few = more_lines list ls line list.next has.few (omega arith);
  small = has.small;
  text = λ more. ap (λ s. list.text.items ++ left s list.form list.next more) is
      ∙ ap (λ s. list.text.items ++ left s list.form list.next (line ∷ more)) (sym is) ∙ has.text (line ∷ more) ∙ next_all ls more line;
}

-- a part of the document whose records come
pub part_taken : (old new : HotList) (line : List ℕ) (ls : Lines) → stage_with old.stage (judged_at old.form old.next line) ≡ Some new.stage → IfSome (judged_at old.form old.next line) IsSmallRecord → new.text.items ≡ old.text.items → new.form ≡ old.form → new.next ≡ old.next + 1 → IsListOf old ls → IsListOf new (ls ++ line ∷ [])
part_taken old new line ls with one text form next has = record {
  few = more_lines old ls line new.next has.few (omega (arith, next));
  small = subst (λ n. IsSmallStage n new.stage) (sym next) (small_found old.stage new.stage old.next (judged_at old.form old.next line) has.small one with);
  text = λ more. rw (text, form, next) (ap (λ (x : List ℕ). old.text.items ++ x) (with_found old.stage new.stage old.form old.next line more (judged_at old.form old.next line) refl with)) ∙ has.text (line ∷ more) ∙ next_all ls more line;
}

small_stage : (n m : ℕ) (stage : Stage) → n ≤ m → IsSmallStage n stage → IsSmallStage m stage
small_stage n m Between less small = tt
small_stage n m Ended less small = tt
small_stage n m (Document s) less small = small_more n m s less small

-- what the lines so far ask of the sums
pub few_small : (list : HotList) → (ls : Lines) × IsListOf list ls × (length ls < 2 ^ 62) → IsSmallStage (2 ^ 62) list.stage
few_small list few = small_stage list.next (2 ^ 62) list.stage (omega (arith, few.1.few, few.2)) few.1.small

begun_small : (r : Record) (n : ℕ) → 1 ≤ n → IsSmallStage n (stage_after r)
begun_small (record_is.Document d) n some = small_more 1 n one_document some one_small
begun_small (record_is.FileHeader h) n some = tt
begun_small (record_is.PeriodHeader h) n some = tt
begun_small (record_is.OfficeHeader h) n some = tt
begun_small (record_is.TransactionHeader h) n some = tt
begun_small (record_is.PartOf h) n some = tt
begun_small (record_is.CodeTotals h) n some = tt
begun_small (record_is.OfficeTotals h) n some = tt
begun_small (record_is.PeriodTotals h) n some = tt
begun_small (record_is.FileTotals h) n some = tt

-- any other line
pub other_taken : (old mid new : HotList) (line : List ℕ) (ls : Lines) (o : Option Record) → o ≡ judged_at old.form old.next line → stage_with old.stage o ≡ None → (old.stage ≡ Ended → ⊥) → mid ≡ record old { next = old.next + 1 } → IsOtherTaken mid new o line → IsListOf old ls → IsListOf new (ls ++ line ∷ [])
other_taken old mid new line ls None is with going counted taken has = record {
  few = more_lines old ls line new.next has.few (omega (arith, taken.2, ap (λ (l : HotList). l.next) counted));
  small = subst (IsSmallStage new.next) (sym taken.1) tt;
  text = λ more.
      let all = other_left old.stage old.form old.next line more (ap (stage_with old.stage) (sym is) ∙ with) going in
      let none : list_from old.form old.next (line ∷ more) ≡ [] = list_more old.form old.next line more ∙ ap (λ p. listed_or p (λ r. listed r line (document_sums old.form (old.next + 1) more) ++ list_from (form_after old.form r) (old.next + 1) more)) (sym is) in
      rw (taken.0, taken.1, ap (λ (l : HotList). l.text.items) counted, ap (λ (l : HotList). l.stage) counted)
      (append-nil (old.text.items ++ ended old.stage) ∙ ap (λ (x : List ℕ). old.text.items ++ x) (sym (append-nil (ended old.stage)) ∙ ap (λ (x : List ℕ). ended old.stage ++ x) (sym none) ∙ sym all))
      ∙ has.text (line ∷ more) ∙ next_all ls more line;
}
other_taken old mid new line ls (Some r) is with going counted taken has = record {
  few = more_lines old ls line new.next has.few (omega (arith, taken.3, ap (λ (l : HotList). l.next) counted));
  small = subst (IsSmallStage new.next) (sym taken.1) (begun_small r new.next (omega (arith, taken.3, ap (λ (l : HotList). l.next) counted)));
  text = λ more.
      let all = other_left old.stage old.form old.next line more (ap (stage_with old.stage) (sym is) ∙ with) going in
      let step = listed_more old.form old.next line more r (sym is) in
      let begins = begun_more old.form (old.next + 1) line more r in
      let start = old.text.items ++ ended old.stage in
      rw (taken.0, taken.1, taken.2, taken.3, ap (λ (l : HotList). l.text.items) counted, ap (λ (l : HotList). l.stage) counted, ap (λ (l : HotList). l.form) counted, ap (λ (l : HotList). l.next) counted)
      (append_assoc start (begun r line) (left (stage_after r) (form_after old.form r) (old.next + 1) more)
      ∙ ap (λ (x : List ℕ). start ++ x) (begins ∙ sym step)
      ∙ append_assoc old.text.items (ended old.stage) (list_from old.form old.next (line ∷ more))
      ∙ ap (λ (x : List ℕ). old.text.items ++ x) (sym all))
      ∙ has.text (line ∷ more) ∙ next_all ls more line;
}

pub taken_if : (result : Result (Unit {0}) NoRoom) (P Q : Type 0) → OnOk result P → (P → Q) → OnOk result Q
taken_if (Ok u) P Q taken then = then taken
taken_if (Err e) P Q taken then = tt

-- ---- no line more

left_none : (stage : Stage) (form : FileForm) (n : ℕ) → left stage form n [] ≡ ended stage
left_none Between form n = list_none form n
left_none (Document s) form n =
    ap₂ (λ (t : Sums) (l : List ℕ). amounts_text (with_net t) ++ l) (ap (λ (ps : List Part). add s (sum_of (map judged_sums ps))) (parts_none form n) ∙ none_right s) (list_none form n)
    ∙ append-nil (amounts_text (with_net s))
left_none Ended form n = refl

pub finished : (list : HotList) (ls : Lines) (text : List ℕ) → text ≡ list.text.items ++ ended list.stage → IsListOf list ls → text ≡ list_text ls
finished list ls text is has =
    is ∙ ap (λ (x : List ℕ). list.text.items ++ x) (sym (left_none list.stage list.form list.next)) ∙ has.text [] ∙ ap list_text (append-nil ls)
