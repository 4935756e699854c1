-- What a file is answered, by its bytes or its transactions.
use Rattle.std.proofs.Common.{◌≡◌, ◌≢◌, ◌⊎◌, ℕ, List, Some, Result, Ok, Err, IfOk, refl, sym, ap, subst, ◌∙◌, inl, inr}
use Rattle.std.specs.Global.{Vec}
use Rattle.bsp_book.specs.Calls.{Meaning}
use Rattle.bsp_book.specs.declared.fault.BookFault.{BookFault}
use Rattle.bsp_messages.specs.declared.answer.Answer.{Answer}
use Rattle.bsp_messages.specs.declared.answer.Answer.TheVariants as message
use Rattle.bsp_ret.specs.Lines.{lines}
use Rattle.bsp_ret.specs.Reading.{no_memory}
use Rattle.bsp_ret.specs.Ret.{File, Ret}
use Rattle.bsp_ret.specs.Table.{first_fault}
use Rattle.bsp_ret.specs.declared.model.RetFault.{RetFault}
use Rattle.bsp_ret.proofs.LawLemmas.{law}
use Rattle.bsp_rows.specs.Transaction.{Transaction}
use Rattle.bsp_rows.specs.Writing.{HaveContents}
use Rattle.bsp_rows.specs.Reporter.{Reporter}
use Rattle.bsp_rows.specs.Reporter.TheVariants.{Office, Agent}
use Rattle.bsp_rows.specs.Verdict.{Verdict}
use Rattle.bsp_rows.specs.Rows.{Rows}
use Rattle.bsp_rows.specs.Sound.{Sound}
use Rattle.bsp_rows.proofs.MapLemmas.{same_Some}
use Rattle.bsp_office_spec.specs.Requests.{FileRead, IsFileOf}
use Rattle.bsp_office_spec.specs.Step.{rows_filed}
use Rattle.bsp_desk_sales.specs.Judged.{AreJudged, owner_of, verdicts_of}
use Rattle.bsp_desk_writes.specs.Reported.{ServesFile}
use Rattle.bsp_desk_sales.proofs.FileLemmas.{one_list}

module _ {B : Type 0} (m : Meaning B Rows) (old new : B) where
  -- nothing is answered
  err_served : (e : BookFault) (who : Reporter) (file : FileRead) → ServesFile m old new (Err e) who file
  err_served e Office file = tt
  err_served e (Agent agent) file = tt

  pub none_served : (result : Result Answer BookFault) → IfOk result (λ answer. ⊥) → (who : Reporter) (file : FileRead) → ServesFile m old new result who file
  none_served (Ok answer) none who file = absurd none
  none_served (Err e) none who file = err_served e who file

  -- ---- a fault

  pub fault_served : (result : Result Answer BookFault) (fault : RetFault) (body : List ℕ) → IfOk result (λ answer. fault ≢ no_memory) → ((who : Reporter) → ServesFile m old new result who (Err fault)) →
      (fault ≡ no_memory) ⊎ (first_fault (lines body) ≡ Some fault) → (who : Reporter) (file : FileRead) → IsFileOf body file → ServesFile m old new result who file
  fault_served (Err e) fault body read served first who file is = err_served e who file
  fault_served (Ok answer) fault body read served (inl none) who file is = absurd (read none)
  fault_served (Ok answer) fault body read served (inr first) who (Ok ts) is = let none = (law (lines body)).none is.0 is.1 in absurd (cc (none, first))
  fault_served (Ok answer) fault body read served (inr first) who (Err other) is =
      subst (λ (f : RetFault). ServesFile m old new (Ok answer) who (Err f)) (same_Some fault other (sym first ∙ is)) (served who)

  -- ---- the transactions

  pub text_served : (result : Result Answer BookFault) (body : List ℕ) (file : File) → Ret (lines body) file → (who : Reporter) → ((ts : List Transaction) → HaveContents 1 file.groups ts → ServesFile m old new result who (Ok ts)) →
      (read : FileRead) → IsFileOf body read → ServesFile m old new result who read
  text_served result body file ret who served (Ok ts) is =
      served ts (subst (λ (f : File). HaveContents 1 f.groups ts) ((law (lines body)).one is.0 file is.1 ret) is.2)
  text_served result body file ret who served (Err fault) is = let none = (law (lines body)).none file ret in absurd (cc (none, is))

  by_reporter : (v : Vec Verdict) (ts : List Transaction) (who : Reporter) →
      (m.trusts new → (now last : Rows) → Sound now → m.holds old now (Some last) → (v.items ≡ verdicts_of who now ts) × m.holds new (rows_filed (owner_of who) ts (verdicts_of who now ts) now) (Some last)) →
      ServesFile m old new (Ok (message.Verdicts v)) who (Ok ts)
  by_reporter v ts Office h = λ trust now last s holds. let was = h trust now last s holds in ((v, was.0, refl), was.1)
  by_reporter v ts (Agent agent) h = λ trust now last s holds. let was = h trust now last s holds in ((v, was.0, refl), was.1)

  pub file_served : (v : Vec Verdict) (groups : List (List (List ℕ))) (who : Reporter) → AreJudged m old new who groups v.items → (ts : List Transaction) → HaveContents 1 groups ts →
      ServesFile m old new (Ok (message.Verdicts v)) who (Ok ts)
  file_served v groups who are ts have =
      let same = one_list 1 groups are.transactions ts are.contents have in
      by_reporter v ts who (λ trust now last s holds.
      let was = are.judged trust now last s holds in
      let S : Rows → Type 0 = λ r. m.holds new r (Some last) in (
        was.are ∙ ap (verdicts_of who now) same,
        subst S (λ i. rows_filed (owner_of who) (same i) ((was.are ∙ ap (verdicts_of who now) same) i) now) was.holds,
      ))
