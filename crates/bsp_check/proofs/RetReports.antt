-- Lemmas on the report on a RET file.
use Rattle.std.proofs.Common.{◌≡◌, ◌<◌, ◌^◌, ℕ, suc, ◌+◌, List, [], ◌∷◌, ◌++◌, length, Option, Some, None, IfSome, true, false, Err, is_some, option_to_list, cond, inl, inr, refl, sym, ap, subst, ◌∙◌, arith, append_assoc, append-nil}
use Rattle.std.specs.List.{concat}
use Rattle.bsp_ret.specs.PaidSale.{PaidSale}
use Rattle.bsp_ret.specs.declared.judging.FileTotals.{FileTotals}
use Rattle.bsp_ret.specs.Judging.{Judged, AreTaken, IsFileOf}
use Rattle.bsp_ret.specs.Lines.{lines}
use Rattle.bsp_check.specs.declared.ret_judging.RetJudge.{RetJudge}
use Rattle.bsp_check.specs.Judging.{IsAfterFew}
use Rattle.bsp_check.specs.RetJudging.{HasTakenRet, IsRetRefusal}
use Rattle.bsp_ret.specs.declared.model.FaultCode.{FaultCode}
use Rattle.bsp_ret.specs.declared.model.RetFault.{RetFault}
use Rattle.bsp_ret.specs.declared.model.Standing.{Standing}
use Rattle.bsp_ret.specs.Table.{has_ended, row_fault, first_fault}
use Rattle.bsp_ret.proofs.JudgingLemmas.{clear_of_taken, fault_at_line}
use Rattle.bsp_explain.specs.declared.explanation.Explanation.{Explanation}
use Rattle.bsp_explain.specs.declared.reason.Reason.TheVariants.{NoTrailer}
use Rattle.bsp_explain.specs.RetReasons.{Says, is_reason_of}
use Rattle.bsp_explain.proofs.FaultLemmas.{clear_file, says_of_line, says_of_missing}
use Rattle.std.proofs.lemmas.Bool.{cases_Bool}
use Rattle.bsp_check.specs.RetReport.{transaction_text, transactions_text, total_text, IsFileReport}

text_more : (n : ℕ) (ts : List PaidSale) (t : PaidSale) → transactions_text n (ts ++ t ∷ []) ≡ transactions_text n ts ++ transaction_text (n + length ts) t
text_more n [] t = append-nil (transaction_text n t) ∙ ap (λ k. transaction_text k t) (omega arith)
text_more n (u ∷ ts) t =
    ap (λ rest. transaction_text n u ++ rest) (text_more (suc n) ts t ∙ ap (λ k. transactions_text (suc n) ts ++ transaction_text k t) (omega arith))
    ∙ sym (append_assoc (transaction_text n u) (transactions_text (suc n) ts) (transaction_text (n + suc (length ts)) t))

-- one more transaction
pub text_after : (sales : List PaidSale) (p : PaidSale) (number : ℕ) (text more : List ℕ) → text ≡ transactions_text 1 sales → number ≡ length sales + 1 → more ≡ text ++ transaction_text number p → more ≡ transactions_text 1 (sales ++ p ∷ [])
text_after sales p number text more is at pushed =
    let behind : number ≡ 1 + length sales = omega (arith, at) in
    pushed ∙ ap (λ front. front ++ transaction_text number p) is ∙ ap (λ k. transactions_text 1 sales ++ transaction_text k p) behind ∙ sym (text_more 1 sales p)

-- the number of the transaction that a record completes
number_of : (ls : List (List ℕ)) (sales : List PaidSale) (j : Judged) (p : PaidSale) → AreTaken ls j sales → j.begun ≡ Some p → j.at.transactions ≡ length sales + 1
number_of ls sales j p t begun = t.count ∙ ap (λ (o : Option PaidSale). length sales + cond (is_some o) 1 0) begun

-- what a step takes, and the transaction that it completes, if it does
abbrev pub IsStep : RetJudge → RetJudge → List ℕ → Option PaidSale → List (List ℕ) → Type 0
IsStep judge more line ended ls = (sales : List PaidSale) → AreTaken ls judge.judging sales → AreTaken (ls ++ line ∷ []) more.judging (sales ++ option_to_list ended)

-- one more line, which completes no transaction
pub taken_none : (judge more : RetJudge) (line : List ℕ) (ended : Option PaidSale) (ls : List (List ℕ)) → ended ≡ None → IsStep judge more line ended ls → more.text.items ≡ judge.text.items → HasTakenRet judge ls → HasTakenRet more (ls ++ line ∷ [])
taken_none judge more line ended ls none step same has =
    let Taken : Option PaidSale → Type 0 = λ o. AreTaken (ls ++ line ∷ []) more.judging (has.0 ++ option_to_list o) in
    (has.0 ++ [], subst Taken none (step has.0 has.1), same ∙ has.2 ∙ ap (transactions_text 1) (sym (append-nil has.0)))

-- or one
pub taken_one : (judge more : RetJudge) (line : List ℕ) (ended : Option PaidSale) (number : ℕ) (p : PaidSale) (ls : List (List ℕ)) → ended ≡ Some p → IsStep judge more line ended ls → IfSome ended (λ q. judge.judging.begun ≡ Some q) → number ≡ judge.judging.at.transactions
    → more.text.items ≡ judge.text.items ++ transaction_text number p → HasTakenRet judge ls → HasTakenRet more (ls ++ line ∷ [])
taken_one judge more line ended number p ls some step begun at pushed has =
    let Taken : Option PaidSale → Type 0 = λ o. AreTaken (ls ++ line ∷ []) more.judging (has.0 ++ option_to_list o) in
    let Begun : Option PaidSale → Type 0 = λ o. IfSome o (λ q. judge.judging.begun ≡ Some q) in
    (has.0 ++ p ∷ [], subst Taken some (step has.0 has.1), text_after has.0 p number judge.text.items more.text.items has.2 (at ∙ number_of ls has.0 judge.judging p has.1 (subst Begun some begun)) pushed)

-- what is so of the lines that were taken, and of the report
pub is_file_report : (bytes text line : List ℕ) (sales : List PaidSale) (totals : FileTotals) → IsFileOf (lines bytes) sales totals → text ≡ transactions_text 1 sales → line ≡ total_text totals.records totals.transactions totals.sum → IsFileReport bytes (text ++ line)
is_file_report bytes text line sales totals is front back = record {
  file = is.file;
  stands = is.ret;
  sales = sales;
  have = is.sales_are;
  text_is = rw (front, back, is.records, is.transactions, is.sum) refl;
}

-- seven texts, each appended behind those before it
pub joined_seven : (old a b c d e f g : List ℕ) → ((((((old ++ a) ++ b) ++ c) ++ d) ++ e) ++ f) ++ g ≡ old ++ concat (a ∷ b ∷ c ∷ d ∷ e ∷ f ∷ g ∷ [])
joined_seven old a b c d e f g = simp (append_assoc, append-nil) refl

-- ---- a line at fault

-- the refusal of a line, after lines that were taken
pub refused_line : (ls after : List (List ℕ)) (judge : RetJudge) (line : List ℕ) (code : FaultCode) (fault : RetFault) (e : Explanation) → HasTakenRet judge ls → row_fault judge.judging.at line ≡ Err code → fault ≡ record { code = code; at = judge.judging.at.records + 1 }
    → e.record ≡ judge.judging.at.records + 1 → Says (judge.judging.at.records + 1) judge.judging.at line e.reason → is_reason_of code e.reason ≡ true → IsRetRefusal (ls ++ line ∷ after) (record { fault = fault; explanation = e })
refused_line ls after judge line code fault e has row is number says of =
    let j = judge.judging in record {
      is_first = fault_at_line ls after has.0 j line code has.1 row ∙ ap Some (sym is);
      says = says_of_line ls line after j.at code e has.1.state (clear_of_taken ls has.0 j has.1) row number says of;
    }

-- of a file without its trailer
not_ended : (ls : List (List ℕ)) (judge : RetJudge) (fault : RetFault) → HasTakenRet judge ls → first_fault ls ≡ Some fault → has_ended judge.judging.at.last ≡ false
not_ended ls judge fault has first =
    let at = judge.judging.at in
    elim (cases_Bool (has_ended at.last)) [
      | inl ended ↦ absurd (cc (first, clear_file ls at has.1.state (clear_of_taken ls has.0 judge.judging has.1) ended))
      | inr going ↦ going
    ]

pub refused_end : (ls : List (List ℕ)) (judge : RetJudge) (fault : RetFault) (e : Explanation) → HasTakenRet judge ls → first_fault ls ≡ Some fault → e.record ≡ judge.judging.at.records + 1 → e.reason ≡ NoTrailer (judge.judging.at.records + 1) judge.judging.at
    → IsRetRefusal ls (record { fault = fault; explanation = e })
refused_end ls judge fault e has first number reason = record {
  is_first = first;
  says = says_of_missing ls judge.judging.at e has.1.state (clear_of_taken ls has.0 judge.judging has.1) (not_ended ls judge fault has first) number reason;
}

-- as many records as lines
pub few_records : (judge : RetJudge) → IsAfterFew HasTakenRet judge → judge.judging.at.records < 2 ^ 62
few_records judge few = omega (arith, ap (λ (at : Standing). at.records) few.1.1.state, few.2)
