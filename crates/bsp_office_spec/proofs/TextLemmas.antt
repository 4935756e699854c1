-- An answer is sent in one way.
use Rattle.std.proofs.Common.{◌≡◌, ℕ, Bool, List, Option, Some, refl, sym, subst, ◌∙◌, inl, inr}
use Rattle.std.specs.Prelude.{string_bytes}
use Rattle.bsp_rows.specs.Terms.{Terms}
use Rattle.bsp_hot.proofs.OneFile.{fits_or_not, one_text}
use Rattle.bsp_hot.specs.Files.{IsWritten, IsTooWide}
use Rattle.bsp_messages.specs.declared.answer.Answer.{Answer as Message}
use Rattle.bsp_messages.specs.declared.answer.Answer.TheVariants as message
use Rattle.bsp_rows.proofs.MapLemmas.{same_Some}
use Rattle.bsp_statement.proofs.OneReport.{one_settlement, one_statement}
use Rattle.bsp_statement.specs.Reports.{IsSettlement, IsStatement, of_period}
use Rattle.bsp_office_spec.specs.Answers.{HotRows, Report}
use Rattle.bsp_office_spec.specs.Answers.Answer.{Changed, Verdicts, Document, InPeriod, Ranges, Memos, Statement, Settlement, Hot, FileFault, Refused}
use Rattle.bsp_office_spec.specs.Texts.{AnswersAreOneText, HasNoHotText, IsHotText, IsSentAs, IsSettlementText, IsStatementText, hot_entries}

sent : (m other known same : Message) → m ≡ known → other ≡ same → IsSentAs known same → IsSentAs m other
sent m other known same is also alike = subst (λ x. IsSentAs x other) (sym is) (subst (λ x. IsSentAs known x) (sym also) alike)

itself : (m : Message) → IsSentAs m m
itself m = record { status = refl; media = refl; text = refl }

-- ---- the terms

one_terms : (found : Option Terms) (a b : Terms) → found ≡ Some a → found ≡ Some b → a ≡ b
one_terms found a b is also = same_Some a b (sym is ∙ also)

-- ---- texts

statement_text_is : (agent : ℕ) (taxed : Bool) (report : Report) (text other : List ℕ) → IsStatementText agent taxed report text → IsStatementText agent taxed report other → other ≡ text
statement_text_is agent taxed report text other is also =
    let same = one_terms report.terms also.0 is.0 also.1 is.1 in
    one_statement taxed agent (of_period report.period is.0) report.postings text other is.2 (subst (λ (terms : Terms). IsStatement taxed agent (of_period report.period terms) report.postings other) same also.2)

settlement_text_is : (report : Report) (text other : List ℕ) → IsSettlementText report text → IsSettlementText report other → other ≡ text
settlement_text_is report text other (terms, known, made, is, text_is) (terms', known', made', is', text_is') =
    let same = one_terms report.terms terms' terms known' known in
    let one = one_settlement (of_period report.period terms) report.postings made made' is (subst (λ (x : Terms). IsSettlement (of_period report.period x) report.postings made') same is') in
    sym text_is' ∙ (one.text ∙ text_is)

hot_text_is : (airline : ℕ) (rows : HotRows) (text other : List ℕ) → IsHotText airline rows text → IsHotText airline rows other → other ≡ text
hot_text_is airline rows text other is also =
    let same = one_terms rows.terms also.0 is.0 also.1 is.1 in
    one_text rows.form airline rows.period is.0.currency (hot_entries airline rows) text other is.2 (subst (λ (terms : Terms). IsWritten rows.form airline rows.period terms.currency (hot_entries airline rows) other) same also.2)

hot_or_not : (airline : ℕ) (rows : HotRows) (text : List ℕ) → IsHotText airline rows text → HasNoHotText airline rows → ⊥
hot_or_not airline rows text is wide =
    let same = one_terms rows.terms wide.0 is.0 wide.1 is.1 in
    fits_or_not rows.form airline rows.period is.0.currency (hot_entries airline rows) text is.2 (subst (λ (terms : Terms). IsTooWide rows.form airline rows.period terms.currency (hot_entries airline rows)) same wide.2)

-- ---- messages

pub one_message : AnswersAreOneText
one_message (Changed change) m other is also = sent m other _ _ is also (itself _)
one_message (Verdicts verdicts) m other (v, items, is) (w, items', also) = sent m other (message.Verdicts v) (message.Verdicts w) is also (record { status = refl; media = refl; text = rw (items' ∙ sym items) refl })
one_message (Document document) m other is also = sent m other _ _ is also (itself _)
one_message (InPeriod period) m other is also = sent m other _ _ is also (itself _)
one_message (Ranges ranges) m other (v, items, is) (w, items', also) = sent m other (message.Ranges v) (message.Ranges w) is also (record { status = refl; media = refl; text = rw (items' ∙ sym items) refl })
one_message (Memos memos) m other (v, items, is) (w, items', also) = sent m other (message.Memos v) (message.Memos w) is also (record { status = refl; media = refl; text = rw (items' ∙ sym items) refl })
one_message (Statement agent taxed report) m other (t, text, is) (u, text', also) = sent m other (message.Report t) (message.Report u) is also (record { status = refl; media = refl; text = statement_text_is agent taxed report (string_bytes t) (string_bytes u) text text' })
one_message (Settlement report) m other (t, text, is) (u, text', also) = sent m other (message.Report t) (message.Report u) is also (record { status = refl; media = refl; text = settlement_text_is report (string_bytes t) (string_bytes u) text text' })
one_message (Hot airline rows) m other (inl (file, text, is)) (inl (file', text', also)) = sent m other (message.Hot file) (message.Hot file') is also (record { status = refl; media = refl; text = hot_text_is airline rows file.items file'.items text text' })
one_message (Hot airline rows) m other (inl (file, text, is)) (inr wide) = absurd (hot_or_not airline rows file.items text wide.0)
one_message (Hot airline rows) m other (inr wide) (inl (file, text, is)) = absurd (hot_or_not airline rows file.items text wide.0)
one_message (Hot airline rows) m other (inr wide) (inr also) = sent m other _ _ wide.1 also.1 (itself _)
one_message (FileFault fault) m other is also = sent m other _ _ is also (itself _)
one_message (Refused refusal) m other is also = sent m other _ _ is also (itself _)
