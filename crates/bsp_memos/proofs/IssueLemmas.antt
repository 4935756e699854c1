-- When two issues are the same.
use Rattle.std.proofs.Common.{◌≡◌, refl, sym}
use Rattle.std.specs.Bool.{Decides}
use Rattle.std.specs.Cmp.Lexicographic.{bytes_decides}
use Rattle.std.proofs.lemmas.Bool.{false≢true}
use Rattle.std.proofs.lemmas.Bool.Decides.{Decides-and, Decides-eqb, Decides-int_eq, Decides-like}
use Rattle.bsp_memos.specs.declared.fields.MemoFields.{MemoFields}
use Rattle.bsp_memos.specs.declared.kind.MemoKind.{MemoKind}
use Rattle.bsp_memos.specs.declared.kind.MemoKind.TheVariants.{Debit, Credit}
use Rattle.bsp_memos.specs.Memos.{IsSameIssue, is_same_issue, same_kind}

kind_decides : (a b : MemoKind) → Decides (same_kind a b) (a ≡ b)
kind_decides Debit Debit = (λ _. refl, λ _. refl)
kind_decides Credit Credit = (λ _. refl, λ _. refl)
kind_decides Debit Credit = (λ h. absurd (false≢true h), λ e. absurd (cc))
kind_decides Credit Debit = (λ h. absurd (false≢true h), λ e. absurd (cc))

pub same_issue : (memo other : MemoFields) → Decides (is_same_issue memo other) (IsSameIssue memo other)
same_issue memo other =
    Decides-like _
    (λ e. record { agent = sym e.0.0; kind = sym e.0.1; reason = sym e.1.0; amount = sym e.1.1 })
    (λ s. ((sym s.agent, sym s.kind), (sym s.reason, sym s.amount)))
    (Decides-and _ _ (Decides-and _ _ (Decides-eqb memo.agent other.agent) (kind_decides memo.kind other.kind))
    (Decides-and _ _ (bytes_decides memo.reason other.reason) (Decides-int_eq memo.issued_amount other.issued_amount)))
