-- Lemmas on reports that are sent.
use Rattle.std.proofs.Common.{◌≡◌, ◌≤◌, ◌⊎◌, ℕ, List, length, inl, inr, refl, subst, sym, arith}
use Rattle.std.specs.Prelude.{Option, Result, Ok, Err, IfOk}
use Rattle.std.specs.Io.KnownBytes.{IsAtEnd, Appends}
use Rattle.bsp_check.specs.declared.fault.Fault.{Fault}
use Rattle.bsp_check.specs.declared.fault.Fault.TheVariants.{Read, TooLong, Write, Memory}
use Rattle.bsp_check.specs.declared.verdict.Verdict.{Verdict}
use Rattle.bsp_check.specs.declared.verdict.Verdict.TheVariants.{Passed, Refused}
use Rattle.bsp_check.specs.Streams.{IsSent, IsReported, IsCutShort}
use Rattle.bsp_check.specs.Verdicts.{verdict_status, status_of}

-- a report on an input that was read whole, and was sent
pub sent_reported : (Reports : List ℕ → ℕ → List ℕ → Type 0) (limit : ℕ) (bytes text : List ℕ) (verdict : Verdict) (rest before after : Option (List ℕ)) (r : Result Verdict Fault) → IsAtEnd rest → length bytes ≤ limit → Reports bytes (verdict_status verdict) text → IsSent verdict text before after r → IsReported Reports limit bytes rest before after r
sent_reported Reports limit bytes text verdict rest before after (Ok told) end within is sent =
    let Told : Verdict → Type 0 = λ v. Reports bytes (verdict_status v) text in (end, within, text, subst Told (sym sent.0) is, sent.1)
sent_reported Reports limit bytes text verdict rest before after (Err Write) end within is sent =
    let Text : List ℕ → Type 0 = λ t. Reports bytes (verdict_status verdict) t in
    record { at_end = end; within = within; status = verdict_status verdict; front = sent.0; back = sent.1; report = subst Text sent.2 is; written = sent.3 }
sent_reported Reports limit bytes text verdict rest before after (Err Read) end within is sent = absurd sent
sent_reported Reports limit bytes text verdict rest before after (Err TooLong) end within is sent = absurd sent
sent_reported Reports limit bytes text verdict rest before after (Err Memory) end within is sent = absurd sent

-- the verdict that was answered is that of the report
pub sent_explained : (Explained : List ℕ → Verdict → Type 0) (bytes text : List ℕ) (verdict : Verdict) (before after : Option (List ℕ)) (r : Result Verdict Fault) → Explained bytes verdict → IsSent verdict text before after r → IfOk r (Explained bytes)
sent_explained Explained bytes text verdict before after (Ok told) is sent = subst (Explained bytes) (sym sent.0) is
sent_explained Explained bytes text verdict before after (Err fault) is sent = tt

-- what was written where no report was written whole
pub cut_short : (Reports : List ℕ → ℕ → List ℕ → Type 0) (limit : ℕ) (bytes : List ℕ) (rest before after : Option (List ℕ)) (r : Result Verdict Fault) → IsReported Reports limit bytes rest before after r → status_of r ≡ 3 → IsCutShort Reports limit bytes rest before after
cut_short Reports limit bytes rest before after (Ok (Passed heading)) is three = absurd (omega (arith, three))
cut_short Reports limit bytes rest before after (Ok (Refused explanation)) is three = absurd (omega (arith, three))
cut_short Reports limit bytes rest before after (Err Read) is three = inl is
cut_short Reports limit bytes rest before after (Err TooLong) is three = inl is.1
cut_short Reports limit bytes rest before after (Err Write) is three = inr is
cut_short Reports limit bytes rest before after (Err Memory) is three = inl is

-- what was written where one was
pub reported_whole : (Reports : List ℕ → ℕ → List ℕ → Type 0) (limit : ℕ) (bytes : List ℕ) (rest before after : Option (List ℕ)) (r : Result Verdict Fault) → IsReported Reports limit bytes rest before after r → (status_of r ≡ 0) ⊎ (status_of r ≡ 1) → IsAtEnd rest × (length bytes ≤ limit) × (text : List ℕ) × Reports bytes (status_of r) text × Appends before after text
reported_whole Reports limit bytes rest before after (Ok verdict) is either = is
reported_whole Reports limit bytes rest before after (Err fault) is (inl none) = absurd (omega (arith, none))
reported_whole Reports limit bytes rest before after (Err fault) is (inr one) = absurd (omega (arith, one))

pub three_statuses : (r : Result Verdict Fault) → (status_of r ≡ 0) ⊎ ((status_of r ≡ 1) ⊎ (status_of r ≡ 3))
three_statuses (Ok (Passed heading)) = inl refl
three_statuses (Ok (Refused explanation)) = inr (inl refl)
three_statuses (Err fault) = inr (inr refl)
