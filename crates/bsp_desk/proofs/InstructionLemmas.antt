-- The rows after an instruction and after a file are sound.
use Rattle.std.proofs.Common.{◌≡◌, ℕ, Bool, true, false, [], Some, Ok, Result, Err, cond, subst, sym}
use Rattle.bsp_book.specs.Calls.{Meaning}
use Rattle.bsp_book.specs.declared.fault.BookFault.{BookFault}
use Rattle.bsp_messages.specs.declared.answer.Answer.{Answer as Message}
use Rattle.bsp_ret.specs.Ret.{File}
use Rattle.bsp_rows.specs.Decimal.{fixed_digits}
use Rattle.bsp_rows.specs.Rows.{Rows}
use Rattle.bsp_rows.specs.Sound.{Sound}
use Rattle.bsp_desk_writes.proofs.ChangeLemmas.{own_file_keeps}
use Rattle.bsp_desk_writes.proofs.Invariant.{sound_is_kept}
use Rattle.bsp_desk_writes.proofs.Runs.{sound_kept}
use Rattle.bsp_desk_writes.specs.Ledger.{agent_of}
use Rattle.bsp_desk_writes.specs.Requests.{OfficeRequest}
use Rattle.bsp_desk_writes.specs.Requests.Asked.{ByOffice}
use Rattle.bsp_desk_writes.specs.Step.{Fits}
use Rattle.bsp_desk.specs.Instructions.{CommitsOwn, EndsOwn, IsMeant, IsReport, Outcome, Own, own_after}
use Rattle.bsp_desk.specs.Instructions.Own.{OfOffice}
use Rattle.bsp_desk.specs.declared.instruction.Instruction.{Instruction}
use Rattle.bsp_desk.specs.declared.instruction.Instruction.TheVariants.{Publish, SetDay, Register, Allot, Close, Statement}
use Rattle.bsp_desk.proofs.Fits.{groups_fit}

either : (rows : Rows) (b : Bool) → Sound rows → Sound (cond b rows rows)
either rows true s = s
either rows false s = s

office_sound : (own : Own) (request : OfficeRequest) (rows : Rows) → own ≡ OfOffice request → Fits (ByOffice request) → Sound rows → Sound (own_after own rows)
office_sound own request rows is fits s =
    subst (λ (o : Own). Sound (own_after o rows)) (sym is) (sound_kept [] rows (record { token = Some []; asked = ByOffice request }) s fits)

-- after an instruction
pub instructed_sound : (i : Instruction) (own : Own) (rows : Rows) → IsMeant i own → Sound rows → Sound (own_after own rows)
instructed_sound (Publish text) own rows is s = office_sound own _ rows is.2 tt s
instructed_sound (SetDay day) own rows is s = office_sound own _ rows is tt s
instructed_sound (Register agent token) own rows is s = office_sound own _ rows is tt s
instructed_sound (Allot agent first last) own rows is s = office_sound own _ rows is tt s
instructed_sound (Close period) own rows is s = office_sound own _ rows is tt s
instructed_sound (Statement agent period) own rows is s =
    subst (λ (o : Own). Sound (own_after o rows)) (sym is) (either rows _ s)

-- and after a file of an agent
pub reported_sound : (agent : ℕ) (file : File) (own : Own) (rows : Rows) → agent_of (fixed_digits 8 agent) ≡ Some agent → IsReport agent file own → Sound rows → Sound (own_after own rows)
reported_sound agent file own rows back is s =
    subst (λ (o : Own). Sound (own_after o rows)) (sym is.2) (own_file_keeps Sound sound_is_kept agent is.0 rows back s (groups_fit 1 file.groups is.0 is.1))

-- what was served in one transaction
pub outcome : {B : Type 0} (m : Meaning B Rows) (old new : B) (Is : Own → Type 0) (result : Result Message BookFault) → ((own : Own) (rows : Rows) → Is own → Sound rows → Sound (own_after own rows)) →
    CommitsOwn m old new Is result → EndsOwn m old new Is result → Outcome m old new Is result
outcome m old new Is (Ok message) sound kept fault = record {
  answered = λ own is t rows s h. (kept own is t rows s h).0;
  kept = λ own is t rows s h. (sound own rows is s, (kept own is t rows s h).1);
  fault = fault;
}
outcome m old new Is (Err e) sound kept fault = record { answered = tt; kept = tt; fault = fault }
