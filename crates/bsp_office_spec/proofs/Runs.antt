-- A run keeps what each change keeps.
use Rattle.std.proofs.Common.{ℕ, List, [], ◌∷◌, Option, Some, None, sym, subst}
use Rattle.bsp_rows.specs.Rows.{Rows}
use Rattle.bsp_rows.specs.Sound.{Sound}
use Rattle.bsp_office_spec.specs.Answers.{Answer}
use Rattle.bsp_office_spec.specs.Laws.{RunIsSound, StepIsSound}
use Rattle.bsp_office_spec.specs.Requests.{Request}
use Rattle.bsp_office_spec.specs.Step.{Fits, rows_after}
use Rattle.bsp_office_spec.specs.View.{AllFit, Exchange, IsAnswered, Run, rows_replied}
use Rattle.bsp_office_spec.proofs.Invariant.{IsKept, sound_is_kept}
use Rattle.bsp_office_spec.proofs.StepLemmas.{step_keeps}

module _ (P : Rows → Type 0) (kept : IsKept P) where
  replied_keeps : (office : List ℕ) (rows : Rows) (request : Request) (reply : Option Answer) → IsAnswered office rows request reply → Fits request.asked → P rows → P (rows_replied rows (record { request = request; reply = reply }))
  replied_keeps office rows request None h fits s = s
  replied_keeps office rows request (Some answer) h fits s = subst (λ (x : Answer). P (rows_after rows request x)) (sym h) (step_keeps P kept office rows request s fits)

  pub run_keeps : (office : List ℕ) (rows : Rows) (exchanges : List Exchange) (new : Rows) → Run office rows exchanges new → AllFit exchanges → P rows → P new
  run_keeps office rows [] new run fits s = subst P (sym run) s
  run_keeps office rows (p ∷ ps) new run fits s = run_keeps office (rows_replied rows p) ps new run.1 fits.1 (replied_keeps office rows p.request p.reply run.0 fits.0 s)

pub sound_kept : StepIsSound
sound_kept = step_keeps Sound sound_is_kept

pub run_sound : RunIsSound
run_sound = run_keeps Sound sound_is_kept
