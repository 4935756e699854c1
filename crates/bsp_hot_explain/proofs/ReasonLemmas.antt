-- What a reason says of a line.
use Rattle.std.proofs.Common.{◌≡◌, ℕ, ◌+◌, List, Option, Some, None, refl, IsSome}
use Rattle.std.specs.Option.{option_map}
use Rattle.std.proofs.lemmas.Bool.{false≢true}
use Rattle.bsp_hot_records.specs.declared.form.FileForm.{FileForm}
use Rattle.bsp_hot_records.specs.declared.model.Record.{Record}
use Rattle.bsp_hot_records.specs.Records.{Record as FileRecord}
use Rattle.bsp_hot_records.specs.Judged.{judged}
use Rattle.bsp_hot_records.specs.Reading.{record_at, judged_at}
use Rattle.bsp_hot_check.specs.declared.model.Standing.{Standing}
use Rattle.bsp_hot_check.specs.Standings.{form_at, step}
use Rattle.bsp_hot_check.specs.Judging.{step_line}
use Rattle.bsp_hot_explain.specs.declared.reason.HotReason.{HotReason}
use Rattle.bsp_hot_explain.specs.declared.reason.HotReason.TheVariants as reason
use Rattle.bsp_hot_explain.specs.HotReasons.{SaysOfRecord, SaysOfStep, SaysOfHot}

pub of_record : (at : Standing) (line : List ℕ) (why : HotReason) → SaysOfRecord (form_at at.heading) (at.records + 1) line why → SaysOfHot at line why
of_record at line (reason.Form r) is = is
of_record at line (reason.Sequence stated next) is = is
of_record at line reason.NameDigits is = is
of_record at line reason.NameLetters is = is
of_record at line (reason.Short width shortness) is = absurd is
of_record at line (reason.Foreign kind) is = absurd is
of_record at line (reason.Place expected) is = absurd is
of_record at line (reason.Differs c) is = absurd is
of_record at line (reason.Order disorder) is = absurd is
of_record at line (reason.Missing expected) is = absurd is
of_record at line reason.NotFound is = absurd is

pub no_record : (at : Standing) (line : List ℕ) → record_at (form_at at.heading) (at.records + 1) line ≡ None → step_line at line ≡ None
no_record at line none = rw none refl

pub of_step : (at : Standing) (line : List ℕ) (r : Record) (why : HotReason) → judged_at (form_at at.heading) (at.records + 1) line ≡ Some r → SaysOfStep at r why → SaysOfHot at line why
of_step at line r (reason.Place expected) read says = (r, read, says)
of_step at line r (reason.Differs c) read says = (r, read, says)
of_step at line r (reason.Order disorder) read says = (r, read, says)
of_step at line r (reason.Form f) read says = absurd says
of_step at line r (reason.Sequence stated next) read says = absurd says
of_step at line r reason.NameDigits read says = absurd says
of_step at line r reason.NameLetters read says = absurd says
of_step at line r (reason.Short width shortness) read says = absurd says
of_step at line r (reason.Foreign kind) read says = absurd says
of_step at line r (reason.Missing expected) read says = absurd says
of_step at line r reason.NotFound read says = absurd says

pub refused_step : (at : Standing) (line : List ℕ) (r : Record) → judged_at (form_at at.heading) (at.records + 1) line ≡ Some r → step at r ≡ None → step_line at line ≡ None
refused_step at line r read none = rw read none

pub allowed_step : (at : Standing) (line : List ℕ) (r : Record) → judged_at (form_at at.heading) (at.records + 1) line ≡ Some r → IsSome (step at r) → IsSome (step_line at line)
allowed_step at line r read some = rw read some
