use Rattle.std.proofs.Common.{◌≡◌, ℕ, true, false, List, Option, Some, None, refl, sym, ◌∙◌, IsSome}
use Rattle.std.specs.Prelude.{IfSome, IfNone}
use Rattle.bsp_fields.specs.Columns.{columns, is_wide}
use Rattle.bsp_fields.specs.Fields.{spells}
use Rattle.bsp_hot_records.specs.declared.form.FileForm.{FileForm}
use Rattle.bsp_hot_records.specs.declared.name.RecordName.{RecordName}
use Rattle.bsp_hot_records.specs.Records.{name_of}
use Rattle.bsp_hot_records.specs.Reading.{record_at}
use Rattle.bsp_explain.specs.declared.reason.Reason.{Reason}
use Rattle.bsp_explain.specs.declared.reason.Reason.TheVariants as form_reason
use Rattle.bsp_hot_explain.specs.declared.reason.HotReason.{HotReason}
use Rattle.bsp_hot_explain.specs.declared.reason.HotReason.TheVariants as reason
use Rattle.bsp_explain.specs.Reasons.{SaysOfWidth}
use Rattle.bsp_hot_explain.specs.HotReasons.{SaysOfNamed, SaysOfRecord, named_fits}
use Rattle.bsp_hot_explain.proofs.HotRows.{narrow_record, other_number, no_name, unfit_record, fit_record}
use Rattle.bsp_hot_explain.proofs.hot_reasons.record_reason.Goals as goal

-- what a reason says of a line's width
says_wide : (form : FileForm) (n : ℕ) (line : List ℕ) (r : Reason) → SaysOfWidth line r → SaysOfRecord form n line (reason.Form r)
says_wide form n line (form_reason.Width width cause) is = is
says_wide form n line (form_reason.Character column c cause) is = is
says_wide form n line _ is = absurd is

-- what the reason for a line with that name says of the line
says_named : (form : FileForm) (n : ℕ) (line : List ℕ) (name : RecordName) (r : Option HotReason) → name_of (columns 12 13 line) ≡ Some name → IfSome r (λ why. SaysOfNamed form name line why × (named_fits form name line ≡ false)) → IfSome r (SaysOfRecord form n line)
says_named form n line name None is h = tt
says_named form n line name (Some reason.NameLetters) is h = rw is h.0
says_named form n line name (Some (reason.Form (form_reason.Unfit f))) is h = rw is h.0
says_named form n line name (Some (reason.Form _)) is h = absurd h.0
says_named form n line name (Some _) is h = absurd h.0

refused_named : (form : FileForm) (n : ℕ) (line : List ℕ) (name : RecordName) (r : Option HotReason) → is_wide line ≡ true → spells n (columns 4 11 line) ≡ true → name_of (columns 12 13 line) ≡ Some name → IfSome r (λ why. SaysOfNamed form name line why × (named_fits form name line ≡ false)) → IfSome r (λ why. record_at form n line ≡ None)
refused_named form n line name None wide number is h = tt
refused_named form n line name (Some _) wide number is h = unfit_record form n line name wide number is h.1

none_named : (form : FileForm) (n : ℕ) (line : List ℕ) (name : RecordName) (r : Option HotReason) → is_wide line ≡ true → spells n (columns 4 11 line) ≡ true → name_of (columns 12 13 line) ≡ Some name → IfNone r (named_fits form name line ≡ true) → IfNone r (IsSome (record_at form n line))
none_named form n line name None wide number is h = fit_record form n line name wide number is h
none_named form n line name (Some _) wide number is h = tt

pub returns-in-Some-clause-says : goal.returns-in-Some-clause-says
returns-in-Some-clause-says c = says_wide c.args.form c.args.number c.args.line.now c.in-Some.reason c.in-Some.ensures.says_of_width

pub returns-in-Some-clause-refused : goal.returns-in-Some-clause-refused
returns-in-Some-clause-refused c = narrow_record c.args.form c.args.number c.args.line.now c.in-Some.ensures.narrow

pub returns-then-not-spells-clause-says : goal.returns-then-not-spells-clause-says
returns-then-not-spells-clause-says c = (refl, c.sequence_of-stated.ensures, sym c.spells.ensures ∙ c.if-not-spells.true)

pub returns-then-not-spells-clause-refused : goal.returns-then-not-spells-clause-refused
returns-then-not-spells-clause-refused c =
    other_number c.args.form c.args.number c.args.line.now c.in_default.ensures.wide (sym c.spells.ensures ∙ c.if-not-spells.true)

pub returns-in-None-clause-says : goal.returns-in-None-clause-says
returns-in-None-clause-says c = sym c.name_of.ensures ∙ c.in-None.is

pub returns-in-None-clause-refused : goal.returns-in-None-clause-refused
returns-in-None-clause-refused c =
    no_name c.args.form c.args.number c.args.line.now c.in_default.ensures.wide (sym c.spells.ensures ∙ c.if-not-spells.false) (sym c.name_of.ensures ∙ c.in-None.is)

pub returns-in-Some-name_of-clause-says : goal.returns-in-Some-name_of-clause-says
returns-in-Some-name_of-clause-says c =
    says_named c.args.form c.args.number c.args.line.now c.in-Some-name_of.name c.named_reason.result (sym c.name_of.ensures ∙ c.in-Some-name_of.is) c.named_reason.ensures.some

pub returns-in-Some-name_of-clause-refused : goal.returns-in-Some-name_of-clause-refused
returns-in-Some-name_of-clause-refused c =
    refused_named c.args.form c.args.number c.args.line.now c.in-Some-name_of.name c.named_reason.result c.in_default.ensures.wide (sym c.spells.ensures ∙ c.if-not-spells.false) (sym c.name_of.ensures ∙ c.in-Some-name_of.is) c.named_reason.ensures.some

pub returns-in-Some-name_of-clause-none : goal.returns-in-Some-name_of-clause-none
returns-in-Some-name_of-clause-none c =
    none_named c.args.form c.args.number c.args.line.now c.in-Some-name_of.name c.named_reason.result c.in_default.ensures.wide (sym c.spells.ensures ∙ c.if-not-spells.false) (sym c.name_of.ensures ∙ c.in-Some-name_of.is) c.named_reason.ensures.none
