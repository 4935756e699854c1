use Rattle.std.proofs.Common.{◌≡◌, ℕ, true, false, List, Option}
use Rattle.std.specs.Prelude.{IfSome, IfNone}
use Rattle.bsp_hot_records.specs.declared.form.FileForm.{FileForm}
use Rattle.bsp_hot_records.specs.declared.name.RecordName.{RecordName}
use Rattle.bsp_hot_records.specs.declared.name.RecordName.TheVariants.{Bfh01, Bch02, Boh03, Bkt06, Bks24, Bks39, Bks42, Bks45, Bot93, Bot94, Bct95, Bft99, Bks30, Bkp84}
use Rattle.bsp_hot_records.specs.Records.{fields_fit}
use Rattle.bsp_explain.specs.declared.field.Field.{Field}
use Rattle.bsp_explain.specs.Fields.{all_fit, first_unfit, IsAtFault}
use Rattle.bsp_hot_explain.specs.HotFields.{hot_fields}
use Rattle.bsp_hot_explain.proofs.HotLemmas.{hot_is}
use Rattle.bsp_hot_explain.proofs.hot_fields.hot_field.Goals as goal

first_at : (form : FileForm) (name n : RecordName) (line : List ℕ) (r : Option Field) → name ≡ n → r ≡ first_unfit line (hot_fields form n line) → r ≡ first_unfit line (hot_fields form name line)
first_at form name n line r is h = rw is h

none_at : (form : FileForm) (name n : RecordName) (line : List ℕ) (r : Option Field) → name ≡ n → IfNone r (all_fit line (hot_fields form n line) ≡ true) → IfNone r (fields_fit form name line ≡ true)
none_at form name n line r is h = rw (is, hot_is form n line) h

some_at : (form : FileForm) (name n : RecordName) (line : List ℕ) (r : Option Field) → name ≡ n → IfSome r (λ field. IsAtFault line field × (all_fit line (hot_fields form n line) ≡ false)) → IfSome r (λ field. IsAtFault line field × (fields_fit form name line ≡ false))
some_at form name n line r is h = rw (is, hot_is form n line) h

pub returns-in-Bfh01-clause-first : goal.returns-in-Bfh01-clause-first
returns-in-Bfh01-clause-first c = first_at c.args.form c.args.name Bfh01 c.args.line.now c.first_unfit.result c.in-Bfh01.is c.first_unfit.ensures.first

pub returns-in-Bfh01-clause-none : goal.returns-in-Bfh01-clause-none
returns-in-Bfh01-clause-none c = none_at c.args.form c.args.name Bfh01 c.args.line.now c.first_unfit.result c.in-Bfh01.is c.first_unfit.ensures.none

pub returns-in-Bfh01-clause-some : goal.returns-in-Bfh01-clause-some
returns-in-Bfh01-clause-some c = some_at c.args.form c.args.name Bfh01 c.args.line.now c.first_unfit.result c.in-Bfh01.is c.first_unfit.ensures.some

pub returns-in-Bch02-clause-first : goal.returns-in-Bch02-clause-first
returns-in-Bch02-clause-first c = first_at c.args.form c.args.name Bch02 c.args.line.now c.first_unfit-in-Bch02.result c.in-Bch02.is c.first_unfit-in-Bch02.ensures.first

pub returns-in-Bch02-clause-none : goal.returns-in-Bch02-clause-none
returns-in-Bch02-clause-none c = none_at c.args.form c.args.name Bch02 c.args.line.now c.first_unfit-in-Bch02.result c.in-Bch02.is c.first_unfit-in-Bch02.ensures.none

pub returns-in-Bch02-clause-some : goal.returns-in-Bch02-clause-some
returns-in-Bch02-clause-some c = some_at c.args.form c.args.name Bch02 c.args.line.now c.first_unfit-in-Bch02.result c.in-Bch02.is c.first_unfit-in-Bch02.ensures.some

pub returns-in-Boh03-clause-first : goal.returns-in-Boh03-clause-first
returns-in-Boh03-clause-first c = first_at c.args.form c.args.name Boh03 c.args.line.now c.first_unfit-in-Boh03.result c.in-Boh03.is c.first_unfit-in-Boh03.ensures.first

pub returns-in-Boh03-clause-none : goal.returns-in-Boh03-clause-none
returns-in-Boh03-clause-none c = none_at c.args.form c.args.name Boh03 c.args.line.now c.first_unfit-in-Boh03.result c.in-Boh03.is c.first_unfit-in-Boh03.ensures.none

pub returns-in-Boh03-clause-some : goal.returns-in-Boh03-clause-some
returns-in-Boh03-clause-some c = some_at c.args.form c.args.name Boh03 c.args.line.now c.first_unfit-in-Boh03.result c.in-Boh03.is c.first_unfit-in-Boh03.ensures.some

pub returns-in-Bkt06-clause-first : goal.returns-in-Bkt06-clause-first
returns-in-Bkt06-clause-first c = first_at c.args.form c.args.name Bkt06 c.args.line.now c.first_unfit-in-Bkt06.result c.in-Bkt06.is c.first_unfit-in-Bkt06.ensures.first

pub returns-in-Bkt06-clause-none : goal.returns-in-Bkt06-clause-none
returns-in-Bkt06-clause-none c = none_at c.args.form c.args.name Bkt06 c.args.line.now c.first_unfit-in-Bkt06.result c.in-Bkt06.is c.first_unfit-in-Bkt06.ensures.none

pub returns-in-Bkt06-clause-some : goal.returns-in-Bkt06-clause-some
returns-in-Bkt06-clause-some c = some_at c.args.form c.args.name Bkt06 c.args.line.now c.first_unfit-in-Bkt06.result c.in-Bkt06.is c.first_unfit-in-Bkt06.ensures.some

pub returns-in-Bks24-clause-first : goal.returns-in-Bks24-clause-first
returns-in-Bks24-clause-first c = first_at c.args.form c.args.name Bks24 c.args.line.now c.first_unfit-in-Bks24.result c.in-Bks24.is c.first_unfit-in-Bks24.ensures.first

pub returns-in-Bks24-clause-none : goal.returns-in-Bks24-clause-none
returns-in-Bks24-clause-none c = none_at c.args.form c.args.name Bks24 c.args.line.now c.first_unfit-in-Bks24.result c.in-Bks24.is c.first_unfit-in-Bks24.ensures.none

pub returns-in-Bks24-clause-some : goal.returns-in-Bks24-clause-some
returns-in-Bks24-clause-some c = some_at c.args.form c.args.name Bks24 c.args.line.now c.first_unfit-in-Bks24.result c.in-Bks24.is c.first_unfit-in-Bks24.ensures.some

pub returns-in-Bks39-clause-first : goal.returns-in-Bks39-clause-first
returns-in-Bks39-clause-first c = first_at c.args.form c.args.name Bks39 c.args.line.now c.first_unfit-in-Bks39.result c.in-Bks39.is c.first_unfit-in-Bks39.ensures.first

pub returns-in-Bks39-clause-none : goal.returns-in-Bks39-clause-none
returns-in-Bks39-clause-none c = none_at c.args.form c.args.name Bks39 c.args.line.now c.first_unfit-in-Bks39.result c.in-Bks39.is c.first_unfit-in-Bks39.ensures.none

pub returns-in-Bks39-clause-some : goal.returns-in-Bks39-clause-some
returns-in-Bks39-clause-some c = some_at c.args.form c.args.name Bks39 c.args.line.now c.first_unfit-in-Bks39.result c.in-Bks39.is c.first_unfit-in-Bks39.ensures.some

pub returns-in-Bks42-clause-first : goal.returns-in-Bks42-clause-first
returns-in-Bks42-clause-first c = first_at c.args.form c.args.name Bks42 c.args.line.now c.first_unfit-in-Bks42.result c.in-Bks42.is c.first_unfit-in-Bks42.ensures.first

pub returns-in-Bks42-clause-none : goal.returns-in-Bks42-clause-none
returns-in-Bks42-clause-none c = none_at c.args.form c.args.name Bks42 c.args.line.now c.first_unfit-in-Bks42.result c.in-Bks42.is c.first_unfit-in-Bks42.ensures.none

pub returns-in-Bks42-clause-some : goal.returns-in-Bks42-clause-some
returns-in-Bks42-clause-some c = some_at c.args.form c.args.name Bks42 c.args.line.now c.first_unfit-in-Bks42.result c.in-Bks42.is c.first_unfit-in-Bks42.ensures.some

pub returns-in-Bks45-clause-first : goal.returns-in-Bks45-clause-first
returns-in-Bks45-clause-first c = first_at c.args.form c.args.name Bks45 c.args.line.now c.first_unfit-in-Bks45.result c.in-Bks45.is c.first_unfit-in-Bks45.ensures.first

pub returns-in-Bks45-clause-none : goal.returns-in-Bks45-clause-none
returns-in-Bks45-clause-none c = none_at c.args.form c.args.name Bks45 c.args.line.now c.first_unfit-in-Bks45.result c.in-Bks45.is c.first_unfit-in-Bks45.ensures.none

pub returns-in-Bks45-clause-some : goal.returns-in-Bks45-clause-some
returns-in-Bks45-clause-some c = some_at c.args.form c.args.name Bks45 c.args.line.now c.first_unfit-in-Bks45.result c.in-Bks45.is c.first_unfit-in-Bks45.ensures.some

pub returns-in-Bot93-clause-first : goal.returns-in-Bot93-clause-first
returns-in-Bot93-clause-first c = first_at c.args.form c.args.name Bot93 c.args.line.now c.totals_field.result c.in-Bot93.is c.totals_field.ensures.first

pub returns-in-Bot93-clause-none : goal.returns-in-Bot93-clause-none
returns-in-Bot93-clause-none c = none_at c.args.form c.args.name Bot93 c.args.line.now c.totals_field.result c.in-Bot93.is c.totals_field.ensures.none

pub returns-in-Bot93-clause-some : goal.returns-in-Bot93-clause-some
returns-in-Bot93-clause-some c = some_at c.args.form c.args.name Bot93 c.args.line.now c.totals_field.result c.in-Bot93.is c.totals_field.ensures.some

pub returns-in-Bot94-clause-first : goal.returns-in-Bot94-clause-first
returns-in-Bot94-clause-first c = first_at c.args.form c.args.name Bot94 c.args.line.now c.totals_field-in-Bot94.result c.in-Bot94.is c.totals_field-in-Bot94.ensures.first

pub returns-in-Bot94-clause-none : goal.returns-in-Bot94-clause-none
returns-in-Bot94-clause-none c = none_at c.args.form c.args.name Bot94 c.args.line.now c.totals_field-in-Bot94.result c.in-Bot94.is c.totals_field-in-Bot94.ensures.none

pub returns-in-Bot94-clause-some : goal.returns-in-Bot94-clause-some
returns-in-Bot94-clause-some c = some_at c.args.form c.args.name Bot94 c.args.line.now c.totals_field-in-Bot94.result c.in-Bot94.is c.totals_field-in-Bot94.ensures.some

pub returns-in-Bct95-clause-first : goal.returns-in-Bct95-clause-first
returns-in-Bct95-clause-first c = first_at c.args.form c.args.name Bct95 c.args.line.now c.totals_field-in-Bct95.result c.in-Bct95.is c.totals_field-in-Bct95.ensures.first

pub returns-in-Bct95-clause-none : goal.returns-in-Bct95-clause-none
returns-in-Bct95-clause-none c = none_at c.args.form c.args.name Bct95 c.args.line.now c.totals_field-in-Bct95.result c.in-Bct95.is c.totals_field-in-Bct95.ensures.none

pub returns-in-Bct95-clause-some : goal.returns-in-Bct95-clause-some
returns-in-Bct95-clause-some c = some_at c.args.form c.args.name Bct95 c.args.line.now c.totals_field-in-Bct95.result c.in-Bct95.is c.totals_field-in-Bct95.ensures.some

pub returns-in-Bft99-clause-first : goal.returns-in-Bft99-clause-first
returns-in-Bft99-clause-first c = first_at c.args.form c.args.name Bft99 c.args.line.now c.totals_field-in-Bft99.result c.in-Bft99.is c.totals_field-in-Bft99.ensures.first

pub returns-in-Bft99-clause-none : goal.returns-in-Bft99-clause-none
returns-in-Bft99-clause-none c = none_at c.args.form c.args.name Bft99 c.args.line.now c.totals_field-in-Bft99.result c.in-Bft99.is c.totals_field-in-Bft99.ensures.none

pub returns-in-Bft99-clause-some : goal.returns-in-Bft99-clause-some
returns-in-Bft99-clause-some c = some_at c.args.form c.args.name Bft99 c.args.line.now c.totals_field-in-Bft99.result c.in-Bft99.is c.totals_field-in-Bft99.ensures.some

pub returns-in-Bks30-clause-first : goal.returns-in-Bks30-clause-first
returns-in-Bks30-clause-first c = first_at c.args.form c.args.name Bks30 c.args.line.now c.amounts_field.result c.in-Bks30.is c.amounts_field.ensures.first

pub returns-in-Bks30-clause-none : goal.returns-in-Bks30-clause-none
returns-in-Bks30-clause-none c = rw c.in-Bks30.is (c.amounts_field.ensures.none c.args.form)

pub returns-in-Bks30-clause-some : goal.returns-in-Bks30-clause-some
returns-in-Bks30-clause-some c = rw c.in-Bks30.is (c.amounts_field.ensures.some c.args.form)

pub returns-in-Bkp84-clause-first : goal.returns-in-Bkp84-clause-first
returns-in-Bkp84-clause-first c = first_at c.args.form c.args.name Bkp84 c.args.line.now c.payment_field.result c.in-Bkp84.is c.payment_field.ensures.first

pub returns-in-Bkp84-clause-none : goal.returns-in-Bkp84-clause-none
returns-in-Bkp84-clause-none c = rw c.in-Bkp84.is (c.payment_field.ensures.none c.args.form)

pub returns-in-Bkp84-clause-some : goal.returns-in-Bkp84-clause-some
returns-in-Bkp84-clause-some c = rw c.in-Bkp84.is (c.payment_field.ensures.some c.args.form)
