use Rattle.bsp_hot_explain.specs.HotFields.{rest_fields}
use Rattle.bsp_explain.proofs.Finding.{none_of_two, some_of_two}
use Rattle.bsp_hot_explain.proofs.hot_fields.totals_field.Goals as goal

pub returns-clause-none : goal.returns-clause-none
returns-clause-none c =
    rw c.or.ensures (none_of_two c.args.line.now c.args.fields.now (rest_fields c.args.form c.args.after) c.first_unfit-total.result c.rest_field-rest.result c.first_unfit-total.ensures.none c.rest_field-rest.ensures.none)

pub returns-clause-some : goal.returns-clause-some
returns-clause-some c =
    rw c.or.ensures (some_of_two c.args.line.now c.args.fields.now (rest_fields c.args.form c.args.after) c.first_unfit-total.result c.rest_field-rest.result c.first_unfit-total.ensures.none c.first_unfit-total.ensures.some c.rest_field-rest.ensures.some)
