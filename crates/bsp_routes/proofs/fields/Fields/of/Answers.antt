use Rattle.bsp_routes.proofs.fields.Fields.of.Goals as goal

pub loop-header-init : goal.loop-header-init
loop-header-init c = c.none-fields.ensures c.args.text.now
