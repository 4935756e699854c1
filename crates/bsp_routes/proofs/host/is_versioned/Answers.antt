use Rattle.std.proofs.Common.{◌&&◌, Bool, sym, ap, ◌∙◌, ◌+◌, drop}
use Rattle.std.proofs.lemmas.List.{take_rest}
use Rattle.bsp_routes.specs.Hosts.{is_filled, is_later_byte}
use Rattle.bsp_routes.proofs.HostLemmas.{version_cut, no_version}
use Rattle.bsp_routes.proofs.host.is_versioned.Goals as goal

pub returns-then-is_version : goal.returns-then-is_version
returns-then-is_version c =
    let text = c.args.text.now in
    let dot = c.in-Some.dot in
    c.is_of_version.ensures ∙ ap (is_filled is_later_byte) (take_rest text (dot + 1))
    ∙ sym (version_cut text dot c.in-Some.ensures ∙ ap (λ (b : Bool). b && is_filled is_later_byte (drop (dot + 1) text)) (sym c.is_version.ensures ∙ c.if-is_version.true))

pub returns-else-is_version : goal.returns-else-is_version
returns-else-is_version c =
    let text = c.args.text.now in
    let dot = c.in-Some.dot in
    c.if-is_version.false
    ∙ sym (version_cut text dot c.in-Some.ensures ∙ ap (λ (b : Bool). b && is_filled is_later_byte (drop (dot + 1) text)) (sym c.is_version.ensures ∙ c.if-is_version.false))

pub returns-in-None : goal.returns-in-None
returns-in-None c = sym (no_version c.args.text.now c.in-None.ensures)
