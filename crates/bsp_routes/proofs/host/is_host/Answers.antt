use Rattle.std.proofs.Common.{◌&&◌, Bool, sym, ap, ◌∙◌, ◌+◌, drop}
use Rattle.std.specs.List.{list_all}
use Rattle.std.specs.Char.{is_ascii_digit}
use Rattle.std.proofs.lemmas.List.{take_rest}
use Rattle.bsp_routes.proofs.HostLemmas.{alone, cut}
use Rattle.bsp_routes.proofs.host.is_host.Goals as goal

pub returns-then-is_bare_host-2 : goal.returns-then-is_bare_host-2
returns-then-is_bare_host-2 c =
    let value = c.args.value.now in
    let colon = c.in-Some.colon in
    c.is_port.ensures ∙ ap (list_all is_ascii_digit) (take_rest value (colon + 1))
    ∙ sym (cut value colon c.in-Some.ensures (sym c.is_bare_host.ensures ∙ c.if-is_bare_host.false)
    ∙ ap (λ (b : Bool). b && list_all is_ascii_digit (drop (colon + 1) value)) (sym c.is_bare_host-in-Some.ensures ∙ c.if-is_bare_host-2.true))

pub returns-else-is_bare_host-2 : goal.returns-else-is_bare_host-2
returns-else-is_bare_host-2 c =
    let value = c.args.value.now in
    let colon = c.in-Some.colon in
    c.if-is_bare_host-2.false
    ∙ sym (cut value colon c.in-Some.ensures (sym c.is_bare_host.ensures ∙ c.if-is_bare_host.false)
    ∙ ap (λ (b : Bool). b && list_all is_ascii_digit (drop (colon + 1) value)) (sym c.is_bare_host-in-Some.ensures ∙ c.if-is_bare_host-2.false))

pub returns-in-None : goal.returns-in-None
returns-in-None c = alone c.args.value.now c.in-None.ensures (sym c.is_bare_host.ensures ∙ c.if-is_bare_host.false)
