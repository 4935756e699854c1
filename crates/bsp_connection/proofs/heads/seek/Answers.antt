use Rattle.std.proofs.Common.{◌≡◌, ◌≤◌, length, sym, ◌∙◌, Some, arith}
use Rattle.bsp_routes.proofs.ScanLemmas.{head_len-le}
use Rattle.bsp_routes.specs.Scan.{head_len}
use Rattle.bsp_connection.proofs.SeekLemmas.{not_yet, too_long}
use Rattle.bsp_connection.proofs.heads.seek.Goals as goal

pub returns-in-Some-2 : goal.returns-in-Some-2
returns-in-Some-2 c =
    let e : head_len c.args.received.now ≡ Some c.in-Some.len = sym c.search_on.ensures.found ∙ c.in-Some.is in
    let long = head_len-le c.args.received.now c.in-Some.len e in
    let less = c.if-len-le-HEAD_LIMIT.false in
    let within : 16384 ≤ length c.args.received.now = omega (arith, long, less) in
    (within, too_long c.args.received.now 16384 c.in-Some.len within e less)

pub returns-in-None : goal.returns-in-None
returns-in-None c = (c.if-received-ge-HEAD_LIMIT.true, not_yet c.args.received.now 16384 (sym c.search_on.ensures.found ∙ c.in-None.is))
