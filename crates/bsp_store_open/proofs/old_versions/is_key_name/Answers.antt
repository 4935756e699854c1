-- What is between the two ends is the name of the table.
use Rattle.bsp_store_base.proofs.Std.{append_cancel_left, codes, Decides-eqb, slice_eq-Decides, strip_prefix_is, strip_suffix_is}
use Rattle.bsp_store_open.proofs.Schemas.{named}
use Rattle.bsp_store_open.proofs.old_versions.is_key_name.Goals as goal

pub returns-in-Some-strip_suffix : goal.returns-in-Some-strip_suffix
returns-in-Some-strip_suffix c =
    let first = codes "sqlite_autoindex_" in
    let last = codes "_1" in
    let rest = c.in-Some.rest.now in
    let found = c.in-Some-strip_suffix.found.now in
    named first last c.args.name.now rest found c.args.table.now c.eq.result (rw c.in-Some.is at (strip_prefix_is Decides-eqb c.args.name.now first c.strip_prefix.result c.strip_prefix.ensures.cases))
    (rw c.in-Some-strip_suffix.is at (strip_suffix_is Decides-eqb rest last c.strip_suffix.result c.strip_suffix.ensures.cases)) (slice_eq-Decides Decides-eqb found c.args.table.now c.eq.result c.eq.ensures)
    (append_cancel_left first)
