use Rattle.std.proofs.Common.{◌≡◌, ◌≤◌, ◌<◌, ◌^◌, ℕ, length, map, arith, subst, ◌∙◌}
use Rattle.std.specs.List.{Contains}
use mir.Syntax.{w128}
use mir.Val.{of_z, to_z}
use Rattle.std.proofs.lemmas.Int.{ints}
use Rattle.std.proofs.lemmas.List.{length-map}
use Rattle.std.proofs.lemmas.List.Elements.{All-contains}
use Rattle.bsp_statement.specs.declared.tally.Tally.{Tally}
use Rattle.bsp_rows.proofs.RowLemmas.{contains_map}
use Rattle.bsp_desk.proofs.FewTallies.{few_codes}
use Rattle.bsp_desk.proofs.PeriodSums.{shown_as}
use Rattle.bsp_desk.proofs.periods.shown_over.Goals as goal

pub returns : goal.returns
returns c = λ once.
    let tallies = c.args.tallies.now in
    let below : (code : ℕ) → Contains (map (λ (t : Tally). t.airline) tallies) code → code < 1000 = λ code among.
    let (t, there, is) = contains_map (λ (t : Tally). t.airline) tallies code among in
    subst (λ (n : ℕ). n < 10 ^ 3) is (All-contains (λ (t : Tally). t.airline < 10 ^ 3) tallies t c.documents_over.ensures.codes there) in
    let few : length tallies ≤ 1000 = omega (arith, few_codes (map (λ (t : Tally). t.airline) tallies) once below, length-map tallies (λ (t : Tally). t.airline)) in
    let documents = c.documents_over.ensures.sum few in
    let same : to_z w128 (of_z w128 c.net_over.result) ≡ c.net_over.result = omega (arith, ints, c.net_over.type_inv) in
    let net = same ∙ c.net_over.ensures few in
    λ i. shown_as c.args.closed (documents i) (net i) c.args.period
