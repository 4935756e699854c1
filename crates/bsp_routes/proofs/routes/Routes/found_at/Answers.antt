use Rattle.std.proofs.Common.{refl, Option, subst, List, ℕ}
use Rattle.bsp_routes.specs.declared.found.Found.{Found}
use Rattle.bsp_routes.specs.Rows.{ResourceRows, routes}
use Rattle.bsp_routes.specs.Matches.{IsMatch}
use Rattle.bsp_routes.proofs.Paths.{all_found, not_missed, utf8_of_clean}
use Rattle.bsp_routes.proofs.routes.Routes.found_at.Goals as goal

pub returns-in_default-clause-missing : goal.returns-in_default-clause-missing
returns-in_default-clause-missing c = λ is resource a b p. c.in_default.ensures.cases.0 (utf8_of_clean c.args.target.now p.0)

pub returns-clause-found : goal.returns-clause-found
returns-clause-found c =
    let there = subst (λ (rows : ResourceRows). IsMatch rows c.in-Ok.path.now c.matched.result) c.self.invariant c.matched.ensures in
    let here = subst (λ (path : List ℕ). IsMatch routes path c.matched.result) c.in-Ok.ensures.cases.0 there in
    all_found c.args.target.now c.matched.result (c.if-not-is_clean.ensures.yes refl) here

pub returns-clause-missing : goal.returns-clause-missing
returns-clause-missing c = λ is resource a b p.
    let there = subst (λ (rows : ResourceRows). IsMatch rows c.in-Ok.path.now c.matched.result) c.self.invariant c.matched.ensures in
    let here = subst (λ (path : List ℕ). IsMatch routes path c.matched.result) c.in-Ok.ensures.cases.0 there in
    not_missed resource a b c.args.target.now p (subst (λ (result : Option Found). IsMatch routes c.args.target.now result) is here)
