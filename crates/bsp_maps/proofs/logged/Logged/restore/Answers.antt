use Rattle.std.proofs.Common.{◌≡◌, sym, ap, ◌∙◌, true, false, if◌then◌else◌, is_some}
use Rattle.std.specs.FinMap.{from_entries, insert, contains_key}
use Rattle.bsp_maps.proofs.UndoLemmas.{written, taken, found, either}
use Rattle.bsp_maps.specs.Undo.{value_restored}
use Rattle.bsp_maps.proofs.logged.Logged.restore.Goals as goal

pub returns-in-None-clause-content : goal.returns-in-None-clause-content
returns-in-None-clause-content g c =
    taken g.met.K.Ord.total c.requires c.args.self.now.map c.remove.new.self c.args.old.key c.remove.ensures.updates.0
    ∙ ap (λ v. value_restored c.args.old.key v (from_entries c.args.self.now.map.entries)) (sym c.in-None.is)

pub returns-then-contains_key-clause-content : goal.returns-then-contains_key-clause-content
returns-then-contains_key-clause-content g c =
    let m = from_entries {R = g.K.Ord.cmp} c.args.self.now.map.entries in
    let there : contains_key m c.args.old.key ≡ true = ap is_some (found g.met.K.Ord.total c.args.self.now.map.entries c.args.old.key) ∙ sym c.contains_key.ensures ∙ c.if-contains_key.true in
    let updates = either c.insert.result c.insert.ensures.updates c.insert.ensures.absent (λ none. let e : true ≡ false = sym c.if-contains_key.true ∙ c.contains_key.ensures ∙ ap is_some none in absurd (cc)) in
    written g.met.K.Ord.total c.requires c.args.self.now.map c.insert.new.self c.args.old.key c.in-Some.value updates.0
    ∙ ap (λ b. if b then insert m c.args.old.key c.in-Some.value else m) (sym there)
    ∙ ap (λ v. value_restored c.args.old.key v m) (sym c.in-Some.is)

pub returns-else-contains_key-clause-content : goal.returns-else-contains_key-clause-content
returns-else-contains_key-clause-content g c =
    let m = from_entries {R = g.K.Ord.cmp} c.args.self.now.map.entries in
    let none : contains_key m c.args.old.key ≡ false = ap is_some (found g.met.K.Ord.total c.args.self.now.map.entries c.args.old.key) ∙ sym c.contains_key.ensures ∙ c.if-contains_key.false in
    ap (λ b. if b then insert m c.args.old.key c.in-Some.value else m) (sym none)
    ∙ ap (λ v. value_restored c.args.old.key v m) (sym c.in-Some.is)
