use Rattle.std.proofs.Common.{◌++◌, ◌∷◌, [], sym, ap, ◌∙◌}
use Rattle.std.specs.FinMap.{from_entries, insert}
use Rattle.bsp_maps.proofs.UndoLemmas.{found, written, put_back, undone_last}
use Rattle.bsp_maps.specs.Undo.{undone}
use Rattle.bsp_maps.proofs.logged.Logged.replace.Goals as goal

pub returns-clause-ok : goal.returns-clause-ok
returns-clause-ok g c = written g.met.K.Ord.total c.requires c.args.self.now.map c.insert.new.self c.args.key c.args.value c.in_ok-old.ensures.updates.0

pub returns-clause-before : goal.returns-clause-before
returns-clause-before g c =
    let m = from_entries {R = g.K.Ord.cmp} c.args.self.now.map.entries in
    ap (undone c.push_reserved.new.self.items) (written g.met.K.Ord.total c.requires c.args.self.now.map c.insert.new.self c.args.key c.args.value c.in_ok-old.ensures.updates.0)
    ∙ ap (λ olds. undone olds (insert m c.args.key c.args.value)) (c.push_reserved.ensures.items ∙ ap (λ olds. olds ++ record { key = c.args.key; value = c.in_ok-old.old } ∷ []) c.reserve.ensures.items)
    ∙ undone_last c.args.self.now.undo.items (record { key = c.args.key; value = c.in_ok-old.old }) (insert m c.args.key c.args.value)
    ∙ ap (undone c.args.self.now.undo.items) (put_back g.met.K.Ord.total c.requires m c.args.key c.args.value c.in_ok-old.old (found g.met.K.Ord.total c.args.self.now.map.entries c.args.key ∙ sym c.in_ok-old.ensures.old))

pub returns-clause-old : goal.returns-clause-old
returns-clause-old g c = c.in_ok-old.ensures.old ∙ sym (found g.met.K.Ord.total c.args.self.now.map.entries c.args.key)
