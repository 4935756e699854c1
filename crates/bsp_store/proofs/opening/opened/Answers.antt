use Rattle.bsp_store_base.proofs.Std.{◌∙◌, ◌≡◌, both_ways, false, IsTrue, rules, sym}
use Rattle.bsp_store.proofs.WholeLemmas.{bare_made, kept_made, migrated_made}
use Rattle.bsp_store.proofs.opening.opened.Goals as goal

pub new_book-requires-clause-bare : goal.new_book-requires-clause-bare
new_book-requires-clause-bare g c = let bare : IsTrue c.is_bare.result = search rules in c.is_bare.ensures.0 bare

pub migrated_book-requires : goal.migrated_book-requires
migrated_book-requires g c = record { schema = sym c.schema.ensures.value ∙ c.in-Some.ensures; live = c.schema.ensures.live; ordered = c.requires.ordered }

pub returns-then-is_bare : goal.returns-then-is_bare
returns-then-is_bare g c = λ before again.
    let bare : IsTrue c.is_bare.result = search rules in
    bare_made g.S.Store before c.args.conn again (λ db is may. g.met.S.Store.settled c.args.conn.store db is may) (c.is_bare.ensures.0 bare) c.new_book.result c.new_book.ensures.ok c.new_book.ensures.earlier
    c.new_book.ensures.refused c.new_book.ensures.left

pub returns-in-Some : goal.returns-in-Some
returns-in-Some g c = λ before again.
    migrated_made g.S.Store before c.args.conn again (λ db is may. g.met.S.Store.settled c.args.conn.store db is may) c.in-Some.version (sym c.schema.ensures.value ∙ c.in-Some.ensures) c.migrated_book.result
    c.migrated_book.ensures.migrated c.migrated_book.ensures.refused c.migrated_book.ensures.left

pub returns-in-None : goal.returns-in-None
returns-in-None g c = λ before again.
    let no : c.is_bare.result ≡ false = search rules in
    kept_made g.S.Store before c.args.conn again (λ db is may. g.met.S.Store.settled c.args.conn.store db is may) (λ bare. absurd (both_ways _ no (c.is_bare.ensures.1 bare))) (λ version is. c.in-None.ensures version (c.schema.ensures.value ∙ is))
    c.kept_book.result c.kept_book.ensures.found c.kept_book.ensures.refused c.kept_book.ensures.left
