use Rattle.bsp_store_base.proofs.Std.{◌∙◌, ◌≡◌, both_ways, false, IsTrue, rules, sym}
use Rattle.bsp_store_open.proofs.OpeningLemmas.{given_up, still_clean}
use Rattle.bsp_store.proofs.AdoptingLemmas.{book_found}
use Rattle.bsp_store.proofs.opening.kept_book.Goals as goal

pub returns-in-Ok-clause-found : goal.returns-in-Ok-clause-found
returns-in-Ok-clause-found g c = λ order. book_found g.S.Store c.args.conn c.kept_list.new.conn c.in-Ok.list _ c.of.result c.of.ensures (c.in-Ok.ensures.read order)

pub returns-then-not-is_ours-clause-refused : goal.returns-then-not-is_ours-clause-refused
returns-then-not-is_ours-clause-refused g c = λ refused clean some young.
    let no : c.is_ours.result ≡ false = search rules in
    record {
      some = some;
      ours = λ ours. absurd (both_ways _ no (c.is_ours.ensures.1 (c.schema.ensures.value ∙ ours)));
      older = λ version is. absurd (young version is);
      others = λ other _. (c.refusal.new.conn, still_clean g.S.Store c.refusal.new.conn c.into_store.result c.into_store.ensures.quiet clean, c.refusal.ensures.asked);
    }

pub returns-in-Err-clause-refused : goal.returns-in-Err-clause-refused
returns-in-Err-clause-refused g c = λ refused clean some young.
    let yes : IsTrue c.is_ours.result = search rules in
    record {
      some = some;
      ours = c.in-Err.ensures.refused refused (still_clean g.S.Store c.kept_list.new.conn c.into_store-in-Err.result c.into_store-in-Err.ensures.quiet clean);
      older = λ version is. absurd (young version is);
      others = λ other _. absurd (other (sym c.schema.ensures.value ∙ c.is_ours.ensures.0 yes));
    }

pub returns-in-Err-clause-left : goal.returns-in-Err-clause-left
returns-in-Err-clause-left g c = given_up g.S.Store c.args.conn c.kept_list.new.conn c.into_store-in-Err.result c.in-Err.ensures.spares c.into_store-in-Err.ensures.quiet
