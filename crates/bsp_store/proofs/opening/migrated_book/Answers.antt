use Rattle.bsp_store_open.proofs.OpeningLemmas.{still_clean}
use Rattle.bsp_store.proofs.AdoptingLemmas.{book_migrated, migration_given_up}
use Rattle.bsp_store.proofs.opening.migrated_book.Goals as goal

pub returns-in-Ok-clause-migrated : goal.returns-in-Ok-clause-migrated
returns-in-Ok-clause-migrated g c = book_migrated g.S.Store c.args.conn c.migrated_list.new.conn c.in-Ok.list _ c.of.result c.of.ensures c.args.version c.in-Ok.ensures.read

pub returns-in-Err-clause-refused : goal.returns-in-Err-clause-refused
returns-in-Err-clause-refused g c = λ refused clean. c.in-Err.ensures.refused refused (still_clean g.S.Store c.migrated_list.new.conn c.into_store.result c.into_store.ensures.quiet clean)

pub returns-in-Err-clause-left : goal.returns-in-Err-clause-left
returns-in-Err-clause-left g c = migration_given_up g.S.Store c.args.version c.args.conn c.migrated_list.new.conn c.in-Err.ensures.stop c.into_store.result c.into_store.ensures.quiet
