use Rattle.bsp_store_base.proofs.Std.{◌∙◌, ◌≡◌, false≢true, subst, sym, true}
use Rattle.bsp_store_load.specs.Contents.{content_now}
use Rattle.bsp_store_load.specs.MemoryRowsTables.{rows_of}
use Rattle.bsp_store_load.specs.Tables.{Tables}
use Rattle.bsp_store_load.proofs.TallyLemmas.{content_is}
use Rattle.bsp_store_open.specs.Faults.{is_refusal}
use Rattle.bsp_store_open.proofs.OpeningLemmas.{passed_on, spares_both}
use Rattle.bsp_store_open.specs.Migrating.{HasNoOldBook, IsMigrated}
use Rattle.bsp_store_open.proofs.MigratingLemmas.{damaged, has_number, is_begun, migrated, spared, stopped}
use Rattle.bsp_store_open.proofs.migrating.migrated_list.Goals as goal

pub filled_tables-requires : goal.filled_tables-requires
filled_tables-requires g c = record {
  begun = is_begun g.S.Store c.args.version c.args.conn.now c.expect_numbered.new.conn c.begin.new.conn c.requires c.in_ok-expect_numbered.ensures.numbered c.in_ok-expect_numbered.ensures.spares c.in_ok-begin.ensures.begun c.in_ok-begin.ensures.spares;
  number = has_number g.S.Store c.args.version c.args.conn.now c.expect_numbered.new.conn c.begin.new.conn c.requires c.in_ok-expect_numbered.ensures.numbered c.in_ok-expect_numbered.ensures.spares c.in_ok-begin.ensures.begun c.in_ok-begin.ensures.spares;
}

pub returns-in_err-expect_numbered-clause-refused : goal.returns-in_err-expect_numbered-clause-refused
returns-in_err-expect_numbered-clause-refused g c =
    passed_on (λ fault. is_refusal fault ≡ true → HasNoOldBook g.S.Store c.args.version fault c.args.conn.now c.expect_numbered.new.conn) _ _ c.from_residual.ensures.1 c.in_err-expect_numbered.ensures.refused

pub returns-in_err-expect_numbered-clause-stop : goal.returns-in_err-expect_numbered-clause-stop
returns-in_err-expect_numbered-clause-stop g c = spared g.S.Store c.args.version c.args.conn.now c.expect_numbered.new.conn c.in_err-expect_numbered.ensures.spares

pub returns-in_err-begin-clause-refused : goal.returns-in_err-begin-clause-refused
returns-in_err-begin-clause-refused g c =
    passed_on (λ fault. is_refusal fault ≡ true → HasNoOldBook g.S.Store c.args.version fault c.args.conn.now c.begin.new.conn) _ _ c.from_residual-in_err-begin.ensures.1 (λ refused. absurd (false≢true (sym c.in_err-begin.ensures.refused ∙ refused)))

pub returns-in_err-begin-clause-stop : goal.returns-in_err-begin-clause-stop
returns-in_err-begin-clause-stop g c =
    spared g.S.Store c.args.version c.args.conn.now c.begin.new.conn (spares_both g.S.Store c.args.conn.now c.expect_numbered.new.conn c.begin.new.conn c.in_ok-expect_numbered.ensures.spares c.in_err-begin.ensures.spares)

pub returns-in_err-tables-clause-refused : goal.returns-in_err-tables-clause-refused
returns-in_err-tables-clause-refused g c =
    passed_on (λ fault. is_refusal fault ≡ true → HasNoOldBook g.S.Store c.args.version fault c.args.conn.now c.filled_tables.new.conn) _ _ c.from_residual-in_err-tables.ensures.1
    (λ refused.
    damaged g.S.Store c.args.version c.args.conn.now c.expect_numbered.new.conn c.begin.new.conn c.requires c.in_ok-expect_numbered.ensures.numbered c.in_ok-expect_numbered.ensures.spares c.in_ok-begin.ensures.begun c.in_ok-begin.ensures.spares
    c.filled_tables.new.conn c.in_err-tables.ensures.spares _ (c.in_err-tables.ensures.refused refused))

pub returns-in_err-tables-clause-stop : goal.returns-in_err-tables-clause-stop
returns-in_err-tables-clause-stop g c =
    let first = spares_both g.S.Store c.args.conn.now c.expect_numbered.new.conn c.begin.new.conn c.in_ok-expect_numbered.ensures.spares c.in_ok-begin.ensures.spares in
    spared g.S.Store c.args.version c.args.conn.now c.filled_tables.new.conn (spares_both g.S.Store c.args.conn.now c.begin.new.conn c.filled_tables.new.conn first c.in_err-tables.ensures.spares)

pub returns-in_err-commit-clause-refused : goal.returns-in_err-commit-clause-refused
returns-in_err-commit-clause-refused g c =
    passed_on (λ fault. is_refusal fault ≡ true → HasNoOldBook g.S.Store c.args.version fault c.args.conn.now c.commit.new.conn) _ _ c.from_residual-in_err-commit.ensures.1 (λ refused. absurd (false≢true (sym c.in_err-commit.ensures.refused ∙ refused)))

pub returns-in_err-commit-clause-stop : goal.returns-in_err-commit-clause-stop
returns-in_err-commit-clause-stop g c =
    let tables = c.in_ok-tables.tables in
    stopped g.S.Store c.args.version c.args.conn.now c.expect_numbered.new.conn c.begin.new.conn c.requires c.in_ok-expect_numbered.ensures.numbered c.in_ok-expect_numbered.ensures.spares c.in_ok-begin.ensures.begun c.in_ok-begin.ensures.spares
    c.filled_tables.new.conn c.commit.new.conn (content_now tables) c.in_ok-tables.ensures.filled c.in_ok-tables.ensures.spares (rows_of tables) (content_is (rows_of tables) _ c.in_ok-tables.ensures.committed.derived.totals) c.in_ok-tables.ensures.sound c.in_ok-tables.ensures.formed c.in_ok-tables.ensures.only c.in_err-commit.ensures.stop

pub returns-clause-stop : goal.returns-clause-stop
returns-clause-stop g c =
    let tables = c.in_ok-tables.tables in
    stopped g.S.Store c.args.version c.args.conn.now c.expect_numbered.new.conn c.begin.new.conn c.requires c.in_ok-expect_numbered.ensures.numbered c.in_ok-expect_numbered.ensures.spares c.in_ok-begin.ensures.begun c.in_ok-begin.ensures.spares
    c.filled_tables.new.conn c.commit.new.conn (content_now tables) c.in_ok-tables.ensures.filled c.in_ok-tables.ensures.spares (rows_of tables) (content_is (rows_of tables) _ c.in_ok-tables.ensures.committed.derived.totals) c.in_ok-tables.ensures.sound c.in_ok-tables.ensures.formed c.in_ok-tables.ensures.only c.in_ok-commit.ensures.stop

pub returns-clause-read : goal.returns-clause-read
returns-clause-read g c =
    let tables = c.in_ok-tables.tables in
    let it = λ (list : _). migrated g.S.Store c.args.version c.args.conn.now c.expect_numbered.new.conn c.begin.new.conn c.requires c.in_ok-expect_numbered.ensures.numbered c.in_ok-expect_numbered.ensures.spares c.in_ok-begin.ensures.begun c.in_ok-begin.ensures.spares
    c.filled_tables.new.conn c.commit.new.conn (content_now tables) c.in_ok-tables.ensures.filled c.in_ok-tables.ensures.spares (rows_of tables) (content_is (rows_of tables) _ c.in_ok-tables.ensures.committed.derived.totals) c.in_ok-tables.ensures.sound c.in_ok-tables.ensures.formed c.in_ok-commit.ensures.ended c.in_ok-tables.ensures.only
    (λ db is may. g.met.S.Store.settled c.commit.new.conn.store db is may) list in
    subst (λ (t : Tables). IsMigrated g.S.Store c.args.version c.args.conn.now c.commit.new.conn c.over.result (rows_of t)) (sym c.over.ensures.tables) (it c.over.result c.over.ensures.holds)
