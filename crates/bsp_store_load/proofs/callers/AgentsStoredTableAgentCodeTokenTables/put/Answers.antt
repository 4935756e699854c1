use Rattle.bsp_store_base.proofs.Std.{◌∙◌, ◌≡◌, ap, get, refl, rules, Some, subst, sym}
use Rattle.bsp_rows.specs.Writes.{with_agent_token}
use Rattle.bsp_memory_rows.specs.Tables.{rows_of}
use Rattle.bsp_store_base.proofs.Base.{agent_row, IsAgentEntry}
use Rattle.bsp_store_load.specs.Formed.{AreFormed}
use Rattle.bsp_store_load.proofs.FormedContent.{agent_formed}
use Rattle.bsp_store_load.proofs.RowReads.{none_found, not_none, own_is}
use Rattle.bsp_store_load.proofs.callers.AgentsStoredTableAgentCodeTokenTables.put.Goals as goal

pub returns-in_default-clause-entry : goal.returns-in_default-clause-entry
returns-in_default-clause-entry c = λ e fits lacks is.
    let some : c.read_entry.result ≡ Some e = c.read_entry.ensures.back e fits tt is in
    absurd (not_none agent_row c.args.row.now c.read_entry.result e some c.in_default.is)

pub returns-then-is_some-clause-entry : goal.returns-then-is_some-clause-entry
returns-then-is_some-clause-entry c = λ e fits lacks is.
    let some : c.read_entry.result ≡ Some e = c.read_entry.ensures.back e fits tt is in
    let same = own_is agent_row c.args.row.now c.read_entry.result e some (c.in-Some.agent, c.in-Some.token) c.in-Some.is in
    let at : c.agent_token.result ≡ get (rows_of c.args.tables.now).agents c.in-Some.agent = search rules in
    absurd (none_found c.agent_token.result c.is_some.result c.is_some.ensures c.if-is_some.true (at ∙ ap (λ p. get (rows_of c.args.tables.now).agents p.0) same ∙ lacks))

pub returns-clause-entry : goal.returns-clause-entry
returns-clause-entry c = λ e fits lacks is.
    let some : c.read_entry.result ≡ Some e = c.read_entry.ensures.back e fits tt is in
    let same = own_is agent_row c.args.row.now c.read_entry.result e some (c.in-Some.agent, c.in-Some.token) c.in-Some.is in
    let put : rows_of c.set_agent_token.new.self ≡ with_agent_token c.in-Some.agent c.in-Some.token (rows_of c.args.tables.now) = search rules in
    (refl, c.commit.ensures.rows ∙ put ∙ ap (λ p. with_agent_token p.0 p.1 (rows_of c.args.tables.now)) same)

pub returns-clause-derived : goal.returns-clause-derived
returns-clause-derived c = λ whole.
    let put : rows_of c.set_agent_token.new.self ≡ with_agent_token c.in-Some.agent c.in-Some.token (rows_of c.args.tables.now) = search rules in
    let own : IsAgentEntry (c.in-Some.agent, c.in-Some.token) = search rules in
    record {
      derived = c.commit.ensures.derived (c.in_ok-set_agent_token.ensures.derived whole.derived);
      formed = subst AreFormed (sym (c.commit.ensures.rows ∙ put)) (agent_formed (rows_of c.args.tables.now) whole.formed c.in-Some.agent c.in-Some.token own);
    }
