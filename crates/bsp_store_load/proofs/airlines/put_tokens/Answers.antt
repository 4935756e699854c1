use Rattle.bsp_store_base.proofs.Std.{◌∙◌, ap, entries, sym, take, take_all}
use Rattle.bsp_rows.specs.Rows.{Rows}
use Rattle.bsp_memory_rows.specs.Tables.{rows_of}
use Rattle.bsp_store_base.proofs.Base.{airline_entries, one_more}
use Rattle.bsp_store_load.specs.Stored.{code_token, gathered, with_pair}
use Rattle.bsp_store_load.proofs.AirlineReads.{tokens_are}
use Rattle.bsp_store_load.proofs.Gathering.{gathered_last}
use Rattle.bsp_store_load.proofs.airlines.put_tokens.Goals as goal

pub loop-airline-preserved : goal.loop-airline-preserved
loop-airline-preserved c =
    let first = rows_of c.args.tables.now in
    let e = c.airline-item.result in
    let so_far = take c.loop-airline.airline-index c.args.airlines.now in
    record {
      derived = λ is. c.in_ok-put_token.ensures.derived (c.loop-airline.invariant.derived is);
      registered = λ each. c.in_ok-put_token.ensures.registered (c.loop-airline.invariant.registered each);
      rows = c.in_ok-put_token.ensures.rows
          ∙ ap (λ (r : Rows). record r { airlines = with_pair (code_token e) r.airlines }) c.loop-airline.invariant.rows
          ∙ ap (λ m. record first { airlines = m }) (sym (gathered_last code_token so_far e first.airlines))
          ∙ ap (λ l. record first { airlines = gathered code_token l first.airlines }) (one_more c.args.airlines.now c.loop-airline.airline-index e c.loop-airline-test.true c.airline-item.is);
    }

pub returns-clause-changes : goal.returns-clause-changes
returns-clause-changes c =
    let first = rows_of c.args.tables.now in
    let is = c.loop-airline.invariant.rows in
    record {
      derived = c.loop-airline.invariant.derived;
      registered = c.loop-airline.invariant.registered;
      others = is ∙ ap (λ m. record first { airlines = m }) (sym (ap (λ (r : Rows). r.airlines) is));
    }

pub returns-clause-tokens : goal.returns-clause-tokens
returns-clause-tokens c = λ codes tokens none listed.
    let first = rows_of c.args.tables.now in
    ap (λ (r : Rows). r.airlines) c.loop-airline.invariant.rows
    ∙ ap (λ l. gathered code_token l first.airlines) (take_all c.loop-airline.airline-index c.args.airlines.now c.loop-airline-test.false ∙ listed)
    ∙ ap (gathered code_token (entries (airline_entries codes tokens))) none ∙ tokens_are codes tokens
