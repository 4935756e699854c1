use Rattle.bsp_store_base.proofs.Std.{◌∙◌, ap, nat_cmp-IsAntisymmetric, nat_cmp_total, option_map, subst, sym}
use Rattle.bsp_rows.specs.Rows.{Rows}
use Rattle.bsp_memory_rows.specs.Tables.{rows_of}
use Rattle.bsp_store_load.specs.Formed.{IsRegisteredAirline, OnEach}
use Rattle.bsp_store_load.specs.Stored.{with_pair}
use Rattle.bsp_store_load.proofs.FormedContent.{each_inserted}
use Rattle.bsp_store_load.proofs.airlines.put_token.Goals as goal

pub returns-in_ok-set_airline_token-clause-rows : goal.returns-in_ok-set_airline_token-clause-rows
returns-in_ok-set_airline_token-clause-rows c =
    let first = rows_of c.args.tables.now in
    c.in_ok-set_airline_token.ensures.ok ∙ ap (λ o. record first { airlines = with_pair (option_map (λ token. (c.args.code, token)) o) first.airlines }) (sym c.in-Some.is)

pub returns-in_ok-set_airline_token-clause-registered : goal.returns-in_ok-set_airline_token-clause-registered
returns-in_ok-set_airline_token-clause-registered c = λ each.
    subst (OnEach IsRegisteredAirline) (sym (ap (λ (r : Rows). r.airlines) c.in_ok-set_airline_token.ensures.ok))
    (each_inserted nat_cmp_total nat_cmp-IsAntisymmetric IsRegisteredAirline (rows_of c.args.tables.now).airlines c.args.code c.in-Some.token c.formed_airline.ensures each)
