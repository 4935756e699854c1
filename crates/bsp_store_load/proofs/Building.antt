-- The plan of a sound book, as the rows of its tables are formed.
use Rattle.std.proofs.Common.{◌≡◌, sym, subst}
use Rattle.bsp_rows.specs.Rows.{Rows}
use Rattle.bsp_memory_rows.specs.Tables.{IsDerived, rows_of}
use Rattle.bsp_memory_rows.specs.declared.tables.Tables.{Tables}
use Rattle.bsp_store_base.proofs.Base.{Content, content_with, IsFormed}
use Rattle.bsp_store_load.specs.Contents.{IsContentOf, content_now}
use Rattle.bsp_store_load.specs.Stored.{IsFormedPlan}
use Rattle.bsp_store_load.proofs.TallyLemmas.{content_is, one_content}

-- the plan of a formed content is formed
pub formed_plan : (book : Rows) (c : Content) → IsContentOf book c → IsFormed c → IsFormedPlan book.published book.airlines
formed_plan book c of formed =
    let f : IsFormed (content_with book c.tallies) = subst IsFormed of.same formed in
    record {
      day = f.meta.0;
      closed = f.meta.1;
      terms = f.terms;
      airlines = f.airlines;
      rates = f.rates;
      periods = f.periods;
      commission_taxes = f.commission_taxes;
      rate_places = f.places.rates;
      period_places = f.places.periods;
      commission_tax_places = f.places.commission_taxes;
    }

-- the content of tables is that of their rows
pub content_of : (tables : Tables) (book : Rows) (c : Content) → IsDerived tables → rows_of tables ≡ book → IsContentOf book c → c ≡ content_now tables
content_of tables book c derived is of = one_content (rows_of tables) c (content_now tables) (subst (λ r. IsContentOf r c) (sym is) of) (content_is (rows_of tables) _ derived.totals)
