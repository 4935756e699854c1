-- The tables beside that of items, as maps of their own.
use Rattle.bsp_store_base.proofs.Std.{◌≡◌, FinMap, get, insert, None, refl, sym}
use Rattle.bsp_store_base.proofs.Entries.{item_cmp, item_total, ItemKey, ReportedDocument}
use Rattle.bsp_store_base.proofs.Base.{IsTaxEntry, item_tax_part, second_part, second_row, tax_row, ticket_cmp, ticket_total}
use Rattle.bsp_store_columns.specs.declared.taxes.ItemTax.{ItemTax}
use Rattle.bsp_store_columns.specs.declared.tickets.TicketKey.{TicketKey}
use Rattle.bsp_store_load.specs.Beside.{IsSecond, taxes_of}
use Rattle.bsp_store_load.proofs.BesideLemmas.{tax_rows}
use Rattle.bsp_store_load.proofs.Loaders.{Loader}

abbrev pub taxes_loader : Loader ItemKey ItemTax (FinMap item_cmp ItemTax) item_cmp IsTaxEntry (λ e taxes. get taxes e.0 ≡ None)
taxes_loader = record {
  total = item_total;
  part = item_tax_part;
  row_of = tax_row;
  step = λ e taxes. insert taxes e.0 e.1;
  of = λ taxes. taxes;
  with = λ m taxes. m;
  in_content = λ c. taxes_of c.item_taxes;
  steps = λ e taxes fit. refl;
  free = λ e taxes fit none. none;
  alone = λ e taxes. refl;
  with_of = λ taxes. refl;
  with_with = λ m n taxes. refl;
  rows_are = λ c. sym (tax_rows c.item_taxes);
}

abbrev pub seconds_loader : Loader TicketKey ReportedDocument (FinMap ticket_cmp ReportedDocument) ticket_cmp IsSecond (λ e seconds. get seconds e.0 ≡ None)
seconds_loader = record {
  total = ticket_total;
  part = second_part;
  row_of = second_row;
  step = λ e seconds. insert seconds e.0 e.1;
  of = λ seconds. seconds;
  with = λ m seconds. m;
  in_content = λ c. c.seconds;
  steps = λ e seconds fit. refl;
  free = λ e seconds fit none. none;
  alone = λ e seconds. refl;
  with_of = λ seconds. refl;
  with_with = λ m n seconds. refl;
  rows_are = λ c. refl;
}
