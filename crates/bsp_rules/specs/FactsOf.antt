-- What of an agent's own rows bears on one transaction.
use Rattle.std.specs.Prelude.{ℕ, ◌==◌, Bool, ◌&&◌, List, map, count_by, Option, Some, None, option_map}
use Rattle.bsp_calendar.specs.Published.{Published, target_of}
use Rattle.bsp_ret_records.specs.declared.transactions.ReportedDocument.{ReportedDocument}
use Rattle.bsp_ret_records.specs.declared.transactions.Transaction.{Transaction}
use Rattle.bsp_rules.specs.declared.facts.Facts.{Facts}
use Rattle.bsp_rules.specs.declared.facts.OwnNumber.{OwnNumber}
use Rattle.bsp_rules.specs.declared.facts.RelatedDocument.{RelatedDocument}
use Rattle.bsp_rules.specs.declared.rows.Item.{Item}
use Rattle.bsp_rules.specs.declared.rows.Range.{Range}
use Rattle.bsp_rules.specs.Rows.{cancelled, held_period, is_in_stock, relates, ticket, used, used_elsewhere, used_in_closed_period}

-- under its own number
unfoldable pub own_number : List Item → Transaction → Published → OwnNumber
own_number items t p = record {
  is_used = used t.document.number items;
  is_cancelled = cancelled t.document.number items;
  is_of_another_airline = used_elsewhere t.document.airline t.document.number items;
  is_in_closed_period = used_in_closed_period p t.document.number items;
  is_related_to = relates t.document.number items;
}

-- under a related document
unfoldable pub related_document : List Item → ReportedDocument → RelatedDocument
related_document items d = record {
  document = d;
  ticket = ticket d items;
  is_related_to = relates d.number items;
}

-- all of the airline in a period, cancelled ones and CANX too
abbrev pub counts : ℕ → ℕ → Item → Bool
counts airline period i = (i.transaction.document.airline == airline) && (i.period == period)

abbrev pub count_in : List Item → ℕ → Option ℕ → ℕ
count_in items airline None = 0
count_in items airline (Some period) = count_by (counts airline period) items

unfoldable pub facts_in : Bool → List Range → List Item → Transaction → Published → Facts
facts_in registered ranges items t p = record {
  registered = registered;
  held = held_period t items;
  in_range = is_in_stock t.document ranges;
  own = own_number items t p;
  related = map (λ place. option_map (related_document items) place) t.related;
  count = count_in items t.document.airline (target_of p t.issued);
}
