-- What is known of the tables. A search finds what computes: it is given the order of the keys, how the columns of a key are
-- compared, what a cast leaves, and the place of the table among those of the form.
use Rattle.bsp_store_base.proofs.Std.{◌≡◌, List, Option, pos, ℕ, ℤ}
use Rattle.bsp_store_base.proofs.Sqlite.{cast, cast_all, Int, or_null, Text, Trees}
use Rattle.bsp_store_base.proofs.Entries.{Item, item_exact, item_total, ItemKey, tally_exact, tally_total}
use Rattle.bsp_store_base.proofs.Base.{cast_int, cast_maybe_int, cast_maybe_text, cast_same, code_digits, code_is, Content, count, airline_text, flag_is, form, IsMapTable, item_row, item_table, KeepsRows, second_related_table, ticket_exact, ticket_total, three_columns, two_columns}
use Rattle.bsp_store_base.specs.ItemTables.{item_taxes_map, items_map, seconds_map, tally_taxes_map}
use Rattle.bsp_store_columns.specs.Values.{taxes_text}
use Rattle.bsp_rows.specs.Tax.{Tax}
use Rattle.bsp_rows.specs.Writing.{tax_text}
use Rattle.std.specs.List.{concat}
use Rattle.std.specs.Prelude.{map}
use Rattle.sqlite_schema.specs.declared.schema.Kind.TheVariants as kind

-- columns that may be NULL
maybe_number : (o : Option ℤ) → cast kind.Integer (or_null Int o) ≡ or_null Int o
maybe_number = cast_maybe_int (λ n. n)

maybe_count : (o : Option ℕ) → cast kind.Integer (or_null count o) ≡ or_null count o
maybe_count = cast_maybe_int pos

maybe_text : (o : Option (List ℕ)) → cast kind.Text (or_null Text o) ≡ or_null Text o
maybe_text = cast_maybe_text (λ t. t)

maybe_code : (o : Option ℕ) → cast kind.Text (or_null airline_text o) ≡ or_null airline_text o
maybe_code = cast_maybe_text (code_digits 3)

maybe_taxes : (o : Option (List (Option Tax))) → cast kind.Text (or_null taxes_text o) ≡ or_null taxes_text o
maybe_taxes = cast_maybe_text (λ taxes. concat (map tax_text taxes))

item_cast : (e : ItemKey × Item) → cast_all item_table.columns (item_row e) ≡ item_row e
item_cast e = cast_same item_table.columns (item_row e) (search (cast_int, maybe_number, maybe_count, maybe_text, maybe_code, maybe_taxes) depth 30 parts 30)

pub items_lawful : IsMapTable items_map
items_lawful = search (item_total, item_exact, three_columns, code_is, flag_is, item_cast, λ (c : Content) (trees : Trees) (kept : KeepsRows form c trees). kept.1.1.1.1.1.1.1.0) depth 20 parts 20

pub item_taxes_lawful : IsMapTable item_taxes_map
item_taxes_lawful = search (item_total, item_exact, three_columns, code_is, flag_is, cast_same, cast_int, λ (c : Content) (trees : Trees) (kept : KeepsRows form c trees). kept.1.1.1.1.1.1.1.1.1.1.1.0) depth 20 parts 20

pub tally_taxes_lawful : IsMapTable tally_taxes_map
tally_taxes_lawful = search (tally_total, tally_exact, three_columns, code_is, cast_same, cast_int, λ (c : Content) (trees : Trees) (kept : KeepsRows form c trees). kept.1.1.1.1.1.1.1.1.1.1.1.1.0) depth 20 parts 20

pub seconds_lawful : IsMapTable seconds_map
seconds_lawful = search (ticket_total, ticket_exact, two_columns, code_is, λ (c : Content) (trees : Trees) (kept : KeepsRows form c trees). kept.1.1.1.1.1.1.1.1.1.1.1.1.1.0) depth 20 parts 20
