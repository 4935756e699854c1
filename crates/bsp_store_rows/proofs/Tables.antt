-- What is known of the tables. A search finds what computes: it is given the order of the keys, how the columns of a key are
-- compared, what a cast leaves, and the place of the table among those of the form.
use Rattle.bsp_store_base.proofs.Std.{◌≡◌, List, nat_cmp-IsAntisymmetric, nat_cmp_total, Option, pos, ℕ}
use Rattle.bsp_store_base.proofs.Sqlite.{Trees}
use Rattle.bsp_store_base.proofs.Entries.{memo_exact, memo_total, range_exact, range_total, tally_exact, tally_total}
use Rattle.bsp_store_base.proofs.Base.{cast_maybe_int, cast_maybe_text, cast_int, cast_same, code_is, Content, form, IsMapTable, KeepsRows, one_column, three_columns, two_columns}
use Rattle.bsp_store_base.proofs.Sqlite.{cast, or_null, Text}
use Rattle.bsp_store_base.specs.Columns.{code_digits, count, period_text}
use Rattle.sqlite_schema.specs.declared.schema.Kind.TheVariants as kind
use Rattle.bsp_store_rows.specs.Tables.{agents_map, memos_map, ranges_map, tallies_map, airlines_map, commission_taxes_list, periods_list, rates_list}
use Rattle.bsp_store_rows.specs.PlacedTables.{IsPlacedList}

-- columns that may be NULL
period_casts : (o : Option ℕ) → cast kind.Text (or_null period_text o) ≡ or_null period_text o
period_casts = cast_maybe_text (code_digits 5)

token_casts : (o : Option (List ℕ)) → cast kind.Text (or_null Text o) ≡ or_null Text o
token_casts = cast_maybe_text (λ t. t)

number_casts : (o : Option ℕ) → cast kind.Integer (or_null count o) ≡ or_null count o
number_casts = cast_maybe_int pos

pub agents_lawful : IsMapTable agents_map
agents_lawful = search (nat_cmp_total, nat_cmp-IsAntisymmetric, one_column, code_is, λ (c : Content) (trees : Trees) (kept : KeepsRows form c trees). kept.1.1.1.1.1.0) depth 20 parts 20

pub ranges_lawful : IsMapTable ranges_map
ranges_lawful = search (range_total, range_exact, two_columns, code_is, λ (c : Content) (trees : Trees) (kept : KeepsRows form c trees). kept.1.1.1.1.1.1.0) depth 20 parts 20

pub memos_lawful : IsMapTable memos_map
memos_lawful = search (memo_total, memo_exact, two_columns, code_is, cast_same, cast_int, period_casts, λ (c : Content) (trees : Trees) (kept : KeepsRows form c trees). kept.1.1.1.1.1.1.1.1.0) depth 20 parts 20

pub tallies_lawful : IsMapTable tallies_map
tallies_lawful = search (tally_total, tally_exact, three_columns, code_is, cast_same, cast_int, λ (c : Content) (trees : Trees) (kept : KeepsRows form c trees). kept.1.1.1.1.1.1.1.1.1.0) depth 20 parts 20

pub airlines_lawful : IsMapTable airlines_map
airlines_lawful = search (nat_cmp_total, nat_cmp-IsAntisymmetric, one_column, code_is, cast_same, number_casts, token_casts, λ (c : Content) (trees : Trees) (kept : KeepsRows form c trees). kept.1.1.0) depth 20 parts 20

pub rates_lawful : IsPlacedList rates_list
rates_lawful = search (cast_same, cast_int, λ (c : Content) (trees : Trees) (kept : KeepsRows form c trees). kept.1.1.1.0) depth 20 parts 20

pub periods_lawful : IsPlacedList periods_list
periods_lawful = search (cast_same, cast_int, λ (c : Content) (trees : Trees) (kept : KeepsRows form c trees). kept.1.1.1.1.0) depth 20 parts 20

pub commission_taxes_lawful : IsPlacedList commission_taxes_list
commission_taxes_lawful = search (cast_same, cast_int, λ (c : Content) (trees : Trees) (kept : KeepsRows form c trees). kept.1.1.1.1.1.1.1.1.1.1.0) depth 20 parts 20
