use Rattle.std.proofs.Common.{◌≡◌, ap, subst, sym}
use Rattle.std.specs.Prelude.{IsUtf8, codes}
use Rattle.toml.specs.Data.{no_members, string}
use Rattle.toml.specs.View.{members_view, table_view}
use Rattle.toml.proofs.Views.{view-Table}
use Rattle.bsp_calendar.specs.PlanDocument.{period_of}
use Rattle.bsp_plan_trial.specs.Texts.{IsValueOf, put}
use Rattle.bsp_plan_trial.proofs.TextLemmas.{day_utf8, digits_utf8, period_is}
use Rattle.bsp_plan_trial.proofs.entry.PeriodEntry.value.Goals as goal

pub put_text-requires : goal.put_text-requires
put_text-requires c = subst IsUtf8 (sym c.digits.ensures.text) (digits_utf8 5 c.args.self.now.code)

pub put_text-requires-2 : goal.put_text-requires-2
put_text-requires-2 c = subst IsUtf8 (sym c.write_text.ensures.text) (day_utf8 _)

pub put_text-requires-3 : goal.put_text-requires-3
put_text-requires-3 c = subst IsUtf8 (sym c.write_text-2.ensures.text) (day_utf8 _)

pub put_text-requires-4 : goal.put_text-requires-4
put_text-requires-4 c = subst IsUtf8 (sym c.write_text-3.ensures.text) (day_utf8 _)

pub returns : goal.returns
returns c = λ within.
    let it = c.args.self.now in
    let empty : table_view c.new-table.result ≡ no_members = ap members_view c.new-table.ensures.empty in
    let first : table_view c.put_text.new.table ≡ put (codes "code") (string c.digits.result) (table_view c.new-table.result) = c.in_ok-put_text.ensures in
    let second : table_view c.put_text-2.new.table ≡ put (codes "first") (string c.write_text.result) (table_view c.put_text.new.table) = c.in_ok-put_text-2.ensures in
    let third : table_view c.put_text-3.new.table ≡ put (codes "last") (string c.write_text-2.result) (table_view c.put_text-2.new.table) = c.in_ok-put_text-3.ensures in
    let last : table_view c.put_text-4.new.table ≡ put (codes "remit") (string c.write_text-3.result) (table_view c.put_text-3.new.table) = c.in_ok-put_text-4.ensures in
    subst (IsValueOf period_of 1 it) (sym (view-Table c.put_text-4.new.table)) (period_is it c.digits.result c.write_text.result c.write_text-2.result c.write_text-3.result (table_view c.put_text-4.new.table) c.digits.ensures.reads_back c.write_text.ensures.reads_back c.write_text-2.ensures.reads_back c.write_text-3.ensures.reads_back (rw (third, second, first, empty) at last))
