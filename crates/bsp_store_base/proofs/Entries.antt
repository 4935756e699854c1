-- The names of the rows of a book and of their parts and its lemmas that the proofs cite, passed on from one place. Declares nothing.
pub use Rattle.bsp_maps.proofs.OrderLemmas.{in_order, no_entries, no_length}
pub use Rattle.bsp_maps.proofs.Orderings.{both, first, less, none_behind, second, then_equal}
pub use Rattle.bsp_maps.proofs.PickLemmas.{all_pass, find_passing, if_ok, sorted_filter, wanted}
pub use Rattle.bsp_maps.proofs.UndoLemmas.{found, taken, written}
pub use Rattle.bsp_maps.specs.Undo.{content}
pub use Rattle.bsp_rows.proofs.ContinueLemmas.{dated_count}
pub use Rattle.bsp_rows.proofs.DemandLemmas.{for_all, same_entries}
pub use Rattle.bsp_rows.proofs.GroupLemmas.{unrelated}
pub use Rattle.bsp_rows.proofs.KeptLemmas.{no_rows_sound}
pub use Rattle.bsp_rows.proofs.KeyOrders.{item_exact, item_total, memo_exact, memo_total, range_exact, range_total, tally_exact, tally_total}
pub use Rattle.bsp_rows.proofs.ListLemmas.{contains_cases, contains_head, contains_none, contains_tail}
pub use Rattle.bsp_rows.proofs.MadeLemmas.{made_again}
pub use Rattle.bsp_rows.proofs.MapLemmas.{entry_get, get_entry, get_written, same_key, same_Some}
pub use Rattle.bsp_rows.proofs.SoundLemmas.{closed_within}
pub use Rattle.bsp_rows.specs.Amounts.{Amounts}
pub use Rattle.bsp_rows.specs.Audit.{as_map}
pub use Rattle.bsp_rows.specs.CivilDay.{CivilDay, is_day}
pub use Rattle.bsp_rows.specs.Days.{day_number}
pub use Rattle.bsp_rows.specs.GroupValues.{related_of, second_of}
pub use Rattle.bsp_rows.specs.History.{IsReached, IsTextOf, outcome}
pub use Rattle.bsp_rows.specs.History.Request.{Close, Publish, SetDay}
pub use Rattle.bsp_rows.specs.Item.{Item}
pub use Rattle.bsp_rows.specs.MemoFields.{MemoFields}
pub use Rattle.bsp_rows.specs.Memos.{is_memo}
pub use Rattle.bsp_rows.specs.Period.{Period}
pub use Rattle.bsp_rows.specs.PlanFault.{PlanFault}
pub use Rattle.bsp_rows.specs.Published.{is_closed, opening, Published}
pub use Rattle.bsp_rows.specs.ReportedDocument.{ReportedDocument}
pub use Rattle.bsp_rows.specs.Rows.{HasNumberKey, item_at, item_cmp, key_of, memo_at, memo_cmp, memo_key, no_rows, range_cmp, range_key, range_of, Rows}
pub use Rattle.bsp_rows.specs.Sound.{IsRight, Sound}
pub use Rattle.bsp_rows.specs.SoundPlan.{IsSoundPlan}
pub use Rattle.bsp_rows.specs.Tallies.{key_tally, tally_cmp, tally_of}
pub use Rattle.bsp_rows.specs.Tally.{Tally}
pub use Rattle.bsp_rows.specs.Terms.{Terms}
pub use Rattle.bsp_rows.specs.TransactionCode.{TransactionCode}
pub use Rattle.bsp_rows.specs.TransactionCode.TheVariants.{Canx, Rfnd, Tktt}
pub use Rattle.bsp_rows.specs.Verdicts.{is_wrong_place}
pub use Rattle.bsp_rows.specs.Writes.{after_request, change_or_fault, changed, changed_to, ended, is_held, IsFree, IsThere, MayBeAdded, MayBeBilled, plan_left, request_answer, with_agent_token, with_airline_token, with_billing, with_end, with_item, with_memo, with_range, without_range}
pub use Rattle.bsp_rows.specs.declared.keys.ItemKey.{ItemKey}
pub use Rattle.bsp_rows.specs.declared.keys.MemoKey.{MemoKey}
pub use Rattle.bsp_rows.specs.declared.keys.RangeKey.{RangeKey}
pub use Rattle.bsp_rows.specs.declared.keys.TallyKey.{TallyKey}
