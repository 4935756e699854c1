-- The names of the rows of a book and of their parts that the definitions and the proofs cite, passed on from one place. Declares nothing.
pub use Rattle.bsp_maps.specs.Undo.{before, content}
pub use Rattle.bsp_rows.specs.Amounts.{Amounts}
pub use Rattle.bsp_rows.specs.CardPayment.{CardPayment}
pub use Rattle.bsp_rows.specs.CivilDay.{CivilDay, is_day}
pub use Rattle.bsp_rows.specs.CommissionTax.{CommissionTax}
pub use Rattle.bsp_rows.specs.Days.{day_number}
pub use Rattle.bsp_rows.specs.GroupValues.{second_of}
pub use Rattle.bsp_rows.specs.History.{IsReached, IsTextOf}
pub use Rattle.bsp_rows.specs.History.Request.{Close, SetDay}
pub use Rattle.bsp_rows.specs.Item.{Item}
pub use Rattle.bsp_rows.specs.MemoFields.{MemoFields}
pub use Rattle.bsp_rows.specs.Memos.{amount_fits, billing_fits, is_amount, is_memo, kind_fits}
pub use Rattle.bsp_rows.specs.Period.{Period}
pub use Rattle.bsp_rows.specs.Published.{opening, Published}
pub use Rattle.bsp_rows.specs.Rate.{Rate}
pub use Rattle.bsp_rows.specs.ReportedDocument.{ReportedDocument}
pub use Rattle.bsp_rows.specs.Rows.{HasNumberKey, item_cmp, key_of, memo_cmp, memo_key, no_rows, range_cmp, range_of, Rows}
pub use Rattle.bsp_rows.specs.Sound.{IsRight, Sound}
pub use Rattle.bsp_rows.specs.SoundPlan.{IsSoundPlan}
pub use Rattle.bsp_rows.specs.Stored.{InEach, IsStored, IsStoredTax}
pub use Rattle.bsp_rows.specs.Tallies.{tally_cmp, tally_of}
pub use Rattle.bsp_rows.specs.Tally.{Tally}
pub use Rattle.bsp_rows.specs.Tax.{Tax}
pub use Rattle.bsp_rows.specs.Terms.{Terms}
pub use Rattle.bsp_rows.specs.Texts.{kind_reading, kind_text, state_reading, state_text}
pub use Rattle.bsp_rows.specs.TransactionCode.{TransactionCode}
pub use Rattle.bsp_rows.specs.TransactionCode.TheVariants.{Canx, Rfnd, Tktt}
pub use Rattle.bsp_rows.specs.Verdicts.{is_wrong_place}
pub use Rattle.bsp_rows.specs.Writes.{after_request, request_answer, with_agent_token, with_item, with_memo, with_range}
pub use Rattle.bsp_rows.specs.declared.keys.ItemKey.{ItemKey}
pub use Rattle.bsp_rows.specs.declared.keys.MemoKey.{MemoKey}
pub use Rattle.bsp_rows.specs.declared.keys.RangeKey.{RangeKey}
pub use Rattle.bsp_rows.specs.declared.keys.TallyKey.{TallyKey}
pub use Rattle.bsp_store_columns.specs.declared.airlines.AirlineEntry.{AirlineEntry}
pub use Rattle.bsp_store_columns.specs.declared.taxes.ItemTax.{ItemTax}
pub use Rattle.bsp_store_columns.specs.declared.tickets.TicketKey.{TicketKey}
