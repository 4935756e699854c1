use Rattle.std.proofs.Common.{◌≡◌, ℕ, Bool, Ok, sym}
use Rattle.bsp_fields.specs.Codes.{document_reading}
use Rattle.bsp_rules.specs.declared.rows.Item.{Item}
use Rattle.bsp_rules.specs.Rows.{is_canx}
use Rattle.bsp_rows.specs.Rows.{HasNumberKey, key_of}
use Rattle.bsp_rows.specs.declared.keys.ItemKey.{ItemKey}
use Rattle.bsp_fields.proofs.DocumentLemmas.{read_number, reads_as_number}
use Rattle.bsp_rows.proofs.keys.ItemKey.of.Goals as goal

key_read : (i : Item) (number : ℕ) (canx : Bool) → document_reading i.transaction.document.number i.transaction.document.check_digit ≡ Ok number → canx ≡ is_canx i → HasNumberKey i × (◌≡◌ {A = ItemKey} (record { agent = i.agent; number = number; is_canx = canx }) (key_of i))
key_read i number canx reads is =
    let same = read_number i.transaction.document.number i.transaction.document.check_digit number reads in (
      reads_as_number i.transaction.document.number i.transaction.document.check_digit number reads,
      λ j. record { agent = i.agent; number = sym same j; is_canx = is j },
    )

pub returns : goal.returns
returns c = key_read c.args.item.now c.in-Ok.number c.is_canx.result (sym c.in-Ok.ensures.value) c.is_canx.ensures
