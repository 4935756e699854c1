-- The ranges of an agent as they are shown.
use Rattle.bsp_book.specs.UsedRange.{UsedRange}
use Rattle.bsp_messages.specs.declared.answer.RangeShown.{RangeShown}

-- a range with how many of its numbers have an item
abbrev pub shown_as : UsedRange → RangeShown
shown_as r = record { range = r.range; used = r.used }
