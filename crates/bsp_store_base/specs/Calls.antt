-- What calls make of a connection whose tables keep a content.
use Rattle.bsp_store_base.specs.Sqlite.{Ghosts, Held}
use Rattle.bsp_store_base.specs.Content.{Content, form}
use Rattle.bsp_store_base.specs.Kept.{HasCommitted, IsInside, IsOutside, HasContents}

module _ {S : Type 0} (g : Ghosts S) where
  -- no transaction is open, and a stop leaves what the last commit left
  abbrev pub IsKept : Held S → Content → Type 0
  IsKept h c = HasContents form g h c c c c × IsOutside form g h

  module _ (old new : Held S) where
    -- in the open transaction the content changes, where it meets the condition
    abbrev pub Changes : (Content → Type 0) → (Content → Content) → Type 0
    Changes P f = (now last a b : Content) → P now → HasContents form g old now last a b → IsInside form g old → HasContents form g new (f now) last a b × IsInside form g new

    -- the transaction is given up, or is still to be
    abbrev pub GivesUp : Type 0
    GivesUp = (now last a b : Content) → HasContents form g old now last a b → IsInside form g old → HasCommitted form g new last a b

    -- the same, where the content met the condition
    abbrev pub GivesUpIf : (Content → Type 0) → Type 0
    GivesUpIf P = (now last a b : Content) → P now → HasContents form g old now last a b → IsInside form g old → HasCommitted form g new last a b
