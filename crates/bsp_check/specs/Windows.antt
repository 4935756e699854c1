-- The part of an input that is judged next.
use Rattle.std.specs.Prelude.{◌≡◌, ◌≢◌, ◌≤◌, ◌<◌, ◌+◌, ◌-◌, ℕ, Bool, true, false, List, [], ◌++◌, length, take, drop, Option}
use Rattle.std.specs.Io.KnownBytes.{Consumes, IsAtEnd}
use Rattle.bsp_check.specs.declared.fault.Fault.{Fault}
use Rattle.bsp_check.specs.declared.fault.Fault.TheVariants.{TooLong, Write}
use Rattle.bsp_check.specs.declared.window.Window.{Window}

-- the most bytes that are kept
abbrev pub room : ℕ
room = 262144

-- what was read and is to be judged
abbrev pub text_of : Window → List ℕ
text_of w = take w.filled w.room.items

-- the last bytes of it, so many
abbrev pub last_of : ℕ → List ℕ → List ℕ
last_of kept text = drop (length text - kept) text

-- what may follow: nothing where the input has ended
abbrev pub MayFollow : Bool → List ℕ → Type 0
MayFollow ended more = ended ≡ true → more ≡ []

-- where it has ended, a byte more might have been read
pub record IsWindow (w : Window) : Type 0 where
  pub filled : w.filled ≤ room
  pub wide : length w.room.items ≡ room
  pub within : w.ended ≡ true → 0 < w.left

-- bytes were read, and follow these
pub record Reads (text : List ℕ) (old new : Window) (before after : Option (List ℕ)) : Type 0 where
  pub got : List ℕ
  pub taken : Consumes before after got
  pub text_is : text_of new ≡ text ++ got
  pub left : new.left + length got ≡ old.left
  pub window : IsWindow new
  pub at_end : new.ended ≡ true → IsAtEnd after
  pub stays : old.ended ≡ true → (got ≡ []) × (new.ended ≡ true)

-- the same, until the window is full or the input ends
pub record Fills (text : List ℕ) (old new : Window) (before after : Option (List ℕ)) : Type 0 where
  pub reads : Reads text old new before after
  pub full : new.ended ≡ false → length (text_of new) ≡ room

-- the input was read to its end
pub record Drains (old new : Window) (before after : Option (List ℕ)) : Type 0 where
  pub got : List ℕ
  pub taken : Consumes before after got
  pub left : new.left + length got ≡ old.left
  pub window : IsWindow new
  pub ended : new.ended ≡ true
  pub at_end : IsAtEnd after
  pub stays : old.ended ≡ true → got ≡ []

-- a read failed, an allocation was refused, or more than so many bytes would have to be read
pub record Stops (left : ℕ) (fault : Fault) (before after : Option (List ℕ)) : Type 0 where
  pub got : List ℕ
  pub taken : Consumes before after got
  pub within : length got ≤ left
  pub not_write : fault ≢ Write
  pub long : fault ≡ TooLong → length got ≡ left
