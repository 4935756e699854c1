-- What a HOT file is judged to be, while it is read.
use Rattle.std.specs.Prelude.{◌≡◌, ℕ, List, Some}
use Rattle.bsp_fields.specs.Lines.{lines}
use Rattle.bsp_hot_check.specs.declared.model.Standing.{Standing}
use Rattle.bsp_hot_check.specs.Standings.{start, IsSmall}
use Rattle.bsp_hot_check.specs.Checked.{HasTotals}
use Rattle.bsp_hot_check.specs.Judging.{stands_after}
use Rattle.bsp_hot_explain.specs.declared.explanation.HotExplanation.{HotExplanation}
use Rattle.bsp_hot_explain.specs.Headings.{heading_in}
use Rattle.bsp_check.specs.HotListing.{IsListOf}
use Rattle.bsp_check.specs.declared.listing.Listing.{Listing}
use Rattle.bsp_check.specs.declared.hot_judging.HotAnswer.{HotAnswer}
use Rattle.bsp_check.specs.declared.hot_judging.HotAnswer.TheVariants.{Passed, Refused}
use Rattle.bsp_check.specs.Verdicts.{SaysOfHotFault}

-- the lines have this state
abbrev pub HasTakenHot : Standing → List (List ℕ) → Type 0
HasTakenHot at ls = (stands_after start ls ≡ Some at) × IsSmall at

-- these lines were taken, and listed
abbrev pub HasListed : Listing → List (List ℕ) → Type 0
HasListed listing ls = HasTakenHot listing.at ls × IsListOf listing.list ls

-- the explanation is of the first fault of the lines
abbrev pub IsHotRefusal : List (List ℕ) → HotExplanation → Type 0
IsHotRefusal ls explanation = (bytes : List ℕ) → lines bytes ≡ ls → SaysOfHotFault bytes explanation

-- the answer on these bytes
abbrev pub IsHotAnswer : List ℕ → HotAnswer → Type 0
IsHotAnswer bytes (Passed totals heading) = HasTotals (lines bytes) totals × (heading ≡ heading_in (lines bytes))
IsHotAnswer bytes (Refused explanation) = SaysOfHotFault bytes explanation
