-- What calls leave noted.
use Rattle.std.proofs.Common.{◌≡◌, Bool, true, false, if◌then◌else◌, refl}

-- a flag that is set stays set
pub still_failed : (fails before : Bool) → before ≡ true → (if fails then true else before) ≡ true
still_failed true before is = refl
still_failed false before is = is
