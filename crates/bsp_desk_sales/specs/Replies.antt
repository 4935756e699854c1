-- Parts of answers.
use Rattle.std.specs.Prelude.{◌≡◌, ◌==◌, ◌&&◌, Bool}
use Rattle.bsp_messages.specs.declared.answer.Answer.{Answer}
use Rattle.bsp_messages.specs.declared.answer.Answer.TheVariants.{Refused}
use Rattle.bsp_messages.specs.declared.fault.BodyFault.{BodyFault}
use Rattle.bsp_messages.specs.declared.fault.BodyFault.TheVariants as body
use Rattle.bsp_messages.specs.declared.refusal.RequestRefusal.TheVariants.{Malformed}
use Rattle.bsp_rows.specs.Range.{Range}

-- a malformed body is answered so, and the book stays
pub record IsMalformed {B : Type 0} (old new : B) (fault : BodyFault) (answer : Answer) : Type 0 where
  pub is : fault ≡ body.Malformed
  pub answered : answer ≡ Refused Malformed
  pub kept : new ≡ old

-- whether two ranges have the same bounds
abbrev pub is_same_range : Range → Range → Bool
is_same_range range other = (other.first == range.first) && (other.last == range.last)
