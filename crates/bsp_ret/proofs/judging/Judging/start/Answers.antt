use Rattle.std.proofs.Common.{refl}
use Rattle.bsp_ret.specs.Reading.{nothing}
use Rattle.bsp_ret.proofs.judging.Judging.start.Goals as goal

pub returns : goal.returns
returns c = record {
  state = c.start.ensures;
  draft = nothing;
  reads = λ more. rw c.start.ensures refl;
  begun = refl;
  complete = tt;
  count = rw c.start.ensures refl;
}
