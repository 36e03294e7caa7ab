-- What is printed lies within the space that `show` wrote it to.
use native.Mathlib.Omega.{arith}
use lib.ListN.{length-take}
use Rattle.run.proofs.Once.{put-within}
use Rattle.rack.proofs.main.Goals as goal

pub slice_bounds-space-end : goal.slice_bounds-space-end
slice_bounds-space-end c = put-within c.show-k.ensures.prints

pub slice_bounds-write_text-end : goal.slice_bounds-write_text-end
slice_bounds-write_text-end c = simp length-take (omega (arith, put-within c.show-k.ensures.prints))
