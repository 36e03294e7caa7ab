-- `queue::Queue::leave` meets its contract. Assumes nothing.
use Rattle.std.proofs.Common.{◌≡◌, ℕ, ◌+◌, ◌-◌, take, subst, arith}
use Rattle.std.specs.List.{copy_within}
use Rattle.model.specs.Moves.{without}
use Rattle.queue.proofs.Places.{found-without, none-without}
use Rattle.queue.proofs.Queue.leave.Goals as goal

pub returns-in_default : goal.returns-in_default
returns-in_default g c = none-without c.args.v c.args.self.now (cc)

pub returns : goal.returns
returns g c =
    let q = c.self.inside in
    let at = c.in-Some.at in
    let left : ℕ → Type 0 = λ end. take (q.len - 1) (copy_within q.places (at + 1) end at) ≡ without c.args.v c.args.self.now in
    rw c.copy_within.ensures.after (subst left {x = q.len} (omega arith)
    (found-without c.args.v at q.len q.places c.self.view_is (omega (arith, c.self.told, c.self.invariant)) c.requires (cc)))
