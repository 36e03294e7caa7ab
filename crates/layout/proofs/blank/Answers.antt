-- `layout::blank` meets its contract: zeros, and then a part of them overwritten. Assumes nothing.
use mathlib.Core.Path.{◌≡◌, ap, ap₂, ◌∙◌}
use Prim.Native.Nat.{ℕ, ◌*◌, ◌≤◌}
use native.Mathlib.Omega.{arith}
use lib.ListN.{length, replicate}
use borrow.Rule.Slice.PartMut.{put_mid, mid_len}
use Rattle.model.specs.Shape.{low, mates_from, phis_from, rack_length}
use Rattle.layout.proofs.Cleared.{blank-is}
use Rattle.layout.proofs.blank.Goals as goal

pub returns : goal.returns
returns c = let first = c.fill in
    let second = c.fill-2 in
    let long : length c.args.rack.now ≡ rack_length low =
    c.told-rack in
    let whole : first.new.self ≡ replicate (rack_length low) 0 = first.ensures.after (λ y e. e) ∙ ap (λ (n : ℕ). replicate n 0) long in
    let far : phis_from low ≤ length first.new.self = omega (arith, first.auto, long) in
    let part : second.new.self ≡ replicate (2 * low.most) 255 =
    second.ensures.after (λ y e. e) ∙ ap (λ (n : ℕ). replicate n 255) (mid_len (mates_from low) (phis_from low) first.new.self far) in
    ap₂ (put_mid (mates_from low) (2 * low.most)) whole part ∙ blank-is low
