-- The call that moves the clock (mod.rs, `advance`): refused, or done.
use Rattle.std.specs.Prelude.{ℕ, List, length}
use Rattle.world.specs.World.{WithGlass}
use Rattle.clock.specs.Advance.{advanced}
use Rattle.guard_lengths.specs.Lengths.{glass_lent}
use Rattle.guard.specs.Refusals.{guarded}
use Rattle.query.specs.Outcome.{Outcome, unless}

-- advance
unfoldable pub clock_moved : List ℕ → ℕ → WithGlass → Outcome WithGlass
clock_moved luts time g =
    unless (guarded g.device (glass_lent (length g.states) (length luts) (length g.picture.pixels) (length g.picture.counts))) g (advanced luts time g)
