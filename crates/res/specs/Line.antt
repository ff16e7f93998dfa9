-- The call that moves the reset line (mod.rs, `set_reset`): refused, or done in the order of the Rust.
use Rattle.std.specs.Prelude.{ℕ, Bool, List, length}
use Rattle.clock.specs.Advance.{advanced}
use Rattle.world.specs.World.{WithGlassLog, on, glass_in_glass_log}
use Rattle.reset.specs.Reset.{by_line}
use Rattle.guard_lengths.specs.Lengths.{glass_log_lent}
use Rattle.guard.specs.Refusals.{guarded}
use Rattle.query.specs.Outcome.{Outcome, unless}

-- the clock moves, then the line is put low or high
unfoldable pub line_taken : List ℕ → ℕ → Bool → WithGlassLog → WithGlassLog
line_taken luts time low w = let a = on glass_in_glass_log (advanced luts time) w in by_line luts low a a.device.bus.power

-- set_reset
unfoldable pub line_moved : List ℕ → ℕ → Bool → WithGlassLog → Outcome WithGlassLog
line_moved luts time low w =
    unless (guarded w.device (glass_log_lent (length w.states) (length luts) (length w.picture.pixels) (length w.picture.counts) (length w.log))) w (line_taken luts time low w)
