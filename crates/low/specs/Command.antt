-- A command byte (mod.rs, `write_command`): refused, or done in the order of the Rust.
use Rattle.std.specs.Prelude.{ℕ, length}
use Rattle.world.specs.World.{WithBuffers, Lent, on, log_in_buffers, glass_in_buffers}
use Rattle.clock.specs.Advance.{advanced}
use Rattle.chip.specs.Close.{closed}
use Rattle.begin.specs.Begin.{begun}
use Rattle.guard_lengths.specs.Lengths.{all_lent}
use Rattle.guard.specs.Refusals.{guarded_with_table}
use Rattle.query.specs.Outcome.{Outcome, unless}

-- the clock's move, of a state with its buffers
abbrev pub moved_to : ℕ → WithBuffers → WithBuffers
moved_to time w = on glass_in_buffers (advanced w.luts time) w

-- the clock moves, the last command is closed (26 if parameters lack), and the new one begins
unfoldable pub command_taken : Lent → ℕ → ℕ → WithBuffers → WithBuffers
command_taken k time command w = let a = on log_in_buffers closed (moved_to time w) in begun k command a a.device.bus.power

-- write_command
unfoldable pub command_written : Lent → ℕ → ℕ → WithBuffers → Outcome WithBuffers
command_written k time command w =
    unless
    (guarded_with_table w.device
    (all_lent (length w.states) (length w.luts) (length w.picture.pixels) (length w.picture.counts) (length w.log) (length k.black_white) (length k.red) (length k.gates))
    k.otp)
    w (command_taken k time command w)
