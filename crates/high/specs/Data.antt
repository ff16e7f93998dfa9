-- A data byte (mod.rs, `write_data`): refused, or done in the order of the Rust.
use Rattle.std.specs.Prelude.{ℕ, List, length}
use Rattle.world.specs.World.{WithPlanes, on, glass_in_planes, ram_in_planes}
use Rattle.clock.specs.Advance.{advanced}
use Rattle.data.specs.Data.{data_taken}
use Rattle.guard_lengths.specs.Lengths.{planes_log_lent}
use Rattle.guard.specs.Refusals.{guarded}
use Rattle.query.specs.Outcome.{Outcome, unless}

-- the clock moves, then the byte goes to the current command
unfoldable pub data_in : List ℕ → ℕ → ℕ → WithPlanes → WithPlanes
data_in luts time byte w =
    let a = on glass_in_planes (advanced luts time) w in
    ram_in_planes.put a (data_taken byte (ram_in_planes.get a) a.device.bus.current)

-- write_data
unfoldable pub data_written : List ℕ → ℕ → ℕ → WithPlanes → Outcome WithPlanes
data_written luts time byte w =
    unless
    (guarded w.device
    (planes_log_lent (length w.states) (length luts) (length w.picture.pixels) (length w.picture.counts) (length w.log) (length w.black_white) (length w.red)))
    w (data_in luts time byte w)
