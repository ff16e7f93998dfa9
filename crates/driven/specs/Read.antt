-- A byte that the MCU reads (mod.rs, `read_data`): refused, or done in the order of the Rust.
use Rattle.std.specs.Prelude.{ℕ, List, length, Option, None, Result, Ok, Err}
use Rattle.world.specs.World.{WithGlassLog, on, log_in_glass_log, glass_in_glass_log}
use Rattle.clock.specs.Advance.{advanced}
use Rattle.reading.specs.declared.Reading.{Reading}
use Rattle.reading.specs.Reading.{read_taken}
use Rattle.guard_lengths.specs.Lengths.{planes_log_lent}
use Rattle.guard.specs.declared.Refused.{Refused}
use Rattle.guard.specs.Refusals.{guarded}
use Rattle.query.specs.Outcome.{Outcome, unless}

-- the state with its buffers, and the byte read, or none
pub record WithRead : Type 0 where
  pub left : WithGlassLog
  pub byte : Option ℕ

-- the two as one
abbrev pub with_read : WithGlassLog → Option ℕ → WithRead
with_read w b = record { left = w; byte = b }

-- the state that a read leaves and its byte: of a refused one the state as it was given, and none
abbrev pub reading_in : Result Reading Refused → Reading
reading_in (Ok reading) = reading
reading_in (Err refused) = record { state = refused.state; byte = None }

-- the clock moves, then the current command gives its byte
unfoldable pub read_in : List ℕ → List ℕ → List ℕ → ℕ → WithGlassLog → WithRead
read_in luts black_white red time w =
    let a = on glass_in_glass_log (advanced luts time) w in
    let r = read_taken black_white red (log_in_glass_log.get a) a.device.bus.power in
    with_read (log_in_glass_log.put a r.left) r.byte

-- read_data
unfoldable pub data_read : List ℕ → List ℕ → List ℕ → ℕ → WithGlassLog → Outcome WithRead
data_read luts black_white red time w =
    unless
    (guarded w.device
    (planes_log_lent (length w.states) (length luts) (length w.picture.pixels) (length w.picture.counts) (length w.log) (length black_white) (length red)))
    (with_read w None) (read_in luts black_white red time w)
