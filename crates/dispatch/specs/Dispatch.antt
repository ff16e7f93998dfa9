-- What an event does to the device: the call of its entry point, and the buffers that the call is not lent stay as they were.
use Rattle.std.specs.Prelude.{List, ℕ, Option, None, Result, Ok, Err}
use Rattle.world.specs.World.{World, lent_of, Lens, glass_in_world, glass_log_in_world, buffers_in_world, planes_in_world}
use Rattle.query.specs.Outcome.{Outcome, outcome}
use Rattle.wait.specs.Wait.{clock_moved}
use Rattle.res.specs.Line.{line_moved}
use Rattle.low.specs.Command.{command_written}
use Rattle.high.specs.Data.{data_written}
use Rattle.driven.specs.Read.{WithRead, data_read}
use Rattle.device.specs.declared.Ssd1677.{Ssd1677}
use Rattle.reading.specs.declared.Reading.{Reading}
use Rattle.guard.specs.declared.Refused.{Refused}
use Rattle.event.specs.declared.Event.{Event}
use Rattle.event.specs.declared.Event.TheVariants.{Command, Data, Read, Reset, Advance}

-- what an event leaves, and the byte that it gives
pub record Told : Type 0 where
  pub left : World
  pub byte : Option ℕ

-- the two as one
abbrev pub told : World → Option ℕ → Told
told w byte = record { left = w; byte = byte }

-- an event that is no read gives no byte
abbrev pub silent : Result Ssd1677 Refused → Result Reading Refused
silent (Ok state) = Ok (record { state = state; byte = None })
silent (Err refused) = Err refused

-- what a call leaves of its own part, put back into the whole, and no byte
abbrev pub tells : {A : Type 0} → Lens World A → World → Outcome A → Outcome Told
tells part w o = outcome o.number (told (part.put w o.held) None)

-- a read is the one event that gives a byte
abbrev pub tells_read : World → Outcome WithRead → Outcome Told
tells_read w o = outcome o.number (told (glass_log_in_world.put w o.held.left) o.held.byte)

-- each event's call
unfoldable pub dispatched : List ℕ → World → Event → Outcome Told
dispatched otp w (Command time command) = tells buffers_in_world w (command_written (lent_of otp w) time command (buffers_in_world.get w))
dispatched otp w (Data time byte) = tells planes_in_world w (data_written w.luts time byte (planes_in_world.get w))
dispatched otp w (Read time) = tells_read w (data_read w.luts w.black_white w.red time (glass_log_in_world.get w))
dispatched otp w (Reset time low) = tells glass_log_in_world w (line_moved w.luts time low (glass_log_in_world.get w))
dispatched otp w (Advance time) = tells glass_in_world w (clock_moved w.luts time (glass_in_world.get w))
