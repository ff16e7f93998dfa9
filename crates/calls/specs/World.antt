-- The calls that change a device and what it is lent (SCOPE, History).
use Rattle.std.specs.Prelude.{ℕ, ◌≤◌, Bool, List, [], ◌∷◌}
use Rattle.device.specs.Parts.{with_config, with_journal}
use Rattle.world.specs.World.{World, lent_of, device_in_world, glass_in_world, glass_log_in_world, buffers_in_world, planes_in_world}
use Rattle.clock.specs.Advance.{advanced}
use Rattle.query.specs.Outcome.{Outcome, outcome}
use Rattle.query.specs.Queries.{with_ambient, ambient_set, WithCount, journal_emptied, diagnostics_taken}
use Rattle.wait.specs.Wait.{clock_moved}
use Rattle.res.specs.Line.{line_taken, line_moved}
use Rattle.low.specs.Command.{command_taken, command_written}
use Rattle.driven.specs.Read.{WithRead, read_in, data_read}
use Rattle.high.specs.Data.{data_in, data_written}

-- a call, by its arguments that are neither state nor buffer
pub data Call : Type 0 where
  advance : ℕ → Call
  set_reset : ℕ → Bool → Call
  write_command : ℕ → ℕ → Call
  write_data : ℕ → ℕ → Call
  read_data : ℕ → Call
  set_ambient : ℕ → Call
  take_diagnostics : Call

-- an outcome, put back into the world that the call was lent from
abbrev pub back : {A : Type 0} → (A → World) → Outcome A → Outcome World
back put o = outcome o.number (put o.held)

-- what a call answers and leaves, by the contracts of the entry points
abbrev pub called : List ℕ → World → Call → Outcome World
called otp w (advance time) = back (glass_in_world.put w) (clock_moved w.luts time (glass_in_world.get w))
called otp w (set_reset time low) = back (glass_log_in_world.put w) (line_moved w.luts time low (glass_log_in_world.get w))
called otp w (write_command time command) = back (buffers_in_world.put w) (command_written (lent_of otp w) time command (buffers_in_world.get w))
called otp w (write_data time byte) = back (planes_in_world.put w) (data_written w.luts time byte (planes_in_world.get w))
called otp w (read_data time) =
    back (λ (r : WithRead). glass_log_in_world.put w r.left) (data_read w.luts w.black_white w.red time (glass_log_in_world.get w))
called otp w (set_ambient register) = back (device_in_world.put w) (ambient_set w.device register)
called otp w take_diagnostics = back (λ (t : WithCount). device_in_world.put w t.device) (diagnostics_taken w.device)

-- what a call does where it is accepted
abbrev pub taken : List ℕ → World → Call → World
taken otp w (advance time) = glass_in_world.put w (advanced w.luts time (glass_in_world.get w))
taken otp w (set_reset time low) = glass_log_in_world.put w (line_taken w.luts time low (glass_log_in_world.get w))
taken otp w (write_command time command) = buffers_in_world.put w (command_taken (lent_of otp w) time command (buffers_in_world.get w))
taken otp w (write_data time byte) = planes_in_world.put w (data_in w.luts time byte (planes_in_world.get w))
taken otp w (read_data time) = glass_log_in_world.put w (read_in w.luts w.black_white w.red time (glass_log_in_world.get w)).left
taken otp w (set_ambient register) = device_in_world.put w (with_config w.device (with_ambient w.device.config register))
taken otp w take_diagnostics = device_in_world.put w (with_journal w.device (journal_emptied w.device.journal))

-- ---- a list of calls
-- what they leave, one after the other, each with what the one before left
abbrev pub left_by : List ℕ → World → List Call → World
left_by otp w [] = w
left_by otp w (call ∷ calls) = left_by otp (called otp w call).held calls

-- a data byte is a byte, as its type says; nothing is asked of the other arguments
abbrev pub Typed : Call → Type 0
Typed (advance time) = Unit {0}
Typed (set_reset time low) = Unit {0}
Typed (write_command time command) = Unit {0}
Typed (write_data time byte) = byte ≤ 255
Typed (read_data time) = Unit {0}
Typed (set_ambient register) = Unit {0}
Typed take_diagnostics = Unit {0}

-- every data byte of the list
abbrev pub AllTyped : List Call → Type 0
AllTyped [] = Unit {0}
AllTyped (call ∷ calls) = Typed call × AllTyped calls
