-- Events beside the calls of SCOPE, History.
use Rattle.std.specs.Prelude.{ℕ, zero, suc, ◌+◌, List, [], ◌∷◌}
use Rattle.event.specs.declared.Event.{Event}
use Rattle.event.specs.declared.Event.TheVariants.{Command, Data, Read, Reset, Advance}
use Rattle.calls.specs.World.{Call, advance, set_reset, write_command, write_data, read_data}

-- the call of an event
abbrev pub call_of : Event → Call
call_of (Command time command) = write_command time command
call_of (Data time byte) = write_data time byte
call_of (Read time) = read_data time
call_of (Reset time low) = set_reset time low
call_of (Advance time) = advance time

-- those of n events, the first of them at place i
abbrev pub calls_from : (ℕ → Event) → ℕ → ℕ → List Call
calls_from event zero i = []
calls_from event (suc n) i = call_of (event i) ∷ calls_from event n (i + 1)
