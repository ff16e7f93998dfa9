-- The calls of a list by the contracts of the entry points: `Learnt` of each is what the checker reads off its `ensures` in the source, of the
-- arguments a, the answer r and the arguments at the end s. Weaken an `ensures`, and more answers are among these.
use Rattle.std.specs.Prelude.{ℕ, ◌≡◌, List, [], ◌∷◌, Result, Ok}
use contract.Lifetimes.{Lfts}
use Rattle.config.specs.declared.Ssd1677Config.{Ssd1677Config}
use Rattle.counts.specs.Counts.{picture}
use Rattle.world.specs.World.{World, world, device_in_world}
use Rattle.guard.specs.declared.Refusal.{Refusal}
use Rattle.power_on.specs.declared.StartError.{StartError}
use Rattle.device.specs.declared.Ssd1677.{Ssd1677}
use Rattle.query.specs.Outcome.{answer_in, state_in}
use Rattle.query.specs.Queries.{taken_in}
use Rattle.driven.specs.Read.{reading_in}
use Rattle.power_on.specs.Start.{Buffers, buffers, Powered, powered, start_error_in, chip_in}
use Rattle.calls.specs.World.{Call}
use Rattle.power_on.proofs.new.Reads as new-reads
use Rattle.wait.proofs.advance.Reads as advance-reads
use Rattle.res.proofs.set_reset.Reads as reset-reads
use Rattle.low.proofs.write_command.Reads as command-reads
use Rattle.high.proofs.write_data.Reads as data_Reads
use Rattle.driven.proofs.read_data.Reads as read-reads
use Rattle.query.proofs.set_ambient.Reads as ambient-reads
use Rattle.query.proofs.take_diagnostics.Reads as diagnostics-reads
use Rattle.history.specs.Runs.{Beside}

-- `new`, handed a configuration, a table and buffers, and what it answered and left. Its arguments: configuration, states, LUTs, pixels, counts,
-- black-white, red, gates, log, table
pub data New : Ssd1677Config → List ℕ → Buffers → Result Ssd1677 StartError → Powered → Type 0 where
  new : (κs : Lfts 9) (a : _) (r : _) (s : _) → new-reads.Learnt κs a r s
      → New a.0 a.1.1.1.1.1.1.1.1.1.0.now
      (buffers a.1.0.now a.1.1.0.now (picture a.1.1.1.0.now a.1.1.1.1.0.now) a.1.1.1.1.1.0.now a.1.1.1.1.1.1.0.now a.1.1.1.1.1.1.1.0.now
      a.1.1.1.1.1.1.1.1.0.now)
      (start_error_in r)
      (powered (chip_in r)
      (buffers s.1.0.now s.1.1.0.now (picture s.1.1.1.0.now s.1.1.1.1.0.now) s.1.1.1.1.1.0.now s.1.1.1.1.1.1.0.now s.1.1.1.1.1.1.1.0.now
      s.1.1.1.1.1.1.1.1.0.now))

-- a call of an entry point under a table, handed a world, and what it answered and left. A part that it is not lent is any, and stays
pub data Answers : List ℕ → World → Call → Result Unit Refusal → World → Type 0 where
  -- state, states, LUTs, pixels, counts, time
  advance : (κs : Lfts 4) (a : _) (r : _) (s : _) → advance-reads.Learnt κs a r s → (otp b e g l : List ℕ)
      → Answers otp
      (world a.0 a.1.0.now a.1.1.0.now (picture a.1.1.1.0.now a.1.1.1.1.0.now) b e g l)
      (Call.advance a.1.1.1.1.1.0)
      (answer_in r)
      (world (state_in r) s.1.0.now a.1.1.0.now (picture s.1.1.1.0.now s.1.1.1.1.0.now) b e g l)
  -- state, states, LUTs, pixels, counts, log, time, line
  set_reset : (κs : Lfts 5) (a : _) (r : _) (s : _) → reset-reads.Learnt κs a r s → (otp b e g : List ℕ)
      → Answers otp
      (world a.0 a.1.0.now a.1.1.0.now (picture a.1.1.1.0.now a.1.1.1.1.0.now) b e g a.1.1.1.1.1.0.now)
      (Call.set_reset a.1.1.1.1.1.1.0 a.1.1.1.1.1.1.1.0)
      (answer_in r)
      (world (state_in r) s.1.0.now a.1.1.0.now (picture s.1.1.1.0.now s.1.1.1.1.0.now) b e g s.1.1.1.1.1.0.now)
  -- state, states, LUTs, pixels, counts, black-white, red, gates, log, table, time, command
  write_command : (κs : Lfts 9) (a : _) (r : _) (s : _) → command-reads.Learnt κs a r s
      → Answers a.1.1.1.1.1.1.1.1.1.0.now
      (world a.0 a.1.0.now a.1.1.0.now (picture a.1.1.1.0.now a.1.1.1.1.0.now) a.1.1.1.1.1.0.now a.1.1.1.1.1.1.0.now
      a.1.1.1.1.1.1.1.0.now a.1.1.1.1.1.1.1.1.0.now)
      (Call.write_command a.1.1.1.1.1.1.1.1.1.1.0 a.1.1.1.1.1.1.1.1.1.1.1.0)
      (answer_in r)
      (world (state_in r) s.1.0.now s.1.1.0.now (picture s.1.1.1.0.now s.1.1.1.1.0.now) a.1.1.1.1.1.0.now a.1.1.1.1.1.1.0.now
      a.1.1.1.1.1.1.1.0.now s.1.1.1.1.1.1.1.1.0.now)
  -- state, states, LUTs, pixels, counts, black-white, red, log, time, byte
  write_data : (κs : Lfts 7) (a : _) (r : _) (s : _) → data_Reads.Learnt κs a r s → (otp g : List ℕ)
      → Answers otp
      (world a.0 a.1.0.now a.1.1.0.now (picture a.1.1.1.0.now a.1.1.1.1.0.now) a.1.1.1.1.1.0.now a.1.1.1.1.1.1.0.now g
      a.1.1.1.1.1.1.1.0.now)
      (Call.write_data a.1.1.1.1.1.1.1.1.0 a.1.1.1.1.1.1.1.1.1.0)
      (answer_in r)
      (world (state_in r) s.1.0.now a.1.1.0.now (picture s.1.1.1.0.now s.1.1.1.1.0.now) s.1.1.1.1.1.0.now s.1.1.1.1.1.1.0.now g
      s.1.1.1.1.1.1.1.0.now)
  -- state, states, LUTs, pixels, counts, black-white, red, log, time; the byte is the caller's
  read_data : (κs : Lfts 7) (a : _) (r : _) (s : _) → read-reads.Learnt κs a r s → (otp g : List ℕ)
      → Answers otp
      (world a.0 a.1.0.now a.1.1.0.now (picture a.1.1.1.0.now a.1.1.1.1.0.now) a.1.1.1.1.1.0.now a.1.1.1.1.1.1.0.now g
      a.1.1.1.1.1.1.1.0.now)
      (Call.read_data a.1.1.1.1.1.1.1.1.0)
      (answer_in r)
      (world (reading_in r).state s.1.0.now a.1.1.0.now (picture s.1.1.1.0.now s.1.1.1.1.0.now) a.1.1.1.1.1.0.now a.1.1.1.1.1.1.0.now g
      s.1.1.1.1.1.1.1.0.now)
  -- state, register
  set_ambient : (κs : Lfts 0) (a : _) (r : _) (s : _) → ambient-reads.Learnt κs a r s → (otp : List ℕ) (w : World)
      → Answers otp (device_in_world.put w a.0) (Call.set_ambient a.1.0) (answer_in r) (device_in_world.put w (state_in r))
  -- state; the count is the caller's
  take_diagnostics : (κs : Lfts 0) (a : _) (r : _) (s : _) → diagnostics-reads.Learnt κs a r s → (otp : List ℕ) (w : World)
      → Answers otp (device_in_world.put w a.0) Call.take_diagnostics (answer_in r) (device_in_world.put w (taken_in r).state)

-- calls made one after the other, by those that were accepted: as `Runs`, with the contracts' facts in place of the calls' definitions
pub data Made (otp : List ℕ) : World → List Call → World → Type 0 where
  done : {w : World} → Made otp w [] w
  accepted : {w v u : World} {call : Call} {calls : List Call} → Answers otp w call (Ok tt) v → Made otp v calls u → Made otp w (call ∷ calls) u
  refused : {w v u handed back : World} {reason : Result Unit Refusal} {calls : List Call} (call : Call) (table : List ℕ) → (reason ≡ Ok tt → ⊥)
      → Answers table handed call reason back → Beside w handed back v → Made otp v calls u → Made otp w calls u
