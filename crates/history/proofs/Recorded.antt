-- SCOPE, Grey counts (#108): after every list of calls from every accepted start, the record of the waveform loaded is 255, or it is the number of
-- an entry of the table, and all bytes of the LUT register but 105 to 109, which the voltage commands write, are still those of that entry's
-- setting. The one premise is acceptance.
use Prim.Native.Nat.{ℕ}
use mathlib.Core.Path.{◌≡◌, sym, subst}
use mathlib.Core.Bool.{true}
use mathlib.Core.List.{List}
use Rattle.config.specs.declared.Ssd1677Config.{Ssd1677Config}
use Rattle.config.specs.Answer.{is_accepted}
use Rattle.world.specs.World.{World, with_log, WithGlass, with_ram, lent_of, on, glass_in_glass_log, log_in_buffers, glass_in_world, glass_log_in_world, buffers_in_world}
use Rattle.clock.specs.Advance.{advanced}
use Rattle.clock.proofs.Arrived.{regs_advanced}
use Rattle.chip.specs.Close.{closed}
use Rattle.record_laws.proofs.Registers.{RecordedIn, reset_recorded}
use Rattle.record_laws.proofs.Begun.{line_recorded, begun_recorded}
use Rattle.record_laws.proofs.Data.{data_recorded}
use Rattle.record_laws.proofs.Read.{read_recorded}
use Rattle.res.specs.Line.{line_taken}
use Rattle.low.specs.Command.{moved_to, command_taken}
use Rattle.high.specs.Data.{data_in}
use Rattle.driven.specs.Read.{read_in}
use Rattle.power_on.specs.Start.{Buffers, Powered, powered_on, powered_up, started, world_of}
use Rattle.power_on.proofs.Accepted.{left_is}
use Rattle.calls.specs.World.{Call, advance, set_reset, write_command, write_data, read_data, set_ambient, take_diagnostics, taken}
use Rattle.history.specs.Runs.{Runs, done, accepted, refused}
use Rattle.history.proofs.Calls.{accepted_taken, refused_changes_nothing}

-- the record of a world
abbrev RecordedWorld : List ℕ → World → Type 0
RecordedWorld otp w = RecordedIn otp w.device.regs

-- ---- every call
module _ (otp : List ℕ) (w : World) (h : RecordedWorld otp w) where
  -- the clock has moved
  abbrev g : ℕ → WithGlass
  g time = advanced w.luts time (glass_in_world.get w)

  moves : (time : ℕ) → RecordedIn otp (g time).device.regs
  moves time = subst (RecordedIn otp) (sym (regs_advanced w.luts time (glass_in_world.get w))) h

  taken_recorded : (call : Call) → RecordedWorld otp (taken otp w call)
  unfolding line_taken command_taken data_in read_in closed
  taken_recorded (advance time) = moves time
  taken_recorded (set_reset time low) =
      let a = on glass_in_glass_log (advanced w.luts time) (glass_log_in_world.get w) in
      line_recorded otp w.luts low a a.device.bus.power (moves time)
  taken_recorded (write_command time command) =
      let a = on log_in_buffers closed (moved_to time (buffers_in_world.get w)) in
      begun_recorded (lent_of otp w) command a a.device.bus.power (moves time)
  taken_recorded (write_data time byte) =
      data_recorded otp byte (with_ram (g time).device w.black_white w.red w.log) (g time).device.bus.current (moves time)
  taken_recorded (read_data time) =
      read_recorded otp w.black_white w.red (with_log (g time).device w.log) (moves time) (g time).device.bus.power
  taken_recorded (set_ambient register) = h
  taken_recorded take_diagnostics = h

-- ---- over the list
run_recorded : {otp : List ℕ} {w u : World} {calls : List Call} → Runs otp w calls u → RecordedWorld otp w → RecordedWorld otp u
run_recorded done h = h
run_recorded {otp = otp} (accepted {w = w} {v = v} {call = call} e rest) h =
    run_recorded rest (subst (RecordedWorld otp) (sym (accepted_taken otp w v call e)) (taken_recorded otp w h call))
run_recorded {otp = otp} (refused {w = w} {v = v} {handed = handed} {back = back} {number = number} call table n e b rest) h =
    run_recorded rest (subst (RecordedWorld otp) (sym (refused_changes_nothing table w handed back v number call n e b)) h)

-- at first no waveform is loaded
powered_recorded : (c : Ssd1677Config) (otp : List ℕ) (b : Buffers) → RecordedWorld otp (world_of (powered_up c b))
unfolding powered_up powered_on
powered_recorded c otp b = reset_recorded otp c.user_id

-- the theorem
pub recorded : (c : Ssd1677Config) (otp : List ℕ) (b : Buffers) → is_accepted (started c otp b).answer ≡ true → (calls : List Call) (u : World)
    → Runs otp (world_of (started c otp b).left) calls u → RecordedIn otp u.device.regs
recorded c otp b ok calls u runs =
    run_recorded runs (subst (λ (p : Powered). RecordedWorld otp (world_of p)) (sym (left_is c otp b ok)) (powered_recorded c otp b))
