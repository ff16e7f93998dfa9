-- No call is refused whose state, buffers and table are sound: it answers 0 and does what it is to do. Assumes nothing.
use Rattle.std.specs.Prelude.{Option, Some, None, Result, Ok}
use Prim.Native.Nat.{ℕ}
use mathlib.Core.Path.{◌≡◌, refl, ap}
use mathlib.Core.Bool.{true, false}
use mathlib.Core.List.{List}
use lib.ListN.{length}
use Rattle.otp.specs.Table.{bad_table}
use Rattle.device.specs.declared.Ssd1677.{Ssd1677}
use Rattle.device.specs.Parts.{with_config, with_journal}
use Rattle.world.specs.World.{World, lent_of, device_in_world, glass_in_world, glass_log_in_world, buffers_in_world, planes_in_world}
use Rattle.clock.specs.Advance.{advanced}
use Rattle.guard_lengths.specs.declared.Lengths.{Lengths}
use Rattle.guard.specs.declared.Refusal.{Refusal}
use Rattle.guard_lengths.specs.Lengths.{plane_bytes, log_bytes, fits, lengths_fit, counts_fit, lengths_of, glass_lent, glass_log_lent, planes_log_lent}
use Rattle.guard.specs.Refusals.{guarded, guarded_with_table}
use Rattle.guard_state.specs.State.{state_fine}
use Rattle.query.specs.Outcome.{outcome, unless, state_guarded}
use Rattle.query.specs.Queries.{with_ambient, ambient_set, WithCount, with_count, journal_emptied, diagnostics_taken}
use Rattle.wait.specs.Wait.{clock_moved}
use Rattle.res.specs.Line.{line_taken, line_moved}
use Rattle.low.specs.Command.{command_taken, command_written}
use Rattle.high.specs.Data.{data_in, data_written}
use Rattle.driven.specs.Read.{WithRead, with_read, read_in, data_read}
use Rattle.calls.specs.World.{Call, advance, set_reset, write_command, write_data, read_data, set_ambient, take_diagnostics, back, called, taken}
use Rattle.calls.specs.Sound.{lengths_in_world, Sound}
use Rattle.calls.proofs.Parts.{lengths_pass, has, sound_long}

-- ---- the guards let pass
granted : {A : Type 0} (r : Result Unit Refusal) (given done : A) → r ≡ Ok tt → unless r given done ≡ outcome 0 done
granted r given done e = rw e

pub state_passes : (d : Ssd1677) → state_fine d ≡ true → state_guarded d ≡ Ok tt
unfolding state_guarded
state_passes d e = rw e

three_pass : (d : Ssd1677) (l : Lengths) → state_fine d ≡ true → lengths_fit d.config.panel l ≡ true → counts_fit l ≡ true → guarded d l ≡ Ok tt
unfolding guarded
three_pass d l e f k = rw (e, f, k)

four_pass : (d : Ssd1677) (l : Lengths) (otp : List ℕ) → state_fine d ≡ true → lengths_fit d.config.panel l ≡ true → counts_fit l ≡ true → bad_table otp ≡ false
    → guarded_with_table d l otp ≡ Ok tt
unfolding guarded_with_table
four_pass d l otp e f k g = rw (e, f, k, g)

-- what is not lent has no wrong length
unlent : (size : ℕ) → fits None size ≡ true
unfolding fits
unlent size = refl

module _ (otp : List ℕ) (w : World) (s : Sound otp w) where
  -- a call that is lent the glass, and of the other buffers each or not
  lent_passes : (g b r o : Option ℕ) → fits g log_bytes ≡ true → fits b plane_bytes ≡ true → fits r plane_bytes ≡ true → fits o w.device.config.panel.height ≡ true
      → guarded w.device (lengths_of (length w.states) (length w.luts) (length w.picture.pixels) (length w.picture.counts) g b r o) ≡ Ok tt
  lent_passes g b r o e f h i =
      let l = sound_long otp w s in
      three_pass w.device (lengths_of (length w.states) (length w.luts) (length w.picture.pixels) (length w.picture.counts) g b r o) s.state
      (lengths_pass w.device.config.panel (length w.states) (length w.luts) (length w.picture.pixels) (length w.picture.counts) g b r o l.states l.luts l.pixels e f h i)
      s.counts

  glass_passes : guarded w.device (glass_lent (length w.states) (length w.luts) (length w.picture.pixels) (length w.picture.counts)) ≡ Ok tt
  glass_passes =
      lent_passes None None None None (unlent log_bytes) (unlent plane_bytes) (unlent plane_bytes) (unlent w.device.config.panel.height)

  log_passes : guarded w.device (glass_log_lent (length w.states) (length w.luts) (length w.picture.pixels) (length w.picture.counts) (length w.log)) ≡ Ok tt
  log_passes =
      lent_passes (Some (length w.log)) None None None (has (length w.log) log_bytes (sound_long otp w s).log) (unlent plane_bytes)
      (unlent plane_bytes) (unlent w.device.config.panel.height)

  planes_pass : guarded w.device
      (planes_log_lent (length w.states) (length w.luts) (length w.picture.pixels) (length w.picture.counts) (length w.log) (length w.black_white) (length w.red))
      ≡ Ok tt
  planes_pass =
      let l = sound_long otp w s in
      lent_passes (Some (length w.log)) (Some (length w.black_white)) (Some (length w.red)) None (has (length w.log) log_bytes l.log)
      (has (length w.black_white) plane_bytes l.black_white) (has (length w.red) plane_bytes l.red) (unlent w.device.config.panel.height)

  -- every call is accepted
  pub accepted_takes : (call : Call) → called otp w call ≡ outcome 0 (taken otp w call)
  unfolding clock_moved line_moved command_written data_written data_read ambient_set diagnostics_taken
  accepted_takes (advance time) = ap (back (glass_in_world.put w)) (granted _ (glass_in_world.get w) (advanced w.luts time (glass_in_world.get w)) glass_passes)
  accepted_takes (set_reset time low) = ap (back (glass_log_in_world.put w)) (granted _ (glass_log_in_world.get w) (line_taken w.luts time low (glass_log_in_world.get w)) log_passes)
  accepted_takes (write_command time command) =
      ap (back (buffers_in_world.put w))
      (granted _ (buffers_in_world.get w) (command_taken (lent_of otp w) time command (buffers_in_world.get w))
      (four_pass w.device (lengths_in_world w) otp s.state s.lengths s.counts s.table))
  accepted_takes (write_data time byte) = ap (back (planes_in_world.put w)) (granted _ (planes_in_world.get w) (data_in w.luts time byte (planes_in_world.get w)) planes_pass)
  accepted_takes (read_data time) =
      ap (back (λ (r : WithRead). glass_log_in_world.put w r.left))
      (granted _ (with_read (glass_log_in_world.get w) None) (read_in w.luts w.black_white w.red time (glass_log_in_world.get w)) planes_pass)
  accepted_takes (set_ambient register) =
      ap (back (device_in_world.put w))
      (granted _ w.device (with_config w.device (with_ambient w.device.config register)) (state_passes w.device s.state))
  accepted_takes take_diagnostics =
      ap (back (λ (t : WithCount). device_in_world.put w t.device))
      (granted _ (with_count w.device 0) (with_count (with_journal w.device (journal_emptied w.device.journal)) w.device.journal.count)
      (state_passes w.device s.state))
