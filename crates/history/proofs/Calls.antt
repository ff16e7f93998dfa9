-- What an answer tells of a call, by the contract of its entry point: one that is accepted leaves what its definition says; one that is
-- refused leaves every part that it was handed, so that a run beside it stays as it was. Assumes nothing.
use Rattle.std.specs.Prelude.{None, Result, Ok, Err}
use Prim.Native.Nat.{ℕ, suc}
use mathlib.Core.Path.{◌≡◌, sym, ap, ◌∙◌}
use mathlib.Core.List.{List}
use native.Mathlib.Omega.{arith}
use lib.ListN.{length}
use Rattle.guard.specs.declared.Refusal.{Refusal}
use Rattle.guard.specs.declared.Refusal.TheVariants.{Buffer, Table, State, Counts}
use Rattle.guard_lengths.specs.Lengths.{glass_lent, glass_log_lent, planes_log_lent}
use Rattle.guard.specs.Refusals.{guarded, guarded_with_table}
use Rattle.clock.specs.Advance.{advanced}
use Rattle.device.specs.Parts.{with_config, with_journal}
use Rattle.world.specs.World.{World, lent_of, device_in_world, glass_in_world, glass_log_in_world, buffers_in_world, planes_in_world}
use Rattle.query.specs.Outcome.{Outcome, outcome, unless, state_guarded}
use Rattle.query.specs.Queries.{with_ambient, ambient_set, WithCount, with_count, journal_emptied, diagnostics_taken}
use Rattle.wait.specs.Wait.{clock_moved}
use Rattle.res.specs.Line.{line_taken, line_moved}
use Rattle.low.specs.Command.{command_taken, command_written}
use Rattle.high.specs.Data.{data_in, data_written}
use Rattle.driven.specs.Read.{WithRead, with_read, read_in, data_read}
use Rattle.calls.specs.World.{Call, advance, set_reset, write_command, write_data, read_data, set_ambient, take_diagnostics, back, called, taken}
use Rattle.calls.specs.Sound.{lengths_in_world}
use Rattle.history.specs.Runs.{Beside}

-- ---- by the number alone
nought : (n : ℕ) → 0 ≡ suc n → ⊥
nought n e = omega arith

module _ {A : Type 0} (put : A → World) (given done : A) where
  decides : (r : Result Unit Refusal) (v : World) → outcome 0 v ≡ back put (unless r given done) → v ≡ put done
  decides (Ok value) v e = ap (λ (o : Outcome World). o.held) e
  decides (Err Buffer) v e = absurd (nought 10 (ap (λ (o : Outcome World). o.number) e))
  decides (Err Table) v e = absurd (nought 11 (ap (λ (o : Outcome World). o.number) e))
  decides (Err State) v e = absurd (nought 12 (ap (λ (o : Outcome World). o.number) e))
  decides (Err Counts) v e = absurd (nought 14 (ap (λ (o : Outcome World). o.number) e))

  declines : (r : Result Unit Refusal) (number : ℕ) (v : World) → (number ≡ 0 → ⊥) → outcome number v ≡ back put (unless r given done) → v ≡ put given
  declines (Ok value) number v n e = absurd (n (ap (λ (o : Outcome World). o.number) e))
  declines (Err Buffer) number v n e = ap (λ (o : Outcome World). o.held) e
  declines (Err Table) number v n e = ap (λ (o : Outcome World). o.held) e
  declines (Err State) number v n e = ap (λ (o : Outcome World). o.held) e
  declines (Err Counts) number v n e = ap (λ (o : Outcome World). o.held) e

-- ---- by call
pub accepted_taken : (otp : List ℕ) (w v : World) (call : Call) → outcome 0 v ≡ called otp w call → v ≡ taken otp w call
unfolding clock_moved line_moved command_written data_written data_read ambient_set diagnostics_taken
accepted_taken otp w v (advance time) e =
    decides (glass_in_world.put w) (glass_in_world.get w) (advanced w.luts time (glass_in_world.get w))
    (guarded w.device (glass_lent (length w.states) (length w.luts) (length w.picture.pixels) (length w.picture.counts))) v e
accepted_taken otp w v (set_reset time low) e =
    decides (glass_log_in_world.put w) (glass_log_in_world.get w) (line_taken w.luts time low (glass_log_in_world.get w))
    (guarded w.device (glass_log_lent (length w.states) (length w.luts) (length w.picture.pixels) (length w.picture.counts) (length w.log))) v e
accepted_taken otp w v (write_command time command) e =
    decides (buffers_in_world.put w) (buffers_in_world.get w) (command_taken (lent_of otp w) time command (buffers_in_world.get w))
    (guarded_with_table w.device (lengths_in_world w) otp) v e
accepted_taken otp w v (write_data time byte) e =
    decides (planes_in_world.put w) (planes_in_world.get w) (data_in w.luts time byte (planes_in_world.get w))
    (guarded w.device (planes_log_lent (length w.states) (length w.luts) (length w.picture.pixels) (length w.picture.counts) (length w.log) (length w.black_white) (length w.red))) v e
accepted_taken otp w v (read_data time) e =
    decides (λ (r : WithRead). glass_log_in_world.put w r.left) (with_read (glass_log_in_world.get w) None) (read_in w.luts w.black_white w.red time (glass_log_in_world.get w))
    (guarded w.device (planes_log_lent (length w.states) (length w.luts) (length w.picture.pixels) (length w.picture.counts) (length w.log) (length w.black_white) (length w.red))) v e
accepted_taken otp w v (set_ambient register) e =
    decides (device_in_world.put w) w.device (with_config w.device (with_ambient w.device.config register))
    (state_guarded w.device) v e
accepted_taken otp w v take_diagnostics e =
    decides (λ (t : WithCount). device_in_world.put w t.device) (with_count w.device 0) (with_count (with_journal w.device (journal_emptied w.device.journal)) w.device.journal.count)
    (state_guarded w.device) v e

pub refused_same : (otp : List ℕ) (w v : World) (number : ℕ) (call : Call) → (number ≡ 0 → ⊥) → outcome number v ≡ called otp w call → v ≡ w
unfolding clock_moved line_moved command_written data_written data_read ambient_set diagnostics_taken
refused_same otp w v number (advance time) n e =
    declines (glass_in_world.put w) (glass_in_world.get w) (advanced w.luts time (glass_in_world.get w))
    (guarded w.device (glass_lent (length w.states) (length w.luts) (length w.picture.pixels) (length w.picture.counts))) number v n e
refused_same otp w v number (set_reset time low) n e =
    declines (glass_log_in_world.put w) (glass_log_in_world.get w) (line_taken w.luts time low (glass_log_in_world.get w))
    (guarded w.device (glass_log_lent (length w.states) (length w.luts) (length w.picture.pixels) (length w.picture.counts) (length w.log))) number v n e
refused_same otp w v number (write_command time command) n e =
    declines (buffers_in_world.put w) (buffers_in_world.get w) (command_taken (lent_of otp w) time command (buffers_in_world.get w))
    (guarded_with_table w.device (lengths_in_world w) otp) number v n e
refused_same otp w v number (write_data time byte) n e =
    declines (planes_in_world.put w) (planes_in_world.get w) (data_in w.luts time byte (planes_in_world.get w))
    (guarded w.device (planes_log_lent (length w.states) (length w.luts) (length w.picture.pixels) (length w.picture.counts) (length w.log) (length w.black_white) (length w.red))) number v n e
refused_same otp w v number (read_data time) n e =
    declines (λ (r : WithRead). glass_log_in_world.put w r.left) (with_read (glass_log_in_world.get w) None) (read_in w.luts w.black_white w.red time (glass_log_in_world.get w))
    (guarded w.device (planes_log_lent (length w.states) (length w.luts) (length w.picture.pixels) (length w.picture.counts) (length w.log) (length w.black_white) (length w.red))) number v n e
refused_same otp w v number (set_ambient register) n e =
    declines (device_in_world.put w) w.device (with_config w.device (with_ambient w.device.config register))
    (state_guarded w.device) number v n e
refused_same otp w v number take_diagnostics n e =
    declines (λ (t : WithCount). device_in_world.put w t.device) (with_count w.device 0) (with_count (with_journal w.device (journal_emptied w.device.journal)) w.device.journal.count)
    (state_guarded w.device) number v n e

-- ---- a run beside a refused call
pub beside_same : (own handed back next : World) → back ≡ handed → Beside own handed back next → next ≡ own
beside_same own handed back next e b = b.after ∙ ap b.put e ∙ sym b.before

-- a refused call changes none of the run's state and buffers, whatever it was handed
pub refused_changes_nothing : (otp : List ℕ) (own handed back next : World) (number : ℕ) (call : Call) → (number ≡ 0 → ⊥)
    → outcome number back ≡ called otp handed call → Beside own handed back next → next ≡ own
refused_changes_nothing otp own handed back next number call n e b = beside_same own handed back next (refused_same otp handed back number call n e) b
