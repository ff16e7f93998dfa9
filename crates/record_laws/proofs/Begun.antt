-- The reset line and a command byte leave a record that tells what the LUT register holds. Assumes nothing.
use Prim.Native.Nat.{ℕ}
use mathlib.Core.Bool.{Bool, true, false}
use mathlib.Core.List.{List}
use Rattle.device.specs.declared.Power.{Power}
use Rattle.device.specs.declared.Power.TheVariants.{Running, Asleep, InReset}
use Rattle.world.specs.World.{WithGlassLog, WithBuffers, Lent, on, log_in_glass_log}
use Rattle.chip.specs.Close.{closed}
use Rattle.chip.specs.Report.{logged}
use Rattle.reset.specs.Reset.{restored, cut, in_reset, asserted, released, by_line}
use Rattle.record_laws.proofs.Registers.{RecordedIn, reset_recorded}
use Rattle.record_laws.proofs.Activated.{activated_recorded}
use Rattle.begin.specs.Begin.{command_made, begun}
use Rattle.begin_laws.proofs.Kept.{begun_keeps}

module _ (otp luts : List ℕ) where
  asserted_recorded : (w : WithGlassLog) → RecordedIn otp (asserted luts w).device.regs
  unfolding asserted in_reset restored
  asserted_recorded w = reset_recorded otp (cut luts (on log_in_glass_log closed w)).device.config.user_id

  pub line_recorded : (low : Bool) (w : WithGlassLog) (power : Power) → RecordedIn otp w.device.regs
      → RecordedIn otp (by_line luts low w power).device.regs
  unfolding by_line released
  line_recorded true w InReset h = h
  line_recorded true w Running h = asserted_recorded w
  line_recorded true w Asleep h = asserted_recorded w
  line_recorded false w InReset h = h
  line_recorded false w Running h = h
  line_recorded false w Asleep h = h

-- a command byte, with the table that its activation is lent
pub begun_recorded : (k : Lent) (command : ℕ) (w : WithBuffers) (power : Power) → RecordedIn k.otp w.device.regs
    → RecordedIn k.otp (begun k command w power).device.regs
unfolding logged command_made restored
begun_recorded k command w power h =
    begun_keeps k (λ (x : WithBuffers). RecordedIn k.otp x.device.regs) (λ kind x h. h) (λ command kind x e h. h)
    (λ x h. reset_recorded k.otp x.device.config.user_id) (λ ns x h. h) (activated_recorded k)
    command w h power
