-- What each return of the code hands over, over plain variables. Assumes nothing.
use Prim.Native.Nat.{ℕ, ◌+◌, ◌*◌, ◌%◌}
use mathlib.Core.Path.{◌≡◌, refl}
use mathlib.Core.Bool.{Bool, true, false}
use Rattle.numbers.proofs.Cases.{took, passed}
use Rattle.counter.specs.Counter.{within_of}
use Rattle.diagnostic.specs.declared.DiagnosticKind.TheVariants.{CounterOutsideWindow, WithoutClock, WithoutAnalog}
use Rattle.diagnostic.specs.declared.Stage.{Stage}
use Rattle.diagnostic.specs.declared.Stage.TheVariants.{VcomSense}
use Rattle.device.specs.declared.Ssd1677.{Ssd1677}
use Rattle.device.specs.declared.Bus.{Bus}
use Rattle.device.specs.Parts.{with_bus}
use Rattle.world.specs.World.{WithLog, with_log}
use Rattle.moment.specs.Moments.{busy_for}
use Rattle.chip.specs.Report.{logged}
use Rattle.reset.specs.Reset.{restored}
use Rattle.start.specs.Start.{soft_reset, is_powered, unpowered, vcom_sensed, pointed}

pub resets : (d a r : Ssd1677) (b : Bus) → a ≡ restored d → b ≡ busy_for a.bus a.config.frequency a.now a.config.timing.soft_reset
    → r ≡ with_bus a b → r ≡ soft_reset d
unfolding soft_reset
resets d a r b p q s = rw (s, q, p)

module _ (stage : Stage) (k : WithLog) where
  pub has_power : k.device.clock ≡ true → k.device.analog ≡ true → k ≡ unpowered stage k
  unfolding unpowered
  has_power e f = took _ _ _ _ e (took _ _ _ _ f refl)

  pub lacks_analog : (z : WithLog) → k.device.clock ≡ true → k.device.analog ≡ false → z ≡ logged (WithoutAnalog stage) k → z ≡ unpowered stage k
  unfolding unpowered
  lacks_analog z e f g = took _ _ _ _ e (passed _ _ _ _ f g)

  pub lacks_clock : (z : WithLog) → k.device.clock ≡ false → z ≡ logged (WithoutClock stage) k → z ≡ unpowered stage k
  unfolding unpowered
  lacks_clock z e g = passed _ _ _ _ e g

module _ (k : WithLog) (b : Bool) where
  pub senses : (low : ℕ) (bus : Bus) (r : Ssd1677) → low ≡ k.device.regs.vcom_sense % 16 → b ≡ is_powered k.device → b ≡ true
      → bus ≡ busy_for k.device.bus k.device.config.frequency k.device.now ((low + 1) * 1000000000) → r ≡ with_bus k.device bus → with_log r k.log ≡ vcom_sensed k
  unfolding vcom_sensed
  senses low bus r v e h f g = rw (← e, h, g, f, v)

  pub senses_not : (z : WithLog) → b ≡ is_powered k.device → b ≡ false → z ≡ unpowered VcomSense k → z ≡ vcom_sensed k
  unfolding vcom_sensed
  senses_not z e h p = rw (← e, h) p

module _ (command : ℕ) (k : WithLog) (b : Bool) where
  pub points : b ≡ within_of k.device.regs.counter k.device.regs.window → b ≡ true → k ≡ pointed command k
  unfolding pointed
  points e h = rw (← e, h)

  pub points_not : (z : WithLog) → b ≡ within_of k.device.regs.counter k.device.regs.window → b ≡ false
      → z ≡ logged (CounterOutsideWindow command k.device.regs.counter.x k.device.regs.counter.y) k → z ≡ pointed command k
  unfolding pointed
  points_not z e h p = rw (← e, h) p
