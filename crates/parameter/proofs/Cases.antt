-- What each return of the code hands over, over plain variables. Assumes nothing.
use Prim.Native.Nat.{ℕ}
use mathlib.Core.Path.{◌≡◌}
use mathlib.Core.Bool.{Bool}
use mathlib.Core.List.{List}
use borrow.Author.Tests.{eq-eqb, ne_eqb}
use Rattle.auto_write.specs.Auto.{auto_written}
use Rattle.device.specs.declared.Ssd1677.{Ssd1677}
use Rattle.device.specs.declared.Registers.{Registers}
use Rattle.device.specs.Parts.{with_regs}
use Rattle.world.specs.World.{WithLog, with_log, WithRam, with_ram, log_in_ram}
use Rattle.registers.specs.Store.{stored}
use Rattle.listed.specs.Listed.{listed}
use Rattle.acts.specs.Reserved.{checked}
use Rattle.acts.specs.Acts.{slept, hv_ready, vci_sensed}
use Rattle.parameter.specs.Parameter.{register_taken, writing, auto_taken, parameter_taken}

pub checks_listed : (b : Bool) (command index byte : ℕ) (k z : WithLog) → b ≡ listed k.device.regs command index byte → z ≡ checked b command byte k
    → z ≡ checked (listed k.device.regs command index byte) command byte k
checks_listed b command index byte k z e f = rw (← e) f

pub stores : (command index byte : ℕ) (k : WithLog) (g : Registers) (d : Ssd1677) (z : WithLog) → g ≡ stored k.device.regs command index byte
    → d ≡ with_regs k.device g → z ≡ checked (listed d.regs command index byte) command byte (with_log d k.log) → z ≡ register_taken command index byte k
unfolding register_taken
stores command index byte k g d z e₁ e₂ e₃ = rw (e₃, e₂, e₁)

module _ (command byte : ℕ) (w : WithRam) (plane : List ℕ) (k : WithLog) (r : Ssd1677)
    (said : k ≡ checked (listed w.device.regs command 0 byte) command byte (with_log w.device w.log)) (busy : r ≡ writing k.device) where
  pub fills_red : command ≡ 0x46 → plane ≡ auto_written byte w.red → with_ram r w.black_white plane k.log ≡ auto_taken command byte w
  unfolding auto_taken
  fills_red h e = rw (eq-eqb command 0x46 h, busy, said, e)

  pub fills_black_white : (command ≡ 0x46 → ⊥) → plane ≡ auto_written byte w.black_white → with_ram r plane w.red k.log ≡ auto_taken command byte w
  unfolding auto_taken
  fills_black_white h e = rw (ne_eqb command 0x46 h, busy, said, e)

-- one arm a command
module _ (command index byte : ℕ) (w z : WithRam) where
  pub sleeps : command ≡ 0x10 → z ≡ slept byte w → z ≡ parameter_taken command index byte w
  unfolding parameter_taken
  sleeps h e = rw h e

  pub fills_0x46 : command ≡ 0x46 → z ≡ auto_taken 0x46 byte w → z ≡ parameter_taken command index byte w
  unfolding parameter_taken
  fills_0x46 h e = rw h e

  pub fills_0x47 : command ≡ 0x47 → z ≡ auto_taken 0x47 byte w → z ≡ parameter_taken command index byte w
  unfolding parameter_taken
  fills_0x47 h e = rw h e

module _ (command index byte : ℕ) (w : WithRam) (k : WithLog) where
  pub readies : command ≡ 0x14 → k ≡ hv_ready byte (with_log w.device w.log) → log_in_ram.put w k ≡ parameter_taken command index byte w
  unfolding parameter_taken
  readies h e = rw (h, e)

  pub senses : command ≡ 0x15 → k ≡ vci_sensed byte (with_log w.device w.log) → log_in_ram.put w k ≡ parameter_taken command index byte w
  unfolding parameter_taken
  senses h e = rw (h, e)

  pub takes : (command ≡ 0x10 → ⊥) → (command ≡ 0x14 → ⊥) → (command ≡ 0x15 → ⊥) → (command ≡ 0x46 → ⊥) → (command ≡ 0x47 → ⊥)
      → k ≡ register_taken command index byte (with_log w.device w.log) → log_in_ram.put w k ≡ parameter_taken command index byte w
  unfolding parameter_taken
  takes h₁ h₂ h₃ h₄ h₅ e =
      rw (ne_eqb command 0x10 h₁, ne_eqb command 0x14 h₂, ne_eqb command 0x15 h₃, ne_eqb command 0x46 h₄, ne_eqb command 0x47 h₅, e)
