-- What each return of the code hands over, over plain variables. Assumes nothing.
use Prim.Native.Nat.{ℕ, ◌+◌, ◌-◌, ◌*◌, ◌/◌, ◌%◌, ◌≤◌, ◌<◌}
use mathlib.Core.Path.{◌≡◌}
use mathlib.Core.Bool.{Bool, true, false, ◌&&◌, ◌||◌}
use mathlib.Core.List.{List}
use lib.Dec.{eqb, leb, ltb}
use borrow.Author.Tests.{ne_eqb, le-leb, lt-leb}
use Rattle.diagnostic.specs.Log.{Entries, reserved_reported}
use Rattle.diagnostic.specs.declared.Stage.TheVariants.{HvReadyDetection, VciDetection}
use Rattle.device.specs.declared.Ssd1677.{Ssd1677}
use Rattle.device.specs.Parts.{with_journal}
use Rattle.world.specs.World.{WithLog, with_log, WithRam, with_ram}
use Rattle.chip.specs.Close.{entries_of}
use Rattle.start.specs.Start.{with_busy_for, is_powered, unpowered}
use Rattle.acts.specs.Reserved.{reserved, checked}
use Rattle.acts.specs.Acts.{asleep, zeros, sleeps, slept, with_hv_not_ready, hv_detected, hv_ready, vci_level, with_vci_low, vci_detected, vci_sensed}

pub reserves : (command value : ℕ) (k : WithLog) (e : Entries) (r : Ssd1677) → e ≡ reserved_reported (entries_of k) k.device.now command value
    → r ≡ with_journal k.device e.journal → with_log r e.log ≡ reserved command value k
unfolding reserved
reserves command value k e r p q = rw (q, p)

module _ (b : Bool) (command value : ℕ) (k : WithLog) where
  pub checks : b ≡ true → k ≡ checked b command value k
  unfolding checked
  checks h = rw h

  pub checks_not : (z : WithLog) → b ≡ false → z ≡ reserved command value k → z ≡ checked b command value k
  unfolding checked
  checks_not z h e = rw h e

module _ (byte : ℕ) (w : WithRam) (k : WithLog) (low : ℕ)
    (said : k ≡ checked (eqb byte 0 || eqb byte 3) 0x10 byte (with_log w.device w.log)) (is : low ≡ byte % 4) where
  pub stays_awake : low ≡ 0 → with_ram k.device w.black_white w.red k.log ≡ slept byte w
  unfolding slept sleeps
  stays_awake h = rw (← is, h, said)

  pub loses : (r : Ssd1677) (b red : List ℕ) → low ≡ 3 → b ≡ zeros w.black_white → red ≡ zeros w.red → r ≡ asleep k.device
      → with_ram r b red k.log ≡ slept byte w
  unfolding slept sleeps
  loses r b red h e₁ e₂ e₃ = rw (← is, h, e₃, e₂, e₁, said)

  pub keeps : (r : Ssd1677) → (low ≡ 0 → ⊥) → (low ≡ 3 → ⊥) → r ≡ asleep k.device → with_ram r w.black_white w.red k.log ≡ slept byte w
  unfolding slept sleeps
  keeps r h₀ h₃ e = rw (← is, ne_eqb low 0 h₀, ne_eqb low 3 h₃, e, said)

module _ (byte : ℕ) (k : WithLog) (b : Bool) (is : b ≡ is_powered k.device) where
  pub readies : (steps : ℕ) (d r : Ssd1677) → b ≡ true → steps ≡ byte / 16 % 8 → d ≡ with_hv_not_ready k.device false
      → r ≡ with_busy_for d ((steps + 1) * 10000000) → with_log r k.log ≡ hv_detected byte k
  unfolding hv_detected
  readies steps d r h e₁ e₂ e₃ = rw (← is, h, e₃, e₂, e₁)

  pub readies_not : (u : WithLog) (r : Ssd1677) → b ≡ false → u ≡ unpowered HvReadyDetection k → r ≡ with_hv_not_ready u.device true
      → with_log r u.log ≡ hv_detected byte k
  unfolding hv_detected
  readies_not u r h e₁ e₂ = rw (← is, h, e₂, e₁)

  pub senses : (least : ℕ) (d r : Ssd1677) → b ≡ true → least ≡ vci_level byte → d ≡ with_vci_low k.device (ltb k.device.config.vci_millivolts least)
      → r ≡ with_busy_for d k.device.config.timing.vci_detection → with_log r k.log ≡ vci_detected byte k
  unfolding vci_detected
  senses least d r h e₁ e₂ e₃ = rw (← is, h, e₃, e₂, e₁)

  pub senses_not : (z : WithLog) → b ≡ false → z ≡ unpowered VciDetection k → z ≡ vci_detected byte k
  unfolding vci_detected
  senses_not z h e = rw (← is, h) e

pub is_ready : (byte : ℕ) (b : Bool) (k j z : WithLog) → b ≡ (eqb (byte / 128) 0 && eqb (byte / 8 % 2) 0) → j ≡ checked b 0x14 byte k → z ≡ hv_detected byte j
    → z ≡ hv_ready byte k
unfolding hv_ready
is_ready byte b k j z e₁ e₂ e₃ = rw (e₃, e₂, e₁)

pub is_sensed : (byte : ℕ) (b : Bool) (k j z : WithLog) → b ≡ (leb 3 byte && ltb byte 8) → j ≡ checked b 0x15 byte k → z ≡ vci_detected byte j
    → z ≡ vci_sensed byte k
unfolding vci_sensed
is_sensed byte b k j z e₁ e₂ e₃ = rw (e₃, e₂, e₁)

module _ (byte step : ℕ) (is : step ≡ byte % 8) where
  pub level_of : 3 ≤ step → 2200 + 100 * (step - 3) ≡ vci_level byte
  level_of h = rw (← is, le-leb 3 step h)

  pub level_else : step < 3 → 2300 ≡ vci_level byte
  level_else h = rw (← is, lt-leb 3 step h)
