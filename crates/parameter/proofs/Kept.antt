-- What a parameter byte leaves (`KeptRam` of acts): configuration, clock, glass and display, the current command, the lengths, and registers and
-- log within the bounds of 13. Assumes nothing.
use Prim.Native.Nat.{ℕ, ◌≤◌}
use native.Mathlib.Omega.{arith}
use mathlib.Core.Path.{◌≡◌, refl}
use mathlib.Core.Bool.{Bool, true, false}
use mathlib.Core.List.{List}
use lib.Dec.{eqb}
use lib.ListN.{length, length-append, length-drop}
use Rattle.numbers.specs.Choice.{pick}
use Rattle.numbers.proofs.Painted.{length_tab}
use Rattle.auto_write.specs.Auto.{auto_written}
use Rattle.device.specs.Parts.{with_regs}
use Rattle.world.specs.World.{WithLog, with_log, WithRam, with_ram, on, device_in_ram, log_in_ram}
use Rattle.registers.specs.Store.{stored}
use Rattle.registers.proofs.Bounds.{stored_bounded}
use Rattle.listed.specs.Listed.{listed}
use Rattle.acts.specs.Reserved.{checked}
use Rattle.acts.specs.Acts.{slept, hv_ready, vci_sensed}
use Rattle.acts_laws.proofs.Kept.{Kept, KeptRam, same_all, kept_then, ram_then, on_log, checked_kept, busy_kept, slept_kept, hv_ready_kept, vci_sensed_kept}
use Rattle.parameter.specs.Parameter.{register_taken, writing, auto_filled, auto_taken, parameter_taken}

module _ (byte : ℕ) (k : WithLog) where
  register_kept : (command index : ℕ) → byte ≤ 255 → Kept k (register_taken command index byte k)
  unfolding register_taken
  register_kept command index small =
      let regs = stored k.device.regs command index byte in
      let j = with_log (with_regs k.device regs) k.log in
      kept_then k j (checked (listed regs command index byte) command byte j)
      (record {
        same = record { same_config = refl; same_now = refl; same_panel = refl; same_display = refl; same_current = refl };
        sound = λ s. record { bounded = stored_bounded k.device.regs command index byte small s.bounded; room = s.room; long = s.long };
      })
      (checked_kept (listed regs command index byte) command byte j)

auto_length : (byte : ℕ) (p : List ℕ) → length (auto_written byte p) ≡ length p
unfolding auto_written
auto_length byte p = simp (length-append, length_tab, length-drop) (omega arith)

module _ (command byte : ℕ) where
  filled_kept : (w : WithRam) → KeptRam w (auto_filled command byte w)
  filled_kept w = by (eqb command 0x46)
    where
      by : (b : Bool)
          → KeptRam w
          (pick b (with_ram w.device w.black_white (auto_written byte w.red) w.log) (with_ram w.device (auto_written byte w.black_white) w.red w.log))
      by true = record { same = same_all w.device; sound = λ s. s; black_white_long = refl; red_long = auto_length byte w.red }
      by false = record { same = same_all w.device; sound = λ s. s; black_white_long = auto_length byte w.black_white; red_long = refl }

  writing_kept : (w : WithRam) → KeptRam w (on device_in_ram writing w)
  writing_kept w =
      let p = busy_kept w.device w.log w.device.config.timing.auto_write in
      record { same = p.same; sound = p.sound; black_white_long = refl; red_long = refl }

  auto_kept : (w : WithRam) → KeptRam w (auto_taken command byte w)
  unfolding auto_taken
  auto_kept w =
      let f = checked (listed w.device.regs command 0 byte) command byte in
      let v = auto_filled command byte w in
      ram_then w (on log_in_ram f v) (on device_in_ram writing (on log_in_ram f v))
      (ram_then w v (on log_in_ram f v) (filled_kept w) (on_log f v (checked_kept (listed w.device.regs command 0 byte) command byte (with_log v.device v.log))))
      (writing_kept (on log_in_ram f v))

pub parameter_kept : (command index byte : ℕ) (w : WithRam) → byte ≤ 255 → KeptRam w (parameter_taken command index byte w)
unfolding parameter_taken
parameter_kept command index byte w small = by (eqb command 0x10) (eqb command 0x14) (eqb command 0x15) (eqb command 0x46) (eqb command 0x47)
  where
    k : WithLog
    k = with_log w.device w.log

    by : (b₁ b₂ b₃ b₄ b₅ : Bool)
        → KeptRam w
        (pick b₁ (slept byte w)
        (pick b₂ (on log_in_ram (hv_ready byte) w)
        (pick b₃ (on log_in_ram (vci_sensed byte) w)
        (pick b₄ (auto_taken 0x46 byte w) (pick b₅ (auto_taken 0x47 byte w) (on log_in_ram (register_taken command index byte) w))))))
    by true b₂ b₃ b₄ b₅ = slept_kept byte w
    by false true b₃ b₄ b₅ = on_log (hv_ready byte) w (hv_ready_kept byte k)
    by false false true b₄ b₅ = on_log (vci_sensed byte) w (vci_sensed_kept byte k)
    by false false false true b₅ = auto_kept 0x46 byte w
    by false false false false true = auto_kept 0x47 byte w
    by false false false false false = on_log (register_taken command index byte) w (register_kept byte k command index small)
