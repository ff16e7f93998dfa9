-- What a parameter byte does (mod.rs, `parameter`).
use Rattle.std.specs.Prelude.{ℕ, eqb}
use Rattle.numbers.specs.Choice.{pick}
use Rattle.auto_write.specs.Auto.{auto_written}
use Rattle.device.specs.declared.Ssd1677.{Ssd1677}
use Rattle.device.specs.Parts.{with_regs}
use Rattle.world.specs.World.{WithLog, with_log, WithRam, with_ram, on, device_in_ram, log_in_ram}
use Rattle.registers.specs.Store.{stored}
use Rattle.listed.specs.Listed.{listed}
use Rattle.start.specs.Start.{with_busy_for}
use Rattle.acts.specs.Reserved.{checked}
use Rattle.acts.specs.Acts.{slept, hv_ready, vci_sensed}

-- a register's byte: stored, and 30 unless it is listed
unfoldable pub register_taken : ℕ → ℕ → ℕ → WithLog → WithLog
register_taken command index byte k =
    let regs = stored k.device.regs command index byte in
    checked (listed regs command index byte) command byte (with_log (with_regs k.device regs) k.log)

-- BUSY high for the time of an auto write
abbrev pub writing : Ssd1677 → Ssd1677
writing d = with_busy_for d d.config.timing.auto_write

-- 0x46: the red plane written whole, 0x47: the black-white one
abbrev pub auto_filled : ℕ → ℕ → WithRam → WithRam
auto_filled command byte w =
    pick (eqb command 0x46)
    (with_ram w.device w.black_white (auto_written byte w.red) w.log)
    (with_ram w.device (auto_written byte w.black_white) w.red w.log)

-- 0x46 and 0x47: the plane written, 30 unless the byte is listed, and BUSY
unfoldable pub auto_taken : ℕ → ℕ → WithRam → WithRam
auto_taken command byte w =
    on device_in_ram writing (on log_in_ram (checked (listed w.device.regs command 0 byte) command byte) (auto_filled command byte w))

-- parameter byte `index` of a command
unfoldable pub parameter_taken : ℕ → ℕ → ℕ → WithRam → WithRam
parameter_taken command index byte w =
    pick (eqb command 0x10) (slept byte w)
    (pick (eqb command 0x14) (on log_in_ram (hv_ready byte) w)
    (pick (eqb command 0x15) (on log_in_ram (vci_sensed byte) w)
    (pick (eqb command 0x46) (auto_taken 0x46 byte w)
    (pick (eqb command 0x47) (auto_taken 0x47 byte w)
    (on log_in_ram (register_taken command index byte) w)))))
