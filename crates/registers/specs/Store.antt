-- What a parameter byte stores in the registers, by command and index (datasheet Table 7-1, as mod.rs has it).
use Rattle.std.specs.Prelude.{List, ℕ, ◌+◌, ◌*◌, ◌/◌, ◌%◌, min, eqb, ltb, set}
use Rattle.numbers.specs.Choice.{pick, bit_of}
use Rattle.config.specs.declared.GateScan.{GateScan}
use Rattle.counter.specs.declared.Window.{Window}
use Rattle.counter.specs.declared.Counter.{Counter}
use Rattle.counter.specs.Registers.{ten_bits}
use Rattle.device.specs.declared.Registers.{Registers}

-- what a register holds after a byte of a command: `new` where that command writes it, and what it held where not
abbrev pub on_command : {A : Type 0} → ℕ → ℕ → A → A → A
on_command writer command new held = pick (eqb command writer) new held

-- a byte put at a place of an array; past the array's end nothing is stored
abbrev pub bytes_put : ℕ → List ℕ → ℕ → ℕ → List ℕ
bytes_put size bytes at byte = pick (ltb at size) (set bytes at byte) bytes

-- 0x01, bytes A and B: MUX[9:0], the low byte first
abbrev pub mux_after : ℕ → ℕ → ℕ → ℕ
mux_after mux index byte = pick (ltb index 2) (ten_bits mux index byte) mux

-- 0x01, byte C: SM is bit 1 and GD bit 2; TB, bit 0, is reserved and read as 0
abbrev pub gate_scan_after : GateScan → ℕ → ℕ → GateScan
gate_scan_after scan index byte = pick (ltb index 2) scan (record { sm = bit_of byte 1; gd = bit_of byte 2 })

-- the LUT register: 0x32 writes it from its first byte on, 0x03 VGH at 105, 0x04 VSH1, VSH2 and VSL at 106 to 108, 0x2C VCOM at 109
abbrev pub lut_after : List ℕ → ℕ → ℕ → ℕ → List ℕ
lut_after lut command index byte =
    on_command 0x03 command (set lut 105 byte)
    (on_command 0x04 command (set lut (106 + min index 2) byte)
    (on_command 0x2C command (set lut 109 byte)
    (on_command 0x32 command (bytes_put 112 lut index byte) lut)))

-- 0x44 and 0x45, bytes A and B: the window's start, the low byte first
abbrev pub start_after : ℕ → ℕ → ℕ → ℕ
start_after start index byte = pick (ltb index 2) (ten_bits start (index % 2) byte) start

-- 0x44 and 0x45, bytes C and D: the window's end, the low byte first
abbrev pub end_after : ℕ → ℕ → ℕ → ℕ
end_after end index byte = pick (ltb index 2) end (ten_bits end (index % 2) byte)

-- 0x44 writes the window in x, 0x45 in y
abbrev pub window_after : Window → ℕ → ℕ → ℕ → Window
window_after w command index byte =
    record {
      x_start = on_command 0x44 command (start_after w.x_start index byte) w.x_start;
      x_end = on_command 0x44 command (end_after w.x_end index byte) w.x_end;
      y_start = on_command 0x45 command (start_after w.y_start index byte) w.y_start;
      y_end = on_command 0x45 command (end_after w.y_end index byte) w.y_end;
    }

-- 0x4E writes the counter's x, 0x4F its y, the low byte first
abbrev pub counter_after : Counter → ℕ → ℕ → ℕ → Counter
counter_after c command index byte =
    record {
      x = on_command 0x4E command (ten_bits c.x index byte) c.x;
      y = on_command 0x4F command (ten_bits c.y index byte) c.y;
    }

-- 0x1A: byte A is A[11:4] of the temperature, and the high nibble of byte B its A[3:0]
abbrev pub temperature_after : ℕ → ℕ → ℕ → ℕ
temperature_after temperature index byte =
    pick (eqb index 0)
    (byte * 16 + temperature % 16)
    (temperature / 16 % 256 * 16 + byte / 16)

-- every register after a byte of a command; the commands named here alone write one
unfoldable pub stored : Registers → ℕ → ℕ → ℕ → Registers
stored r command index byte =
    record {
      mux = on_command 0x01 command (mux_after r.mux index byte) r.mux;
      gate_scan = on_command 0x01 command (gate_scan_after r.gate_scan index byte) r.gate_scan;
      lut = lut_after r.lut command index byte;
      entry = on_command 0x11 command (record { 0 = byte % 8 }) r.entry;
      window = window_after r.window command index byte;
      counter = counter_after r.counter command index byte;
      update_control_1 = on_command 0x21 command (set r.update_control_1 (min index 1) byte) r.update_control_1;
      update_control_2 = on_command 0x22 command byte r.update_control_2;
      sensor = on_command 0x18 command byte r.sensor;
      temperature = on_command 0x1A command (temperature_after r.temperature index byte) r.temperature;
      vcom_sense = on_command 0x29 command byte r.vcom_sense;
      display_option = on_command 0x37 command (bytes_put 10 r.display_option index byte) r.display_option;
      user_id = on_command 0x38 command (bytes_put 10 r.user_id index byte) r.user_id;
      border = on_command 0x3C command byte r.border;
      read_ram_red = on_command 0x41 command (bit_of byte 0) r.read_ram_red;
      waveform = on_command 0x32 command 255 r.waveform;
    }
