-- The registers' reset values (datasheet Table 7-1, as mod.rs has it; SCOPE, Commands).
use Rattle.std.specs.Prelude.{false, List, ℕ, set, replicate}
use Rattle.config.specs.Defaults.{default_gate_scan}
use Rattle.counter.specs.Counter.{reset_window, reset_entry}
use Rattle.device.specs.declared.Registers.{Registers}

-- the 112 setting bytes: 0x00 but three, VSH1 41h, VSH2 A8h and VSL 32h (SCOPE, Commands)
abbrev pub reset_lut : List ℕ
reset_lut = set (set (set (replicate 112 0) 106 0x41) 107 0xA8) 108 0x32

-- every register after a reset; the temperature is the format's highest, 7FFh, and 49h of 0x29 an assumption (mod.rs); no waveform is loaded (#108)
unfoldable pub reset_of : List ℕ → Registers
reset_of user =
    record {
      mux = 0x2A7;
      gate_scan = default_gate_scan;
      lut = reset_lut;
      entry = reset_entry;
      window = reset_window;
      counter = record { x = 0; y = 0 };
      update_control_1 = replicate 2 0;
      update_control_2 = 0xFF;
      sensor = 0x48;
      temperature = 0x7FF;
      vcom_sense = 0x49;
      display_option = replicate 10 0;
      user_id = user;
      border = 0xC0;
      read_ram_red = false;
      waveform = 255;
    }
