-- A state with one part replaced.
use Rattle.std.specs.Prelude.{ℕ, Bool, List, Option}
use Rattle.config.specs.declared.Ssd1677Config.{Ssd1677Config}
use Rattle.diagnostic.specs.declared.Journal.{Journal}
use Rattle.panel.specs.declared.Display.{Display}
use Rattle.panel.specs.declared.Panel.{Panel}
use Rattle.counter.specs.declared.Counter.{Counter}
use Rattle.device.specs.declared.Ssd1677.{Ssd1677}
use Rattle.device.specs.declared.Registers.{Registers}
use Rattle.device.specs.declared.Bus.{Bus}
use Rattle.device.specs.declared.Status.{Status}
use Rattle.device.specs.declared.Current.{Current}

-- another latest instant
abbrev pub with_now : Ssd1677 → ℕ → Ssd1677
with_now d newNow =
    record {
      config = d.config;
      now = newNow;
      regs = d.regs;
      bus = d.bus;
      clock = d.clock;
      analog = d.analog;
      status = d.status;
      panel = d.panel;
      display = d.display;
      journal = d.journal;
    }

-- another configuration
abbrev pub with_config : Ssd1677 → Ssd1677Config → Ssd1677
with_config d newConfig =
    record {
      config = newConfig;
      now = d.now;
      regs = d.regs;
      bus = d.bus;
      clock = d.clock;
      analog = d.analog;
      status = d.status;
      panel = d.panel;
      display = d.display;
      journal = d.journal;
    }

-- other registers
abbrev pub with_regs : Ssd1677 → Registers → Ssd1677
with_regs d newRegs =
    record {
      config = d.config;
      now = d.now;
      regs = newRegs;
      bus = d.bus;
      clock = d.clock;
      analog = d.analog;
      status = d.status;
      panel = d.panel;
      display = d.display;
      journal = d.journal;
    }

-- another bus
abbrev pub with_bus : Ssd1677 → Bus → Ssd1677
with_bus d newBus =
    record {
      config = d.config;
      now = d.now;
      regs = d.regs;
      bus = newBus;
      clock = d.clock;
      analog = d.analog;
      status = d.status;
      panel = d.panel;
      display = d.display;
      journal = d.journal;
    }

-- other detection flags
abbrev pub with_status : Ssd1677 → Status → Ssd1677
with_status d newStatus =
    record {
      config = d.config;
      now = d.now;
      regs = d.regs;
      bus = d.bus;
      clock = d.clock;
      analog = d.analog;
      status = newStatus;
      panel = d.panel;
      display = d.display;
      journal = d.journal;
    }

-- another display, or none
abbrev pub with_display : Ssd1677 → Option Display → Ssd1677
with_display d newDisplay =
    record {
      config = d.config;
      now = d.now;
      regs = d.regs;
      bus = d.bus;
      clock = d.clock;
      analog = d.analog;
      status = d.status;
      panel = d.panel;
      display = newDisplay;
      journal = d.journal;
    }

-- another journal
abbrev pub with_journal : Ssd1677 → Journal → Ssd1677
with_journal d newJournal =
    record {
      config = d.config;
      now = d.now;
      regs = d.regs;
      bus = d.bus;
      clock = d.clock;
      analog = d.analog;
      status = d.status;
      panel = d.panel;
      display = d.display;
      journal = newJournal;
    }

-- the glass and the display: an end and a cut change both
abbrev pub with_panel_and_display : Ssd1677 → Panel → Option Display → Ssd1677
with_panel_and_display d newPanel newDisplay =
    record {
      config = d.config;
      now = d.now;
      regs = d.regs;
      bus = d.bus;
      clock = d.clock;
      analog = d.analog;
      status = d.status;
      panel = newPanel;
      display = newDisplay;
      journal = d.journal;
    }

-- what a reset restores
abbrev pub with_powers : Ssd1677 → Registers → Bool → Bool → Status → Ssd1677
with_powers d newRegs newClock newAnalog newStatus =
    record {
      config = d.config;
      now = d.now;
      regs = newRegs;
      bus = d.bus;
      clock = newClock;
      analog = newAnalog;
      status = newStatus;
      panel = d.panel;
      display = d.display;
      journal = d.journal;
    }

-- what deep sleep changes
abbrev pub with_slept : Ssd1677 → Bus → Bool → Bool → Ssd1677
with_slept d newBus newClock newAnalog =
    record {
      config = d.config;
      now = d.now;
      regs = d.regs;
      bus = newBus;
      clock = newClock;
      analog = newAnalog;
      status = d.status;
      panel = d.panel;
      display = d.display;
      journal = d.journal;
    }

-- what the stages of an activation change
abbrev pub with_activated : Ssd1677 → Registers → Bus → Bool → Bool → Option Display → Journal → Ssd1677
with_activated d newRegs newBus newClock newAnalog newDisplay newJournal =
    record {
      config = d.config;
      now = d.now;
      regs = newRegs;
      bus = newBus;
      clock = newClock;
      analog = newAnalog;
      status = d.status;
      panel = d.panel;
      display = newDisplay;
      journal = newJournal;
    }

-- another current command
abbrev pub with_current : Bus → Current → Bus
with_current b new = record { power = b.power; current = new; busy_until = b.busy_until }

-- another end of BUSY
abbrev pub with_until : Bus → Option ℕ → Bus
with_until b new = record { power = b.power; current = b.current; busy_until = new }

-- what the stages of an activation load into the registers
abbrev pub with_loaded : Registers → ℕ → List ℕ → ℕ → Registers
with_loaded r newTemperature newLut newWaveform =
    record {
      mux = r.mux;
      gate_scan = r.gate_scan;
      lut = newLut;
      entry = r.entry;
      window = r.window;
      counter = r.counter;
      update_control_1 = r.update_control_1;
      update_control_2 = r.update_control_2;
      sensor = r.sensor;
      temperature = newTemperature;
      vcom_sense = r.vcom_sense;
      display_option = r.display_option;
      user_id = r.user_id;
      border = r.border;
      read_ram_red = r.read_ram_red;
      waveform = newWaveform;
    }

-- another address counter
abbrev pub with_counter : Registers → Counter → Registers
with_counter r newCounter =
    record {
      mux = r.mux;
      gate_scan = r.gate_scan;
      lut = r.lut;
      entry = r.entry;
      window = r.window;
      counter = newCounter;
      update_control_1 = r.update_control_1;
      update_control_2 = r.update_control_2;
      sensor = r.sensor;
      temperature = r.temperature;
      vcom_sense = r.vcom_sense;
      display_option = r.display_option;
      user_id = r.user_id;
      border = r.border;
      read_ram_red = r.read_ram_red;
      waveform = r.waveform;
    }

-- what a byte of RAM data changes: the address counter and the bus
abbrev pub with_pointed : Ssd1677 → Counter → Bus → Ssd1677
with_pointed d newCounter newBus = with_bus (with_regs d (with_counter d.regs newCounter)) newBus
