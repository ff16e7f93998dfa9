-- The gate scan and the durations at their defaults (config.rs).
use Rattle.std.specs.Prelude.{false, ℕ, ◌*◌, replicate}
use Rattle.glass.specs.declared.Provenance.TheVariants.{Approximation}
use Rattle.config.specs.declared.GateScan.{GateScan}
use Rattle.config.specs.declared.Ssd1677Timing.{Ssd1677Timing}

-- left and right interlaced, from G0: both bits clear
abbrev pub default_gate_scan : GateScan
default_gate_scan = record { sm = false; gd = false }

-- nanoseconds in a millisecond
abbrev pub millisecond : ℕ
millisecond = 1000000

-- a frame's period, of every code, in ns (SCOPE, Configuration; #105, where the Rust has 20,000,000)
abbrev pub default_frame_period : ℕ
default_frame_period = 25000000

-- about 100 ms to start the analog supplies and 200 ms to stop them; none of it measured
abbrev pub default_timing : Ssd1677Timing
default_timing =
    record {
      provenance = Approximation;
      clock_on = 0;
      analog_on = 100 * millisecond;
      analog_off = 200 * millisecond;
      temperature_internal = 5 * millisecond;
      temperature_external = 5 * millisecond;
      lut_load = millisecond;
      soft_reset = 2 * millisecond;
      hardware_reset = millisecond;
      auto_write = 2 * millisecond;
      vci_detection = millisecond;
      frame_period = replicate 16 default_frame_period;
    }
