-- The whole device, from its start through a list of events.
use Rattle.std.specs.Prelude.{true, false, List, ℕ, replicate, None}
use Rattle.glass.specs.Optics.{default_optics}
use Rattle.config.specs.Defaults.{default_timing}
use Rattle.config.specs.declared.Ssd1677Config.{Ssd1677Config}
use Rattle.config.specs.declared.Ssd1677Timing.{Ssd1677Timing}
use Rattle.event.specs.declared.Event.{Event}
use Rattle.power_on.specs.Start.{Buffers, buffers, Powered, world_of}
use Rattle.world.specs.World.{World}
use Rattle.traffic.specs.Traffic.{Fed, made, feeding}
use Rattle.bench.specs.Made.{geometry_of, header_of}

-- the defaults, with 20 ms for every frame-rate code, as the reference has it (config.rs, `Ssd1677Timing`; #105)
abbrev pub reference_timing : Ssd1677Timing
reference_timing =
    record {
      provenance = default_timing.provenance;
      clock_on = default_timing.clock_on;
      analog_on = default_timing.analog_on;
      analog_off = default_timing.analog_off;
      temperature_internal = default_timing.temperature_internal;
      temperature_external = default_timing.temperature_external;
      lut_load = default_timing.lut_load;
      soft_reset = default_timing.soft_reset;
      hardware_reset = default_timing.hardware_reset;
      auto_write = default_timing.auto_write;
      vci_detection = default_timing.vci_detection;
      frame_period = replicate 16 20000000;
    }

-- a panel of a size, wired as the GDEQ0426T82, at 25 °C on a 3.3 V supply (config.rs, `gdeq0426t82`), its times in nanoseconds
abbrev pub config_of : ℕ → ℕ → Ssd1677Config
config_of width height =
    record {
      panel = geometry_of width height 0 false true false true;
      optics = default_optics;
      timing = reference_timing;
      busy_active_high = true;
      ambient = 400;
      external_sensor = None;
      vci_millivolts = 3300;
      user_id = replicate 10 0;
      frequency = 1000000000;
    }

-- what a run hands back: how many events were made, the image's header, and the buffers
pub record Ran : Type 0 where
  pub made : ℕ
  pub header : List ℕ
  pub buffers : Buffers

-- the three as one
abbrev pub ran : ℕ → List ℕ → Buffers → Ran
ran made header b = record { made = made; header = header; buffers = b }

-- what events leave
abbrev pub ran_of : Fed World → Ran
ran_of f =
    ran f.made (header_of f.left.device.panel.image)
    (buffers f.left.states f.left.luts f.left.picture f.left.black_white f.left.red f.left.gates f.left.log)

-- n events from a start on
unfoldable pub ran_from : List ℕ → (ℕ → Event) → ℕ → Powered → Ran
ran_from otp event n p = ran_of (feeding (made otp event) n 0 (world_of p))
