-- The display of an activation (mod.rs, `start_display` and `powered`).
use Rattle.std.specs.Prelude.{ℕ, ◌+◌, ◌*◌, ◌/◌, ◌≤◌, ◌<◌, min, ◌≡◌, Bool, true, false, ◌&&◌, List, length, get_or, Option, Some}
use Rattle.numbers.specs.Choice.{pick, bit_of}
use Rattle.numbers.specs.Lists.{tab}
use Rattle.numbers.specs.Saturation.{largest}
use Rattle.glass.specs.declared.RefreshKind.{RefreshKind}
use Rattle.glass.specs.declared.RefreshKind.TheVariants.{Full, Partial}
use Rattle.waveform.specs.Setting.{waveform_of}
use Rattle.waveform.specs.Duration.{duration_of}
use Rattle.config.specs.declared.PanelGeometry.{PanelGeometry}
use Rattle.diagnostic.specs.declared.DiagnosticKind.TheVariants.{RamPingPong}
use Rattle.diagnostic.specs.Power.{if_powered}
use Rattle.diagnostic.specs.declared.Stage.TheVariants as stage
use Rattle.scan.specs.declared.Scan.{Scan}
use Rattle.scan.specs.Luts.{option_of, lut_of}
use Rattle.panel.specs.declared.Display.{Display}
use Rattle.device.specs.declared.Registers.{Registers}
use Rattle.device.specs.declared.Ssd1677.{Ssd1677}
use Rattle.moment.specs.Moments.{after_ns}
use Rattle.stages.specs.declared.Run.{Run}
use Rattle.stages.specs.Run.{Step, noted, waited}

-- what the callers of a display have: 13 refuses another MUX or geometry, 11 another length
pub record Startable (regs : Registers) (g : PanelGeometry) (luts black_white red gates : List ℕ) : Type 0 where
  pub mux_small : regs.mux < 1024
  pub sources : g.first_source + g.width ≤ 960
  pub luts_long : length luts ≡ g.height * g.width
  pub gates_long : length gates ≡ g.height
  pub black_white_long : length black_white ≡ 81600
  pub red_long : length red ≡ 81600

-- mode 2 is a partial refresh, mode 1 a full one (mod.rs, `start_display`)
abbrev pub refresh_kind_of : Bool → RefreshKind
refresh_kind_of true = Partial
refresh_kind_of false = Full

-- MUX + 1 gates in the order of 0x01, and the RAM options of 0x21: the red plane's in the high nibble (mod.rs, `start_display`)
abbrev pub scan_of : Registers → Scan
scan_of r =
    record {
      lines = r.mux + 1;
      order = r.gate_scan;
      red = option_of (get_or r.update_control_1 0 0 / 16);
      black_white = option_of (get_or r.update_control_1 0 0);
    }

-- 37 where the RAM ping-pong of mode 2 is asked for: bit 6 of the sixth byte of 0x37 (mod.rs, `start_display`)
unfoldable pub warned : ℕ → Bool → List ℕ → Step → Step
warned time two options s = pick (two && bit_of (get_or options 5 0) 6) (noted time RamPingPong s) s

-- the display that starts `before` nanoseconds from now and lasts `ns`; both its ends are converted from now (mod.rs, `start_display`; #101)
unfoldable pub display_of : List ℕ → ℕ → ℕ → ℕ → ℕ → ℕ → Bool → Display
display_of setting border frequency time before ns two =
    record {
      started = after_ns frequency time before;
      ends = after_ns frequency time (min (before + ns) (largest 64));
      kind = refresh_kind_of two;
      setting = setting;
      border = border;
    }

-- a run, the display, the chosen LUTs and the log
pub record Displayed : Type 0 where
  pub run : Run
  pub display : Option Display
  pub luts : List ℕ
  pub log : List ℕ

-- the four as one
abbrev pub displayed : Run → Option Display → List ℕ → List ℕ → Displayed
displayed r d u l = record { run = r; display = d; luts = u; log = l }

-- no display has started: a step, with the display and the LUTs of before
abbrev pub unchanged : Option Display → List ℕ → Step → Displayed
unchanged d luts s = displayed s.run d luts s.log

module _ (black_white red gates : List ℕ) (d : Ssd1677) where
  -- the display starts after the time so far, lasts as the LUT register says, and fixes the LUT of every pixel (mod.rs, `start_display`)
  unfoldable pub displayBegun : Bool → Step → List ℕ → Displayed
  displayBegun two s luts =
      let ns = duration_of (waveform_of s.run.lut d.config.timing.frame_period) in
      let a = warned d.now two d.regs.display_option s in
      displayed (waited ns a.run) (Some (display_of s.run.lut d.regs.border d.config.frequency d.now s.run.ns ns two))
      (tab (length luts) (lut_of gates red black_white d.config.panel (scan_of d.regs))) a.log

  -- bit 2: it starts unless a LUT load found no waveform; it needs the clock, else 33, and the analog supplies, else 34 (mod.rs, `powered`)
  unfoldable pub displayShown : Bool → Bool → Step → List ℕ → Displayed
  displayShown wanted two s luts =
      pick (wanted && s.run.waveform_found)
      (if_powered s.run.clock s.run.analog stage.Display (displayBegun two s luts) (λ kind. unchanged d.display luts (noted d.now kind s)))
      (unchanged d.display luts s)
