-- What 13, 11 and 15 ask of a device and its buffers, part by part, and all of it again from the parts. Assumes nothing.
use Rattle.std.specs.Prelude.{Option, Some}
use Prim.Native.Nat.{ℕ, ◌≤◌}
use mathlib.Core.Path.{◌≡◌, refl, sym, ap, ◌∙◌}
use mathlib.Core.Bool.{true, false}
use mathlib.Core.List.{List, [], ◌∷◌}
use lib.ListN.{length}
use borrow.Author.Tests.{leb-true, le-leb, eqb-true, eq-eqb}
use Rattle.config.specs.declared.PanelGeometry.{PanelGeometry}
use Rattle.config.specs.declared.Ssd1677Timing.{Ssd1677Timing}
use Rattle.otp.specs.Table.{bad_table}
use Rattle.device.specs.declared.Ssd1677.{Ssd1677}
use Rattle.world.specs.World.{World}
use Rattle.registers.proofs.Bounds.{Bounded}
use Rattle.guard_kinds.specs.Kinds.{current_fine}
use Rattle.guard_lengths.specs.Lengths.{plane_bytes, log_bytes, pixels_of, fits, lengths_fit, counts_fit, lengths_of}
use Rattle.guard_state.specs.State.{panel_fine, swing_fine, periods_fine, registers_fine, count_fine, frequency_fine, state_fine}
use Rattle.guard_laws.proofs.Joined.{each}
use Rattle.guard_laws.proofs.Accepted.{fine_registers, fine_lengths}
use Rattle.guard_laws.proofs.Kept.{registers_pass, state_passes}
use Rattle.calls.specs.Sound.{lengths_in_world, Sound}

-- what 13 asks
pub record Fine (d : Ssd1677) : Type 0 where
  pub panel : panel_fine d.config.panel ≡ true
  pub swing : swing_fine d.panel.swing ≡ true
  pub periods : periods_fine d.config.timing.frame_period ≡ true
  pub bounded : Bounded d.regs
  pub count : d.journal.count ≤ 1024
  pub current : current_fine d.bus.current ≡ true
  pub ticks : frequency_fine d.config.frequency ≡ true

pub fine_parts : (d : Ssd1677) → state_fine d ≡ true → Fine d
unfolding state_fine
fine_parts d e =
    let at =
    each (panel_fine d.config.panel)
    (swing_fine d.panel.swing ∷ periods_fine d.config.timing.frame_period ∷ registers_fine d.regs ∷ count_fine d.journal.count
    ∷ current_fine d.bus.current ∷ frequency_fine d.config.frequency ∷ [])
    e in
    record {
      panel = at 0;
      swing = at 1;
      periods = at 2;
      bounded = fine_registers d.regs (at 3);
      count = leb-true d.journal.count 1024 (at 4);
      current = at 5;
      ticks = at 6;
    }

pub fine_passes : (d : Ssd1677) → Fine d → state_fine d ≡ true
fine_passes d f =
    state_passes d f.panel f.swing f.periods (registers_pass d.regs f.bounded) (le-leb d.journal.count 1024 f.count) f.current
    f.ticks

-- another state of the same panel, timing, frequency and swing
pub fine_kept : (d e : Ssd1677) → Fine d → e.config.panel ≡ d.config.panel → e.config.timing ≡ d.config.timing
    → e.config.frequency ≡ d.config.frequency → e.panel.swing ≡ d.panel.swing → Bounded e.regs → e.journal.count ≤ 1024 → current_fine e.bus.current ≡ true → Fine e
fine_kept d e f panel timing frequency swing bounded count current =
    record {
      panel = ap panel_fine panel ∙ f.panel;
      swing = ap swing_fine swing ∙ f.swing;
      periods = ap (λ (t : Ssd1677Timing). periods_fine t.frame_period) timing ∙ f.periods;
      bounded = bounded;
      count = count;
      current = current;
      ticks = ap frequency_fine frequency ∙ f.ticks;
    }

-- what 11 and 15 ask
pub record Long (p : PanelGeometry) (w : World) : Type 0 where
  pub states : length w.states ≡ pixels_of p
  pub luts : length w.luts ≡ pixels_of p
  pub pixels : length w.picture.pixels ≡ pixels_of p
  pub counts : length w.picture.counts ≡ 256
  pub log : length w.log ≡ 16384
  pub black_white : length w.black_white ≡ 81600
  pub red : length w.red ≡ 81600
  pub gates : length w.gates ≡ p.height

pub long_parts : (p : PanelGeometry) (w : World) → lengths_fit p (lengths_in_world w) ≡ true → counts_fit (lengths_in_world w) ≡ true → Long p w
long_parts p w e counted =
    let f = fine_lengths p (lengths_in_world w) e in
    record {
      states = f.states;
      luts = f.luts;
      pixels = f.pixels;
      counts = eqb-true (length w.picture.counts) 256 counted;
      log = f.log (length w.log) refl;
      black_white = f.black_white (length w.black_white) refl;
      red = f.red (length w.red) refl;
      gates = f.gates (length w.gates) refl;
    }

-- the lengths of buffers, each lent or not
pub lengths_pass : (p : PanelGeometry) (s u x n : ℕ) (g b r o : Option ℕ) → s ≡ pixels_of p → u ≡ pixels_of p → x ≡ pixels_of p
    → fits g log_bytes ≡ true → fits b plane_bytes ≡ true → fits r plane_bytes ≡ true → fits o p.height ≡ true
    → lengths_fit p (lengths_of s u x n g b r o) ≡ true
unfolding lengths_fit
lengths_pass p s u x n g b r o e f h i j k l =
    rw (eq-eqb s (pixels_of p) e, eq-eqb u (pixels_of p) f, eq-eqb x (pixels_of p) h, i, j, k, l)

pub has : (n size : ℕ) → n ≡ size → fits (Some n) size ≡ true
unfolding fits
has n size e = eq-eqb n size e

pub long_passes : (p : PanelGeometry) (w : World) → Long p w → lengths_fit p (lengths_in_world w) ≡ true
long_passes p w l =
    lengths_pass p (length w.states) (length w.luts) (length w.picture.pixels) (length w.picture.counts) (Some (length w.log)) (Some (length w.black_white))
    (Some (length w.red)) (Some (length w.gates)) l.states l.luts l.pixels (has (length w.log) log_bytes l.log)
    (has (length w.black_white) plane_bytes l.black_white) (has (length w.red) plane_bytes l.red)
    (has (length w.gates) p.height l.gates)

-- another world for the same panel, whose buffers have the lengths of the first
pub long_kept : (p q : PanelGeometry) (w v : World) → Long p w → q ≡ p → length v.states ≡ length w.states
    → length v.luts ≡ length w.luts → length v.picture.pixels ≡ length w.picture.pixels → length v.picture.counts ≡ 256 → length v.log ≡ 16384
    → length v.black_white ≡ length w.black_white → length v.red ≡ length w.red → length v.gates ≡ length w.gates → Long q v
long_kept p q w v l same states luts pixels counts log black_white red gates =
    record {
      states = states ∙ l.states ∙ ap pixels_of (sym same);
      luts = luts ∙ l.luts ∙ ap pixels_of (sym same);
      pixels = pixels ∙ l.pixels ∙ ap pixels_of (sym same);
      counts = counts;
      log = log;
      black_white = black_white ∙ l.black_white;
      red = red ∙ l.red;
      gates = gates ∙ l.gates ∙ ap (λ (x : PanelGeometry). x.height) (sym same);
    }

module _ (otp : List ℕ) (w : World) where
  pub sound_fine : Sound otp w → Fine w.device
  sound_fine s = fine_parts w.device s.state

  pub sound_long : Sound otp w → Long w.device.config.panel w
  sound_long s = long_parts w.device.config.panel w s.lengths s.counts

  pub is_sound : bad_table otp ≡ false → Fine w.device → Long w.device.config.panel w → Sound otp w
  is_sound table fine long =
      record {
        state = fine_passes w.device fine;
        lengths = long_passes w.device.config.panel w long;
        counts = eq-eqb (length w.picture.counts) 256 long.counts;
        table = table;
      }
