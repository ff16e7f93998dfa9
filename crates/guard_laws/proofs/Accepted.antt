-- What a call that is not refused knows of what it was handed. Assumes nothing.
use Rattle.std.specs.Prelude.{Option, Some, Result, Ok, Err}
use Prim.Native.Nat.{ℕ, zero, suc, ◌+◌, ◌%◌, ◌≤◌, ◌<◌}
use mathlib.Core.Path.{◌≡◌, refl, sym, ap, ◌∙◌, subst}
use mathlib.Core.Bool.{Bool, true, false, ◌&&◌, not}
use mathlib.Core.List.{List, [], ◌∷◌}
use native.Mathlib.Omega.{arith}
use lib.Dec.{T, eqb, leb, ltb}
use lib.IntN.{ℤ, pos}
use lib.Signed.{le_z, ◌≤ℤ◌, le_z_yes}
use lib.ListN.{get_or}
use borrow.Author.Tests.{ltb-false, leb-true, eqb-true, eqb-false}
use Rattle.numbers.specs.Choice.{pick}
use Rattle.numbers.specs.Saturation.{most}
use Rattle.numbers.proofs.Cases.{left, right}
use Rattle.config.specs.declared.PanelGeometry.{PanelGeometry}
use Rattle.config.specs.Answer.{refused, is_accepted, Test, first_of}
use Rattle.config.specs.Tests.{empty_panel, panel_outside_ram, odd_rows_with_gd}
use Rattle.otp.specs.Table.{bad_table}
use Rattle.device.specs.declared.Registers.{Registers}
use Rattle.device.specs.declared.Ssd1677.{Ssd1677}
use Rattle.registers.proofs.Bounds.{Bounded}
use Rattle.guard_lengths.specs.declared.Lengths.{Lengths}
use Rattle.guard.specs.declared.Refusal.{Refusal}
use Rattle.guard.specs.declared.Refusal.TheVariants.{Buffer, Table, State, Counts}
use Rattle.guard_kinds.specs.Kinds.{current_fine}
use Rattle.guard_state.specs.State.{panel_fine, swing_fine, periods_fine, registers_fine, count_fine, frequency_fine, state_fine}
use Rattle.guard_lengths.specs.Lengths.{plane_bytes, log_bytes, pixels_of, fits, lengths_fit, counts_fit}
use Rattle.guard.specs.Refusals.{guarded, guarded_with_table}
use Rattle.guard_laws.proofs.Joined.{each}
use Rattle.guard_state.proofs.Periods.{none_of, each_above_zero}

-- ---- which tests have passed
never : false ≡ true → ⊥
never e = let z : ◌≡◌ {A = ℕ} 0 1 = cc in omega arith

abbrev let_pass : Result Unit Refusal
let_pass = Ok tt

refused_not : (r : Refusal) → Err r ≡ let_pass → ⊥
refused_not r e = cc

three : (a b k : Bool) → pick (not a) (Err State) (pick (not b) (Err Buffer) (pick (not k) (Err Counts) (let_pass))) ≡ let_pass
    → (a ≡ true) × (b ≡ true) × (k ≡ true)
three true true true e = (refl, refl, refl)
three true true false e = absurd (refused_not Counts e)
three true false k e = absurd (refused_not Buffer e)
three false b k e = absurd (refused_not State e)

four : (a b k c : Bool) → pick (not a) (Err State) (pick (not b) (Err Buffer) (pick (not k) (Err Counts) (pick c (Err Table) (let_pass)))) ≡ let_pass
    → (a ≡ true) × (b ≡ true) × (k ≡ true) × (c ≡ false)
four true true true true e = absurd (refused_not Table e)
four true true true false e = (refl, refl, refl, refl)
four true true false c e = absurd (refused_not Counts e)
four true false k c e = absurd (refused_not Buffer e)
four false b k c e = absurd (refused_not State e)

module _ (d : Ssd1677) (l : Lengths) (passes : guarded d l ≡ Ok tt) where
  passed : (state_fine d ≡ true) × (lengths_fit d.config.panel l ≡ true) × (counts_fit l ≡ true)
  unfolding guarded
  passed = three (state_fine d) (lengths_fit d.config.panel l) (counts_fit l) passes

  pub accepted_state : state_fine d ≡ true
  accepted_state = passed.0

  pub accepted_lengths : lengths_fit d.config.panel l ≡ true
  accepted_lengths = passed.1

  pub accepted_counts : l.counts ≡ 256
  accepted_counts = eqb-true l.counts 256 passed.2

module _ (d : Ssd1677) (l : Lengths) (otp : List ℕ) (passes : guarded_with_table d l otp ≡ Ok tt) where
  passed_table : (state_fine d ≡ true) × (lengths_fit d.config.panel l ≡ true) × (counts_fit l ≡ true) × (bad_table otp ≡ false)
  unfolding guarded_with_table
  passed_table = four (state_fine d) (lengths_fit d.config.panel l) (counts_fit l) (bad_table otp) passes

  pub table_state : state_fine d ≡ true
  table_state = passed_table.0

  pub table_lengths : lengths_fit d.config.panel l ≡ true
  table_lengths = passed_table.1

  pub table_counts : l.counts ≡ 256
  table_counts = eqb-true l.counts 256 passed_table.2

  pub table_good : bad_table otp ≡ false
  table_good = passed_table.3

-- ---- a panel
pub record FinePanel (p : PanelGeometry) : Type 0 where
  pub width : 0 < p.width
  pub height : 0 < p.height
  pub sources : p.first_source + p.width ≤ 960
  pub gates : p.height ≤ 680
  pub even : p.native_scan.gd ≡ true → p.height % 2 ≡ 0

pub none_refuses : (t : Test) (ts : List Test) → is_accepted (first_of (t ∷ ts)) ≡ true → (t.refuses ≡ false) × (is_accepted (first_of ts) ≡ true)
unfolding first_of
none_refuses t ts e = by t.refuses e
  where
    by : (r : Bool) → is_accepted (pick r (refused t.number t.value) (first_of ts)) ≡ true → (r ≡ false) × (is_accepted (first_of ts) ≡ true)
    by true f = absurd (never f)
    by false f = (refl, f)

not_both : (a b : Bool) → a && b ≡ false → a ≡ true → b ≡ false
not_both true b e f = e
not_both false b e f = absurd (never f)

pub fine_panel : (p : PanelGeometry) → panel_fine p ≡ true → FinePanel p
unfolding panel_fine
fine_panel p e =
    let one = none_refuses (empty_panel p) (panel_outside_ram p ∷ odd_rows_with_gd p ∷ []) e in
    let two = none_refuses (panel_outside_ram p) (odd_rows_with_gd p ∷ []) one.1 in
    let three = none_refuses (odd_rows_with_gd p) [] two.1 in
    let empty = none_of (eqb p.width 0) (eqb p.height 0) one.0 in
    let outside = none_of (ltb 960 (p.first_source + p.width)) (ltb 680 p.height) two.0 in
    record {
      width = let apart = eqb-false p.width 0 empty.0 in omega arith;
      height = let apart = eqb-false p.height 0 empty.1 in omega arith;
      sources = ltb-false 960 (p.first_source + p.width) outside.0;
      gates = ltb-false 680 p.height outside.1;
      even = λ gd. let apart = eqb-false (p.height % 2) 1 (not_both p.native_scan.gd (eqb (p.height % 2) 1) three.0 gd) in omega arith;
    }

-- ---- the registers
pub fine_registers : (r : Registers) → registers_fine r ≡ true → Bounded r
unfolding registers_fine
fine_registers r e =
    let at =
    each (leb r.mux 1023)
    (leb r.window.x_start 1023 ∷ leb r.window.x_end 1023 ∷ leb r.window.y_start 1023 ∷ leb r.window.y_end 1023
    ∷ leb r.counter.x 1023 ∷ leb r.counter.y 1023 ∷ leb r.entry.0 7 ∷ leb r.temperature 4095 ∷ [])
    e in
    record {
      mux_ten = leb-true r.mux 1023 (at 0);
      entry_three = leb-true r.entry.0 7 (at 7);
      window_ten =
          record {
            x_start_ten = leb-true r.window.x_start 1023 (at 1);
            x_end_ten = leb-true r.window.x_end 1023 (at 2);
            y_start_ten = leb-true r.window.y_start 1023 (at 3);
            y_end_ten = leb-true r.window.y_end 1023 (at 4);
          };
      counter_ten = record { x_ten = leb-true r.counter.x 1023 (at 5); y_ten = leb-true r.counter.y 1023 (at 6) };
      temperature_twelve = leb-true r.temperature 4095 (at 8);
    }

-- ---- the whole state
pub record FineState (d : Ssd1677) : Type 0 where
  pub panel : FinePanel d.config.panel
  pub swing : pos 1 ≤ℤ d.panel.swing
  pub swing_most : d.panel.swing ≤ℤ most
  pub periods : (code : ℕ) → code < 16 → 0 < get_or d.config.timing.frame_period code 0
  pub registers : Bounded d.regs
  pub count : d.journal.count ≤ 1024
  pub current : current_fine d.bus.current ≡ true
  pub ticks : 0 < d.config.frequency

at_most : (a b : ℤ) → le_z a b ≡ true → a ≤ℤ b
at_most a b e = le_z_yes (subst T (sym e) tt)

pub some_ticks : (frequency : ℕ) → frequency_fine frequency ≡ true → 0 < frequency
some_ticks zero e = absurd (never e)
some_ticks (suc n) e = omega arith

pub fine_state : (d : Ssd1677) → state_fine d ≡ true → FineState d
unfolding state_fine
fine_state d e =
    let swing = d.panel.swing in
    let periods = d.config.timing.frame_period in
    let at =
    each (panel_fine d.config.panel)
    (swing_fine swing ∷ periods_fine periods ∷ registers_fine d.regs ∷ count_fine d.journal.count ∷ current_fine d.bus.current
    ∷ frequency_fine d.config.frequency ∷ [])
    e in
    record {
      panel = fine_panel d.config.panel (at 0);
      swing = at_most (pos 1) swing (left (le_z (pos 1) swing) (le_z swing most) (at 1));
      swing_most = at_most swing most (right (le_z (pos 1) swing) (le_z swing most) (at 1));
      periods = each_above_zero periods (at 2);
      registers = fine_registers d.regs (at 3);
      count = leb-true d.journal.count 1024 (at 4);
      current = at 5;
      ticks = some_ticks d.config.frequency (at 6);
    }

-- ---- the lengths
pub record FineLengths (p : PanelGeometry) (l : Lengths) : Type 0 where
  pub states : l.states ≡ pixels_of p
  pub luts : l.luts ≡ pixels_of p
  pub pixels : l.pixels ≡ pixels_of p
  pub log : (n : ℕ) → l.log ≡ Some n → n ≡ 16384
  pub black_white : (n : ℕ) → l.black_white ≡ Some n → n ≡ 81600
  pub red : (n : ℕ) → l.red ≡ Some n → n ≡ 81600
  pub gates : (n : ℕ) → l.gates ≡ Some n → n ≡ p.height

right_length : (b : Option ℕ) (size : ℕ) → fits b size ≡ true → (n : ℕ) → b ≡ Some n → n ≡ size
unfolding fits
right_length b size e n f = eqb-true n size (ap (λ (x : Option ℕ). fits x size) (sym f) ∙ e)

pub fine_lengths : (p : PanelGeometry) (l : Lengths) → lengths_fit p l ≡ true → FineLengths p l
unfolding lengths_fit
fine_lengths p l e =
    let at =
    each (eqb l.states (pixels_of p))
    (eqb l.luts (pixels_of p) ∷ eqb l.pixels (pixels_of p) ∷ fits l.log log_bytes ∷ fits l.black_white plane_bytes
    ∷ fits l.red plane_bytes ∷ fits l.gates p.height ∷ [])
    e in
    record {
      states = eqb-true l.states (pixels_of p) (at 0);
      luts = eqb-true l.luts (pixels_of p) (at 1);
      pixels = eqb-true l.pixels (pixels_of p) (at 2);
      log = right_length l.log log_bytes (at 3);
      black_white = right_length l.black_white plane_bytes (at 4);
      red = right_length l.red plane_bytes (at 5);
      gates = right_length l.gates p.height (at 6);
    }
