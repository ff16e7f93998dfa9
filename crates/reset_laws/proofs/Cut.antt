-- The law of one cut (#101): `set_reset` lets RES# fall in any state that 13 lets pass, while a refresh is driving. Each state from 0 to S is then
-- its exact reckoning up to the converted span, and its pixel shows the grey of it. Assumes nothing.
use Rattle.std.specs.Prelude.{Option, Some, None}
use Prim.Native.Nat.{ℕ, ◌≤◌, ◌<◌, max}
use mathlib.Core.Path.{◌≡◌, refl, sym, ap, subst, ◌∙◌}
use mathlib.Core.Bool.{Bool, true, false}
use mathlib.Core.List.{List}
use native.Mathlib.Omega.{arith}
use lib.Dec.{leb}
use lib.IntN.{ℤ, pos}
use lib.Signed.{◌≤ℤ◌}
use lib.ListN.{length, get_or}
use borrow.Author.Tests.{le-leb, lt-leb}
use Rattle.numbers.specs.Choice.{pick}
use Rattle.numbers.specs.Saturation.{most}
use Rattle.numbers.proofs.Lin.{whole, le_out}
use Rattle.glass.specs.Greys.{gray_z}
use Rattle.diagnostic.specs.declared.DiagnosticKind.TheVariants.{ResetDuringDisplay}
use Rattle.panel.specs.declared.Display.{Display}
use Rattle.panel.specs.Pixels.{states_by, grays}
use Rattle.panel.specs.Finish.{finished, published}
use Rattle.panel_laws.proofs.Exactly.{by_lut, exact_after, state_exactly, states_length, pixel_shows}
use Rattle.device.specs.declared.Bus.{Bus}
use Rattle.device.specs.declared.Power.{Power}
use Rattle.device.specs.declared.Power.TheVariants.{Running, Asleep, InReset}
use Rattle.device.specs.declared.Ssd1677.{Ssd1677}
use Rattle.device.specs.Parts.{with_until}
use Rattle.world.specs.World.{WithGlass, WithGlassLog, on, device_in_glass_log, log_in_glass_log, glass_in_glass_log}
use Rattle.guard_laws.proofs.Accepted.{FineState, fine_state}
use Rattle.moment.specs.Moments.{ns_between, lowered}
use Rattle.moment.proofs.Spans.{between_exact}
use Rattle.clock.specs.Advance.{clocked, quieted, glass_published, ending_of, glass_of, ended_by, ended, advanced}
use Rattle.chip.specs.Close.{closed}
use Rattle.chip.specs.Report.{logged}
use Rattle.reset.specs.Reset.{restored, display_cut, display_dropped, cut_by, cut, in_reset, asserted, by_line}
use Rattle.res.specs.Line.{line_taken}
use Rattle.reset_laws.specs.Cut.{span_to, cut_ending, Cuttable}

lowered_power : (until : Option ℕ) (bus : Bus) (t : ℕ) → (lowered until bus t).power ≡ bus.power
lowered_power None bus t = refl
lowered_power (Some until) bus t = by (leb until t)
  where
    by : (b : Bool) → (pick b (with_until bus None) bus).power ≡ bus.power
    by true = refl
    by false = refl

module _ (luts : List ℕ) (time : ℕ) (w : WithGlassLog) (display : Display) (S : ℕ) (h : Cuttable w.device display S time) where
  abbrev d : Ssd1677
  d = w.device

  abbrev t : ℕ
  t = max d.now time

  fine : FineState d
  fine = fine_state d h.fine

  some : 1 ≤ S
  some = let low = subst (λ (s : ℤ). pos 1 ≤ℤ s) h.swing fine.swing in omega (whole, le_out low)

  room : S ≤ 9223372036854775807
  room = let high = subst (λ (s : ℤ). s ≤ℤ most) h.swing fine.swing_most in omega (whole, le_out high)

  -- ---- the clock's move ends no refresh, so that only the clock and BUSY have changed
  abbrev g : WithGlass
  g = glass_in_glass_log.get w

  moved : advanced luts time g ≡ quieted (clocked time g)
  unfolding advanced ended
  moved =
      ap (λ (o : Option Display). quieted (ended_by luts x o)) h.runs
      ∙ ap (λ (b : Bool). quieted (pick b (glass_published x (finished (ending_of x.device display display.ends None) luts (glass_of x))) x))
      (lt-leb display.ends t h.before_its_end)
    where
      x : WithGlass
      x = clocked time g

  abbrev a : WithGlassLog
  a = glass_in_glass_log.put w (quieted (clocked time g))

  high : a.device.bus.power ≡ InReset → ⊥
  high e = h.high (sym (lowered_power d.bus.busy_until d.bus t) ∙ e)

  falls : (x : WithGlassLog) (p : Power) → (p ≡ InReset → ⊥) → by_line luts true x p ≡ asserted luts x
  unfolding by_line
  falls x Running raised = refl
  falls x Asleep raised = refl
  falls x InReset raised = absurd (raised refl)

  fallen_from : line_taken luts time true w ≡ asserted luts a
  unfolding line_taken
  fallen_from =
      ap (λ (x : WithGlass). let y = glass_in_glass_log.put w x in by_line luts true y y.device.bus.power) moved ∙ falls a a.device.bus.power high

  -- ---- the fall
  -- what the code converts is the span, which is not held
  converted : ns_between d.config.frequency display.started t ≡ span_to d display t
  converted = between_exact d.config.frequency display.started t fine.ticks (omega (arith, h.short))

  -- the states that it leaves
  next : List ℤ
  next = states_by (by_lut (cut_ending d display t) (pos S)) luts w.states

  abbrev closing : WithGlassLog
  closing = on log_in_glass_log closed a

  abbrev low : WithGlassLog → WithGlassLog
  low x = on device_in_glass_log in_reset (on device_in_glass_log restored x)

  abbrev fallen : Bool → WithGlassLog
  fallen b =
      low
      (pick b (on glass_in_glass_log (display_cut luts display) (on log_in_glass_log (logged ResetDuringDisplay) closing)) (on device_in_glass_log display_dropped closing))

  fell : line_taken luts time true w ≡ fallen true
  unfolding asserted cut closed
  fell =
      fallen_from
      ∙ ap (λ (o : Option Display). low (cut_by luts closing o)) h.runs
      ∙ ap fallen (le-leb display.started t h.begun)

  states_are : (line_taken luts time true w).states ≡ next
  unfolding in_reset restored display_cut logged closed finished next
  states_are =
      ap (λ (x : WithGlassLog). x.states) fell
      ∙ ap (λ (n : ℕ). states_by (by_lut (ending_of d display t (Some n)) d.panel.swing) luts w.states) converted
      ∙ ap (λ (s : ℤ). states_by (by_lut (cut_ending d display t) s) luts w.states) h.swing

  pixels_are : (line_taken luts time true w).picture.pixels ≡ grays (pos S) next
  unfolding in_reset restored display_cut logged closed finished published next
  pixels_are =
      ap (λ (x : WithGlassLog). x.picture.pixels) fell
      ∙ ap (λ (n : ℕ). grays d.panel.swing (states_by (by_lut (ending_of d display t (Some n)) d.panel.swing) luts w.states)) converted
      ∙ ap (λ (s : ℤ). grays s (states_by (by_lut (cut_ending d display t) s) luts w.states)) h.swing

  module _ (i x : ℕ) (inside : i < length w.states) (is : get_or w.states i (pos 0) ≡ pos x) (within : x ≤ S) where
    next_is : get_or next i (pos 0) ≡ pos (exact_after (cut_ending d display t) S (get_or luts i 0) x)
    unfolding next
    next_is = state_exactly (cut_ending d display t) S some room (omega (arith, h.short)) luts w.states i x inside is within

    next_long : i < length next
    unfolding next
    next_long = omega (arith, states_length (by_lut (cut_ending d display t) (pos S)) luts w.states)

    -- each state is the exact reckoning up to the converted span
    pub cut_exactly : get_or (line_taken luts time true w).states i (pos 0) ≡ pos (exact_after (cut_ending d display t) S (get_or luts i 0) x)
    cut_exactly = ap (λ (s : List ℤ). get_or s i (pos 0)) states_are ∙ next_is

    -- and its pixel shows the grey of it
    pub cut_shows : get_or (line_taken luts time true w).picture.pixels i 0 ≡ gray_z (pos (exact_after (cut_ending d display t) S (get_or luts i 0) x)) (pos S)
    cut_shows =
        ap (λ (p : List ℕ). get_or p i 0) pixels_are ∙ pixel_shows (pos S) next i next_long ∙ ap (λ (s : ℤ). gray_z s (pos S)) next_is
