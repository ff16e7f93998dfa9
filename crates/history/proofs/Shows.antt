-- What a call leaves of the glass: each lent state is its pixel's whole number with the refreshes that ended or were cut worked in, and each
-- pixel shows the grey of it. Here the end of one refresh, the clock's move and the reset line. Assumes nothing.
use Rattle.std.specs.Prelude.{Option, Some, None}
use Prim.Native.Nat.{ℕ, ◌≤◌, ◌<◌, ◌+◌, ◌-◌, max, min}
use mathlib.Core.Path.{◌≡◌, refl, ap, ◌∙◌}
use mathlib.Core.Bool.{Bool, true, false}
use mathlib.Core.List.{List, [], ◌∷◌, ◌++◌}
use native.Mathlib.Omega.{arith}
use lib.Dec.{leb, ltb}
use lib.IntN.{ℤ, pos}
use lib.ListN.{length, get_or}
use Rattle.numbers.specs.Choice.{pick}
use Rattle.numbers.specs.Saturation.{largest}
use Rattle.glass.specs.Exact.{drives}
use Rattle.glass.specs.Greys.{gray_z}
use Rattle.waveform.specs.declared.Drive.TheVariants.{Lut}
use Rattle.waveform.specs.Exact.{setting_phases}
use Rattle.config.specs.declared.Ssd1677Config.{Ssd1677Config}
use Rattle.counts.specs.Counts.{counts_of}
use Rattle.panel.specs.declared.Display.{Display}
use Rattle.panel.specs.Finish as finish
use Rattle.panel.specs.Pixels.{states_by}
use Rattle.panel_laws.proofs.Exactly.{by_lut, CutBelowLargest, exact_after, exact_le, state_exactly, states_length, pixels_length, pixel_shows}
use Rattle.device.specs.declared.Ssd1677.{Ssd1677}
use Rattle.world.specs.World.{WithGlass}
use Rattle.guard_lengths.specs.Lengths.{pixels_of}
use Rattle.clock.specs.Advance.{clocked, quieted, glass_published, ending_of, glass_of, ended_by, ended, advanced}
use Rattle.history.specs.Reckon.{Part, all, up_to, lasted, Worked, swing_s, drives_by, number_after, number_over}
use Rattle.history.proofs.Blind.{Seen, seen_glass}

-- a whole number for each pixel, and how many refreshes have been worked in
pub record Marks : Type 0 where
  pub of : ℕ → ℕ
  pub count : ℕ

-- cycles from the start of driving of the display in progress to before its end last at most 2^64 − 2 nanoseconds
abbrev pub Short : ℕ → Option Display → Type 0
Short frequency None = Unit {0}
Short frequency (Some d) = (cycles : ℕ) → cycles < d.ends - d.started → lasted frequency cycles < largest 64

-- each lent state is its pixel's whole number, from 0 to S, each pixel shows it and is counted, and the image's generation is the count of refreshes,
-- stopping at 2^64 − 1
pub record Shows (s : Seen) (number : Marks) : Type 0 where
  pub swing : s.panel.swing ≡ pos (swing_s s.config)
  pub some : 1 ≤ swing_s s.config
  pub ticks : 0 < s.config.frequency
  pub short : Short s.config.frequency s.display
  pub states : (i : ℕ) → i < length s.states → get_or s.states i (pos 0) ≡ pos (number.of i)
  pub within : (i : ℕ) → i < length s.states → number.of i ≤ swing_s s.config
  pub pixels : (i : ℕ) → i < length s.states → get_or s.picture.pixels i 0 ≡ gray_z (pos (number.of i)) (pos (swing_s s.config))
  pub sized : length s.states ≡ pixels_of s.config.panel
  pub pixels_long : length s.picture.pixels ≡ length s.states
  pub counts : s.picture.counts ≡ counts_of s.picture.pixels
  pub generation : s.panel.image.generation ≡ min number.count (largest 64)

-- the count of a list of refreshes after that of others
abbrev pub count_over : ℕ → List Worked → ℕ
count_over n [] = n
count_over n (w ∷ ws) = count_over (n + 1) ws

-- the numbers with refreshes worked in
abbrev pub over : Ssd1677Config → List Worked → Marks → Marks
over c ws number = record { of = λ i. number_over c i (number.of i) ws; count = count_over number.count ws }

pub count_join : (n : ℕ) (us vs : List Worked) → count_over n (us ++ vs) ≡ count_over (count_over n us) vs
count_join n [] vs = refl
count_join n (u ∷ us) vs = count_join (n + 1) us vs

pub over_join : (c : Ssd1677Config) (i x : ℕ) (us vs : List Worked) → number_over c i x (us ++ vs) ≡ number_over c i (number_over c i x us) vs
unfolding number_over
over_join c i x [] vs = refl
over_join c i x (u ∷ us) vs = over_join c i (number_after c i x u) us vs

-- ---- the end of one refresh
-- so much of a display
abbrev pub refresh : List ℕ → Display → Part → Worked
refresh luts d part = record { luts = luts; setting = d.setting; part = part }

abbrev until_of : Part → Option ℕ
until_of all = None
until_of (up_to cut) = Some cut

module _ (luts : List ℕ) (display : Display) (g : WithGlass) (at : ℕ) (part : Part) (number : Marks) (below : CutBelowLargest (until_of part)) (h : Shows (seen_glass g) number) where
  abbrev S : ℕ
  S = swing_s g.device.config

  abbrev e : finish.Ending
  e = ending_of g.device display at (until_of part)

  abbrev w : Worked
  w = refresh luts display part

  room : S ≤ 9223372036854775807
  room = omega arith

  -- the exact reckoning of the panel is that of the whole numbers
  after_is : (p : Part) (lut x : ℕ) → exact_after (ending_of g.device display at (until_of p)) S lut x
      ≡ pick (ltb lut 4) (drives S (drives_by g.device.config.optics.positive_drives_black p (setting_phases display.setting g.device.config.timing.frame_period (Lut lut))) x) x
  unfolding exact_after
  after_is all lut x = refl
  after_is (up_to cut) lut x = refl

  abbrev next : List ℤ
  next = states_by (by_lut e g.device.panel.swing) luts g.states

  state_is : (i : ℕ) → i < length g.states → get_or next i (pos 0) ≡ pos (number_after g.device.config i (number.of i) w)
  unfolding number_after
  state_is i l =
      ap (λ (s : ℤ). get_or (states_by (by_lut e s) luts g.states) i (pos 0)) h.swing
      ∙ state_exactly e S h.some room below luts g.states i (number.of i) l (h.states i l) (h.within i l)
      ∙ ap pos (after_is part (get_or luts i 0) (number.of i))

  number_le : (i : ℕ) → i < length g.states → number_after g.device.config i (number.of i) w ≤ S
  unfolding number_after
  number_le i l = omega (arith, after_is part (get_or luts i 0) (number.of i), exact_le e S h.some room below (get_or luts i 0) (number.of i) (h.within i l))

  long : (i : ℕ) → i < length next → i < length g.states
  long i l = omega (arith, states_length (by_lut e g.device.panel.swing) luts g.states)

  pub finish_shows : Shows (seen_glass (glass_published g (finish.finished e luts (glass_of g)))) (record { of = λ i. number_after g.device.config i (number.of i) w; count = number.count + 1 })
  unfolding finish.finished finish.published
  finish_shows =
      record {
        swing = h.swing;
        some = h.some;
        ticks = h.ticks;
        short = tt;
        states = λ i l. state_is i (long i l);
        within = λ i l. number_le i (long i l);
        pixels = λ i l.
            pixel_shows g.device.panel.swing next i l
            ∙ ap (λ (s : ℤ). gray_z (get_or next i (pos 0)) s) h.swing
            ∙ ap (λ (x : ℤ). gray_z x (pos S)) (state_is i (long i l));
        sized = states_length (by_lut e g.device.panel.swing) luts g.states ∙ h.sized;
        pixels_long = pixels_length g.device.panel.swing next;
        counts = refl;
        generation = ap (λ (n : ℕ). min (n + 1) (largest 64)) h.generation ∙ omega arith;
      }

-- ---- the clock's move
-- what ends of a display at a moment
abbrev pub ends_by : List ℕ → ℕ → Option Display → List Worked
ends_by luts t None = []
ends_by luts t (Some display) = pick (leb display.ends t) (refresh luts display all ∷ []) []

-- what ends when the clock moves
abbrev pub ends_in : List ℕ → ℕ → Ssd1677 → List Worked
ends_in luts time d = ends_by luts (max d.now time) d.display

pub advance_shows : (luts : List ℕ) (time : ℕ) (g : WithGlass) (number : Marks) → Shows (seen_glass g) number
    → Shows (seen_glass (advanced luts time g)) (over g.device.config (ends_in luts time g.device) number)
unfolding advanced ended number_over
advance_shows luts time g number h = by g.device.display
  where
    x : WithGlass
    x = clocked time g

    at : (display : Display) (b : Bool)
        → Shows (seen_glass (quieted (pick b (glass_published x (finish.finished (ending_of x.device display display.ends None) luts (glass_of x))) x)))
        (over g.device.config (pick b (refresh luts display all ∷ []) []) number)
    at display true = let r = finish_shows luts display x display.ends all number tt h in
        r
    at display false = h

    by : (o : Option Display) → Shows (seen_glass (quieted (ended_by luts x o))) (over g.device.config (ends_by luts (max g.device.now time) o) number)
    by None = h
    by (Some display) = at display (leb display.ends (max g.device.now time))
