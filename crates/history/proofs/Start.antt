-- At first: an accepted start gives every pixel the whole number of the starting grey, and shows the grey of it. Assumes nothing.
use Prim.Native.Nat.{ℕ, ◌≤◌, ◌<◌}
use mathlib.Core.Path.{◌≡◌, refl, sym, ap, subst, ◌∙◌}
use mathlib.Core.Bool.{true}
use mathlib.Core.List.{List}
use native.Mathlib.Omega.{arith}
use lib.IntN.{ℤ, pos}
use lib.ListN.{length}
use Rattle.numbers.specs.Lists.{tab}
use Rattle.numbers.proofs.Painted.{length_tab, get_d_tab}
use Rattle.numbers.proofs.Quot.{level_le}
use Rattle.glass.specs.Greys.{level_z, gray_z}
use Rattle.glass.proofs.Grey.{level_is}
use Rattle.config.specs.declared.Ssd1677Config.{Ssd1677Config}
use Rattle.config.specs.Answer.{is_accepted}
use Rattle.panel.specs.Start as panel
use Rattle.power_on.specs.Start.{Buffers, Powered, lengths_in, powered_on, filled, powered_up, started, world_of}
use Rattle.power_on.proofs.Accepted.{full_swing, some_cycles, lengths, passed, left_is}
use Rattle.power_on_laws.proofs.First.{swing_is}
use Rattle.history.specs.Reckon.{none, shown_by, swing_s, first_number}
use Rattle.history.proofs.Shows.{Marks, Shows}
use Rattle.history.proofs.Taken.{seen}

-- the state of the starting grey is the first whole number
first_is : (c : Ssd1677Config) → panel.first_state c.optics ≡ pos (first_number c)
first_is c = ap (level_z c.optics.initial_gray) (swing_is c.optics.full_swing) ∙ sym (level_is c.optics.initial_gray (swing_s c))

-- every pixel's first number, and no refresh
abbrev pub at_first : Ssd1677Config → Marks
at_first c = record { of = λ _. first_number c; count = 0 }

-- ---- what an accepted start leaves
module _ (c : Ssd1677Config) (otp : List ℕ) (b : Buffers) (ok : is_accepted (started c otp b).answer ≡ true) where
  some : 1 ≤ c.optics.full_swing
  some = full_swing c otp (lengths_in b) (passed c otp b ok)

  long : length b.picture.pixels ≡ length b.states
  long = let fine = lengths c otp (lengths_in b) (passed c otp b ok) in fine.pixels ∙ sym fine.states

  -- no refresh is under way
  pub start_rests : shown_by (started c otp b).left.device.display (started c otp b).left.buffers.luts ≡ none
  unfolding powered_up powered_on
  start_rests = ap (λ (p : Powered). shown_by p.device.display p.buffers.luts) (left_is c otp b ok)

  -- ---- the glass that it leaves
  module _ (byte : c.optics.initial_gray ≤ 255) where
    powered_shows : Shows (seen (world_of (powered_up c b))) (at_first c)
    unfolding powered_up powered_on filled panel.power_on panel.panel_at_power_on
    powered_shows =
        record {
          swing = swing_is c.optics.full_swing;
          some = omega (arith, some);
          ticks = some_cycles c otp (lengths_in b) (passed c otp b ok);
          short = tt;
          states = λ i l. get_d_tab (length b.states) (λ _. panel.first_state c.optics) i (pos 0) (in_states i l) ∙ first_is c;
          within = λ i l. level_le (swing_s c) c.optics.initial_gray byte;
          pixels = λ i l.
              get_d_tab (length b.picture.pixels) (λ _. gray_z (panel.first_state c.optics) (panel.swing_of c.optics)) i 0 (omega (arith, long, in_states i l))
              ∙ ap (λ (s : ℤ). gray_z (panel.first_state c.optics) s) (swing_is c.optics.full_swing)
              ∙ ap (λ (x : ℤ). gray_z x (pos (swing_s c))) (first_is c);
          sized = length_tab (length b.states) (λ _. panel.first_state c.optics) ∙ (lengths c otp (lengths_in b) (passed c otp b ok)).states;
          pixels_long =
              length_tab (length b.picture.pixels) (λ _. gray_z (panel.first_state c.optics) (panel.swing_of c.optics))
              ∙ long
              ∙ sym (length_tab (length b.states) (λ _. panel.first_state c.optics));
          counts = refl;
          generation = refl;
        }
      where
        in_states : (i : ℕ) → i < length (tab (length b.states) (λ _. panel.first_state c.optics)) → i < length b.states
        in_states i l = omega (arith, length_tab (length b.states) (λ _. panel.first_state c.optics))

    pub start_shows : Shows (seen (world_of (started c otp b).left)) (at_first (started c otp b).left.device.config)
    unfolding powered_up powered_on
    start_shows = subst (λ (p : Powered). Shows (seen (world_of p)) (at_first p.device.config)) (sym (left_is c otp b ok)) goes
      where
        goes : Shows (seen (world_of (powered_up c b))) (at_first (powered_up c b).device.config)
        goes = powered_shows
