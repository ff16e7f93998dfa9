-- What an accepted start leaves: the gate of each row, no line lost in any scan order, and the first picture (#113).
-- Assumes nothing.
use Prim.Native.Nat.{ℕ, ◌%◌, ◌≤◌, ◌<◌, min}
use mathlib.Core.Path.{◌≡◌, sym, ap, ◌∙◌}
use mathlib.Core.Bool.{true}
use mathlib.Core.List.{List}
use lib.IntN.{ℤ}
use lib.ListN.{get_or}
use Rattle.numbers.specs.Lists.{tab}
use Rattle.numbers.proofs.Painted.{get_d_tab}
use Rattle.glass.specs.Greys.{level_z, gray_z}
use Rattle.config.specs.declared.GateScan.{GateScan}
use Rattle.config.specs.declared.Ssd1677Config.{Ssd1677Config}
use Rattle.config.specs.Answer.{is_accepted}
use Rattle.gates.specs.Gates.{row_of_gate}
use Rattle.gates_laws.specs.OneToOne.{gate_of_row, ShownOnce}
use Rattle.gates_laws.proofs.OneToOne as rows
use Rattle.panel.specs.Start as panel
use Rattle.power_on_laws.specs.First.{fine_swing}
use Rattle.power_on_laws.proofs.First.{swing_is, gray_of_level}
use Rattle.guard_lengths.specs.Lengths.{pixels_of}
use Rattle.power_on.specs.Start.{Buffers, Powered, lengths_in, filled, powered_up, started}
use Rattle.power_on.proofs.Accepted.{scanned, lengths, passed, left_is}

module _ (c : Ssd1677Config) (otp : List ℕ) (b : Buffers) (ok : is_accepted (started c otp b).answer ≡ true) where
  -- the gate of each row, whatever the lent list held
  pub gates_left : (started c otp b).left.buffers.gates ≡ tab c.panel.height (gate_of_row c.panel)
  unfolding powered_up filled
  gates_left = ap (λ (p : Powered). p.buffers.gates) (left_is c otp b ok)

  -- the gate of a row of the glass, as the lent list has it after the start
  abbrev pub gateLeft : ℕ → ℕ
  gateLeft y = get_or (started c otp b).left.buffers.gates y 0

  gate_is : (y : ℕ) → y < c.panel.height → gateLeft y ≡ gate_of_row c.panel y
  gate_is y l = ap (λ (gates : List ℕ). get_or gates y 0) gates_left ∙ get_d_tab c.panel.height (gate_of_row c.panel) y 0 l

  -- every line of the glass scanned in an order that 0x01 sets, with its GD off or an even height: each row of the RAM is shown by exactly one
  -- row of the glass
  pub no_line_lost : (order : GateScan) → (order.gd ≡ true → c.panel.height % 2 ≡ 0) → (row : ℕ) → row < c.panel.height
      → ShownOnce gateLeft c.panel.height order row
  no_line_lost order even row l =
      record {
        place = once.place;
        within = once.within;
        shows = ap (λ (gate : ℕ). row_of_gate gate order c.panel.height) (gate_is once.place once.within) ∙ once.shows;
        alone = λ y k e. once.alone y k (ap (λ (gate : ℕ). row_of_gate gate order c.panel.height) (sym (gate_is y k)) ∙ e);
      }
    where
      once : ShownOnce (gate_of_row c.panel) c.panel.height order row
      once = rows.no_line_lost c.panel (scanned c otp (lengths_in b) (passed c otp b ok)) order even row l

  -- the first picture: with S from 510 on, every pixel shows the starting grey
  pub first_picture : c.optics.initial_gray ≤ 255
      → fine_swing ≤ min c.optics.full_swing 9223372036854775807
      → (started c otp b).left.buffers.picture.pixels ≡ tab (pixels_of c.panel) (λ _. c.optics.initial_gray)
  unfolding powered_up filled panel.power_on
  first_picture byte wide =
      ap (λ (p : Powered). p.buffers.picture.pixels) (left_is c otp b ok)
      ∙ ap (λ (n : ℕ). tab n (λ _. gray_z (panel.first_state c.optics) (panel.swing_of c.optics))) (lengths c otp (lengths_in b) (passed c otp b ok)).pixels
      ∙ ap (λ (g : ℕ). tab (pixels_of c.panel) (λ _. g)) shown
    where
      S : ℕ
      S = min c.optics.full_swing 9223372036854775807

      shown : gray_z (panel.first_state c.optics) (panel.swing_of c.optics) ≡ c.optics.initial_gray
      shown =
          ap (λ (z : ℤ). gray_z (level_z c.optics.initial_gray z) z) (swing_is c.optics.full_swing)
          ∙ gray_of_level c.optics.initial_gray S byte wide
