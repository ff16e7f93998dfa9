-- The counts beside the theorem (#108): each is the number of pixels that have its grey, and together they are the panel's. Assumes nothing.
use Prim.Native.Nat.{ℕ, ◌≤◌, ◌<◌}
use mathlib.Core.Path.{◌≡◌, refl, ap, ◌∙◌}
use mathlib.Core.Bool.{Bool, true, false}
use mathlib.Core.List.{List}
use native.Mathlib.Omega.{arith}
use lib.Dec.{ltb}
use lib.IntN.{pos}
use lib.ListN.{length, get_or}
use borrow.Author.Tests.{ltb-true, ltb-false}
use Rattle.numbers.proofs.Painted.{get_d_tab}
use Rattle.numbers.proofs.Lin.{whole, le_in, is_le}
use Rattle.numbers.proofs.Quot.{gray_lt}
use Rattle.glass.specs.Greys.{gray_z}
use Rattle.glass.proofs.Grey.{gray_high, gray_mid}
use Rattle.counts.specs.Counts.{occurs, counts_of, sum}
use Rattle.counts_laws.proofs.Sum.{counts_sum}
use Rattle.guard_lengths.specs.Lengths.{pixels_of}
use Rattle.history.specs.Reckon.{swing_s}
use Rattle.history.proofs.Blind.{Seen}
use Rattle.history.proofs.Shows.{Marks, Shows}

-- a state of the panel has a grey of 8 bits
gray_byte : (a n : ℕ) → 1 ≤ n → gray_z (pos a) (pos n) < 256
gray_byte a n some = by (ltb a n) refl
  where
    by : (b : Bool) → ltb a n ≡ b → gray_z (pos a) (pos n) < 256
    by true e = omega (arith, gray_mid a n (ltb-true a n e), gray_lt a n (ltb-true a n e))
    by false e =
        omega (arith, gray_high (pos a) (pos n) (le_in (pos 1) (pos n) (omega (whole, some))) (is_le (pos n) (pos a) (omega (whole, ltb-false a n e))))

module _ (s : Seen) (number : Marks) (h : Shows s number) where
  pub counts_each : (grey : ℕ) → grey < 256 → get_or s.picture.counts grey 0 ≡ occurs grey s.picture.pixels
  unfolding counts_of
  counts_each grey l = ap (λ (xs : List ℕ). get_or xs grey 0) h.counts ∙ get_d_tab 256 (λ g. occurs g s.picture.pixels) grey 0 l

  byte : (k : ℕ) → k < length s.picture.pixels → get_or s.picture.pixels k 0 < 256
  byte k l =
      let shown = h.pixels k (omega (arith, h.pixels_long)) in
      omega (arith, shown, gray_byte (number.of k) (swing_s s.config) h.some)

  pub counts_all : sum s.picture.counts ≡ pixels_of s.config.panel
  counts_all = ap sum h.counts ∙ counts_sum s.picture.pixels byte ∙ h.pixels_long ∙ h.sized
