-- The lines of a report: how long they are, and lines that fill a buffer one after the other. Assumes nothing.
use mathlib.Core.Path.{◌≡◌, refl, sym, ap, ◌∙◌}
use mathlib.Core.List.{List, ◌++◌, append_assoc}
use Prim.Native.Nat.{ℕ, ◌+◌, ◌*◌}
use native.Mathlib.Numerals.{add-one}
use native.Mathlib.Omega.{arith}
use lib.IntN.{ℤ}
use lib.ListN.{length, take, drop, length-append, drop_of_length-le}
use lib.Seq.{take_at, drop-drop}
use Rattle.std.proofs.Common.{drop_at, append-nil}
use borrow.Rule.Slice.PartMut.{put_mid}
use Rattle.waveform.specs.Phases.{joined}
use Rattle.column.specs.Columns.{whole}
use Rattle.column.proofs.Symbols.{column_length}
use Rattle.listing.proofs.Joined.{same_length}
use Rattle.charges.specs.Report.{sums_text, charge_line}

sums_length : (charge : ℕ → ℤ) → length (sums_text charge) ≡ 84
unfolding sums_text
sums_length charge = same_length 21 (λ lut. whole 21 (charge lut)) (λ i. column_length 21 _ _) 4

pub line_length : (periods setting : List ℕ) (entry : ℕ) → length (charge_line periods setting entry) ≡ 88
unfolding charge_line
line_length periods setting entry = simp (length-append, column_length, sums_length)

-- ---- a loop that copies lines of 88 bytes over a buffer, f 0, f 1, ..
module _ (f : ℕ → List ℕ) (h : (i : ℕ) → length (f i) ≡ 88) (d : List ℕ) where
  pub lines_none : d ≡ joined 0 f ++ drop (88 * 0) d
  unfolding joined
  lines_none = refl

  pub lines_more : (n at k : ℕ) {now part : List ℕ} → now ≡ joined n f ++ drop (88 * n) d → at ≡ 88 * n → k ≡ 88 → part ≡ f n
      → put_mid at k now part ≡ joined (n + 1) f ++ drop (88 * (n + 1)) d
  unfolding joined
  lines_more n at k {now} {part} e a l p =
      let long : length (joined n f) ≡ at = omega (arith, same_length 88 f h n) in
      (λ i. take at (e i) ++ (p i ++ drop k (drop at (e i))))
      ∙ (λ i. take_at (joined n f) (drop (88 * n) d) at long i ++ (f n ++ drop k (drop_at (joined n f) (drop (88 * n) d) at long i)))
      ∙ ap (λ (l : List ℕ). joined n f ++ (f n ++ l)) (drop-drop k (88 * n) d ∙ ap (λ (m : ℕ). drop m d) (let m : 88 * n + k ≡ 88 * (n + 1) = omega arith in m))
      ∙ sym (append_assoc (joined n f) (f n) (drop (88 * (n + 1)) d))
      ∙ ap (λ (m : ℕ). joined m f ++ drop (88 * (n + 1)) d) (sym (add-one n))

  pub lines_all : (n m : ℕ) {now : List ℕ} → now ≡ joined n f ++ drop (88 * n) d → n ≡ m → length d ≡ 88 * m → now ≡ joined m f
  lines_all n m e g l =
      e ∙ (λ i. joined (g i) f ++ drop (88 * g i) d)
      ∙ ap (λ (r : List ℕ). joined m f ++ r) (drop_of_length-le d {i = 88 * m} (omega arith)) ∙ append-nil (joined m f)
