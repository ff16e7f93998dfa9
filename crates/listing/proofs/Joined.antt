-- A loop that gathers one text after the other, and how long texts are that are joined. Assumes nothing.
use mathlib.Core.Path.{◌≡◌, sym, ap, ◌∙◌}
use mathlib.Core.List.{List}
use Prim.Native.Nat.{ℕ, zero, suc, ◌+◌, ◌*◌, ◌≤◌}
use native.Mathlib.Numerals.{add-one}
use native.Mathlib.Omega.{arith}
use lib.ListN.{length, length-append}
use Rattle.waveform.specs.Phases.{joined}
use Rattle.column.specs.Columns.{gathered}
use Rattle.column.proofs.Gathered.{nothing, after}

module _ (room : ℕ) (g : List ℕ) (f : ℕ → List ℕ) where
  -- where a loop begins that gathers f 0, f 1, .., and a turn of it
  pub joined_none : g ≡ gathered room g (joined 0 f)
  unfolding joined
  joined_none = nothing room g

  pub joined_more : (n : ℕ) {b c : List ℕ} → b ≡ gathered room g (joined n f) → c ≡ gathered room b (f n) → c ≡ gathered room g (joined (n + 1) f)
  unfolding joined
  joined_more n e h = after room g (joined n f) (f n) e h ∙ ap (λ (k : ℕ). gathered room g (joined k f)) (sym (add-one n))

-- texts of at most k bytes
pub joined_length : (k : ℕ) (f : ℕ → List ℕ) → ((i : ℕ) → length (f i) ≤ k) → (n : ℕ) → length (joined n f) ≤ n * k
unfolding joined
joined_length k f h zero = omega arith
joined_length k f h (suc n) = omega (arith, length-append (joined n f) (f n), joined_length k f h n, h n)

-- texts of k bytes each
pub same_length : (k : ℕ) (f : ℕ → List ℕ) → ((i : ℕ) → length (f i) ≡ k) → (n : ℕ) → length (joined n f) ≡ n * k
unfolding joined
same_length k f h zero = omega arith
same_length k f h (suc n) = omega (arith, length-append (joined n f) (f n), same_length k f h n, h n)
