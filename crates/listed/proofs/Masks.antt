-- Two tests of a byte that agree at all 256, by one test that antt computes, agree at each; and a test of two numbers that both grow. Assumes nothing.
use mathlib.Core.Path.{◌≡◌, refl, sym, ◌∙◌}
use mathlib.Core.Bool.{Bool, true, false, not}
use Prim.Native.Nat.{ℕ, ◌+◌, ◌≤◌}
use native.Mathlib.Omega.{arith}
use lib.Dec.{T, leb}
use borrow.Author.Tests.{leb-true, leb-false, le-leb, lt-leb}
use lib.ListN.{replicate, length-replicate}
use Rattle.numbers.proofs.Every.{every, at}

abbrev same : Bool → Bool → Bool
same true b = b
same false b = not b

same_eq : (a b : Bool) → T (same a b) → a ≡ b
same_eq true true t = refl
same_eq true false t = absurd t
same_eq false true t = absurd t
same_eq false false t = refl

pub agree : (f g : ℕ → Bool) → T (every (λ (i x : ℕ). same (f i) (g i)) 0 (replicate 256 0)) → (byte : ℕ) → byte ≤ 255 → f byte ≡ g byte
agree f g t byte h = same_eq (f byte) (g byte) (at (λ (i x : ℕ). same (f i) (g i)) (replicate 256 0) t byte (omega (arith, length-replicate {A = ℕ} 256 0)))

-- one more on both sides
pub up : (a b : ℕ) → leb a b ≡ leb (a + 1) (b + 1)
up a b = go (leb a b) refl
  where
    go : (t : Bool) → leb a b ≡ t → leb a b ≡ leb (a + 1) (b + 1)
    go true e = e ∙ sym (le-leb (a + 1) (b + 1) (omega (arith, leb-true a b e)))
    go false e = e ∙ sym (lt-leb (a + 1) (b + 1) (omega (arith, leb-false a b e)))
