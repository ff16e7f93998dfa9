-- What `count` goes through are the pixels in turn: four at a time, then the last few. Assumes nothing.
use mathlib.Core.Path.{◌≡◌, refl, ap, ◌∙◌}
use mathlib.Core.List.{List, []}
use Prim.Native.Nat.{ℕ, zero, suc, ◌+◌, ◌*◌, ◌/◌, ◌<◌}
use native.Mathlib.Omega.{arith}
use lib.ListN.{length, drop, get_or}
use Rattle.std.proofs.lemmas.List.{get_or-take, get_or-drop}
use Rattle.std.specs.Simd.{first_chunks}

chunk_at : (k : ℕ) (xs : List ℕ) (q i p : ℕ) → q < k → i < 4 → p ≡ 4 * q + i
    → get_or (get_or (first_chunks 4 k xs) q []) i 0 ≡ get_or xs p 0
chunk_at zero xs q i p l m e = elim l [ ]
chunk_at (suc k) xs zero i p l m e = get_or-take 4 xs i 0 m ∙ ap (λ (n : ℕ). get_or xs n 0) (omega (arith, e))
chunk_at (suc k) xs (suc q) i p l m e =
    chunk_at k (drop 4 xs) q i (4 * q + i) (omega (arith, l)) m refl
    ∙ get_or-drop 4 xs (4 * q + i) 0
    ∙ ap (λ (n : ℕ). get_or xs n 0) (omega (arith, e))

module _ (xs : List ℕ) {quads : List (List ℕ)} (are : quads ≡ first_chunks 4 (length xs / 4) xs) (long : length quads ≡ length xs / 4) where
  -- a pixel of a quad
  pub quad_at : (q i p : ℕ) → q < length quads → i < 4 → p ≡ 4 * q + i → get_or (get_or quads q []) i 0 ≡ get_or xs p 0
  quad_at q i p l m e =
      ap (λ (qs : List (List ℕ)). get_or (get_or qs q []) i 0) are ∙ chunk_at (length xs / 4) xs q i p (omega (arith, l, long)) m e

  -- all four of it are there
  pub in_quads : (q : ℕ) → q < length quads → 4 * q + 3 < length xs
  in_quads q l = omega (arith, l, long)
