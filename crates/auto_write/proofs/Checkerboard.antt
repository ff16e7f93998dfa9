-- Laws of the auto write: no step is 0 high, a column's steps by a shift, the byte at a row and a column.
-- Assumes nothing.
use mathlib.Core.Path.{◌≡◌, refl, sym, ap, ◌∙◌}
use mathlib.Core.Bool.{Bool, true, false, beq}
use mathlib.Core.List.{List}
use Prim.Native.Nat.{ℕ, zero, suc, ◌+◌, ◌*◌, ◌/◌, ◌%◌, ◌^◌, ◌<◌}
use native.Mathlib.Omega.{arith}
use lib.Dec.{leb, leb→le}
use lib.ListN.{get_or}
use Rattle.numbers.specs.Choice.{pick, bit_of}
use Rattle.numbers.proofs.Every.{at}
use Rattle.numbers.proofs.Painted.{Painted, paint}
use Rattle.auto_write.specs.Auto.{heights, widths, height_of, width_of, step_byte, auto_byte, whole_rows, auto_written}

pub height_pos : (p : ℕ) → 0 < height_of p
unfolding height_of
height_pos p = leb→le 1 (get_or heights (p / 16 % 8) 0) (at (λ _ x. leb 1 x) heights tt (p / 16 % 8) (omega arith))

-- `n >> k` is the quotient by the width of that number
by_shift : (n k : ℕ) → n < 120 → k < 8 → n / 2 ^ k ≡ n / (get_or widths k 0 / 8)
by_shift n zero h l = refl
by_shift n (suc zero) h l = refl
by_shift n (suc (suc zero)) h l = refl
by_shift n (suc (suc (suc zero))) h l = refl
by_shift n (suc (suc (suc (suc zero)))) h l = refl
by_shift n (suc (suc (suc (suc (suc zero))))) h l = refl
by_shift n (suc (suc (suc (suc (suc (suc zero)))))) h l = refl
by_shift n (suc (suc (suc (suc (suc (suc (suc zero))))))) h l = omega arith
by_shift n (suc (suc (suc (suc (suc (suc (suc (suc k)))))))) h l = absurd (past k l)
  where
    past : (k : ℕ) → suc (suc (suc (suc (suc (suc (suc (suc k))))))) < 8 → ⊥
    past k l = omega arith

pub shifted : (p n : ℕ) → n < 120 → n / 2 ^ (p % 8) ≡ n / width_of p
unfolding width_of
shifted p n h = by_shift n (p % 8) h (omega arith)

-- a step takes the first value just where it is even
never : {A : Type 0} → false ≡ true → A
never e = absurd (let z : ◌≡◌ {A = ℕ} 0 1 = cc in omega arith)

pub alike : (even first : Bool) → beq even first ≡ true → ◌≡◌ {A = ℕ} 255 (pick even (pick first 255 0) (pick first 0 255))
alike true true e = refl
alike true false e = never e
alike false true e = never e
alike false false e = refl

pub unlike : (even first : Bool) → beq even first ≡ false → ◌≡◌ {A = ℕ} 0 (pick even (pick first 255 0) (pick first 0 255))
unlike true true e = never (sym e)
unlike true false e = refl
unlike false true e = refl
unlike false false e = never (sym e)

-- what the loops store, from what they know of it
module _ (p row column above before v : ℕ) (first : Bool) (l : column < 120) (f : first ≡ bit_of p 7) where
  pub placed : above ≡ row / height_of p → before ≡ column / width_of p → v ≡ step_byte first (above + before) → v ≡ auto_byte p (row * 120 + column)
  unfolding auto_byte
  placed a b e =
      let q : (row * 120 + column) / 120 ≡ row = omega arith in
      let r : (row * 120 + column) % 120 ≡ column = omega arith in
      rw (q, r, ← a, ← b, ← f) e

-- where the loops end
pub written : (p n : ℕ) (d s : List ℕ) → Painted n (auto_byte p) d s → n ≡ whole_rows d → s ≡ auto_written p d
unfolding auto_written paint
written p n d s h e = h.is ∙ ap (λ (k : ℕ). paint k (auto_byte p) d) e
