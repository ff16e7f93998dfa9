-- Laws of the row of a gate that the functions' proofs cite: a pair exchanged by one bit, and the bounds of a row.
-- Assumes nothing.
use Rattle.std.specs.Prelude.{Some, None}
use mathlib.Core.Path.{◌≡◌, refl, ap, ◌∙◌}
use mathlib.Core.Bool.{Bool, true, false}
use Prim.Native.Nat.{ℕ, ◌+◌, ◌-◌, ◌*◌, ◌/◌, ◌%◌, ◌<◌}
use native.Mathlib.Omega.{arith}
use lib.Bits.{bit_xor, differ, xor_step, xor_zero_r}
use lib.Dec.{ltb, eqb}
use borrow.Author.Tests.{eqb-true, eqb-false, ltb-true}
use Rattle.numbers.specs.Choice.{pick}
use Rattle.config.specs.declared.GateScan.{GateScan}
use Rattle.gates.specs.Gates.{row_of, row_of_gate, row_or, native_row}

-- `gate ^ 1`
pub exchanged : (n : ℕ) → bit_xor n 1 ≡ pick (eqb (n % 2) 0) (n + 1) (n - 1)
exchanged n = step ∙ by (eqb (n % 2) 0) refl
  where
    step : bit_xor n 1 ≡ n / 2 * 2 + differ (n % 2) 1
    step = xor_step n 1 ∙ ap (λ (k : ℕ). k * 2 + differ (n % 2) 1) (xor_zero_r (n / 2))

    by : (t : Bool) → eqb (n % 2) 0 ≡ t → n / 2 * 2 + differ (n % 2) 1 ≡ pick t (n + 1) (n - 1)
    by true e = ap (λ (k : ℕ). n / 2 * 2 + differ k 1) (eqb-true (n % 2) 0 e) ∙ omega (arith, eqb-true (n % 2) 0 e)
    by false e =
        let h = eqb-false (n % 2) 0 e in
        let one : n % 2 ≡ 1 = omega arith in
        ap (λ (k : ℕ). n / 2 * 2 + differ k 1) one ∙ omega arith

-- a row that is shown is one of the RAM's
pub row_in_ram : (gate : ℕ) (scan : GateScan) (lines : ℕ) → row_or (row_of_gate gate scan lines) 0 < 680
unfolding row_of_gate
row_in_ram gate scan lines =
    let row = row_of scan.sm scan.gd gate lines in
    by row (ltb gate lines) (ltb row lines) (ltb row 680) (ltb-true row 680)
  where
    by : (row : ℕ) (s t u : Bool) → (u ≡ true → row < 680) → row_or (pick s (pick t (pick u (Some row) None) None) None) 0 < 680
    by row true true true h = h refl
    by row true true false h = omega arith
    by row true false u h = omega arith
    by row false t u h = omega arith

-- a native row is one of the glass's
pub native_lt : (gate : ℕ) (scan : GateScan) (height : ℕ) → gate < height → native_row gate scan height < height
unfolding native_row row_of_gate
native_lt gate scan height k =
    let row = row_of scan.sm scan.gd gate height in
    by row (ltb gate height) (ltb row height) (ltb row 680) (ltb-true row height)
  where
    by : (row : ℕ) (s t u : Bool) → (t ≡ true → row < height) → row_or (pick s (pick t (pick u (Some row) None) None) None) gate < height
    by row true true true h = h refl
    by row true true false h = k
    by row true false u h = k
    by row false t u h = k
