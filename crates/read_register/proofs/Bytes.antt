-- The bytes of a read command: one of a list, or none past its end; the eleven of 0x2D, and the flags of 0x2F. Assumes nothing.
use Rattle.std.specs.Prelude.{Some, None}
use mathlib.Core.Path.{◌≡◌, refl, ap}
use mathlib.Core.Bool.{Bool, true, false}
use mathlib.Core.List.{List, ◌∷◌}
use Prim.Native.Nat.{ℕ, zero, suc, ◌+◌, ◌-◌, ◌≤◌, ◌<◌}
use native.Mathlib.Omega.{arith}
use lib.Bits.{bit_or}
use lib.ListN.{get_or, drop}
use lib.Seq.{get_or-drop}
use borrow.Author.Tests.{lt-ltb, le-ltb}
use Rattle.numbers.specs.Choice.{pick}
use Rattle.registers.specs.Read.{answer, byte_of}

pub here : (n : ℕ) (l : List ℕ) (i b : ℕ) → i < n → b ≡ get_or l i 0 → Some b ≡ byte_of (answer n l) i
here n l i b h e = rw (lt-ltb i n h, e)

pub past : (n : ℕ) (l : List ℕ) (i : ℕ) → n ≤ i → None ≡ byte_of (answer n l) i
past n l i h = rw (le-ltb i n h)

-- two bytes, then the option's without its first
pub option_later : (option : List ℕ) (a b i : ℕ) → 2 ≤ i → get_or option (i - 1) 0 ≡ get_or (a ∷ b ∷ drop 1 option) i 0
option_later option a b zero h = absurd (low h)
  where
    low : 2 ≤ 0 → ⊥
    low h = omega arith
option_later option a b (suc zero) h = absurd (low h)
  where
    low : 2 ≤ 1 → ⊥
    low h = omega arith
option_later option a b (suc (suc k)) h = rw (get_or-drop 1 option k 0) (ap (λ (j : ℕ). get_or option j 0) (omega arith))

-- flags in bits of their own are joined by their sum
pub joined : (h v b : Bool) → bit_or (bit_or (bit_or (pick h 32 0) (pick v 16 0)) (pick b 4 0)) 1 ≡ pick h 32 0 + pick v 16 0 + pick b 4 0 + 1
joined true true true = refl
joined true true false = refl
joined true false true = refl
joined true false false = refl
joined false true true = refl
joined false true false = refl
joined false false true = refl
joined false false false = refl
