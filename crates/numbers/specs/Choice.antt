-- Choice by a test, and a bit as a test.
use Rattle.std.specs.Prelude.{Bool, true, false, ℕ, ◌/◌, ◌%◌, ◌^◌, eqb}

-- the first where the test holds, else the second
abbrev pub pick : {A : Type 0} → Bool → A → A → A
pick true a b = a
pick false a b = b

-- bit k of n is set
unfoldable pub bit_of : ℕ → ℕ → Bool
bit_of n k = eqb (n / 2 ^ k % 2) 1
