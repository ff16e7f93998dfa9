-- Text gathered in a buffer, numbers in decimal and bytes in hexadecimal (docs/replay-format.md), in ASCII.
use Rattle.std.specs.Prelude.{Bool, List, [], ◌∷◌, ◌++◌, ℕ, ℤ, pos, negsuc, zero, suc, ◌+◌, ◌/◌, ◌%◌, ltb, length}
use Rattle.numbers.specs.Choice.{pick}

-- a byte more, where there is room for it
unfoldable pub put_of : List ℕ → ℕ → List ℕ
put_of g byte = pick (ltb (length g) 65536) (g ++ (byte ∷ [])) g

-- a text more
unfoldable pub written : List ℕ → List ℕ → List ℕ
written g [] = g
written g (byte ∷ text) = written (put_of g byte) text

-- n in decimal with no zeros in front: n itself below 10, else the digits of n / 10 and the last; of at most suc k digits
unfoldable pub decimal_from : ℕ → ℕ → List ℕ
decimal_from zero n = (48 + n) ∷ []
decimal_from (suc k) n = pick (ltb n 10) ((48 + n) ∷ []) (decimal_from k (n / 10) ++ ((48 + n % 10) ∷ []))

-- a number of 64 bits has 20 at most
abbrev pub decimal_of : ℕ → List ℕ
decimal_of n = decimal_from 19 n

-- the same of a number that may be negative
unfoldable pub signed_of : ℤ → List ℕ
signed_of (pos n) = decimal_of n
signed_of (negsuc n) = 45 ∷ decimal_of (n + 1)

-- a digit below 16, from a on in lower case
abbrev pub digit_of : ℕ → ℕ
digit_of d = pick (ltb d 10) (48 + d) (87 + d)

-- two digits a byte
unfoldable pub hex_of : List ℕ → List ℕ
hex_of [] = []
hex_of (byte ∷ bytes) = digit_of (byte / 16) ∷ digit_of (byte % 16) ∷ hex_of bytes

-- a truth value
abbrev pub truth_of : Bool → ℕ
truth_of b = pick b 49 48
