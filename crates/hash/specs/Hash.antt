-- The hash of docs/replay-format.md.
use Rattle.std.specs.Prelude.{List, [], ◌∷◌, ◌++◌, ℕ, ◌+◌, ◌-◌, ◌*◌, ◌/◌, ◌%◌, ◌^◌, ℤ, pos, negsuc}

-- a byte more
unfoldable pub step_of : ℕ → ℕ → ℕ
step_of h byte = (h * 16777619 + byte + 1) % 4294967291

-- bytes more
unfoldable pub hash_from : ℕ → List ℕ → ℕ
hash_from h [] = h
hash_from h (byte ∷ bytes) = hash_from (step_of h byte) bytes

-- HASH of a list of bytes (replay-format.md)
abbrev pub hash_of : List ℕ → ℕ
hash_of bytes = hash_from 0 bytes

-- gates: two bytes each, the low byte first
unfoldable pub word_bytes : List ℕ → List ℕ
word_bytes [] = []
word_bytes (word ∷ words) = word % 256 ∷ word / 256 ∷ word_bytes words

-- a state in two's complement
abbrev pub pattern_of : ℤ → ℕ
pattern_of (pos n) = n
pattern_of (negsuc n) = 2 ^ 64 - 1 - n

-- 32 bits as four bytes, the low byte first
abbrev pub four_of : ℕ → List ℕ
four_of n = n % 256 ∷ n / 256 % 256 ∷ n / 65536 % 256 ∷ n / 16777216 % 256 ∷ []

-- counts: four bytes each, the low byte first
unfoldable pub count_bytes : List ℕ → List ℕ
count_bytes [] = []
count_bytes (count ∷ counts) = four_of count ++ count_bytes counts

-- states: eight bytes each, the low byte first
unfoldable pub state_bytes : List ℤ → List ℕ
state_bytes [] = []
state_bytes (state ∷ states) = four_of (pattern_of state) ++ four_of (pattern_of state / 2 ^ 32) ++ state_bytes states
