-- Numbers held within bounds: what saturating arithmetic and clamping are, over ℕ and ℤ.
use Rattle.std.specs.Prelude.{cond, ℕ, ◌-◌, ◌^◌, ℤ, pos, negsuc}
use Rattle.std.specs.Int.Signed.{lt_z}

-- the largest unsigned number of k bits
abbrev pub largest : ℕ → ℕ
largest k = 2 ^ k - 1

-- x held between lo and hi, as Rust's `clamp`: lo if x is below it, else hi if x is above that
unfoldable pub clamp_z : ℤ → ℤ → ℤ → ℤ
clamp_z x lo hi = cond (lt_z x lo) lo (cond (lt_z hi x) hi x)

-- i64::MIN, −2^63
abbrev pub least : ℤ
least = negsuc 9223372036854775807

-- i64::MAX, 2^63 − 1
abbrev pub most : ℤ
most = pos 9223372036854775807

-- x held to 64 bits, as Rust's saturating operations on i64
abbrev pub sat_z : ℤ → ℤ
sat_z x = clamp_z x least most
