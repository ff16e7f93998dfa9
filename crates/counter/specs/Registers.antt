-- A ten-bit register that the bus writes in two bytes (mod.rs, `ten_bits`).
use Rattle.std.specs.Prelude.{ℕ, ◌+◌, ◌*◌, ◌/◌, ◌%◌, eqb}
use Rattle.numbers.specs.Choice.{pick}

-- index 0 replaces the low eight bits and keeps the old two above them; any other replaces those two and keeps the low eight (SCOPE, RAM)
unfoldable pub ten_bits : ℕ → ℕ → ℕ → ℕ
ten_bits value index byte = pick (eqb index 0) (value / 256 % 4 * 256 + byte) (byte % 4 * 256 + value % 256)
