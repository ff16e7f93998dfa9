-- Temperatures: a twelve-bit register in two's complement, in sixteenths of a degree Celsius (datasheet §6.8.3, as config.rs cites it).
use Rattle.std.specs.Prelude.{◌&&◌, ℕ, ◌-◌, ◌%◌, ltb, ℤ, pos, negsuc, ◌-ℤ◌, Option, Some, None}
use Rattle.std.specs.Int.Signed.{le_z}
use Rattle.numbers.specs.Choice.{pick}
use Rattle.config.specs.declared.Temperature.{Temperature}

-- the lowest of the format, −128 °C
abbrev pub coldest : Temperature
coldest = record { 0 = negsuc 2047 }

-- the highest of the format, 127.9375 °C
abbrev pub warmest : Temperature
warmest = record { 0 = pos 2047 }

-- the sixteenths that a register stands for: its low twelve bits, less 4096 where they are 2048 or more
unfoldable pub sixteenths_of : ℕ → ℤ
sixteenths_of r = pick (ltb (r % 4096) 2048) (pos (r % 4096)) (pos (r % 4096) -ℤ pos 4096)

-- the register of a number of sixteenths: the number modulo 4096
unfoldable pub register_of : ℤ → ℕ
register_of (pos n) = n % 4096
register_of (negsuc n) = 4095 - n % 4096

-- the temperature of a number of sixteenths, where the format holds it (config.rs, `from_sixteenths`)
abbrev pub from_sixteenths : ℤ → Option Temperature
from_sixteenths z = pick (le_z coldest.0 z && le_z z warmest.0) (Some (record { 0 = z })) None
