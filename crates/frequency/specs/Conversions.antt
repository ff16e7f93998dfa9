-- Spans in nanoseconds and in cycles of a time base (#101: nanoseconds become cycles rounded up, cycles become nanoseconds rounded down,
-- and both hold at 2^64 − 1).
use Rattle.std.specs.Prelude.{ℕ, ◌+◌, ◌*◌, ◌/◌, min, eqb}
use Rattle.numbers.specs.Choice.{pick}
use Rattle.numbers.specs.Saturation.{largest}

-- a span in nanoseconds, in cycles of a time base of so many a second
unfoldable pub cycles_of : ℕ → ℕ → ℕ
cycles_of frequency ns = min ((ns * frequency + 999999999) / 1000000000) (largest 64)

-- a span in cycles, in nanoseconds. At 0 cycles a second it is 0, so that no caller has to show that there are some: 14 refuses such a
-- configuration at a start, and 13 a state handed in with one
unfoldable pub nanos_of : ℕ → ℕ → ℕ
nanos_of frequency cycles = pick (eqb frequency 0) 0 (min (cycles * 1000000000 / frequency) (largest 64))
