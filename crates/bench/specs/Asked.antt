-- What the timed functions ask of what they are handed, as tests: a call that fails its test changes nothing.
use Rattle.std.specs.Prelude.{Bool, ◌&&◌, List, ℕ, ◌+◌, ◌*◌, ◌^◌, eqb, ltb, leb, ℤ, pos}
use Rattle.std.specs.Int.Signed.{le_z}
use Rattle.config.specs.Tests.{zero_period}

-- every frame-rate code has a period (5; SCOPE, Refusals)
unfoldable pub lasting : List ℕ → Bool
lasting periods = eqb (zero_period periods) 16

-- greys: a swing from 1 on, and a pixel for each state
unfoldable pub grayable : ℤ → ℕ → ℕ → Bool
grayable swing states pixels = le_z (pos 1) swing && eqb pixels states

-- a transfer: frames that last, and one of five LUTs
unfoldable pub walkable : List ℕ → ℕ → Bool
walkable periods lut = lasting periods && ltb lut 5

-- a combined transfer: the same, and a swing from 1 on
unfoldable pub combinable : List ℕ → ℕ → ℤ → Bool
combinable periods lut swing = walkable periods lut && le_z (pos 1) swing

-- the counts of grey: one for each grey, and no more pixels than one can hold
unfoldable pub countable : ℕ → ℕ → Bool
countable states counts = eqb counts 256 && ltb states (2 ^ 32)

-- the end of a display: frames that last, a swing from 1 on, buffers of one length, and the counts
unfoldable pub finishable : List ℕ → ℤ → ℕ → ℕ → ℕ → ℕ → Bool
finishable periods swing states luts pixels counts =
    ((lasting periods && grayable swing states pixels) && eqb luts states) && countable states counts

-- the choice of LUTs: a LUT for each pixel, a gate for each row, whole planes, and sources that there are
unfoldable pub scannable : ℕ → ℕ → ℕ → ℕ → ℕ → ℕ → ℕ → Bool
scannable luts gates red black_white width height first =
    ((eqb luts (height * width) && eqb gates height) && (eqb red 81600 && eqb black_white 81600)) && leb (first + width) 960
