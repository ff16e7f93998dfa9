-- The LUT of each pixel (panel.rs, `Panel::start`).
use Rattle.std.specs.Prelude.{Bool, false, not, List, ℕ, ◌+◌, ◌-◌, ◌*◌, ◌/◌, ◌%◌, eqb, get_or, Option, Some, None}
use Rattle.numbers.specs.Choice.{pick}
use Rattle.config.specs.declared.PanelGeometry.{PanelGeometry}
use Rattle.ram.specs.Plane.{bit_at}
use Rattle.panel.specs.Pixels.{undriven}
use Rattle.scan.specs.declared.PlaneOption.{PlaneOption}
use Rattle.scan.specs.declared.PlaneOption.TheVariants.{Normal, Zero, Inverse}
use Rattle.scan.specs.declared.Scan.{Scan}
use Rattle.gates.specs.Gates.{row_of_gate}

-- the option of a plane by the low four bits: 4 bypass as 0, 8 inverse, any other normal (0x21, as panel.rs cites it)
unfoldable pub option_of : ℕ → PlaneOption
option_of nibble = pick (eqb (nibble % 16) 4) Zero (pick (eqb (nibble % 16) 8) Inverse Normal)

-- a bit of a plane as its option has it read (0x21)
unfoldable pub applied : PlaneOption → Bool → Bool
applied Normal bit = bit
applied Zero bit = false
applied Inverse bit = not bit

-- the LUT of two bits: twice the red one and the black-white one (panel.rs, `Panel::start`)
unfoldable pub lut_of_bits : Bool → Bool → ℕ
lut_of_bits red black_white = 2 * pick red 1 0 + pick black_white 1 0

-- the LUT of a pixel's bits in both planes; where one lies outside RAM the pixel is undriven (SCOPE, Panel)
unfoldable pub lut_of_pixels : Scan → Option Bool → Option Bool → ℕ
lut_of_pixels s (Some red) (Some black_white) = lut_of_bits (applied s.red red) (applied s.black_white black_white)
lut_of_pixels s (Some red) None = undriven
lut_of_pixels s None black_white = undriven

-- the LUT of a source's pixel in a row of both planes; with no row it is undriven (SCOPE, Panel)
unfoldable pub lut_in_row : Option ℕ → List ℕ → List ℕ → Scan → ℕ → ℕ
lut_in_row (Some row) red black_white s source = lut_of_pixels s (bit_at red source row) (bit_at black_white source row)
lut_in_row None red black_white s source = undriven

-- the source of column x: from the first source on, or from the last one back (panel.rs, `ram_pixel`)
unfoldable pub source_of : PanelGeometry → ℕ → ℕ
source_of g x = g.first_source + pick g.columns_reversed (g.width - 1 - x) x

-- the LUT of pixel i, in column i % width and row i / width of the glass (panel.rs, `Panel::start`)
unfoldable pub lut_of : List ℕ → List ℕ → List ℕ → PanelGeometry → Scan → ℕ → ℕ
lut_of gates red black_white g s i =
    lut_in_row (row_of_gate (get_or gates (i / g.width) 0) s.order s.lines) red black_white s (source_of g (i % g.width))
