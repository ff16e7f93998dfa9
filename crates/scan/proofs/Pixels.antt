-- Laws of the LUT of a pixel: a bit that lies in the RAM, the pixel of a row and a column, and the source of a column.
-- Assumes nothing.
use Rattle.std.specs.Prelude.{Option, Some}
use mathlib.Core.Path.{◌≡◌}
use mathlib.Core.Bool.{Bool, true, false}
use mathlib.Core.List.{List}
use Prim.Native.Nat.{ℕ, ◌+◌, ◌-◌, ◌*◌, ◌/◌, ◌%◌, ◌<◌, ◌≤◌}
use native.Mathlib.Omega.{arith}
use lib.Arith.{digits_mod, digits_div}
use lib.ListN.{length, get_or}
use borrow.Author.Tests.{lt-ltb}
use Rattle.numbers.specs.Choice.{pick, bit_of}
use Rattle.config.specs.declared.PanelGeometry.{PanelGeometry}
use Rattle.ram.specs.Plane.{index_of, read_at, bit_at}
use Rattle.scan.specs.declared.Scan.{Scan}
use Rattle.gates.specs.Gates.{row_of_gate}
use Rattle.scan.specs.Luts.{source_of, lut_in_row, lut_of}

pub bit_there : (plane : List ℕ) (x row : ℕ) → length plane ≡ 81600 → x < 960 → row < 680
    → bit_at plane x row ≡ Some (bit_of (get_or plane (row * 120 + x / 8) 0) (7 - x % 8))
unfolding bit_at read_at index_of
bit_there plane x row whole there row_in_ram =
    rw (lt-ltb (x / 8) 120 (omega arith), lt-ltb row 680 row_in_ram, lt-ltb (row * 120 + x / 8) (length plane) (omega arith))

-- pixel y * width + x is the one in column x and row y
pub pixel_is : {r source : ℕ} {row : Option ℕ} (gates red black_white : List ℕ) (g : PanelGeometry) (s : Scan) (x y : ℕ) → x < g.width
    → row ≡ row_of_gate (get_or gates y 0) s.order s.lines → source ≡ source_of g x → r ≡ lut_in_row row red black_white s source
    → r ≡ lut_of gates red black_white g s (y * g.width + x)
unfolding lut_of
pixel_is gates red black_white g s x y l rowIs source_is e = rw (digits_mod y l, digits_div y l, ← rowIs, ← source_is) e

-- the source of a column is one of the controller's 960
pub source_lt : (g : PanelGeometry) (x : ℕ) → x < g.width → g.first_source + g.width ≤ 960 → source_of g x < 960
unfolding source_of
source_lt g x l driven = by g.columns_reversed
  where
    by : (b : Bool) → g.first_source + pick b (g.width - 1 - x) x < 960
    by true = omega arith
    by false = omega arith
