-- The gate of a row, and what it is for gates and rows to be one to one (#113; datasheet Table 8-2, read from the row to the gate).
use Rattle.std.specs.Prelude.{◌≡◌, Bool, true, false, ℕ, ◌+◌, ◌-◌, ◌*◌, ◌%◌, ◌≤◌, ◌<◌, ltb, eqb, Some}
use Rattle.numbers.specs.Choice.{pick}
use Rattle.config.specs.declared.GateScan.{GateScan}
use Rattle.config.specs.declared.PanelGeometry.{PanelGeometry}
use Rattle.gates.specs.Gates.{even_gates, row_of, row_of_gate}

-- the gate of a row by SM and GD: Table 8-2 read the other way
unfoldable pub gate_of : Bool → Bool → ℕ → ℕ → ℕ
gate_of false false row lines = row
gate_of false true row lines = pick (eqb (row % 2) 0) (row + 1) (row - 1)
gate_of true false row lines = pick (ltb row (even_gates lines)) (2 * row) (2 * (row - even_gates lines) + 1)
gate_of true true row lines = pick (ltb row (even_gates lines)) (2 * row + 1) (2 * (row - even_gates lines))

-- the gate that drives a row of the glass
unfoldable pub gate_of_row : PanelGeometry → ℕ → ℕ
gate_of_row g y = gate_of g.native_scan.sm g.native_scan.gd (pick g.rows_reversed (g.height - 1 - y) y) g.height

-- the scans that #113 asks about: 1 to 680 lines, and with GD an even number of them
pub record Scanned (scan : GateScan) (lines : ℕ) : Type 0 where
  pub some : 1 ≤ lines
  pub most : lines ≤ 680
  pub even : scan.gd ≡ true → lines % 2 ≡ 0

-- what it is for gates and rows to be one to one under a scan of so many lines
pub record OneToOne (scan : GateScan) (lines : ℕ) : Type 0 where
  -- every gate that is scanned has a row, and every row is one of a gate
  pub has_row : (gate : ℕ) → gate < lines → row_of_gate gate scan lines ≡ Some (row_of scan.sm scan.gd gate lines)
  pub row_lt : (gate : ℕ) → gate < lines → row_of scan.sm scan.gd gate lines < lines
  pub has_gate : (row : ℕ) → row < lines → row_of_gate (gate_of scan.sm scan.gd row lines) scan lines ≡ Some row
  pub gate_lt : (row : ℕ) → row < lines → gate_of scan.sm scan.gd row lines < lines
  -- from a gate to its row and back, and from a row to its gate and back
  pub gate_again : (gate : ℕ) → gate < lines → gate_of scan.sm scan.gd (row_of scan.sm scan.gd gate lines) lines ≡ gate
  pub row_again : (row : ℕ) → row < lines → row_of scan.sm scan.gd (gate_of scan.sm scan.gd row lines) lines ≡ row

-- that a row of the RAM is shown by exactly one of so many rows of the glass, by the gate of each and the order in which they are scanned
pub record ShownOnce (gate : ℕ → ℕ) (lines : ℕ) (scan : GateScan) (row : ℕ) : Type 0 where
  -- a row of the glass whose gate shows the RAM's row
  pub place : ℕ
  pub within : place < lines
  pub shows : row_of_gate (gate place) scan lines ≡ Some row
  -- and no other
  pub alone : (y : ℕ) → y < lines → row_of_gate (gate y) scan lines ≡ Some row → y ≡ place
