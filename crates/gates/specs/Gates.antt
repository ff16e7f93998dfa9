-- Which row of the RAM each gate shows (datasheet Table 8-2, as panel.rs cites it), and which gate drives each row of the glass.
use Rattle.std.specs.Prelude.{Bool, true, false, List, ℕ, zero, suc, ◌+◌, ◌-◌, ◌/◌, ◌%◌, ltb, eqb, set, Option, Some, None}
use Rattle.numbers.specs.Choice.{pick}
use Rattle.config.specs.declared.GateScan.{GateScan}
use Rattle.config.specs.declared.PanelGeometry.{PanelGeometry}

-- how many of the gates 0 to lines − 1 have an even number (Table 8-2)
abbrev pub even_gates : ℕ → ℕ
even_gates lines = (lines + 1) / 2

-- the row of a gate by SM and GD: in sequence; each pair of gates exchanged; the even gates and then the odd; the odd and then the even (Table 8-2)
unfoldable pub row_of : Bool → Bool → ℕ → ℕ → ℕ
row_of false false gate lines = gate
row_of false true gate lines = pick (eqb (gate % 2) 0) (gate + 1) (gate - 1)
row_of true false gate lines = pick (eqb (gate % 2) 0) (gate / 2) (even_gates lines + gate / 2)
row_of true true gate lines = pick (eqb (gate % 2) 0) (even_gates lines + gate / 2) (gate / 2)

-- a row, where it is one of the lines scanned and one of the RAM's 680 (panel.rs, `ram_row_of_gate`)
abbrev pub row_shown : ℕ → ℕ → Option ℕ
row_shown row lines = pick (ltb row lines) (pick (ltb row 680) (Some row) None) None

-- the row that a gate shows: none where the gate is not scanned (panel.rs, `ram_row_of_gate`)
unfoldable pub row_of_gate : ℕ → GateScan → ℕ → Option ℕ
row_of_gate gate scan lines = pick (ltb gate lines) (row_shown (row_of scan.sm scan.gd gate lines) lines) None

-- a row, or another number where there is none
abbrev pub row_or : Option ℕ → ℕ → ℕ
row_or (Some row) other = row
row_or None other = other

-- the row of a gate under the native scan; one that has none counts as its own (panel.rs, `Panel::new`)
unfoldable pub native_row : ℕ → GateScan → ℕ → ℕ
native_row gate scan height = row_or (row_of_gate gate scan height) gate

-- the row of the glass that a gate drives: the native row, from the top or from the bottom (panel.rs, `Panel::new`)
unfoldable pub physical_row : PanelGeometry → ℕ → ℕ
physical_row g gate =
    pick g.rows_reversed
    (g.height - 1 - native_row gate g.native_scan g.height)
    (native_row gate g.native_scan g.height)

-- a list of rows once the gates below n are stored in it, each at the row it drives (panel.rs, `Panel::new`)
unfoldable pub gates_stored : PanelGeometry → ℕ → List ℕ → List ℕ
gates_stored g zero rows = rows
gates_stored g (suc n) rows = set (gates_stored g n rows) (physical_row g n) n
