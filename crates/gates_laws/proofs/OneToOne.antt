-- Gates and rows are one to one (#113): in every scan order, for 1 to 680 lines, with GD off or an even number of lines, each gate that is scanned has
-- one row and each row one gate. The native scan of a geometry that start accepts is an instance, so that the list which `gate_of_row` fills is the table
-- of the inverse, in both row orders; and no order that 0x01 sets, with GD off or an even height, loses a line of such a glass.
-- Assumes nothing.
use Rattle.std.specs.Prelude.{Some}
use mathlib.Core.Path.{◌≡◌, refl, sym, ap, ◌∙◌}
use mathlib.Core.Bool.{Bool, true, false}
use mathlib.Core.List.{List}
use Prim.Native.Nat.{ℕ, ◌+◌, ◌-◌, ◌*◌, ◌/◌, ◌%◌, ◌<◌, ◌≤◌}
use native.Mathlib.Omega.{arith}
use lib.Dec.{ltb, eqb}
use lib.ListN.{length}
use borrow.Author.Tests.{lt-ltb, ltb-true, ltb-false, eqb-true, eqb-false}
use Rattle.numbers.specs.Choice.{pick}
use Rattle.numbers.specs.Lists.{tab}
use Rattle.numbers.proofs.Scattered.{scatter_tab}
use Rattle.config.specs.declared.GateScan.{GateScan}
use Rattle.config.specs.declared.PanelGeometry.{PanelGeometry}
use Rattle.gates.specs.Gates.{even_gates, row_of, row_of_gate, row_or, native_row, physical_row, gates_stored}
use Rattle.gates.proofs.Stored.{stored_is}
use Rattle.gates_laws.specs.OneToOne.{gate_of, gate_of_row, Scanned, OneToOne, ShownOnce}

-- ---- a choice by its test: by parity, and by order
pick_of : {A : Type 0} (P : A → Type 0) (t : Bool) (a b : A) → (t ≡ true → P a) → (t ≡ false → P b) → P (pick t a b)
pick_of P true a b f g = f refl
pick_of P false a b f g = g refl

by_parity : {A : Type 0} (P : A → Type 0) (n : ℕ) (a b : A) → (n % 2 ≡ 0 → P a) → (0 < n % 2 → P b) → P (pick (eqb (n % 2) 0) a b)
by_parity P n a b f g = pick_of P (eqb (n % 2) 0) a b (λ e. f (eqb-true (n % 2) 0 e)) (λ e. g (let h = eqb-false (n % 2) 0 e in omega arith))

by_order : {A : Type 0} (P : A → Type 0) (m n : ℕ) (a b : A) → (m < n → P a) → (n ≤ m → P b) → P (pick (ltb m n) a b)
by_order P m n a b f g = pick_of P (ltb m n) a b (λ e. f (ltb-true m n e)) (λ e. g (ltb-false m n e))

-- ---- Table 8-2 and its inverse, for any number h of lines
row_below : (sm gd : Bool) (g h : ℕ) → (gd ≡ true → h % 2 ≡ 0) → g < h → row_of sm gd g h < h
unfolding row_of
row_below false false g h v l = l
row_below false true g h v l = let e = v refl in by_parity (λ (r : ℕ). r < h) g (g + 1) (g - 1) (λ p. omega arith) (λ p. omega arith)
row_below true false g h v l = by_parity (λ (r : ℕ). r < h) g (g / 2) (even_gates h + g / 2) (λ p. omega arith) (λ p. omega arith)
row_below true true g h v l = let e = v refl in by_parity (λ (r : ℕ). r < h) g (even_gates h + g / 2) (g / 2) (λ p. omega arith) (λ p. omega arith)

gate_below : (sm gd : Bool) (r h : ℕ) → (gd ≡ true → h % 2 ≡ 0) → r < h → gate_of sm gd r h < h
unfolding gate_of
gate_below false false r h v l = l
gate_below false true r h v l = let e = v refl in by_parity (λ (g : ℕ). g < h) r (r + 1) (r - 1) (λ p. omega arith) (λ p. omega arith)
gate_below true false r h v l = by_order (λ (g : ℕ). g < h) r (even_gates h) _ _ (λ p. omega arith) (λ p. omega arith)
gate_below true true r h v l = let e = v refl in by_order (λ (g : ℕ). g < h) r (even_gates h) (2 * r + 1) (2 * (r - even_gates h)) (λ p. omega arith) (λ p. omega arith)

gate_row : (sm gd : Bool) (g h : ℕ) → (gd ≡ true → h % 2 ≡ 0) → g < h → gate_of sm gd (row_of sm gd g h) h ≡ g
unfolding row_of gate_of
gate_row false false g h v l = refl
gate_row false true g h v l =
    by_parity (λ (r : ℕ). pick (eqb (r % 2) 0) (r + 1) (r - 1) ≡ g) g (g + 1) (g - 1)
    (λ p. by_parity (λ (k : ℕ). k ≡ g) (g + 1) (g + 1 + 1) (g + 1 - 1) (λ q. omega arith) (λ q. omega arith))
    (λ p. by_parity (λ (k : ℕ). k ≡ g) (g - 1) (g - 1 + 1) (g - 1 - 1) (λ q. omega arith) (λ q. omega arith))
gate_row true false g h v l =
    let m = even_gates h in
    by_parity (λ (r : ℕ). pick (ltb r (even_gates h)) (2 * r) (2 * (r - even_gates h) + 1) ≡ g) g (g / 2) (even_gates h + g / 2)
    (λ p. by_order (λ (k : ℕ). k ≡ g) (g / 2) m (2 * (g / 2)) (2 * (g / 2 - m) + 1) (λ q. omega arith) (λ q. omega arith))
    (λ p. by_order (λ (k : ℕ). k ≡ g) (m + g / 2) m (2 * (m + g / 2)) (2 * (m + g / 2 - m) + 1) (λ q. omega arith) (λ q. omega arith))
gate_row true true g h v l =
    let e = v refl in
    let m = even_gates h in
    by_parity (λ (r : ℕ). pick (ltb r (even_gates h)) (2 * r + 1) (2 * (r - even_gates h)) ≡ g) g (even_gates h + g / 2) (g / 2)
    (λ p. by_order (λ (k : ℕ). k ≡ g) (m + g / 2) m (2 * (m + g / 2) + 1) (2 * (m + g / 2 - m)) (λ q. omega arith) (λ q. omega arith))
    (λ p. by_order (λ (k : ℕ). k ≡ g) (g / 2) m (2 * (g / 2) + 1) (2 * (g / 2 - m)) (λ q. omega arith) (λ q. omega arith))

row_gate : (sm gd : Bool) (r h : ℕ) → (gd ≡ true → h % 2 ≡ 0) → r < h → row_of sm gd (gate_of sm gd r h) h ≡ r
unfolding row_of gate_of
row_gate false false r h v l = refl
row_gate false true r h v l =
    by_parity (λ (g : ℕ). pick (eqb (g % 2) 0) (g + 1) (g - 1) ≡ r) r (r + 1) (r - 1)
    (λ p. by_parity (λ (k : ℕ). k ≡ r) (r + 1) (r + 1 + 1) (r + 1 - 1) (λ q. omega arith) (λ q. omega arith))
    (λ p. by_parity (λ (k : ℕ). k ≡ r) (r - 1) (r - 1 + 1) (r - 1 - 1) (λ q. omega arith) (λ q. omega arith))
row_gate true false r h v l =
    let m = even_gates h in
    by_order (λ (g : ℕ). pick (eqb (g % 2) 0) (g / 2) (even_gates h + g / 2) ≡ r) r (even_gates h) (2 * r) (2 * (r - even_gates h) + 1)
    (λ p. by_parity (λ (k : ℕ). k ≡ r) (2 * r) (2 * r / 2) (m + 2 * r / 2) (λ q. omega arith) (λ q. omega arith))
    (λ p. by_parity (λ (k : ℕ). k ≡ r) (2 * (r - m) + 1) ((2 * (r - m) + 1) / 2) (m + (2 * (r - m) + 1) / 2) (λ q. omega arith) (λ q. omega arith))
row_gate true true r h v l =
    let m = even_gates h in
    by_order (λ (g : ℕ). pick (eqb (g % 2) 0) (even_gates h + g / 2) (g / 2) ≡ r) r (even_gates h) (2 * r + 1) (2 * (r - even_gates h))
    (λ p. by_parity (λ (k : ℕ). k ≡ r) (2 * r + 1) (m + (2 * r + 1) / 2) ((2 * r + 1) / 2) (λ q. omega arith) (λ q. omega arith))
    (λ p. by_parity (λ (k : ℕ). k ≡ r) (2 * (r - m)) (m + 2 * (r - m) / 2) (2 * (r - m) / 2) (λ q. omega arith) (λ q. omega arith))

module _ (scan : GateScan) (lines : ℕ) (asked : Scanned scan lines) where
  even : scan.gd ≡ true → lines % 2 ≡ 0
  even gd = let e = asked.even gd in omega (arith, e)

  there : (gate : ℕ) → gate < lines → row_of_gate gate scan lines ≡ Some (row_of scan.sm scan.gd gate lines)
  unfolding row_of_gate
  there gate l =
      let row = row_of scan.sm scan.gd gate lines in
      let k = row_below scan.sm scan.gd gate lines even l in
      let most = asked.most in
      rw (lt-ltb gate lines l, lt-ltb row lines k, lt-ltb row 680 (omega (arith, most)))

  -- for 1 to 680 lines in every order, with GD off or an even number of lines, gates and rows pair one to one
  pub gates_and_rows : OneToOne scan lines
  gates_and_rows =
      record {
        has_row = there;
        row_lt = λ gate l. row_below scan.sm scan.gd gate lines even l;
        has_gate = λ row l.
            there (gate_of scan.sm scan.gd row lines) (gate_below scan.sm scan.gd row lines even l)
            ∙ ap Some (row_gate scan.sm scan.gd row lines even l);
        gate_lt = λ row l. gate_below scan.sm scan.gd row lines even l;
        gate_again = λ gate l. gate_row scan.sm scan.gd gate lines even l;
        row_again = λ row l. row_gate scan.sm scan.gd row lines even l;
      }

-- ---- the glass
module _ (g : PanelGeometry) (asked : Scanned g.native_scan g.height) where
  abbrev h : ℕ
  h = g.height

  abbrev scan : GateScan
  scan = g.native_scan

  paired : OneToOne scan h
  paired = gates_and_rows scan h asked

  native_is : (gate : ℕ) → gate < h → native_row gate scan h ≡ row_of scan.sm scan.gd gate h
  unfolding native_row
  native_is gate l = rw (paired.has_row gate l)

  flipped : (y : ℕ) → y < h → h - 1 - y < h
  flipped y l = omega arith

  twice : (y : ℕ) → y < h → h - 1 - (h - 1 - y) ≡ y
  twice y l = omega arith

  pub gate_within : (y : ℕ) → y < h → gate_of_row g y < h
  unfolding gate_of_row
  gate_within y l = by g.rows_reversed
    where
      by : (b : Bool) → gate_of scan.sm scan.gd (pick b (h - 1 - y) y) h < h
      by true = paired.gate_lt (h - 1 - y) (flipped y l)
      by false = paired.gate_lt y l

  -- the gate of a row of the glass drives that row
  pub row_of_gate_of_row : (y : ℕ) → y < h → physical_row g (gate_of_row g y) ≡ y
  unfolding gate_of_row physical_row
  row_of_gate_of_row y l = by g.rows_reversed
    where
      native : (r : ℕ) → r < h → native_row (gate_of scan.sm scan.gd r h) scan h ≡ r
      native r k = native_is (gate_of scan.sm scan.gd r h) (paired.gate_lt r k) ∙ paired.row_again r k

      by : (b : Bool) → pick b (h - 1 - native_row (gate_of scan.sm scan.gd (pick b (h - 1 - y) y) h) scan h) (native_row (gate_of scan.sm scan.gd (pick b (h - 1 - y) y) h) scan h) ≡ y
      by true = rw (native (h - 1 - y) (flipped y l)) (twice y l)
      by false = native y l

  -- the row that a gate drives has that gate
  pub gate_of_row_of_gate : (gate : ℕ) → gate < h → gate_of_row g (physical_row g gate) ≡ gate
  unfolding gate_of_row physical_row
  gate_of_row_of_gate gate l = rw (native_is gate l) (by g.rows_reversed)
    where
      by : (b : Bool) → gate_of scan.sm scan.gd (pick b (h - 1 - pick b (h - 1 - row_of scan.sm scan.gd gate h) (row_of scan.sm scan.gd gate h)) (pick b (h - 1 - row_of scan.sm scan.gd gate h) (row_of scan.sm scan.gd gate h))) h ≡ gate
      by true = rw (twice (row_of scan.sm scan.gd gate h) (paired.row_lt gate l)) (paired.gate_again gate l)
      by false = paired.gate_again gate l

  pub row_within : (gate : ℕ) → gate < h → physical_row g gate < h
  unfolding physical_row
  row_within gate l = rw (native_is gate l) (by g.rows_reversed)
    where
      by : (b : Bool) → pick b (h - 1 - row_of scan.sm scan.gd gate h) (row_of scan.sm scan.gd gate h) < h
      by true = flipped (row_of scan.sm scan.gd gate h) (paired.row_lt gate l)
      by false = paired.row_lt gate l

  -- under the native scan the RAM's rows lie on the glass in sequence, from the top or from the bottom
  pub in_sequence : (y : ℕ) → y < h → row_of_gate (gate_of_row g y) scan h ≡ Some (pick g.rows_reversed (h - 1 - y) y)
  unfolding gate_of_row
  in_sequence y l = by g.rows_reversed
    where
      by : (b : Bool) → row_of_gate (gate_of scan.sm scan.gd (pick b (h - 1 - y) y) h) scan h ≡ Some (pick b (h - 1 - y) y)
      by true = paired.has_gate (h - 1 - y) (flipped y l)
      by false = paired.has_gate y l

  -- what `gate_of_row` leaves in a list as long as the glass is high
  pub gates_table : (rows : List ℕ) → length rows ≡ h → gates_stored g h rows ≡ tab h (gate_of_row g)
  gates_table rows len =
      sym (stored_is g h rows) ∙ scatter_tab h (physical_row g) (gate_of_row g) rows len gate_within row_of_gate_of_row gate_of_row_of_gate

  -- every line of the glass scanned, with GD of the order off or an even height: each row of the RAM is shown by exactly one row of the glass
  pub no_line_lost : (order : GateScan) → (order.gd ≡ true → h % 2 ≡ 0) → (row : ℕ) → row < h → ShownOnce (gate_of_row g) h order row
  no_line_lost order even row l =
      record {
        place = physical_row g gate;
        within = row_within gate gate_lt;
        shows = ap (λ (k : ℕ). row_of_gate k order h) (gate_of_row_of_gate gate gate_lt) ∙ pairs.has_gate row l;
        alone = λ y k e.
            sym (row_of_gate_of_row y k)
            ∙ ap (physical_row g)
            (sym (pairs.gate_again (gate_of_row g y) (gate_within y k))
            ∙ ap (λ (r : ℕ). gate_of order.sm order.gd r h)
            (ap (λ r. row_or r 0) (sym (pairs.has_row (gate_of_row g y) (gate_within y k)) ∙ e)));
      }
    where
      pairs : OneToOne order h
      pairs = gates_and_rows order h (record { some = asked.some; most = asked.most; even = even })

      gate : ℕ
      gate = gate_of order.sm order.gd row h

      gate_lt : gate < h
      gate_lt = pairs.gate_lt row l
