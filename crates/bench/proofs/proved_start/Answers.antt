-- `proved_start` meets its contract.
use mathlib.Core.Path.{sym, refl, ◌∙◌}
use lib.ListN.{length}
use Rattle.numbers.specs.Lists.{tab}
use Rattle.scan.specs.Luts.{lut_of}
use Rattle.bench.proofs.Passed.{scan_asked}
use Rattle.bench.proofs.proved_start.Goals as goal

pub start-requires : goal.start-requires
start-requires c =
    let test = c in
    let a = test.args in let whole = scan_asked (length a.luts.now) (length a.gates.now) (length a.red.now) (length a.black_white.now) a.width a.height a.first_source
    a.columns_reversed a.native_sm a.native_gd a.rows_reversed c.geometry_of-geometry.result c.geometry_of-geometry.ensures
    (sym test.can_scan.ensures ∙ test.if-can_scan.true) in record { pixels = whole.0; rows = whole.1.0; whole_red = whole.1.1.0; whole_black_white = whole.1.1.1.0; driven = whole.1.1.1.1 }

pub returns-then-can_scan : goal.returns-then-can_scan
returns-then-can_scan c =
    let call = c in
    let test = call in
    let a = test.args in record { value = sym test.if-can_scan.true ∙ test.can_scan.ensures; luts_after = call.start.ensures ∙ (λ i. tab (length a.luts.now) (lut_of a.gates.now a.red.now a.black_white.now (call.geometry_of-geometry.ensures i) (call.scan_of-scan.ensures i))) }

pub returns : goal.returns
returns c = record { value = sym c.if-can_scan.false ∙ c.can_scan.ensures; luts_after = refl }
