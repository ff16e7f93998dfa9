-- `drive_sheet::supplies::find_code` meets its contract: the loop has passed no code that is listed with the millivolts.
use Rattle.std.specs.Prelude.{Some, None}
use mathlib.Core.Path.{◌≡◌, sym, ap, ◌∙◌}
use mathlib.Core.Bool.{Bool}
use Prim.Native.Nat.{ℕ, ◌<◌}
use borrow.Author.Tests.{lt-ltb}
use Rattle.numbers.specs.Choice.{pick}
use native.Mathlib.Omega.{arith}
use lib.IntN.{ℤ, pos}
use borrow.Author.Count.{below_more, below_none}
use mir.Syntax.{w64}
use mir.Val.{SFits, of_z}
use Rattle.numbers.proofs.Lin.{back, same_bits}
use Rattle.config.specs.Lowest.{lowest}
use Rattle.config.proofs.Lowest.{lowest_at, lowest_none}
use Rattle.drive_sheet.specs.declared.Supply.{Supply}
use Rattle.drive_sheet.specs.Supplies.{code_count, code_found, supply_code}
use Rattle.drive_sheet.proofs.Equal.{same_is, same_not}
use Rattle.drive_sheet.proofs.supplies.find_code.Invariants.{stands_for}
use Rattle.drive_sheet.proofs.supplies.find_code.Goals as goal

zero_fits : SFits w64 (pos 0)
zero_fits = record { sfits = omega arith }

-- not 0 mV, and the search is the code's
searched : (supply : Supply) (z : ℤ) (n : ℕ) → (of_z w64 z ≡ of_z w64 (pos 0) → ⊥) → lowest (stands_for supply z) code_count ≡ n → code_found n ≡ supply_code supply z
unfolding supply_code
searched supply z n h e = sym (rw (same_not z (pos 0) (λ s. h (ap (of_z w64) s))) (ap code_found e))

a_code : (n : ℕ) → n < code_count → Some n ≡ code_found n
a_code n h = sym (ap (λ (b : Bool). pick b (Some n) None) (lt-ltb n code_count h))

pub returns-then-millivolts-eq0 : goal.returns-then-millivolts-eq0
unfolding supply_code
returns-then-millivolts-eq0 c =
    let s = c in
    rw (same_is s.args.millivolts (pos 0) (same_bits s.ranges.millivolts zero_fits c.if-millivolts-eq0.true))

pub loop-code-init : goal.loop-code-init
loop-code-init c = below_none _

pub returns-then-stands_for : goal.returns-then-stands_for
returns-then-stands_for c =
    let m = c in
    let s = m in
    let z = s.args.millivolts in
    a_code m.loop-code.code (omega arith)
    ∙ searched s.args.supply z m.loop-code.code m.if-millivolts-eq0.false
    (lowest_at (stands_for s.args.supply z) 256 m.loop-code.code (omega arith)
    (rw (back s.ranges.millivolts) at m.loop-code.invariant)
    (rw (back s.ranges.millivolts) at (sym c.stands_for.ensures ∙ c.if-stands_for.true)))

pub loop-code-preserved : goal.loop-code-preserved
loop-code-preserved c = below_more _ _ c.loop-code.invariant (sym c.stands_for.ensures ∙ c.if-stands_for.false)

pub returns : goal.returns
returns c =
    let m = c in
    let s = m in
    let z = s.args.millivolts in
    let n : m.loop-code.code ≡ 256 = omega arith in
    searched s.args.supply z 256 m.if-millivolts-eq0.false
    (lowest_none (stands_for s.args.supply z) 256 (rw (back s.ranges.millivolts, n) at m.loop-code.invariant))
