-- `drive_sheet::byte_at` meets its contract: the four ranges of the setting, one after the other.
use mathlib.Core.Path.{ap, ◌∙◌}
use Prim.Native.Nat.{◌+◌, ◌-◌, ◌*◌, ◌/◌, ◌%◌}
use native.Mathlib.Omega.{arith}
use lib.Dec.{ltb}
use borrow.Author.Tests.{lt-ltb, le-ltb}
use Rattle.numbers.proofs.Cases.{took, passed}
use Rattle.drive_sheet.specs.declared.SupplyCodes.{SupplyCodes}
use Rattle.drive_sheet.specs.Bytes.{last_byte, sheet_byte}
use Rattle.drive_sheet.proofs.Passes.{group_repeats, group_codes}
use Rattle.drive_sheet.proofs.byte_at.Goals as goal

pub codes_byte-requires : goal.codes_byte-requires
codes_byte-requires c =
    let s = c in
    (omega arith, group_codes s.args.sheet s.requires.1.passes (s.args.at % 10) (omega arith))

pub returns-then-at-lt50 : goal.returns-then-at-lt50
unfolding sheet_byte
returns-then-at-lt50 c =
    let at = c.args.at in
    took (ltb at 50) _ _ _ (lt-ltb at 50 c.if-at-lt50.true) c.codes_byte.ensures

pub frames_byte-requires : goal.frames_byte-requires
frames_byte-requires c =
    let s = c in
    group_repeats s.args.sheet s.requires.1.passes ((s.args.at - 50) / 5) (omega arith)

pub returns-then-at-lt100 : goal.returns-then-at-lt100
unfolding sheet_byte
returns-then-at-lt100 c =
    let at = c.args.at in
    passed (ltb at 50) _ _ _ (le-ltb at 50 c.if-at-lt50.false)
    (took (ltb at 100) _ _ _ (lt-ltb at 100 c.if-at-lt100.true) c.frames_byte.ensures)

pub rates_byte-requires : goal.rates_byte-requires
rates_byte-requires c =
    let s = c in
    let even = 2 * (s.args.at - 100) in
    (group_codes s.args.sheet s.requires.1.passes even (omega arith), group_codes s.args.sheet s.requires.1.passes (even + 1) (omega arith))

pub returns-then-at-lt105 : goal.returns-then-at-lt105
unfolding sheet_byte
returns-then-at-lt105 c =
    let m = c in
    let at = m.args.at in
    passed (ltb at 50) _ _ _ (le-ltb at 50 m.if-at-lt50.false)
    (passed (ltb at 100) _ _ _ (le-ltb at 100 m.if-at-lt100.false)
    (took (ltb at 105) _ _ _ (lt-ltb at 105 m.if-at-lt105.true) c.rates_byte.ensures))

pub returns : goal.returns
unfolding sheet_byte
returns c =
    let m = c in
    let s = m in
    let at = s.args.at in
    passed (ltb at 50) _ _ _ (le-ltb at 50 m.if-at-lt50.false)
    (passed (ltb at 100) _ _ _ (le-ltb at 100 m.if-at-lt100.false)
    (passed (ltb at 105) _ _ _ (le-ltb at 105 m.if-at-lt105.false)
    (c.last_byte.ensures ∙ ap (λ (k : SupplyCodes). last_byte s.args.sheet.gate k (at - 105)) s.requires.1.found)))
