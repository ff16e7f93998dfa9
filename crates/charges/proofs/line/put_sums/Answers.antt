-- `charges::line::put_sums` meets its contract: a column for each LUT.
use mathlib.Core.Path.{◌≡◌, ap, ◌∙◌}
use mathlib.Core.List.{List}
use Prim.Native.Nat.{ℕ}
use native.Mathlib.Omega.{arith}
use lib.IntN.{ℤ}
use Rattle.numbers.proofs.Lin.{got}
use Rattle.waveform.specs.declared.Drive.TheVariants.{Lut}
use Rattle.waveform.specs.declared.Waveform.{Waveform}
use Rattle.waveform.specs.Phases.{phases_of, joined}
use Rattle.column.specs.Columns.{whole, gathered}
use Rattle.listing.proofs.Joined.{joined_none, joined_more}
use Rattle.charges.specs.Charge.{drive_sum}
use Rattle.charges.specs.Report.{charge_line_bytes, sums_text}
use Rattle.charges.proofs.line.put_sums.Goals as goal

abbrev sum_of : Waveform → ℕ → List ℕ
sum_of w k = whole 21 (drive_sum (phases_of w (Lut k)))

pub loop-lut-init : goal.loop-lut-init
loop-lut-init c = joined_none charge_line_bytes c.args.line.now _

pub loop-lut-preserved : goal.loop-lut-preserved
loop-lut-preserved c =
    let l = c.loop-lut in
    joined_more charge_line_bytes c.args.line.now (sum_of c.args.waveform) l.lut l.invariant
    (c.put_whole.ensures ∙ ap (λ (z : ℤ). gathered charge_line_bytes l.line (whole 21 z)) (got c.charge_of.type_inv c.charge_of.ensures))

pub returns : goal.returns
unfolding sums_text
returns c =
    let e : c.loop-lut.lut ≡ 4 = omega arith in
    c.loop-lut.invariant ∙ ap (λ (n : ℕ). gathered charge_line_bytes c.args.line.now (joined n (sum_of c.args.waveform))) e
