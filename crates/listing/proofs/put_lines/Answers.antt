-- `listing::put_lines` meets its contract: the lines of one group after the other.
use mathlib.Core.Path.{◌≡◌, ap, ◌∙◌}
use Prim.Native.Nat.{ℕ}
use native.Mathlib.Omega.{arith}
use Rattle.waveform.specs.Phases.{joined}
use Rattle.column.specs.Columns.{gathered}
use Rattle.listing.specs.Listing.{lines_of, room}
use Rattle.listing.proofs.Joined.{joined_none, joined_more}
use Rattle.listing.proofs.put_lines.Invariants.{text_in}
use Rattle.listing.proofs.put_lines.Goals as goal

pub loop-number-init : goal.loop-number-init
loop-number-init c = joined_none room c.args.text.now _

pub loop-number-preserved : goal.loop-number-preserved
loop-number-preserved c =
    joined_more room c.args.text.now (text_in c.args.waveform) c.loop-number.number c.loop-number.invariant c.put_group.ensures

pub returns : goal.returns
unfolding lines_of
returns c =
    let e : c.loop-number.number ≡ 10 = omega arith in
    c.loop-number.invariant ∙ ap (λ (n : ℕ). gathered room c.args.text.now (joined n (text_in c.args.waveform))) e
