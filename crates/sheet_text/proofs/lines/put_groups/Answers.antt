-- `sheet_text::lines::put_groups` meets its contract: the line of one group after the other.
use mathlib.Core.Path.{◌≡◌, ap, ◌∙◌}
use Prim.Native.Nat.{ℕ}
use native.Mathlib.Omega.{arith}
use Rattle.waveform.specs.Phases.{joined}
use Rattle.column.specs.Columns.{gathered}
use Rattle.listing.proofs.Joined.{joined_none, joined_more}
use Rattle.sheet_text.specs.Text.{group_lines, text_bytes}
use Rattle.sheet_text.proofs.lines.put_groups.Invariants.{text_in}
use Rattle.sheet_text.proofs.lines.put_groups.Goals as goal

pub loop-number-init : goal.loop-number-init
loop-number-init c = joined_none text_bytes c.args.text.now _

pub loop-number-preserved : goal.loop-number-preserved
loop-number-preserved c =
    joined_more text_bytes c.args.text.now (text_in c.args.sheet) c.loop-number.number c.loop-number.invariant c.put_group.ensures

pub returns : goal.returns
unfolding group_lines
returns c =
    let e : c.loop-number.number ≡ 10 = omega arith in
    c.loop-number.invariant ∙ ap (λ (n : ℕ). gathered text_bytes c.args.text.now (joined n (text_in c.args.sheet))) e
