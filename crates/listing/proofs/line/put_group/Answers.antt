-- `listing::line::put_group` meets its contract: the lines of one phase after the other.
use mathlib.Core.Path.{◌≡◌, ap, ◌∙◌}
use Prim.Native.Nat.{ℕ}
use native.Mathlib.Omega.{arith}
use Rattle.waveform.specs.Phases.{joined}
use Rattle.column.specs.Columns.{gathered}
use Rattle.listing.specs.Listing.{phase_text, group_text, room}
use Rattle.listing.proofs.Joined.{joined_none, joined_more}
use Rattle.listing.proofs.line.put_group.Goals as goal

pub loop-phase-init : goal.loop-phase-init
loop-phase-init c = joined_none room c.args.text.now _

pub loop-phase-preserved : goal.loop-phase-preserved
loop-phase-preserved c =
    let s = c.args in
    joined_more room s.text.now (phase_text s.levels s.group s.number) c.loop-phase.phase c.loop-phase.invariant c.put_phase.ensures

pub returns : goal.returns
unfolding group_text
returns c =
    let s = c.args in
    let e : c.loop-phase.phase ≡ 4 = omega arith in
    c.loop-phase.invariant ∙ ap (λ (n : ℕ). gathered room s.text.now (joined n (phase_text s.levels s.group s.number))) e
