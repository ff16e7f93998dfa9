-- `sheet_text::lines::put_frames` meets its contract: a column for each phase.
use mathlib.Core.Path.{◌≡◌, ap, ◌∙◌}
use Prim.Native.Nat.{ℕ}
use native.Mathlib.Omega.{arith}
use Rattle.waveform.specs.Phases.{joined}
use Rattle.column.specs.Columns.{natural, gathered}
use Rattle.listing.proofs.Joined.{joined_none, joined_more}
use Rattle.sheet_text.specs.Text.{frames_text, text_bytes}
use Rattle.sheet_text.proofs.lines.put_frames.Invariants.{text_in}
use Rattle.sheet_text.proofs.lines.put_frames.Goals as goal

pub loop-frames-init : goal.loop-frames-init
loop-frames-init c = joined_none text_bytes c.args.text.now _

pub loop-frames-preserved : goal.loop-frames-preserved
loop-frames-preserved c =
    let l = c.loop-frames in
    joined_more text_bytes c.args.text.now (text_in c.args.group.frames) l.frames-index l.invariant
    (c.put_number.ensures ∙ ap (λ (n : ℕ). gathered text_bytes l.text (natural 4 n)) c.from.ensures)

pub returns : goal.returns
unfolding frames_text
returns c =
    let e : c.loop-frames.frames-index ≡ 4 = omega arith in
    c.loop-frames.invariant ∙ ap (λ (n : ℕ). gathered text_bytes c.args.text.now (joined n (text_in c.args.group.frames))) e
