-- `duration::group_ns` meets its contract. Assumes nothing.
use mathlib.Core.Path.{ap, ◌∙◌}
use Prim.Native.Nat.{ℕ, ◌*◌, min}
use Rattle.numbers.specs.Saturation.{largest}
use Rattle.waveform.specs.Duration.{frames_of, group_ns}
use Rattle.waveform_laws.proofs.Products.{cap_first}
use Rattle.duration.proofs.group_ns.Goals as goal

pub returns : goal.returns
unfolding group_ns
returns c = let g = c.args.group in
    c.saturating_mul.ensures
    ∙ ap (λ (n : ℕ). min (n * g.frame_ns) (largest 64)) (c.saturating_mul-runs.ensures ∙ λ i. min (c.frames.ensures i * c.from.ensures i) (largest 64))
    ∙ cap_first (frames_of g * g.repeats) g.frame_ns (largest 64)
