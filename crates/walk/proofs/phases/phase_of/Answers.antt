-- `walk::phases::phase_of` meets its contract. Assumes nothing.
use mathlib.Core.Path.{ap, ◌∙◌}
use Prim.Native.Nat.{ℕ, ◌+◌}
use lib.IntN.{◌-ℤ◌}
use lib.ListN.{get_or}
use Rattle.numbers.proofs.Lin.{got}
use Rattle.waveform.specs.Voltages.{source_level, vcom_swing}
use Rattle.waveform.specs.Phases.{phase_of}
use Rattle.walk.proofs.phases.phase_of.Goals as goal

pub pixel_millivolts-requires : goal.pixel_millivolts-requires
pixel_millivolts-requires c = c.requires.1.listable

pub returns : goal.returns
unfolding phase_of
returns c =
    let a = c.args in
    let l = a.driving.levels in
    let vcom = vcom_swing l (get_or a.group.codes (16 + a.phase) 0) in
    λ i. record {
      frames = c.from.ensures i;
      frame_ns = a.group.frame_ns;
      millivolts = got c.pixel_millivolts.type_inv (c.pixel_millivolts.ensures ∙ ap (λ (code : ℕ). source_level l code -ℤ vcom) c.code_for-source.ensures) i;
    }
