-- `combine::groups::phase_of` meets its contract. Assumes nothing.
use mathlib.Core.Path.{◌∙◌}
use native.Mathlib.Omega.{arith}
use lib.IntN.{◌-ℤ◌}
use Rattle.numbers.proofs.Lin.{got}
use Rattle.waveform.specs.Voltages.{source_level, vcom_swing}
use Rattle.waveform.specs.Phases.{phase_of}
use Rattle.waveform.specs.Setting.{group_codes_of}
use Rattle.combine.proofs.Bytes.{code_at}
use Rattle.combine.proofs.groups.phase_of.Goals as goal

pub pixel_millivolts-requires : goal.pixel_millivolts-requires
pixel_millivolts-requires c = c.requires.2.listable

pub returns : goal.returns
unfolding phase_of group_codes_of
returns c =
    let a = c.args in
    let l = a.driving.levels in
    let vcom = c.code_in-vcom.ensures ∙ code_at a.setting.now a.group 4 a.phase (omega arith) c.requires.1 in
    λ i. record {
      frames = c.frames.ensures i;
      frame_ns = c.frame_ns.ensures i;
      millivolts = got c.pixel_millivolts.type_inv (c.pixel_millivolts.ensures ∙ (λ j. source_level l (c.code_for-source.ensures j) -ℤ vcom_swing l (vcom j))) i;
    }
