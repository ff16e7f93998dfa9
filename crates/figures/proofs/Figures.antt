-- SCOPE's ★ figures, one theorem over one list. Assumes nothing.
use mathlib.Core.Path.{◌≡◌, refl, ap, ◌∙◌}
use Rattle.numbers.specs.Choice.{bit_of}
use Rattle.numbers.specs.Lists.{tab}
use Rattle.numbers.specs.Saturation.{clamp_z}
use Rattle.glass.specs.Greys.{gray_z}
use Rattle.voltage.specs.Codes.{voltage}
use Rattle.waveform.specs.Voltages.{levels_of, source_level, vcom_swing}
use Rattle.waveform.specs.Setting.{codes_of, frame_rate_of, group_codes_of, waveform_of}
use Rattle.waveform.specs.Phases.{phase_of, driven, joined}
use Rattle.waveform.specs.Walks.{saturated_drive, pushed, cut_step, whole_transfer, cut_transfer}
use Rattle.config.specs.Temperature.{sixteenths_of}
use Rattle.counter.specs.Counter.{axis_step, advanced_of}
use Rattle.counter.specs.Registers.{ten_bits}
use Rattle.gates.specs.Gates.{row_of, row_of_gate}
use Rattle.figures.specs.ModeTwo.{mode_two}
use Rattle.figures.specs.Figures.{computed, stated}
use Rattle.figures.proofs.ModeTwo.{bytes, written}

of_bytes : computed bytes ≡ stated
unfolding voltage sixteenths_of ten_bits advanced_of axis_step bit_of row_of_gate row_of whole_transfer cut_transfer waveform_of group_codes_of codes_of frame_rate_of levels_of source_level vcom_swing tab joined phase_of driven saturated_drive pushed cut_step clamp_z gray_z
of_bytes = refl

pub figures : computed mode_two ≡ stated
figures = ap computed written ∙ of_bytes
