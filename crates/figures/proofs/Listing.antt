-- SCOPE's example of a listing is what the definition of the listing gives for the Mode Two setting. Assumes nothing.
use mathlib.Core.Path.{◌≡◌, refl, ap, ◌∙◌}
use Rattle.numbers.specs.Lists.{tab}
use Rattle.voltage.specs.Codes.{voltage}
use Rattle.waveform.specs.Setting.{codes_of, frame_rate_of, group_codes_of, waveform_of}
use Rattle.waveform.specs.Voltages.{levels_of, source_level, vcom_swing}
use Rattle.waveform.specs.Phases.{joined, phase_of}
use Rattle.waveform.specs.Duration.{group_ns, groups_ns}
use Rattle.column.specs.Columns.{symbol_at, column_of}
use Rattle.listing.specs.Listing.{drives_of, head_of, line_of, phase_text, group_text, lines_of, listing_of, text_of}
use Rattle.figures.specs.ModeTwo.{mode_two}
use Rattle.figures.specs.Listing.{text}
use Rattle.figures.proofs.ModeTwo.{bytes, written}

of_bytes : text_of bytes ≡ text
unfolding tab voltage codes_of frame_rate_of group_codes_of waveform_of levels_of source_level vcom_swing joined phase_of group_ns groups_ns symbol_at column_of drives_of head_of line_of phase_text group_text lines_of listing_of text_of
of_bytes = refl

pub example : text_of mode_two ≡ text
example = ap text_of written ∙ of_bytes
