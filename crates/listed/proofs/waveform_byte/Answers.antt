-- `waveform_byte`: code 3 in the bytes of LUT 4.
use Rattle.listed.proofs.waveform_byte.Goals as goal

pub returns : goal.returns
returns c = rw c.has_code_3.ensures
