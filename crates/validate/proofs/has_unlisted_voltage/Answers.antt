-- `validate::has_unlisted_voltage` meets its contract.
use Rattle.otp.specs.Table.{unlisted_voltage}
use Rattle.validate.proofs.has_unlisted_voltage.Goals as goal

pub returns : goal.returns
unfolding unlisted_voltage
returns c =
    rw (c.is_unlisted_source-vsh1.ensures, c.is_unlisted_source-vsh2.ensures, c.is_unlisted_vsl-vsl.ensures, c.is_unlisted_vcom-vcom.ensures)
