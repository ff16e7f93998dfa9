-- `stages::control_of` meets its contract: each mask tests its bit.
use Rattle.numbers.specs.Choice.{bit_of}
use Rattle.numbers.proofs.Fields.{test_bit}
use Rattle.stages.proofs.control_of.Goals as goal

pub returns : goal.returns
unfolding bit_of
returns c =
    let byte = c.args.byte in
    λ i. record { clock_on = test_bit 7 byte i; analog_on = test_bit 6 byte i; load_temperature = test_bit 5 byte i; load_lut = test_bit 4 byte i; mode_two = test_bit 3 byte i; display = test_bit 2 byte i; analog_off = test_bit 1 byte i; clock_off = test_bit 0 byte i }
