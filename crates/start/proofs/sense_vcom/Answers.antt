-- `start::sense_vcom` meets its contract.
use Rattle.start.proofs.Cases.{senses, senses_not}
use native.Mathlib.Omega.{arith}
use Rattle.start.proofs.sense_vcom.Goals as goal

pub overflow_cast-seconds : goal.overflow_cast-seconds
overflow_cast-seconds c = omega (arith, c.low_nibble-low.ensures)

pub overflow_add-seconds : goal.overflow_add-seconds
overflow_add-seconds c = omega (arith, c.low_nibble-low.ensures)

pub overflow_mul-seconds : goal.overflow_mul-seconds
overflow_mul-seconds c = omega (arith, c.low_nibble-low.ensures)

pub returns-then-powered : goal.returns-then-powered
returns-then-powered c = senses _ _ _ _ _ c.low_nibble-low.ensures c.powered.ensures c.if-powered.true c.busy_for-bus.ensures c.set_bus.ensures

pub returns : goal.returns
returns c = senses_not _ _ _ c.powered.ensures c.if-powered.false c.report_unpowered.ensures
