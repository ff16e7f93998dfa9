-- `reading::ram_byte` meets its contract.
use Rattle.reading.proofs.Cases.{of_red, of_black_white}
use Rattle.reading.proofs.ram_byte.Goals as goal

pub returns-then-state : goal.returns-then-state
returns-then-state c = of_red c.args.black_white.now c.args.red.now c.args.state _ c.if-state.true c.read.ensures

pub returns : goal.returns
returns c = of_black_white c.args.black_white.now c.args.red.now c.args.state _ c.if-state.false c.read-2.ensures
