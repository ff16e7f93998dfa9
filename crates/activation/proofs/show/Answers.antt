-- `activation::show` meets its contract.
use Rattle.activation.proofs.Cases.{shows, no_analog, no_clock, shows_not}
use Rattle.activation.proofs.show.Goals as goal

pub returns-then-run-2 : goal.returns-then-run-2
returns-then-run-2 c = shows _ _ _ c.args.state _ _ _ _ c.if-wanted-run.true _ c.if-run.true c.if-run-2.true c.start_display.ensures

pub returns-then-run : goal.returns-then-run
returns-then-run c = no_analog _ _ _ c.args.state _ _ _ _ c.if-wanted-run.true _ c.if-run.true c.if-run-2.false c.note-next.ensures

pub returns-then-wanted-run : goal.returns-then-wanted-run
returns-then-wanted-run c = no_clock _ _ _ c.args.state _ _ _ _ c.if-wanted-run.true _ c.if-run.false c.note-next-then-wanted-run.ensures

pub returns : goal.returns
returns c = shows_not _ _ _ c.args.state _ _ _ _ c.if-wanted-run.false
