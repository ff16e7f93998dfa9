-- `guard_kinds::current_is_fine` meets its contract: by what is current, and by what the table gives for its command.
use Rattle.guard_kinds.specs.Kinds.{current_fine}
use Rattle.guard_kinds.proofs.SameKind.{given_compared}
use Rattle.guard_kinds.proofs.current_is_fine.Goals as goal

pub returns-in-Idle : goal.returns-in-Idle
unfolding current_fine
returns-in-Idle c = rw c.in-Idle.is

pub returns-in-Ignoring : goal.returns-in-Ignoring
unfolding current_fine
returns-in-Ignoring c = rw c.in-Ignoring.is

pub returns-in-Active : goal.returns-in-Active
unfolding current_fine
returns-in-Active c =
    rw (c.in-Active.is, ← c.kind.ensures, c.eq.ensures) (given_compared c.kind.result c.in-Active.active.kind)
