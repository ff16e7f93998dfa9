-- `deadline` meets its contract: the earlier of the two that the state holds.
use Rattle.std.specs.Prelude.{ℕ, Option}
use mathlib.Core.Path.{ap, ◌∙◌}
use Rattle.busy.specs.Busy.{earlier, deadline_of}
use Rattle.busy.proofs.deadline.Goals as goal

pub returns : goal.returns
unfolding deadline_of
returns c =
    c.earlier_of.ensures ∙ ap (λ (e : Option ℕ). earlier e c.args.state.bus.busy_until) c.end_of-end.ensures
