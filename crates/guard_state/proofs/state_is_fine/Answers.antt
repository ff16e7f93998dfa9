-- `guard_state::state_is_fine` meets its contract: the parts are what the calls found.
use Rattle.guard_state.proofs.Parts.{whole_state}
use Rattle.guard_state.proofs.state_is_fine.Goals as goal

pub returns : goal.returns
returns c =
    let s = c in
    let start = s in
    whole_state start.args.state _ _ _ _ _ s.panel_is_fine-geometry_fine.ensures
    s.swing_is_fine-swing_fine.ensures s.periods_are_fine-periods_fine.ensures
    s.registers_are_fine-registers_fine.ensures s.current_is_fine-current_fine.ensures
