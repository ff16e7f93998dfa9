-- `reset::assert_reset` meets its contract.
use Rattle.reset.proofs.Cases.{asserts}
use Rattle.reset.proofs.Kept.{ready_closed}
use Rattle.reset.proofs.assert_reset.Goals as goal

pub cut_display-stopped-requires : goal.cut_display-stopped-requires
cut_display-stopped-requires c =
    let s = c in
    ready_closed s.args.states.now s.args.luts.now s.args.pixels.now s.args.counts.now _ _ c.close_command-ended.ensures s.requires

pub returns : goal.returns
returns c = asserts _ _ _ _ _ _ c.close_command-ended.ensures c.cut_display-stopped.ensures c.restore_registers-restored.ensures c.enter_reset.ensures
