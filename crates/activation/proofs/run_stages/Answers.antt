-- `activation::run_stages` meets its contract.
use mathlib.Core.Path.{◌∙◌}
use Rattle.world.specs.World.{lent}
use Rattle.activation.specs.Activation.{with_luts}
use Rattle.activation.proofs.Cases.{stages}
use Rattle.activation.proofs.run_stages.Goals as goal

pub show-s-requires : goal.show-s-requires
show-s-requires c =
    let s = c in
    record { mux_small = s.requires.mux_small; sources = s.requires.sources; luts_long = s.requires.luts_long; gates_long = s.requires.gates_long; black_white_long = s.requires.black_white_long; red_long = s.requires.red_long }

pub returns : goal.returns
returns c =
    let s = c.args in
    stages (lent s.black_white.now s.red.now s.gates.now s.otp.now) (with_luts s.state s.luts.now s.log.now) _ _ _ _ _ _ _ c.control_of-control.ensures c.run_of.ensures c.load-a.ensures c.show-s.ensures c.analog_off-b.ensures c.clock_off-c.ensures c.settle.ensures
