-- `proved_gates` meets its contract.
use mathlib.Core.Path.{ap, ◌∙◌}
use Rattle.config.specs.declared.PanelGeometry.{PanelGeometry}
use Rattle.gates.specs.Gates.{gates_stored}
use Rattle.bench.proofs.proved_gates.Goals as goal

pub returns : goal.returns
returns c =
    let a = c.args in
    c.gate_of_row.ensures ∙ ap (λ (g : PanelGeometry). gates_stored g g.height a.gates.now) c.geometry_of-geometry.ensures
