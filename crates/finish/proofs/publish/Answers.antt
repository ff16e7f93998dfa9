-- `finish::publish` meets its contract. Assumes nothing.
use mathlib.Core.Path.{◌∙◌}
use Rattle.numbers.proofs.Lin.{field_back}
use Rattle.glass.specs.Greys.{gray_z}
use Rattle.panel.specs.Finish.{published}
use Rattle.finish.proofs.publish.Goals as goal

pub returns : goal.returns
unfolding published
returns c =
    let a = c.args in
    let told = c.struct_told-2-1.given in
    let p = a.panel in
    let gray = c.gray-border.ensures ∙ (λ i. gray_z (field_back p.border told.1.0.1 i) (field_back p.swing told.0.1 i)) in
    λ i. record {
      swing = p.swing;
      border = p.border;
      image = record {
        width = p.image.width;
        height = p.image.height;
        border = gray i;
        generation = c.saturating_add-generation.ensures i;
        kind = a.display.kind;
        interrupted = c.is_cut-interrupted.ensures i;
        started = a.display.started;
        at = a.at;
      };
    }
