-- `panel_start::at_power_on` meets its contract. Assumes nothing.
use mathlib.Core.Path.{◌≡◌, sym, ap, subst, ◌∙◌}
use mathlib.Core.Bool.{false}
use lib.IntN.{ℤ, pos}
use lib.Signed.{◌≤ℤ◌}
use Rattle.numbers.proofs.Lin.{rd, got}
use Rattle.glass.specs.declared.RefreshKind.TheVariants.{PowerOn}
use Rattle.glass.specs.Greys.{level_z}
use Rattle.panel.specs.Start.{swing_of, panel_at_power_on}
use Rattle.panel_laws.proofs.Start.{some_swing}
use Rattle.panel_start.proofs.at_power_on.Goals.{After-to_i64-swing}
use Rattle.panel_start.proofs.at_power_on.Goals as goal

swing : (c : After-to_i64-swing) → rd c.to_i64-swing.result ≡ swing_of c.args.optics
swing c = got c.to_i64-swing.type_inv c.to_i64-swing.ensures

pub level-border-requires : goal.level-border-requires
level-border-requires c = subst (λ (z : ℤ). pos 1 ≤ℤ z) (sym (swing c)) (some_swing _ c.requires)

pub returns : goal.returns
unfolding panel_at_power_on
returns c =
    let a = c.args in
    let s = swing c.before in
    let b = got c.level-border.type_inv c.level-border.ensures ∙ ap (level_z a.optics.initial_gray) s in
    λ i. record {
      swing = s i;
      border = b i;
      image = record {
        width = a.geometry.width;
        height = a.geometry.height;
        border = a.optics.initial_gray;
        generation = 0;
        kind = PowerOn;
        interrupted = false;
        started = 0;
        at = 0;
      };
    }
