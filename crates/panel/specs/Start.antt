-- The glass at power-on (panel.rs, `Panel::new`; SCOPE, Buffers).
use Rattle.std.specs.Prelude.{false, List, ℕ, ℤ, pos}
use Rattle.numbers.specs.Lists.{tab}
use Rattle.numbers.specs.Saturation.{sat_z}
use Rattle.glass.specs.declared.Optics.{Optics}
use Rattle.glass.specs.declared.RefreshKind.TheVariants.{PowerOn}
use Rattle.glass.specs.Greys.{level_z, gray_z}
use Rattle.config.specs.declared.PanelGeometry.{PanelGeometry}
use Rattle.counts.specs.Counts.{counts_of, Picture, picture}
use Rattle.panel.specs.declared.Panel.{Panel}
use Rattle.panel.specs.Pixels.{undriven}

-- the smaller of full swing and 2^63 − 1 (SCOPE, Glass)
abbrev pub swing_of : Optics → ℤ
swing_of o = sat_z (pos o.full_swing)

-- the state of every pixel and of the border: that of the initial grey
abbrev pub first_state : Optics → ℤ
first_state o = level_z o.initial_gray (swing_of o)

-- generation 0; the border's first grey is the initial grey itself
unfoldable pub panel_at_power_on : PanelGeometry → Optics → Panel
panel_at_power_on g o =
    record {
      swing = swing_of o;
      border = first_state o;
      image = record {
        width = g.width;
        height = g.height;
        border = o.initial_gray;
        generation = 0;
        kind = PowerOn;
        interrupted = false;
        started = 0;
        at = 0;
      };
    }

-- the panel and all that it is lent
pub record Fresh : Type 0 where
  pub panel : Panel
  pub states : List ℤ
  pub luts : List ℕ
  pub picture : Picture

-- the four as one
abbrev pub fresh : Panel → List ℤ → List ℕ → Picture → Fresh
fresh p s l x = record { panel = p; states = s; luts = l; picture = x }

-- every state that of the initial grey, no pixel driven, every pixel the grey of its state, and counted; buffers of so many states, LUTs and
-- pixels
unfoldable pub power_on : PanelGeometry → Optics → ℕ → ℕ → ℕ → Fresh
power_on g o states luts pixels =
    let px = tab pixels (λ _. gray_z (first_state o) (swing_of o)) in
    fresh (panel_at_power_on g o)
    (tab states (λ _. first_state o))
    (tab luts (λ _. undriven))
    (picture px (counts_of px))
