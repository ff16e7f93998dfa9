-- The parts of the glass at power-on, put together. Assumes nothing.
use mathlib.Core.Path.{◌≡◌}
use mathlib.Core.List.{List}
use Prim.Native.Nat.{ℕ, ◌≤◌}
use lib.IntN.{ℤ, pos}
use lib.Signed.{◌≤ℤ◌}
use Rattle.numbers.specs.Lists.{tab}
use Rattle.numbers.specs.Saturation.{sat_z, least, most}
use Rattle.numbers.proofs.Hold.{above}
use Rattle.numbers.proofs.Lin.{le_in, whole}
use Rattle.glass.specs.declared.Optics.{Optics}
use Rattle.glass.specs.Greys.{gray_z}
use Rattle.config.specs.declared.PanelGeometry.{PanelGeometry}
use Rattle.counts.specs.Counts.{counts_of, picture}
use Rattle.panel.specs.declared.Panel.{Panel}
use Rattle.panel.specs.Start.{panel_at_power_on, fresh, power_on}

-- a full swing from 1 on gives a swing from 1 on
pub some_swing : (n : ℕ) → 1 ≤ n → pos 1 ≤ℤ sat_z (pos n)
some_swing n h = le_in _ _ (above (pos n) least most (pos 1) (omega whole) (omega whole))

pub filled : (g : PanelGeometry) (o : Optics) (n l m : ℕ) (p : Panel) (border swing : ℤ) (gray : ℕ) (states : List ℤ) (luts pixels counts : List ℕ)
    → p ≡ panel_at_power_on g o
    → border ≡ p.border
    → swing ≡ p.swing
    → gray ≡ gray_z border swing
    → states ≡ tab n (λ _. border)
    → luts ≡ tab l (λ _. 255)
    → pixels ≡ tab m (λ _. gray)
    → counts ≡ counts_of (tab m (λ _. gray))
    → fresh p states luts (picture pixels counts) ≡ power_on g o n l m
unfolding power_on panel_at_power_on
filled g o n l m p border swing gray states luts pixels counts e₁ e₂ e₃ e₄ e₅ e₆ e₇ e₈ = rw (e₈, e₇, e₆, e₅, e₄, e₃, e₂, e₁)
