-- The gates stored one after the other, each at its row, are the scatter of their numbers. Assumes nothing.
use mathlib.Core.Path.{◌≡◌, refl, ap}
use mathlib.Core.List.{List}
use Prim.Native.Nat.{ℕ, zero, suc}
use lib.ListN.{set}
use Rattle.numbers.proofs.Scattered.{scatter}
use Rattle.config.specs.declared.PanelGeometry.{PanelGeometry}
use Rattle.gates.specs.Gates.{physical_row, gates_stored}

pub stored_is : (g : PanelGeometry) (n : ℕ) (rows : List ℕ) → scatter n (physical_row g) rows ≡ gates_stored g n rows
unfolding scatter gates_stored
stored_is g zero rows = refl
stored_is g (suc n) rows = ap (λ (l : List ℕ). set l (physical_row g n) n) (stored_is g n rows)
