-- The cells of a plane: what a counter at a byte is, and that each byte has its own. Assumes nothing.
use Rattle.std.specs.Prelude.{Some, None}
use mathlib.Core.Path.{◌≡◌, refl}
use mathlib.Core.Bool.{Bool, true, false, ◌&&◌}
use Prim.Native.Nat.{ℕ, ◌+◌, ◌*◌, ◌/◌, ◌<◌}
use native.Mathlib.Omega.{arith}
use lib.Dec.{ltb}
use borrow.Author.Tests.{ltb-true}
use Rattle.numbers.specs.Choice.{pick}
use Rattle.counter.specs.declared.Counter.{Counter}
use Rattle.ram.specs.Plane.{index_of}

-- what a counter whose byte is at i is
pub record Cell (c : Counter) (i : ℕ) : Type 0 where
  pub column : c.x / 8 < 120
  pub row : c.y < 680
  pub place : i ≡ c.y * 120 + c.x / 8

never : {i : ℕ} → None ≡ Some i → ⊥
never e = let z : ◌≡◌ {A = ℕ} 0 1 = cc in omega arith

pub cell : (c : Counter) (i : ℕ) → index_of c ≡ Some i → Cell c i
unfolding index_of
cell c i e = by (ltb (c.x / 8) 120) refl (ltb c.y 680) refl e
  where
    by : (s : Bool) → ltb (c.x / 8) 120 ≡ s → (t : Bool) → ltb c.y 680 ≡ t → pick (s && t) (Some (c.y * 120 + c.x / 8)) None ≡ Some i → Cell c i
    by true p true q h = record { column = ltb-true (c.x / 8) 120 p; row = ltb-true c.y 680 q; place = cc }
    by true p false q h = absurd (never h)
    by false p t q h = absurd (never h)

pub one_to_one : (c d : Counter) (i : ℕ) → index_of c ≡ Some i → index_of d ≡ Some i → (c.x / 8 ≡ d.x / 8) × (c.y ≡ d.y)
one_to_one c d i e f =
    let k = cell c i e in
    let l = cell d i f in
    (omega arith, omega arith)
