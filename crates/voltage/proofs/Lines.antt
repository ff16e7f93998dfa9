-- Whether a code stands in a line of a list, from its bounds. Assumes nothing.
use Rattle.std.specs.Prelude.{Option, Some}
use mathlib.Core.Path.{◌≡◌, refl}
use mathlib.Core.Bool.{Bool, true, false, ◌&&◌}
use mathlib.Core.List.{List, ◌∷◌}
use Prim.Native.Nat.{ℕ, ◌-◌, ◌%◌, ◌≤◌}
use lib.Dec.{leb, eqb}
use lib.IntN.{ℤ}
use borrow.Author.Tests.{leb-true, eqb-true, le-leb, eq-eqb}
use Rattle.numbers.proofs.Cases.{left, right}
use Rattle.voltage.specs.Codes.{Line, has, at, voltage}

module _ (l : Line) (code : ℕ) where
  -- what it takes to stand in the line
  pub record In : Type 0 where
    pub from : l.first ≤ code
    pub to : code ≤ l.last
    pub whole : (code - l.first) % l.every ≡ 0

  is_in : In → has l code ≡ true
  is_in h = rw (le-leb _ _ h.from, le-leb _ _ h.to, eq-eqb _ 0 h.whole)

  abbrev a : Bool
  a = leb l.first code

  abbrev b : Bool
  b = leb code l.last

  abbrev c : Bool
  c = eqb ((code - l.first) % l.every) 0

  not_in : (In → ⊥) → has l code ≡ false
  not_in h = by (has l code) refl
    where
      by : (t : Bool) → a && b && c ≡ t → t ≡ false
      by false e = refl
      by true e =
          absurd
          (h
          (record {
            from = leb-true l.first code (left a b (left (a && b) c e));
            to = leb-true code l.last (right a b (left (a && b) c e));
            whole = eqb-true ((code - l.first) % l.every) 0 (right (a && b) c e);
          }))

module _ (sign : ℕ → ℤ) (l : Line) (ls : List Line) (code : ℕ) where
  -- a code of the first line
  pub first_line : In l code → Some (sign (at l code)) ≡ voltage sign (l ∷ ls) code
  unfolding voltage
  first_line h = rw (is_in l code h)

  -- a code that is not in it
  pub next_line : {v : Option ℤ} → (In l code → ⊥) → v ≡ voltage sign ls code → v ≡ voltage sign (l ∷ ls) code
  unfolding voltage
  next_line h e = rw (not_in l code h) e
