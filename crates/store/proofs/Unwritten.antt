-- A command that writes no register leaves them all. Assumes nothing.
use mathlib.Core.Path.{◌≡◌}
use mathlib.Core.List.{List, [], ◌∷◌}
use Prim.{Unit}
use Prim.Native.Nat.{ℕ}
use borrow.Author.Tests.{ne_eqb}
use Rattle.device.specs.declared.Registers.{Registers}
use Rattle.registers.specs.Store.{stored}

-- K, and that n is none of the numbers, as a `match`'s `rest` nests it
abbrev pub NoneOf : ℕ → Type 0 → List ℕ → Type 0
NoneOf n K [] = K
NoneOf n K (m ∷ ms) = NoneOf n (K × (n ≡ m → ⊥)) ms

-- the commands that write a register
abbrev pub writers : List ℕ
writers = 0x01 ∷ 0x03 ∷ 0x04 ∷ 0x11 ∷ 0x18 ∷ 0x1A ∷ 0x21 ∷ 0x22 ∷ 0x29 ∷ 0x2C ∷ 0x32 ∷ 0x37 ∷ 0x38 ∷ 0x3C ∷ 0x41 ∷ 0x44 ∷ 0x45 ∷ 0x4E ∷ 0x4F ∷ []

pub unwritten : (r : Registers) (command index byte : ℕ) → NoneOf command Unit writers → r ≡ stored r command index byte
unfolding stored
unwritten r command index byte h =
    rw (
      ne_eqb command 0x01 h.0.0.0.0.0.0.0.0.0.0.0.0.0.0.0.0.0.0.1,
      ne_eqb command 0x03 h.0.0.0.0.0.0.0.0.0.0.0.0.0.0.0.0.0.1,
      ne_eqb command 0x04 h.0.0.0.0.0.0.0.0.0.0.0.0.0.0.0.0.1,
      ne_eqb command 0x11 h.0.0.0.0.0.0.0.0.0.0.0.0.0.0.0.1,
      ne_eqb command 0x18 h.0.0.0.0.0.0.0.0.0.0.0.0.0.0.1,
      ne_eqb command 0x1A h.0.0.0.0.0.0.0.0.0.0.0.0.0.1,
      ne_eqb command 0x21 h.0.0.0.0.0.0.0.0.0.0.0.0.1,
      ne_eqb command 0x22 h.0.0.0.0.0.0.0.0.0.0.0.1,
      ne_eqb command 0x29 h.0.0.0.0.0.0.0.0.0.0.1,
      ne_eqb command 0x2C h.0.0.0.0.0.0.0.0.0.1,
      ne_eqb command 0x32 h.0.0.0.0.0.0.0.0.1,
      ne_eqb command 0x37 h.0.0.0.0.0.0.0.1,
      ne_eqb command 0x38 h.0.0.0.0.0.0.1,
      ne_eqb command 0x3C h.0.0.0.0.0.1,
      ne_eqb command 0x41 h.0.0.0.0.1,
      ne_eqb command 0x44 h.0.0.0.1,
      ne_eqb command 0x45 h.0.0.1,
      ne_eqb command 0x4E h.0.1,
      ne_eqb command 0x4F h.1,
    )
