-- A hexadecimal digit by the range that its byte lies in. Assumes nothing.
use Rattle.std.specs.Prelude.{Some, None}
use mathlib.Core.Path.{◌≡◌, refl}
use mathlib.Core.Bool.{Bool, true, false, ◌&&◌}
use mathlib.Core.List.{List}
use Prim.Native.Nat.{ℕ, ◌-◌, ◌<◌, ◌≤◌}
use native.Mathlib.Omega.{arith}
use lib.Dec.{eqb, leb}
use lib.ListN.{length, get_or}
use borrow.Author.Tests.{eq-eqb, eqb-true, leb-true, le-leb, lt-leb}
use Rattle.numbers.specs.Choice.{pick}
use Rattle.numbers.proofs.Cases.{right}
use Rattle.shift_report.specs.Words.{hex_value, hex_byte, code_word}

module _ (c : ℕ) where
  pub digit : 48 ≤ c → c ≤ 57 → Some (c - 48) ≡ hex_value c
  unfolding hex_value
  digit h k = rw (le-leb 48 c h, le-leb c 57 k)

  pub upper : 65 ≤ c → c ≤ 70 → Some (c - 55) ≡ hex_value c
  unfolding hex_value
  upper h k = rw (le-leb 48 c (omega arith), lt-leb c 57 (omega arith), le-leb 65 c h, le-leb c 70 k)

  pub lower : 97 ≤ c → c ≤ 102 → Some (c - 87) ≡ hex_value c
  unfolding hex_value
  lower h k = rw (le-leb 48 c (omega arith), lt-leb c 57 (omega arith), le-leb 65 c (omega arith), lt-leb c 70 (omega arith), le-leb 97 c h, le-leb c 102 k)

  outside : (a b : ℕ) → (a ≤ c → c ≤ b → ⊥) → leb a c && leb c b ≡ false
  outside a b h = go (leb a c) refl (leb c b) refl
    where
      go : (t : Bool) → leb a c ≡ t → (u : Bool) → leb c b ≡ u → t && u ≡ false
      go false e u f = refl
      go true e false f = refl
      go true e true f = absurd (h (leb-true a c e) (leb-true c b f))

  pub other : (48 ≤ c → c ≤ 57 → ⊥) → (65 ≤ c → c ≤ 70 → ⊥) → (97 ≤ c → c ≤ 102 → ⊥) → None ≡ hex_value c
  unfolding hex_value
  other h k l = rw (outside 48 57 h, outside 65 70 k, outside 97 102 l)

  pub below : (n : ℕ) → Some n ≡ hex_value c → n < 16
  unfolding hex_value
  below n e = by _ _ _ refl refl refl e
    where
      by : (a b d : Bool) → leb 48 c && leb c 57 ≡ a → leb 65 c && leb c 70 ≡ b → leb 97 c && leb c 102 ≡ d
          → Some n ≡ pick a (Some (c - 48)) (pick b (Some (c - 55)) (pick d (Some (c - 87)) None)) → n < 16
      by true b d p q r e = let g : n ≡ c - 48 = cc in omega (arith, leb-true c 57 (right (leb 48 c) (leb c 57) p))
      by false true d p q r e = let g : n ≡ c - 55 = cc in omega (arith, leb-true c 70 (right (leb 65 c) (leb c 70) q))
      by false false true p q r e = let g : n ≡ c - 87 = cc in omega (arith, leb-true c 102 (right (leb 97 c) (leb c 102) r))
      by false false false p q r e = let z : ◌≡◌ {A = ℕ} 0 1 = cc in absurd (omega arith)

-- two digits after "0x", and any other word
module _ (w : List ℕ) where
  pub no_code : (length w ≡ 4 → get_or w 0 0 ≡ 48 → get_or w 1 0 ≡ 120 → ⊥) → None ≡ code_word w
  unfolding code_word
  no_code h = by (eqb (length w) 4) (eqb (get_or w 0 0) 48) (eqb (get_or w 1 0) 120) refl refl refl
    where
      by : (a b d : Bool) → eqb (length w) 4 ≡ a → eqb (get_or w 0 0) 48 ≡ b → eqb (get_or w 1 0) 120 ≡ d
          → None ≡ pick (a && b && d) (hex_byte (hex_value (get_or w 2 0)) (hex_value (get_or w 3 0))) None
      by true true true p q r = absurd (h (eqb-true (length w) 4 p) (eqb-true (get_or w 0 0) 48 q) (eqb-true (get_or w 1 0) 120 r))
      by true true false p q r = refl
      by true false d p q r = refl
      by false b d p q r = refl

  pub a_code : length w ≡ 4 → get_or w 0 0 ≡ 48 → get_or w 1 0 ≡ 120 → hex_byte (hex_value (get_or w 2 0)) (hex_value (get_or w 3 0)) ≡ code_word w
  unfolding code_word
  a_code h a b = rw (eq-eqb (length w) 4 h, eq-eqb (get_or w 0 0) 48 a, eq-eqb (get_or w 1 0) 120 b)
