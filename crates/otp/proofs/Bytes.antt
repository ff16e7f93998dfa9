-- What the bytes of an entry say, from the calls that read them. Assumes nothing.
use mathlib.Core.Path.{◌≡◌, refl, ap, ◌∙◌}
use mathlib.Core.Bool.{Bool, ◌||◌, ◌&&◌}
use mathlib.Core.List.{List, []}
use Prim.Native.Nat.{ℕ, zero, suc, ◌/◌, ◌+◌, ◌*◌, ◌^◌, ◌<◌}
use native.Mathlib.Omega.{arith}
use lib.Dec.{eqb, ltb}
use lib.IntN.{ℤ}
use lib.Signed.{mag, lt_z, le_z}
use lib.ListN.{get_or, length, take, drop}
use native.Mathlib.Nat.{not-suc-le-zero, le_of_suc-le-suc}
use Rattle.std.proofs.lemmas.List.{get_or-take, get_or-drop, drop-drop}
use Rattle.std.specs.Simd.{first_chunks}
use mir.Syntax.{w16}
use mir.Val.{to_z, of_z}
use Rattle.numbers.proofs.Lin.{back}
use Rattle.config.specs.Mode.{mode_number}
use Rattle.config.specs.Temperature.{sixteenths_of}
use Rattle.config.specs.declared.DisplayMode.{DisplayMode}
use Rattle.otp.specs.Table.{entry_count, lower_at, upper_at, bad_entry}
use Rattle.otp.specs.Waveform.{is_coldest, reaches, covers}

-- a call's 16-bit result, read back, is what the call ensures of it
got : {r y : ℤ} → mag r < 2 ^ 15 → r ≡ y → to_z w16 (of_z w16 r) ≡ y
got ok e = back {w = w16} (record { sfits = ok }) ∙ e

pub reaches_is : (lower register : ℕ) (cold asked : Bool) (bound t : ℤ) → cold ≡ is_coldest lower → asked ≡ is_coldest register
    → mag bound < 2 ^ 15 → bound ≡ sixteenths_of lower → mag t < 2 ^ 15 → t ≡ sixteenths_of register
    → (lt_z (to_z w16 (of_z w16 bound)) (to_z w16 (of_z w16 t)) || (cold && asked)) ≡ reaches lower register
reaches_is lower register cold asked bound t ce ae ba be ta te = rw (got ba be, got ta te, ce, ae)

module _ (o : List ℕ) where
  pub covers_is : (mode : DisplayMode) (register byte lower upper : ℕ) (reached : Bool) (warm t : ℤ)
      → byte ≡ mode_number mode → lower ≡ lower_at o 0 → upper ≡ upper_at o 0 → reached ≡ reaches lower register
      → mag warm < 2 ^ 15 → warm ≡ sixteenths_of upper → mag t < 2 ^ 15 → t ≡ sixteenths_of register
      → eqb (get_or o 0 0) byte && reached && le_z (to_z w16 (of_z w16 t)) (to_z w16 (of_z w16 warm)) ≡ covers o mode register 0
  unfolding covers
  covers_is mode register byte lower upper reached warm t b l u h wa we ta te =
      rw (h ∙ ap (λ (n : ℕ). reaches n register) l, got wa (we ∙ ap sixteenths_of u), got ta te, b)

-- an entry of a table, taken out of it, is the first of its own bytes
chunk_at : (n k : ℕ) (o : List ℕ) → k < n → get_or (first_chunks 118 n o) k [] ≡ take 118 (drop (118 * k) o)
chunk_at zero k o l = absurd (not-suc-le-zero l)
chunk_at (suc n) zero o l = refl
chunk_at (suc n) (suc k) o l =
    let e : 118 + 118 * k ≡ 118 * suc k = omega arith in
    chunk_at n k (drop 118 o) (le_of_suc-le-suc l) ∙ ap (take 118) (drop-drop (118 * k) 118 o ∙ ap (λ (n : ℕ). drop n o) e)

module _ (o : List ℕ) (k : ℕ) (within : k < entry_count o) {entries : List (List ℕ)} (cut : entries ≡ first_chunks 118 (length o / 118) o) where
  abbrev entry : List ℕ
  entry = get_or entries k []

  pub byte_is : (i : ℕ) → i < 118 → get_or entry i 0 ≡ get_or o (118 * k + i) 0
  byte_is i l =
      ap (λ (e : List ℕ). get_or e i 0) (ap (λ (es : List (List ℕ)). get_or es k []) cut ∙ chunk_at (entry_count o) k o within) ∙ get_or-take 118 (drop (118 * k) o) i 0 l ∙ get_or-drop (118 * k) o i 0

  pub bad_in : bad_entry entry 0 ≡ bad_entry o k
  unfolding bad_entry
  bad_in =
      let a = byte_is 0 (omega arith) in
      let b = byte_is 1 (omega arith) in
      let c = byte_is 2 (omega arith) in
      let d = byte_is 3 (omega arith) in
      let e = byte_is 4 (omega arith) in
      let f = byte_is 5 (omega arith) in
      λ i. ltb 1 (a i) || ltb 1 (b i) || ltb 4095 (c i * 256 + d i) || ltb 4095 (e i * 256 + f i)

  pub covers_in : (mode : DisplayMode) (register : ℕ) → covers entry mode register 0 ≡ covers o mode register k
  unfolding covers
  covers_in mode register =
      let a = byte_is 0 (omega arith) in
      let c = byte_is 2 (omega arith) in
      let d = byte_is 3 (omega arith) in
      let e = byte_is 4 (omega arith) in
      let f = byte_is 5 (omega arith) in
      λ i.
      eqb (a i) (mode_number mode) && reaches (c i * 256 + d i) register
      && le_z (sixteenths_of register) (sixteenths_of (e i * 256 + f i))
