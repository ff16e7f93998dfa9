-- What `found_entry` finds: the last covering entry of the mode, by the low twelve bits of the register, and at −2048 an entry that begins there. Assumes nothing.
use Rattle.std.specs.Prelude.{Option, Some, None}
use mathlib.Core.Path.{◌≡◌, refl, sym, ap, ◌∙◌}
use mathlib.Core.Bool.{Bool, true, false, ◌&&◌, ◌||◌, not}
use mathlib.Core.List.{List}
use Prim.Native.Nat.{ℕ, ◌%◌, ◌<◌}
use native.Mathlib.Omega.{arith}
use lib.Dec.{eqb, ltb}
use lib.IntN.{negsuc}
use lib.ListN.{length}
use lib.Signed.{lt_z, le_z}
use borrow.Author.Tests.{eqb-true, eqb-false, ltb-false}
use Rattle.numbers.specs.Choice.{pick}
use Rattle.numbers.proofs.Lin.{whole, is_le, not_le, not_lt}
use Rattle.config.specs.declared.DisplayMode.{DisplayMode}
use Rattle.config.specs.Mode.{mode_number}
use Rattle.config.specs.Temperature.{sixteenths_of}
use Rattle.config.proofs.Registers.{ranged, low_bits, above_coldest}
use Rattle.otp.specs.Table.{entry_bytes, most_entries, entry_count, mode_at, lower_at, upper_at, bad_entry, bad_table}
use Rattle.otp.specs.Search.{any_of, last_of, Last}
use Rattle.otp.specs.Waveform.{is_coldest, covers, found_entry}
use Rattle.otp.proofs.Search.{last_is, none_is, last_same}

-- ---- the bottom of the format, −2048 (#107)
coldest_at : (register : ℕ) → is_coldest register ≡ true → sixteenths_of register ≡ negsuc 2047
unfolding sixteenths_of
coldest_at register h = sym (low_bits register) ∙ ap sixteenths_of (eqb-true (register % 4096) 0x800 h)

or_false : (a : Bool) → a || false ≡ a
or_false true = refl
or_false false = refl

module _ (otp : List ℕ) (mode : DisplayMode) (register : ℕ) where
  -- the entry found covers the temperature, and no later one does
  pub found_is : (entry : ℕ) → found_entry otp mode register ≡ Some entry → Last (covers otp mode register) (entry_count otp) entry
  unfolding found_entry
  found_is entry e = by (bad_table otp) e
    where
      by : (t : Bool) → pick t None (last_of (covers otp mode register) (entry_count otp)) ≡ Some entry → Last (covers otp mode register) (entry_count otp) entry
      by true f = absurd (let z : ◌≡◌ {A = ℕ} 0 1 = cc in omega arith)
      by false f = last_is (covers otp mode register) (entry_count otp) entry f

  -- and its number lies below 64, the most entries of a table that 12 lets pass
  pub found_few : (entry : ℕ) → found_entry otp mode register ≡ Some entry → entry < most_entries
  unfolding found_entry bad_table
  found_few entry e = by (not (eqb (length otp % entry_bytes) 0)) (ltb most_entries (entry_count otp)) refl e (found_is entry e).within
    where
      by : (a b : Bool) → ltb most_entries (entry_count otp) ≡ b
          → pick (a || b || any_of (bad_entry otp) (entry_count otp)) None (last_of (covers otp mode register) (entry_count otp)) ≡ Some entry
          → entry < entry_count otp → entry < most_entries
      by true b h f l = absurd (let z : ◌≡◌ {A = ℕ} 0 1 = cc in omega arith)
      by false true h f l = absurd (let z : ◌≡◌ {A = ℕ} 0 1 = cc in omega arith)
      by false false h f l = let few = ltb-false most_entries (entry_count otp) h in omega arith

  -- where none is found in a table that 12 lets pass, none covers the temperature
  pub none_found : bad_table otp ≡ false → found_entry otp mode register ≡ None → (entry : ℕ) → entry < entry_count otp → covers otp mode register entry ≡ false
  unfolding found_entry
  none_found h e = none_is (covers otp mode register) (entry_count otp) (rw h at e)

  covers_low_bits : (entry : ℕ) → covers otp mode (register % 4096) entry ≡ covers otp mode register entry
  unfolding covers
  covers_low_bits entry = let e : register % 4096 % 4096 ≡ register % 4096 = omega arith in rw (low_bits register, e)

  -- of the register the low twelve bits count
  pub found_low_bits : found_entry otp mode (register % 4096) ≡ found_entry otp mode register
  unfolding found_entry
  found_low_bits =
      ap (λ (e : Option ℕ). pick (bad_table otp) None e)
      (last_same (covers otp mode (register % 4096)) (covers otp mode register) covers_low_bits (entry_count otp))

  -- the Rust's rule: the entry is of the mode, and lower < T ≤ upper
  abbrev pub coversStrictly : ℕ → Bool
  coversStrictly entry =
      eqb (mode_at otp entry) (mode_number mode) && lt_z (sixteenths_of (lower_at otp entry)) (sixteenths_of register)
      && le_z (sixteenths_of register) (sixteenths_of (upper_at otp entry))

  module _ (entry : ℕ) where
    -- at −2048 the entries of the mode whose lower bound is −2048 cover, and no other does
    pub coldest_covered : is_coldest register ≡ true → covers otp mode register entry ≡ (eqb (mode_at otp entry) (mode_number mode) && is_coldest (lower_at otp entry))
    unfolding covers
    coldest_covered h =
        let below = ap (λ t. lt_z (sixteenths_of (lower_at otp entry)) t) (coldest_at register h)
        ∙ not_lt (sixteenths_of (lower_at otp entry)) (negsuc 2047) (let r = ranged (lower_at otp entry) in omega whole) in
        let top = ap (λ t. le_z t (sixteenths_of (upper_at otp entry))) (coldest_at register h)
        ∙ is_le (negsuc 2047) (sixteenths_of (upper_at otp entry)) (let r = ranged (upper_at otp entry) in omega whole) in
        rw (below, h, top) (by (eqb (mode_at otp entry) (mode_number mode)) (is_coldest (lower_at otp entry)))
      where
        by : (m l : Bool) → (m && (false || (l && true)) && true) ≡ (m && l)
        by true true = refl
        by true false = refl
        by false l = refl

    -- at every other temperature an entry covers what it covers in the Rust
    pub elsewhere_same : is_coldest register ≡ false
        → covers otp mode register entry ≡ coversStrictly entry
    unfolding covers
    elsewhere_same h =
        rw (h, and_false (is_coldest (lower_at otp entry)), or_false (lt_z (sixteenths_of (lower_at otp entry)) (sixteenths_of register)))
      where
        and_false : (b : Bool) → b && false ≡ false
        and_false true = refl
        and_false false = refl

    -- and an entry with another lower bound covers, at every temperature, what it covers in the Rust
    pub other_bounds_same : is_coldest (lower_at otp entry) ≡ false
        → covers otp mode register entry ≡ coversStrictly entry
    unfolding covers
    other_bounds_same l = rw (l, or_false (lt_z (sixteenths_of (lower_at otp entry)) (sixteenths_of register)))

    -- an entry of the mode with both bounds −2048 covers −2048 alone
    pub coldest_alone : eqb (mode_at otp entry) (mode_number mode) ≡ true → is_coldest (lower_at otp entry) ≡ true → is_coldest (upper_at otp entry) ≡ true
        → covers otp mode register entry ≡ is_coldest register
    coldest_alone m l u = by (is_coldest register) refl
      where
        by : (b : Bool) → is_coldest register ≡ b → covers otp mode register entry ≡ b
        by true h = coldest_covered h ∙ rw (m, l)
        by false h =
            elsewhere_same h
            ∙ last (eqb (mode_at otp entry) (mode_number mode)) (lt_z (sixteenths_of (lower_at otp entry)) (sixteenths_of register))
            (ap (λ t. le_z (sixteenths_of register) t) (coldest_at (upper_at otp entry) u)
            ∙ not_le (sixteenths_of register) (negsuc 2047) (above_coldest register (eqb-false (register % 4096) 0x800 h)))
          where
            last : (a b : Bool) {t : Bool} → t ≡ false → a && b && t ≡ false
            last true true e = rw e
            last true false e = refl
            last false b e = refl

  -- at every other temperature the entry found is the one that the Rust finds
  pub found_elsewhere : is_coldest register ≡ false
      → found_entry otp mode register
      ≡ pick (bad_table otp) None (last_of coversStrictly (entry_count otp))
  unfolding found_entry
  found_elsewhere h =
      ap (λ (e : Option ℕ). pick (bad_table otp) None e)
      (last_same (covers otp mode register) coversStrictly (λ entry. elsewhere_same entry h) (entry_count otp))

  -- at −2048 it is the last of the mode that begins there; 35 comes where there is none
  pub found_coldest : is_coldest register ≡ true
      → found_entry otp mode register
      ≡ pick (bad_table otp) None
      (last_of (λ entry. eqb (mode_at otp entry) (mode_number mode) && is_coldest (lower_at otp entry)) (entry_count otp))
  unfolding found_entry
  found_coldest h =
      ap (λ (e : Option ℕ). pick (bad_table otp) None e)
      (last_same (covers otp mode register) (λ entry. eqb (mode_at otp entry) (mode_number mode) && is_coldest (lower_at otp entry))
      (λ entry. coldest_covered entry h) (entry_count otp))
