-- Where each setting is found: as the ranges of the table say, at every register. Assumes nothing.
use Rattle.std.specs.Prelude.{Some, None}
use mathlib.Core.Path.{◌≡◌, refl, ◌∙◌}
use mathlib.Core.Bool.{Bool, true, false, ◌&&◌, ◌||◌}
use Prim.Native.Nat.{ℕ, ◌%◌}
use lib.Dec.{eqb}
use lib.IntN.{ℤ, pos, negsuc}
use lib.Signed.{lt_z, le_z}
use borrow.Author.Tests.{eqb-false}
use Rattle.numbers.specs.Choice.{pick}
use Rattle.numbers.specs.Lists.{tab}
use Rattle.numbers.proofs.Lin.{Le, whole, is_le, not_le, is_lt}
use Rattle.config.specs.declared.DisplayMode.{DisplayMode}
use Rattle.config.specs.declared.DisplayMode.TheVariants.{One, Two}
use Rattle.config.specs.Mode.{mode_number}
use Rattle.config.specs.Temperature.{warmest, sixteenths_of, register_of}
use Rattle.config.proofs.Registers.{ranged, above_coldest}
use Rattle.otp.specs.Table.{entry_count, mode_at, lower_at, upper_at, bad_entry, bad_table}
use Rattle.otp.specs.Search.{any_of, last_of}
use Rattle.otp.specs.Waveform.{is_coldest, reaches, covers, found_entry}
use Rattle.reference.specs.Reference.{celsius, reference_table, setting_for}

table_fine : bad_table reference_table ≡ false
unfolding bad_table any_of bad_entry reference_table tab register_of
table_fine = refl

three : entry_count reference_table ≡ 3
unfolding reference_table tab register_of
three = refl

-- what an entry says, its lower bound as the register that it is
record Says (entry mode lower : ℕ) (upper : ℤ) : Type 0 where
  mode_is : mode_at reference_table entry ≡ mode
  lower_is : lower_at reference_table entry ≡ lower
  upper_is : sixteenths_of (upper_at reference_table entry) ≡ upper

first : Says 0 0 0x800 (celsius 50)
unfolding reference_table tab register_of sixteenths_of
first = record { mode_is = refl; lower_is = refl; upper_is = refl }

second : Says 1 0 800 warmest.0
unfolding reference_table tab register_of sixteenths_of
second = record { mode_is = refl; lower_is = refl; upper_is = refl }

third : Says 2 1 0x800 warmest.0
unfolding reference_table tab register_of sixteenths_of
third = record { mode_is = refl; lower_is = refl; upper_is = refl }

module _ (mode : DisplayMode) (register : ℕ) where
  abbrev holds : ℕ → ℕ → ℤ → Bool
  holds m lower upper = eqb m (mode_number mode) && reaches lower register && le_z (sixteenths_of register) upper

  covered : {entry m lower : ℕ} {upper : ℤ} → Says entry m lower upper → covers reference_table mode register entry ≡ holds m lower upper
  unfolding covers
  covered s = rw (s.mode_is, s.lower_is, s.upper_is)

  taken : found_entry reference_table mode register
      ≡ pick (holds 1 0x800 warmest.0) (Some 2) (pick (holds 0 800 warmest.0) (Some 1) (pick (holds 0 0x800 (celsius 50)) (Some 0) None))
  unfolding found_entry last_of
  taken = rw (table_fine, three, covered third, covered second, covered first)

module _ (register : ℕ) where
  -- from −2048 on every temperature is covered
  from_the_bottom : reaches 0x800 register ≡ true
  unfolding sixteenths_of
  from_the_bottom = by (is_coldest register) refl
    where
      or_true : (a : Bool) → a || true ≡ true
      or_true true = refl
      or_true false = refl

      by : (b : Bool) → is_coldest register ≡ b → lt_z (negsuc 2047) (sixteenths_of register) || b ≡ true
      by true e = or_true (lt_z (negsuc 2047) (sixteenths_of register))
      by false e = rw (is_lt (negsuc 2047) (sixteenths_of register) (above_coldest register (eqb-false (register % 4096) 0x800 e)))

  -- 50 °C is another bound
  above_fifty : reaches 800 register ≡ lt_z (pos 800) (sixteenths_of register)
  unfolding sixteenths_of
  above_fifty = or_false (lt_z (pos 800) (sixteenths_of register))
    where
      or_false : (a : Bool) → a || false ≡ a
      or_false true = refl
      or_false false = refl

module _ (t : ℤ) (top : Le t (pos 2047)) where
  by_one : pick (lt_z (pos 800) t && le_z t (pos 2047)) (Some 1) (pick (le_z t (pos 800)) (Some 0) None) ≡ setting_for One t
  by_one = by (lt_z (pos 800) t) refl
    where
      by : (a : Bool) → lt_z (pos 800) t ≡ a
          → pick (lt_z (pos 800) t && le_z t (pos 2047)) (Some 1) (pick (le_z t (pos 800)) (Some 0) None) ≡ setting_for One t
      by true e = rw (e, is_le t (pos 2047) top, not_le t (pos 800) (omega whole))
      by false e = rw (e, is_le t (pos 800) (omega whole))

-- one is found at every register, as the ranges of the table say
pub found : (mode : DisplayMode) (register : ℕ) → found_entry reference_table mode register ≡ setting_for mode (sixteenths_of register)
found One register =
    taken One register
    ∙ rw (from_the_bottom register, above_fifty register) (by_one (sixteenths_of register) (let r = ranged register in omega whole))
found Two register =
    taken Two register
    ∙ rw (from_the_bottom register, is_le (sixteenths_of register) (pos 2047) (let r = ranged register in omega whole))
