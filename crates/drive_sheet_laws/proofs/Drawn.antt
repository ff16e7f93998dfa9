-- What is written from a sheet is decoded to it, and equal sheets are exactly those with equal bytes. Assumes nothing.
use Rattle.std.specs.Prelude.{Option, Some, unwrap_or}
use mathlib.Core.Path.{◌≡◌, sym, ap, ◌∙◌}
use mathlib.Core.List.{List}
use Prim.Native.Nat.{ℕ}
use native.Mathlib.Omega.{arith}
use lib.IntN.{ℤ, pos}
use Rattle.numbers.proofs.Painted.{length_tab, tab_ext}
use Rattle.waveform.specs.Setting.{timed, group_codes_of, waveform_of}
use Rattle.drive_sheet.specs.declared.Sheet.{Sheet}
use Rattle.drive_sheet.specs.declared.Supply.{Supply}
use Rattle.drive_sheet.specs.declared.Supply.TheVariants.{Vsh1, Vsh2, Vsl, Vcom}
use Rattle.drive_sheet.specs.Supplies.{supply_code}
use Rattle.drive_sheet.specs.Bytes.{group_at, last_byte, sheet_byte, setting_of, sheet_of, Formed}
use Rattle.drive_sheet.specs.Tests.{Writable, written_of}
use Rattle.drive_sheet.proofs.Equal.{same_is}
use Rattle.drive_sheet.proofs.Back.{sheet_back, group_back, byte_is}
use Rattle.drive_sheet_laws.specs.Drawn.{Accepts, drawn_of, Drawn, Exactly}
use Rattle.drive_sheet_laws.proofs.Accepted.{writable, bytes_are}

zero_code : (supply : Supply) (z : ℤ) → z ≡ pos 0 → supply_code supply z ≡ Some 0
unfolding supply_code
zero_code supply z e = rw (same_is z (pos 0) e)

module _ (h : Sheet) (f : Formed h) (w : Writable h) where
  drives : (p : List ℕ) → waveform_of (setting_of h) p ≡ drawn_of h p
  unfolding waveform_of sheet_of
  drives p =
      λ i. record {
        groups = tab_ext 10 (λ g. timed p (group_codes_of (setting_of h) g)) (λ g. timed p (group_at h g))
            (λ g l. ap (timed p) (group_back h f w g l)) i;
        levels = record {
          vsh1 = (sheet_back h f w i).vsh1;
          vsh2 = (sheet_back h f w i).vsh2;
          vsl = (sheet_back h f w i).vsl;
        };
      }

  of_bytes : Drawn h (setting_of h)
  unfolding setting_of sheet_byte last_byte
  of_bytes =
      record {
        back = sheet_back h f w;
        driven = drives;
        long = length_tab 112 (sheet_byte h);
        byte_110 = byte_is h 110 (omega arith);
        byte_111 = byte_is h 111 (omega arith);
        vsh1_zero = λ e. byte_is h 106 (omega arith) ∙ ap (λ (o : Option ℕ). unwrap_or o 0) (zero_code Vsh1 h.vsh1 e);
        vsh2_zero = λ e. byte_is h 107 (omega arith) ∙ ap (λ (o : Option ℕ). unwrap_or o 0) (zero_code Vsh2 h.vsh2 e);
        vsl_zero = λ e. byte_is h 108 (omega arith) ∙ ap (λ (o : Option ℕ). unwrap_or o 0) (zero_code Vsl h.vsl e);
        vcom_is_zero = λ e. byte_is h 109 (omega arith) ∙ ap (λ (o : Option ℕ). unwrap_or o 0) (zero_code Vcom h.vcom e);
      }

-- what `write` leaves where it accepts
pub drawn : (h : Sheet) (lent : List ℕ) → Formed h → Accepts h lent → Drawn h (written_of h lent).bytes
drawn h lent f a = rw (bytes_are h lent a) (of_bytes h f (writable h lent a))

-- and what it leaves of two
pub exactly : (h k : Sheet) (lent other : List ℕ) → Formed h → Formed k → Accepts h lent → Accepts k other
    → Exactly h k (written_of h lent).bytes (written_of k other).bytes
exactly h k lent other f g a b =
    record {
      same_bytes = λ e. bytes_are h lent a ∙ ap setting_of e ∙ sym (bytes_are k other b);
      same_sheet = λ e. sym (drawn h lent f a).back ∙ ap sheet_of e ∙ (drawn k other g b).back;
    }
