-- What a lent buffer is left as: bytes past the result stay, and a refusal leaves it alone. Assumes nothing.
use Rattle.std.specs.Prelude.{Result, is_ok}
use mathlib.Core.Path.{◌≡◌, refl, sym, ap, ◌∙◌}
use mathlib.Core.Bool.{false, true≢false}
use mathlib.Core.List.{List}
use Prim.Native.Nat.{ℕ, ◌*◌}
use lib.ListN.{length, drop}
use lib.Seq.{drop-append_seam}
use Rattle.pgm.specs.declared.PgmError.{PgmError}
use Rattle.pgm.specs.declared.form.Size.{Size}
use Rattle.pgm.specs.Form.{pgm_header, pgm_file, pixels_in}
use Rattle.pgm.specs.Files.{Answered, over_front, header_written, file_written, file_read}
use Rattle.pgm_laws.specs.Forms.{bytes_of, size_of}
use Rattle.pgm_laws.proofs.Cases.{written_cases, header_cases, read_cases}

module _ (w h : ℕ) (pixels out : List ℕ) where
  pub write_past : drop (bytes_of (file_written w h pixels out).answer) (file_written w h pixels out).out ≡ drop (bytes_of (file_written w h pixels out).answer) out
  write_past =
      written_cases w h pixels out (λ r. drop (bytes_of r.answer) r.out ≡ drop (bytes_of r.answer) out)
      (λ e. refl)
      (λ p q. drop-append_seam (pgm_file w h pixels) (drop (length (pgm_file w h pixels)) out))

  pub write_alone : is_ok (file_written w h pixels out).answer ≡ false → (file_written w h pixels out).out ≡ out
  write_alone =
      written_cases w h pixels out (λ r. is_ok r.answer ≡ false → r.out ≡ out)
      (λ e refused. refl)
      (λ p q refused. absurd (true≢false refused))

module _ (w h : ℕ) (out : List ℕ) where
  pub header_past : drop (bytes_of (header_written w h out).answer) (header_written w h out).out ≡ drop (bytes_of (header_written w h out).answer) out
  header_past =
      header_cases w h out (λ r. drop (bytes_of r.answer) r.out ≡ drop (bytes_of r.answer) out)
      (λ e. refl)
      (drop-append_seam (pgm_header w h) (drop (length (pgm_header w h)) out))

  pub header_alone : is_ok (header_written w h out).answer ≡ false → (header_written w h out).out ≡ out
  header_alone =
      header_cases w h out (λ r. is_ok r.answer ≡ false → r.out ≡ out)
      (λ e refused. refl)
      (λ refused. absurd (true≢false refused))

module _ (f out : List ℕ) where
  -- the grey bytes of a picture
  abbrev count : Answered (Result Size PgmError) → ℕ
  count r = (size_of r.answer).width * (size_of r.answer).height

  pub read_past : drop (count (file_read f out)) (file_read f out).out ≡ drop (count (file_read f out)) out
  read_past =
      read_cases f out (λ r. drop (count r) r.out ≡ drop (count r) out)
      (λ e. refl)
      (λ p full.
      ap (λ (n : ℕ). drop n (over_front (pixels_in f) out)) (sym full) ∙ drop-append_seam (pixels_in f) (drop (length (pixels_in f)) out)
      ∙ ap (λ (n : ℕ). drop n out) full)

  pub read_alone : is_ok (file_read f out).answer ≡ false → (file_read f out).out ≡ out
  read_alone =
      read_cases f out (λ r. is_ok r.answer ≡ false → r.out ≡ out)
      (λ e refused. refl)
      (λ p q refused. absurd (true≢false refused))
