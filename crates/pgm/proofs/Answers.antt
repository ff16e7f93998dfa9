-- What is answered and left, by the tests in their order. Assumes nothing.
use mathlib.Core.Path.{◌≡◌, refl, sym, ap, subst, ◌∙◌}
use mathlib.Core.Bool.{Bool, true, false, not}
use mathlib.Core.List.{List}
use Prim.Native.Nat.{ℕ, ◌+◌, ◌-◌, ◌*◌, ◌<◌, ◌≤◌}
use native.Mathlib.Omega.{arith}
use lib.Dec.{eqb, ltb}
use lib.ListN.{length, drop, length-append, length-drop}
use borrow.Author.Tests.{lt-ltb, le-ltb, eq-eqb, ne_eqb}
use Rattle.numbers.specs.Choice.{pick}
use Rattle.numbers.proofs.Cases.{took, passed}
use Rattle.std.specs.Prelude.{Result, IfOk}
use Rattle.pgm.specs.declared.PgmError.{PgmError}
use Rattle.pgm.specs.declared.PgmError.TheVariants.{Form, Count, Room}
use Rattle.pgm.specs.declared.form.Size.{Size}
use Rattle.pgm.specs.Form.{in_range, pgm_header, pgm_file, size_in, is_header_of, is_header, width_in, height_in, pixels_in}
use Rattle.pgm.specs.Files.{Answered, answered, over_front, file_of, no_file, not_written, text_written, picture_of, no_picture, header_written, file_written, file_read}

-- ---- a text written
module _ (text out : List ℕ) where
  no_room : length out < length text → answered (no_file Room) out ≡ text_written text out
  no_room h = took _ _ _ _ (lt-ltb (length out) (length text) h) refl

  with_room : {n : ℕ} {after : List ℕ} → length text ≤ length out → n ≡ length text → after ≡ over_front text out
      → answered (file_of n) after ≡ text_written text out
  with_room h e g =
      passed _ _ _ _ (le-ltb (length out) (length text) h) (λ i. answered (file_of (e i)) (g i))

module _ (w h : ℕ) (out : List ℕ) where
  pub header_71 : in_range w h ≡ false → answered (no_file Form) out ≡ header_written w h out
  unfolding header_written
  header_71 t = took _ _ _ _ (ap not t) refl

  pub header_73 : in_range w h ≡ true → length out < length (pgm_header w h) → answered (no_file Room) out ≡ header_written w h out
  unfolding header_written
  header_73 t l = passed _ _ _ _ (ap not t) (no_room (pgm_header w h) out l)

  pub header_written_is : {n : ℕ} {after : List ℕ} → in_range w h ≡ true → length (pgm_header w h) ≤ length out → n ≡ length (pgm_header w h)
      → after ≡ over_front (pgm_header w h) out → answered (file_of n) after ≡ header_written w h out
  unfolding header_written
  header_written_is t l e g = passed _ _ _ _ (ap not t) (with_room (pgm_header w h) out l e g)

module _ (w h : ℕ) (pixels out : List ℕ) where
  long : length (pgm_file w h pixels) ≡ length (pgm_header w h) + length pixels
  long = length-append (pgm_header w h) pixels

  pub write_71 : in_range w h ≡ false → answered (no_file Form) out ≡ file_written w h pixels out
  unfolding file_written
  write_71 t = took _ _ _ _ (ap not t) refl

  pub write_72 : in_range w h ≡ true → (length pixels ≡ w * h → ⊥) → answered (no_file Count) out ≡ file_written w h pixels out
  unfolding file_written
  write_72 t c =
      passed _ _ _ _ (ap not t) (took _ _ _ _ (ap not (ne_eqb (length pixels) (w * h) c)) refl)

  pub write_73 : in_range w h ≡ true → length pixels ≡ w * h → length out < length (pgm_header w h) + w * h
      → answered (no_file Room) out ≡ file_written w h pixels out
  unfolding file_written
  write_73 t c l =
      passed _ _ _ _ (ap not t)
      (passed _ _ _ _ (ap not (eq-eqb (length pixels) (w * h) c)) (no_room (pgm_file w h pixels) out (omega (arith, long))))

  pub write_written : {n : ℕ} {after : List ℕ} → in_range w h ≡ true → length pixels ≡ w * h → length (pgm_header w h) + w * h ≤ length out
      → n ≡ length (pgm_header w h) + w * h → after ≡ over_front (pgm_file w h pixels) out → answered (file_of n) after ≡ file_written w h pixels out
  unfolding file_written
  write_written t c l e g =
      passed _ _ _ _ (ap not t)
      (passed _ _ _ _ (ap not (eq-eqb (length pixels) (w * h) c)) (with_room (pgm_file w h pixels) out (omega (arith, long)) (omega (arith, long)) g))

-- ---- the length answered lies within the buffer
abbrev Within : Answered (Result ℕ PgmError) → Type 0
Within l = IfOk l.answer (λ bytes. bytes ≤ length l.out)

text_within : (text out : List ℕ) → Within (text_written text out)
text_within text out = go (ltb (length out) (length text))
  where
    go : (t : Bool) → Within (pick t (not_written Room out) (answered (file_of (length text)) (over_front text out)))
    go true = tt
    go false = simp length-append (omega arith)

header_within : (w h : ℕ) (out : List ℕ) → Within (header_written w h out)
unfolding header_written
header_within w h out = go (in_range w h)
  where
    go : (t : Bool) → Within (pick (not t) (not_written Form out) (text_written (pgm_header w h) out))
    go true = text_within (pgm_header w h) out
    go false = tt

file_within : (w h : ℕ) (pixels out : List ℕ) → Within (file_written w h pixels out)
unfolding file_written
file_within w h pixels out = go (in_range w h) (eqb (length pixels) (w * h))
  where
    go : (t u : Bool) → Within (pick (not t) (not_written Form out) (pick (not u) (not_written Count out) (text_written (pgm_file w h pixels) out)))
    go true true = text_within (pgm_file w h pixels) out
    go true false = tt
    go false u = tt

pub header_answered : (w h : ℕ) (out : List ℕ) {r : Result ℕ PgmError} {after : List ℕ} → answered r after ≡ header_written w h out
    → (answered r after ≡ header_written w h out) × IfOk r (λ bytes. bytes ≤ length after)
header_answered w h out e = (e, subst Within (sym e) (header_within w h out))

pub write_answered : (w h : ℕ) (pixels out : List ℕ) {r : Result ℕ PgmError} {after : List ℕ} → answered r after ≡ file_written w h pixels out
    → (answered r after ≡ file_written w h pixels out) × IfOk r (λ bytes. bytes ≤ length after)
write_answered w h pixels out e = (e, subst Within (sym e) (file_within w h pixels out))

-- ---- a picture read: of a size that stands in the file, with a header of so many bytes
module _ (f out : List ℕ) {size : Size} (is : size ≡ size_in f) where
  header_is : {t : Bool} → is_header_of size.width size.height f ≡ t → is_header f ≡ t
  header_is e = ap (λ (s : Size). is_header_of s.width s.height f) (sym is) ∙ e

  pub read_71 : is_header_of size.width size.height f ≡ false → answered (no_picture Form) out ≡ file_read f out
  unfolding file_read
  read_71 t = took _ _ _ _ (ap not (header_is t)) refl

  module _ {start : ℕ} (fine : is_header_of size.width size.height f ≡ true) (at : start ≡ length (pgm_header size.width size.height)) where
    count_is : size.width * size.height ≡ width_in f * height_in f
    count_is = ap (λ (s : Size). s.width * s.height) is

    body_is : drop start f ≡ pixels_in f
    body_is = ap (λ (n : ℕ). drop n f) (at ∙ ap (λ (s : Size). length (pgm_header s.width s.height)) is)

    body_long : length f - start ≡ length (pixels_in f)
    body_long = sym (length-drop start f) ∙ ap length body_is

    pub read_72 : (length f - start ≡ size.width * size.height → ⊥) → answered (no_picture Count) out ≡ file_read f out
    unfolding file_read
    read_72 c =
        passed _ _ _ _ (ap not (header_is fine))
        (took _ _ _ _ (ap not (ne_eqb (length (pixels_in f)) (width_in f * height_in f) (λ g. c (body_long ∙ g ∙ sym count_is))))
        refl)

    module _ (full : length f - start ≡ size.width * size.height) where
      counted : not (eqb (length (pixels_in f)) (width_in f * height_in f)) ≡ false
      counted = ap not (eq-eqb (length (pixels_in f)) (width_in f * height_in f) (sym body_long ∙ full ∙ count_is))

      pub read_73 : length out < size.width * size.height → answered (no_picture Room) out ≡ file_read f out
      unfolding file_read
      read_73 l =
          passed _ _ _ _ (ap not (header_is fine))
          (passed _ _ _ _ counted
          (took _ _ _ _ (lt-ltb (length out) (width_in f * height_in f) (omega (arith, count_is))) refl))

      pub read_whole : {after : List ℕ} → size.width * size.height ≤ length out → after ≡ over_front (drop start f) out
          → answered (picture_of size.width size.height) after ≡ file_read f out
      unfolding file_read
      read_whole l e =
          passed _ _ _ _ (ap not (header_is fine))
          (passed _ _ _ _ counted
          (passed _ _ _ _ (le-ltb (length out) (width_in f * height_in f) (omega (arith, count_is)))
          (λ i. answered (picture_of (is i).width (is i).height) ((e ∙ ap (λ (l : List ℕ). over_front l out) body_is) i))))
