-- Texts written byte by byte, and the digits of a number. Assumes nothing.
use mathlib.Core.Path.{◌≡◌, refl, sym, ap, subst, ◌∙◌}
use mathlib.Core.Bool.{Bool, true, false, cond}
use mathlib.Core.List.{List, [], ◌∷◌, ◌++◌, append_assoc}
use Prim.Native.Nat.{ℕ, zero, suc, ◌+◌, ◌-◌, ◌/◌, ◌%◌, ◌^◌, ◌<◌, ◌≤◌}
use native.Mathlib.Nat.{pow-suc, one-le-pow, pow-le-pow_right, zero-lt-suc}
use native.Mathlib.Numerals.{add-one}
use native.Mathlib.Omega.{arith}
use lib.Dec.{leb, ltb}
use lib.ListN.{length, take, get_or, set}
use lib.Seq.{take-suc}
use Rattle.std.proofs.Common.{min, append-nil}
use Rattle.std.proofs.lemmas.List.{take_more_set, length-take-le, length-append, take_all, take_min}
use Rattle.std.proofs.lemmas.Slice.{take-put_mid}
use borrow.Rule.Slice.PartMut.{put_mid}
use borrow.Author.Tests.{leb-true, leb-false, lt-ltb, le-ltb, ltb-true, ltb-false}
use Rattle.io.specs.Digits.{hex_digit_ascii, last_digits, IsDigitCount}
use lib.IntN.{ℤ, pos, negsuc, nat_abs}
use lib.Signed.{lt_z}
use Rattle.numbers.specs.Choice.{pick}
use Rattle.numbers.proofs.Cases.{took, passed}
use Rattle.numbers.proofs.Lin.{whole, lt_true}
use Rattle.text.specs.Text.{put_of, written, decimal_from, decimal_of, signed_of, digit_of, hex_of}

-- a byte after the first n of a buffer, and none where there is no room
module _ (bytes : List ℕ) (n b : ℕ) {g : List ℕ} (l : length bytes ≡ 65536) (e : take n bytes ≡ g) (m : n ≤ 65536) where
  long : length g ≡ n
  long = ap length (sym e) ∙ length-take-le n bytes (omega arith)

  pub put_more : n < 65536 → take (n + 1) (set bytes n b) ≡ put_of g b
  unfolding put_of
  put_more h =
      took _ _ _ _ (lt-ltb (length g) 65536 (omega (arith, long)))
      (take_more_set bytes n b (omega arith) ∙ ap (λ (x : List ℕ). x ++ (b ∷ [])) e)

  pub put_none : 65536 ≤ n → take n bytes ≡ put_of g b
  unfolding put_of
  put_none h = passed _ _ _ _ (le-ltb (length g) 65536 (omega (arith, long))) e

pub written_more : (g : List ℕ) (s t : List ℕ) → written g (s ++ t) ≡ written (written g s) t
unfolding written
written_more g [] t = refl
written_more g (c ∷ s) t = written_more (put_of g c) s t

-- the first i bytes of a text written, and the next one after them: of a text put byte by byte
module _ (g : List ℕ) (l : List ℕ) (i : ℕ) (h : i < length l) {a b : List ℕ} where
  pub word_step : a ≡ written g (take i l) → b ≡ put_of a (get_or l i 0) → b ≡ written g (take (i + 1) l)
  unfolding written
  word_step e f =
      f ∙ ap (λ (x : List ℕ). put_of x (get_or l i 0)) e ∙ sym (written_more g (take i l) (get_or l i 0 ∷ []))
      ∙ ap (written g) (sym (take-suc l i 0 h)) ∙ ap (λ (n : ℕ). written g (take n l)) (sym (add-one i))

-- a text is what there was, and as much of what is written as there is room for
pub written_is : (g w : List ℕ) → length g ≤ 65536 → written g w ≡ g ++ take (65536 - length g) w
unfolding written put_of
written_is g [] h = sym (append-nil g) ∙ ap (λ (t : List ℕ). g ++ t) (sym (take_all (65536 - length g) [] (omega arith)))
written_is g (c ∷ w) h = by_room (λ x. written_is x w) (ltb (length g) 65536) refl
  where
    by_room : ((x : List ℕ) → length x ≤ 65536 → written x w ≡ x ++ take (65536 - length x) w) → (t : Bool) → ltb (length g) 65536 ≡ t
        → written (put_of g c) w ≡ g ++ take (65536 - length g) (c ∷ w)
    by_room rest true e =
        let r = ltb-true (length g) 65536 e in
        let d = length-append g (c ∷ []) in
        ap (λ (x : List ℕ). written x w) (sym (took _ _ _ _ e refl))
        ∙ rest (g ++ (c ∷ [])) (omega (arith, d))
        ∙ append_assoc g (c ∷ []) _
        ∙ ap (λ (n : ℕ). g ++ (c ∷ take n w)) (let n : 65536 - length (g ++ (c ∷ [])) ≡ 65536 - length g - 1 = omega (arith, d) in n)
        ∙ ap (λ (n : ℕ). g ++ take n (c ∷ w)) (let n : suc (65536 - length g - 1) ≡ 65536 - length g = omega arith in n)
    by_room rest false e =
        let r = ltb-false (length g) 65536 e in
        let z : 65536 - length g ≡ 0 = omega arith in
        ap (λ (x : List ℕ). written x w) (sym (passed _ _ _ _ e refl))
        ∙ rest g h
        ∙ ap (λ (n : ℕ). g ++ take n w) z
        ∙ ap (λ (n : ℕ). g ++ take n (c ∷ w)) (sym z)

-- a text copied to the place after the first n bytes of a buffer, f of its bytes, which are those that there is room for
module _ (bytes : List ℕ) (n : ℕ) {g : List ℕ} (l : length bytes ≡ 65536) (e : take n bytes ≡ g) (m : n ≤ 65536) where
  pub word_copied : (w part : List ℕ) (f k : ℕ) → f ≡ min (length w) (65536 - n) → part ≡ take f w
      → take (n + f) (put_mid n k bytes part) ≡ written g w
  word_copied w part f k o p =
      let d = length-take-le f w (omega arith) in
      let all : length part ≡ f = ap length p ∙ d in
      let there : length g ≡ n = ap length (sym e) ∙ length-take-le n bytes (omega arith) in
      take-put_mid n k bytes part (n + f) (omega arith) (omega arith)
      ∙ (λ i. e i ++ p i)
      ∙ ap (λ (x : ℕ). g ++ take x w) (let x : f ≡ min (65536 - length g) (length w) = omega arith in x)
      ∙ ap (λ (t : List ℕ). g ++ t) (take_min (65536 - length g) w)
      ∙ sym (written_is g w (omega arith))

hex_more : (s : List ℕ) (c : ℕ) → hex_of (s ++ (c ∷ [])) ≡ hex_of s ++ hex_of (c ∷ [])
unfolding hex_of
hex_more [] c = refl
hex_more (b ∷ s) c = ap (λ (t : List ℕ). digit_of (b / 16) ∷ digit_of (b % 16) ∷ t) (hex_more s c)

module _ (g : List ℕ) (l : List ℕ) (i : ℕ) (h : i < length l) {a b : List ℕ} where
  pub hex_step : a ≡ written g (hex_of (take i l)) → b ≡ written a (hex_of (get_or l i 0 ∷ [])) → b ≡ written g (hex_of (take (i + 1) l))
  hex_step e f =
      f ∙ ap (λ (x : List ℕ). written x (hex_of (get_or l i 0 ∷ []))) e ∙ sym (written_more g (hex_of (take i l)) (hex_of (get_or l i 0 ∷ [])))
      ∙ ap (written g) (sym (hex_more (take i l) (get_or l i 0))) ∙ ap (λ (t : List ℕ). written g (hex_of t)) (sym (take-suc l i 0 h))
      ∙ ap (λ (n : ℕ). written g (hex_of (take n l))) (sym (add-one i))

-- ---- the digits that `io` gives are the decimal's
last_digit : (n : ℕ) → hex_digit_ascii (n % 10) ≡ 48 + n % 10
last_digit n = ap (λ (b : Bool). cond b (48 + n % 10) (87 + n % 10)) (lt-ltb (n % 10) 10 (omega arith))

tens : (k : ℕ) → 1 ≤ k → 10 ≤ 10 ^ k
tens zero h = absurd (omega arith)
tens (suc k) h = let e = pow-suc 10 k in let p = one-le-pow k 10 (zero-lt-suc 9) in omega arith

pub spelt : (k c n : ℕ) → c ≤ k → n < 10 ^ suc c → (1 ≤ c → 10 ^ c ≤ n) → last_digits 10 (suc c) n ≡ decimal_from k n
unfolding decimal_from
spelt zero zero n h a b = ap (λ (d : ℕ). d ∷ []) (last_digit n ∙ omega arith)
spelt zero (suc c) n h a b = absurd (omega arith)
spelt (suc k) zero n h a b =
    ap (λ (d : ℕ). d ∷ []) (last_digit n ∙ omega arith)
    ∙ sym (ap (λ (t : Bool). pick t ((48 + n) ∷ []) (decimal_from k (n / 10) ++ ((48 + n % 10) ∷ []))) (lt-ltb n 10 (omega arith)))
spelt (suc k) (suc c) n h a b =
    let t = tens (suc c) (omega arith) in
    let many : 10 ^ suc c ≤ n = b (omega arith) in
    let p = pow-suc 10 (suc c) in
    let q = pow-suc 10 c in
    let shorter = spelt k c (n / 10) (omega arith) (omega arith) (λ o. omega arith) in
    (λ i. shorter i ++ (last_digit n i ∷ []))
    ∙ sym (ap (λ (t : Bool). pick t ((48 + n) ∷ []) (decimal_from k (n / 10) ++ ((48 + n % 10) ∷ []))) (le-ltb n 10 (omega arith)))

-- 64 bits have at most 20 digits
pub decimal_is : (n c : ℕ) → n < 2 ^ 64 → IsDigitCount 10 1 n c → last_digits 10 c n ≡ decimal_of n
decimal_is n zero k f = absurd (omega arith)
decimal_is n (suc c) k f = spelt 19 c n (few (leb c 19) refl) f.1 large
  where
    large : 1 ≤ c → 10 ^ c ≤ n
    large o = subst (λ (e : ℕ). 10 ^ e ≤ n) (let g : suc c - 1 ≡ c = omega arith in g) (f.2 (omega arith))

    few : (t : Bool) → leb c 19 ≡ t → c ≤ 19
    few true e = leb-true c 19 e
    few false e =
        let many = leb-false c 19 e in
        let p : 10 ^ 20 ≤ 10 ^ c = pow-le-pow_right {n = 10} (zero-lt-suc 9) {i = 20} {j = c} (omega arith) in
        let q = large (omega arith) in
        absurd (omega arith)

-- ---- a negative number has its sign in front of its size
pub minus_of : (z : ℤ) → lt_z z (pos 0) ≡ true → signed_of z ≡ 45 ∷ decimal_of (nat_abs z)
unfolding signed_of
minus_of (pos n) h = absurd (omega (whole, lt_true (pos n) (pos 0) h))
minus_of (negsuc n) h = ap (λ (m : ℕ). 45 ∷ decimal_of m) (add-one n)

pub plus_of : (z : ℤ) → lt_z z (pos 0) ≡ false → signed_of z ≡ decimal_of (nat_abs z)
unfolding signed_of
plus_of (pos n) h = refl
plus_of (negsuc n) h = cc
