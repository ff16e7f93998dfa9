-- Text gathered in a buffer, a byte more and a text more. Assumes nothing.
use Rattle.std.proofs.Common.{◌≡◌, sym, ap, ◌∙◌, List, [], ◌∷◌, ◌++◌, ℕ, zero, suc, ◌+◌, ◌-◌, ◌<◌, ◌≤◌, append-nil, arith, length, take, get_or, set, drop, length-append, length-drop, length-take, length-take-le, take_all}
use mathlib.Core.List.{append_assoc}
use native.Mathlib.Numerals.{add-one}
use lib.Seq.{take-suc}
use borrow.Rule.Slice.PartMut.{put_mid}
use Rattle.std.proofs.lemmas.List.{take_more_set}
use Rattle.std.proofs.lemmas.Slice.{take-put_mid}
use Rattle.column.specs.Columns.{gathered}

-- what fits is all there
pub all_fits : (room : ℕ) (g s : List ℕ) → length g + length s ≤ room → gathered room g s ≡ g ++ s
unfolding gathered
all_fits room g s h = ap (λ (t : List ℕ). g ++ t) (take_all (room - length g) s (omega arith))

pub nothing : (room : ℕ) (g : List ℕ) → g ≡ gathered room g []
unfolding gathered
nothing room g = sym (ap (λ (t : List ℕ). g ++ t) (take_all (room - length g) [] (omega arith)) ∙ append-nil g)

take_both : (k : ℕ) (s t : List ℕ) → take k s ++ take (k - length s) t ≡ take k (s ++ t)
take_both zero s t = ap (λ (n : ℕ). take n t) (let e : 0 - length s ≡ 0 = omega arith in e)
take_both (suc k) [] t = ap (λ (n : ℕ). take n t) (let e : suc k - 0 ≡ suc k = omega arith in e)
take_both (suc k) (x ∷ s) t =
    ap (λ (n : ℕ). x ∷ take k s ++ take n t) (let e : suc k - suc (length s) ≡ k - length s = omega arith in e)
    ∙ ap (λ (l : List ℕ). x ∷ l) (take_both k s t)

module _ (room : ℕ) (g : List ℕ) where
  left : (s : List ℕ) → room - length (g ++ take (room - length g) s) ≡ room - length g - length s
  left s = omega (arith, length-append g (take (room - length g) s), length-take (room - length g) s)

  -- one text, and another after it
  pub after : (s t : List ℕ) {b c : List ℕ} → b ≡ gathered room g s → c ≡ gathered room b t → c ≡ gathered room g (s ++ t)
  unfolding gathered
  after s t e f =
      let k = room - length g in
      f ∙ ap (λ (b : List ℕ). b ++ take (room - length b) t) e
      ∙ ap (λ (n : ℕ). (g ++ take k s) ++ take n t) (left s)
      ∙ append_assoc g (take k s) (take (k - length s) t)
      ∙ ap (λ (l : List ℕ). g ++ l) (take_both k s t)

  -- a text as far as its first i bytes
  pub byte_more : (l : List ℕ) (i : ℕ) → i < length l → {b c : List ℕ} → b ≡ gathered room g (take i l) → c ≡ gathered room b (get_or l i 0 ∷ [])
      → c ≡ gathered room g (take (i + 1) l)
  byte_more l i h e f =
      after (take i l) (get_or l i 0 ∷ []) e f
      ∙ ap (gathered room g) (sym (take-suc l i 0 h) ∙ ap (λ (n : ℕ). take n l) (sym (add-one i)))

-- a text over the places after the first n of a buffer, where it fits; those places are as many as it has bytes
module _ (room : ℕ) (bytes : List ℕ) (n w : ℕ) {g : List ℕ} (l : length bytes ≡ room) (e : take n bytes ≡ g) (m : n ≤ room) (h : w ≤ room - n) where
  front : length g ≡ n
  front = ap length (sym e) ∙ length-take-le n bytes (omega arith)

  pub wide : length (take ((n + w) - n) (drop n bytes)) ≡ w
  wide = omega (arith, length-take ((n + w) - n) (drop n bytes), length-drop n bytes)

  pub put_text : (t s : List ℕ) → t ≡ s → length s ≡ w → take (n + w) (put_mid n ((n + w) - n) bytes t) ≡ gathered room g s
  put_text t s is long =
      take-put_mid n ((n + w) - n) bytes t (n + w) (let q : length t ≡ w = ap length is ∙ long in omega (arith, q)) (omega arith)
      ∙ (λ i. e i ++ is i)
      ∙ sym (all_fits room g s (omega (arith, front, long)))

-- a byte after the first n of a buffer, and none where there is no room
module _ (room : ℕ) (bytes : List ℕ) (n b : ℕ) {g : List ℕ} (l : length bytes ≡ room) (e : take n bytes ≡ g) (m : n ≤ room) where
  long : length g ≡ n
  long = ap length (sym e) ∙ length-take-le n bytes (omega arith)

  pub put_more : n < room → take (n + 1) (set bytes n b) ≡ gathered room g (b ∷ [])
  put_more h =
      take_more_set bytes n b (omega arith) ∙ ap (λ (x : List ℕ). x ++ (b ∷ [])) e ∙ sym (all_fits room g (b ∷ []) (omega (arith, long)))

  pub put_none : room ≤ n → take n bytes ≡ gathered room g (b ∷ [])
  unfolding gathered
  put_none h = e ∙ sym (append-nil g) ∙ ap (λ (k : ℕ). g ++ take k (b ∷ [])) (let none : 0 ≡ room - length g = omega (arith, long) in none)
