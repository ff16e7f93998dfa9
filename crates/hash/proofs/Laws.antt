-- The hash of a list that grows, and its bound. Assumes nothing.
use mathlib.Core.Path.{◌≡◌, refl, sym, ap, ◌∙◌}
use mathlib.Core.List.{List, [], ◌∷◌, ◌++◌}
use Prim.Native.Nat.{ℕ, ◌+◌, ◌-◌, ◌/◌, ◌%◌, ◌^◌, ◌<◌}
use native.Mathlib.Numerals.{add-one}
use native.Mathlib.Omega.{arith}
use lib.IntN.{ℤ}
use lib.ListN.{length, take, get_or}
use lib.Seq.{take-suc, take-length}
use Rattle.hash.specs.Hash.{step_of, hash_from, word_bytes, pattern_of, four_of, count_bytes, state_bytes}

pub hash_more : (h : ℕ) (s t : List ℕ) → hash_from h (s ++ t) ≡ hash_from (hash_from h s) t
unfolding hash_from
hash_more h [] t = refl
hash_more h (b ∷ s) t = hash_more (step_of h b) s t

pub step_below : (h b : ℕ) → step_of h b < 4294967291
unfolding step_of
step_below h b = omega arith

-- ---- a list of things whose bytes stand one after the other
module _ {A : Type 0} (f : List A → List ℕ) (more : (s : List A) (x : A) → f (s ++ (x ∷ [])) ≡ f s ++ f (x ∷ [])) (l : List A) (i : ℕ) where
  pub turn : (d : A) {h r : ℕ} → i < length l → h ≡ hash_from 0 (f (take i l)) → r ≡ hash_from h (f (get_or l i d ∷ [])) → r ≡ hash_from 0 (f (take (i + 1) l))
  turn d k e g =
      g ∙ ap (λ (x : ℕ). hash_from x (f (get_or l i d ∷ []))) e ∙ sym (hash_more 0 (f (take i l)) (f (get_or l i d ∷ [])))
      ∙ ap (hash_from 0) (sym (more (take i l) (get_or l i d))) ∙ ap (λ (t : List A). hash_from 0 (f t)) (sym (take-suc l i d k))
      ∙ ap (λ (n : ℕ). hash_from 0 (f (take n l))) (sym (add-one i))

  pub all : {h : ℕ} → i ≡ length l → h ≡ hash_from 0 (f (take i l)) → h ≡ hash_from 0 (f l)
  all k e = e ∙ ap (λ (n : ℕ). hash_from 0 (f (take n l))) k ∙ ap (λ (t : List A). hash_from 0 (f t)) (take-length l)

pub bytes_more : (s : List ℕ) (b : ℕ) → s ++ (b ∷ []) ≡ s ++ (b ∷ [])
bytes_more s b = refl

pub words_more : (s : List ℕ) (w : ℕ) → word_bytes (s ++ (w ∷ [])) ≡ word_bytes s ++ word_bytes (w ∷ [])
unfolding word_bytes
words_more [] w = refl
words_more (v ∷ s) w = ap (λ (t : List ℕ). v % 256 ∷ v / 256 ∷ t) (words_more s w)

pub counts_more : (s : List ℕ) (n : ℕ) → count_bytes (s ++ (n ∷ [])) ≡ count_bytes s ++ count_bytes (n ∷ [])
unfolding count_bytes
counts_more [] n = refl
counts_more (m ∷ s) n = ap (λ (t : List ℕ). four_of m ++ t) (counts_more s n)

pub states_more : (s : List ℤ) (z : ℤ) → state_bytes (s ++ (z ∷ [])) ≡ state_bytes s ++ state_bytes (z ∷ [])
unfolding state_bytes
states_more [] z = refl
states_more (y ∷ s) z = ap (λ (t : List ℕ). four_of (pattern_of y) ++ four_of (pattern_of y / 2 ^ 32) ++ t) (states_more s z)
