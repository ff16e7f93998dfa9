-- Laws of `tab`, and of loops that fill a list from the front:
--     paint n f d     d with its first n elements replaced by f 0 .. f (n − 1), which such a loop has done after n turns
--     Painted         what it knows then; painted-none, painted-more and painted-all are its beginning, its turn and its end
-- Assumes nothing.
use mathlib.Core.Path.{◌≡◌, refl, sym, ap, subst, ◌∙◌}
use mathlib.Core.List.{List, [], ◌∷◌, ◌++◌}
use Prim.Native.Nat.{ℕ, zero, suc, ◌+◌, ◌<◌, ◌≤◌, zero-le, suc-le-suc}
use native.Mathlib.Nat.{not-suc-le-zero, le_of_suc-le-suc}
use native.Mathlib.Numerals.{add-one}
use native.Mathlib.Omega.{arith}
use lib.ListN.{length, set, drop, get_or, length-set, replicate}
use lib.Seq.{drop-nil}
use Rattle.numbers.specs.Lists.{tab}

module _ {A : Type 0} where
  pub length_tab : (n : ℕ) (f : ℕ → A) → length (tab n f) ≡ n
  unfolding tab
  length_tab zero f = refl
  length_tab (suc n) f = ap suc (length_tab n (λ k. f (suc k)))

  pub get_d_tab : (n : ℕ) (f : ℕ → A) (i : ℕ) (d : A) → i < n → get_or (tab n f) i d ≡ f i
  unfolding tab
  get_d_tab zero f i d l = absurd (not-suc-le-zero l)
  get_d_tab (suc n) f zero d l = refl
  get_d_tab (suc n) f (suc i) d l = get_d_tab n (λ k. f (suc k)) i d (le_of_suc-le-suc l)

  -- two functions that agree below n
  pub tab_ext : (n : ℕ) (f g : ℕ → A) → ((i : ℕ) → i < n → f i ≡ g i) → tab n f ≡ tab n g
  unfolding tab
  tab_ext zero f g h = refl
  tab_ext (suc n) f g h =
      ap (λ (a : A). a ∷ tab n (λ k. f (suc k))) (h 0 (suc-le-suc zero-le))
      ∙ ap (λ (l : List A). g 0 ∷ l) (tab_ext n (λ k. f (suc k)) (λ k. g (suc k)) (λ i l. h (suc i) (suc-le-suc l)))

  unfoldable pub paint : ℕ → (ℕ → A) → List A → List A
  paint n f d = tab n f ++ drop n d

  pub paint_none : (f : ℕ → A) (d : List A) → d ≡ paint 0 f d
  unfolding tab paint
  paint_none f d = refl

  paint_suc : (n : ℕ) (f : ℕ → A) (d : List A) → n < length d → set (paint n f d) n (f n) ≡ paint (suc n) f d
  unfolding tab paint
  paint_suc n f [] l = absurd (not-suc-le-zero l)
  paint_suc zero f (x ∷ d) l = refl
  paint_suc (suc n) f (x ∷ d) l = ap (λ (t : List A). f 0 ∷ t) (paint_suc n (λ k. f (suc k)) d (le_of_suc-le-suc l))

  -- a turn of the loop: a store of v, which is f n, at n
  pub paint_more : (n : ℕ) (f : ℕ → A) (d s : List A) (v : A) → s ≡ paint n f d → n < length d → v ≡ f n → set s n v ≡ paint (n + 1) f d
  paint_more n f d s v e l h =
      ap (λ (t : List A). set t n v) e ∙ ap (λ (a : A). set (paint n f d) n a) h ∙ paint_suc n f d l
      ∙ ap (λ (k : ℕ). paint k f d) (sym (add-one n))

  paint_at : (n : ℕ) (f : ℕ → A) (d : List A) (z : A) → n < length d → get_or (paint n f d) n z ≡ get_or d n z
  unfolding tab paint
  paint_at n f [] z l = absurd (not-suc-le-zero l)
  paint_at zero f (x ∷ d) z l = refl
  paint_at (suc n) f (x ∷ d) z l = paint_at n (λ k. f (suc k)) d z (le_of_suc-le-suc l)

  -- the element that the next turn replaces is still d's
  pub paint_next : (n : ℕ) (f : ℕ → A) (d s : List A) (z : A) → s ≡ paint n f d → n < length d → get_or s n z ≡ get_or d n z
  paint_next n f d s z e l = ap (λ (t : List A). get_or t n z) e ∙ paint_at n f d z l

  paint_whole : (f : ℕ → A) (d : List A) → paint (length d) f d ≡ tab (length d) f
  unfolding tab paint
  paint_whole f [] = refl
  paint_whole f (x ∷ d) = ap (λ (t : List A). f 0 ∷ t) (paint_whole (λ k. f (suc k)) d)

  -- after as many turns as d is long
  pub paint_all : (n : ℕ) (f : ℕ → A) (d s : List A) → s ≡ paint n f d → n ≡ length d → s ≡ tab (length d) f
  paint_all n f d s e h = e ∙ ap (λ (k : ℕ). paint k f d) h ∙ paint_whole f d

-- What a loop that fills d from the front knows at its head after n turns: the list is s. An invariant cites it, and `omega` reads its bounds.
pub record Painted {A : Type 0} (n : ℕ) (f : ℕ → A) (d s : List A) : Type 0 where
  pub is : s ≡ paint n f d
  pub within : n ≤ length d
  pub long : length s ≡ length d

module _ {A : Type 0} where
  pub painted_none : (f : ℕ → A) (d : List A) → Painted 0 f d d
  painted_none f d = record { is = paint_none f d; within = zero-le; long = refl }

  pub painted_more : {n : ℕ} {f : ℕ → A} {d s : List A} {v : A} → Painted n f d s → n < length d → v ≡ f n → Painted (n + 1) f d (set s n v)
  painted_more {n} {f} {d} {s} {v} p l e =
      record {
        is = paint_more n f d s v p.is l e;
        within = omega arith;
        long = length-set s n v ∙ p.long;
      }

  pub painted_next : {n : ℕ} {f : ℕ → A} {d s : List A} (z : A) → Painted n f d s → n < length d → get_or s n z ≡ get_or d n z
  painted_next {n} {f} {d} {s} z p l = paint_next n f d s z p.is l

  pub painted_all : {n : ℕ} {f : ℕ → A} {d s : List A} → Painted n f d s → length d ≤ n → s ≡ tab (length d) f
  painted_all {n} {f} {d} {s} p l = paint_all n f d s p.is (omega arith)

-- ---- loops within loops: an inner loop goes on from what the outer one has painted
module _ {A : Type 0} where
  drop_paint : (m n : ℕ) (f : ℕ → A) (d : List A) → m ≤ n → drop n (paint m f d) ≡ drop n d
  unfolding tab paint
  drop_paint zero n f d l = refl
  drop_paint (suc m) zero f d l = absurd (not-suc-le-zero l)
  drop_paint (suc m) (suc n) f [] l =
      ap (λ (t : List A). drop n (tab m (λ k. f (suc k)) ++ t)) (sym (drop-nil m)) ∙ drop_paint m n (λ k. f (suc k)) [] (le_of_suc-le-suc l) ∙ drop-nil n
  drop_paint (suc m) (suc n) f (x ∷ d) l = drop_paint m n (λ k. f (suc k)) d (le_of_suc-le-suc l)

  paint_paint : (m n : ℕ) (f : ℕ → A) (d : List A) → m ≤ n → paint n f (paint m f d) ≡ paint n f d
  unfolding paint
  paint_paint m n f d l = ap (λ (t : List A). tab n f ++ t) (drop_paint m n f d l)

  -- where an inner loop begins
  pub painted_again : {n : ℕ} {f : ℕ → A} {d s : List A} → Painted n f d s → Painted n f s s
  painted_again {n} {f} {d} {s} p =
      record {
        is = p.is ∙ sym (paint_paint n n f d (omega arith)) ∙ ap (λ (t : List A). paint n f t) (sym p.is);
        within = omega arith;
        long = refl;
      }

  -- where it ends
  pub painted_on : {m n k : ℕ} {f : ℕ → A} {d s t : List A} → Painted m f d s → Painted n f s t → m ≤ n → n ≡ k → Painted k f d t
  painted_on {m} {n} {k} {f} {d} {s} {t} p q l e =
      subst (λ (j : ℕ). Painted j f d t) e
      (record {
        is = q.is ∙ ap (λ (u : List A). paint n f u) p.is ∙ paint_paint m n f d l;
        within = omega arith;
        long = q.long ∙ p.long;
      })

  -- the same count, written otherwise
  pub painted_at : {n k : ℕ} {f : ℕ → A} {d s : List A} → Painted n f d s → n ≡ k → Painted k f d s
  painted_at {n} {k} {f} {d} {s} p e = subst (λ (j : ℕ). Painted j f d s) e p

-- the same at each place
pub tab_same : {A : Type 0} (n : ℕ) (a : A) → replicate n a ≡ tab n (λ _. a)
unfolding tab
tab_same zero a = refl
tab_same {A} (suc n) a = ap (λ (l : List A). a ∷ l) (tab_same n a)
