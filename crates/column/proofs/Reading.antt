-- Reading a column byte by byte, from the left, gives what the definition says; and a number that was written is read back. Assumes nothing.
use Rattle.std.specs.Prelude.{Option, Some, None}
use mathlib.Core.Path.{◌≡◌, refl, sym, ap, ◌∙◌}
use mathlib.Core.Bool.{Bool, true, false, ◌&&◌}
use mathlib.Core.List.{List, [], ◌∷◌, ◌++◌, append_assoc}
use Prim.Native.Nat.{ℕ, zero, suc, ◌+◌, ◌-◌, ◌*◌, ◌/◌, ◌%◌, ◌^◌, ◌<◌, ◌≤◌}
use native.Mathlib.Nat.{pow-suc}
use native.Mathlib.Omega.{arith}
use lib.Dec.{leb, ltb, eqb}
use native.Mathlib.Numerals.{add-one}
use lib.ListN.{length, take, drop, get_or, length-append, take-append-drop}
use lib.Seq.{take-suc}
use Rattle.std.proofs.lemmas.List.{append-nil}
use borrow.Author.Tests.{ltb-false, leb-true, leb-false, eqb-true, eqb-false, lt-ltb, le-ltb, le-leb, lt-leb, eq-eqb, ne_eqb}
use Rattle.numbers.specs.Choice.{pick}
use Rattle.numbers.specs.Lists.{tab}
use Rattle.numbers.proofs.Cases.{left, right}
use Rattle.column.specs.Columns.{natural}
use Rattle.column.specs.Reading.{same, value_from, value_of, read_of, digit_of, step_of, last_of}
use Rattle.column.proofs.Symbols.{column_length}
use Rattle.column.proofs.Fronts.{front, front_length, column_more, front_more}

-- ---- texts, and a byte more
value_more : (n c : ℕ) (xs : List ℕ) → value_from n (xs ++ (c ∷ [])) ≡ 10 * value_from n xs + (c - 48)
value_more n c [] = refl
value_more n c (x ∷ xs) = value_more (10 * n + (x - 48)) c xs

and_assoc : (a b c : Bool) → a && (b && c) ≡ (a && b) && c
and_assoc true b c = refl
and_assoc false b c = refl

and_true : (a : Bool) → a && true ≡ a
and_true true = refl
and_true false = refl

and_false : (a : Bool) → a && false ≡ false
and_false true = refl
and_false false = refl

same_more : (c d : ℕ) (xs ys : List ℕ) → length xs ≡ length ys → same (xs ++ (c ∷ [])) (ys ++ (d ∷ [])) ≡ same xs ys && eqb c d
same_more c d [] [] e = and_true (eqb c d)
same_more c d [] (y ∷ ys) e = absurd (omega arith)
same_more c d (x ∷ xs) [] e = absurd (omega arith)
same_more c d (x ∷ xs) (y ∷ ys) e =
    ap (λ (b : Bool). eqb x y && b) (same_more c d xs ys (omega arith)) ∙ and_assoc (eqb x y) (same xs ys) (eqb c d)

same_refl : (xs : List ℕ) → same xs xs ≡ true
same_refl [] = refl
same_refl (x ∷ xs) = λ i. eq-eqb x x refl i && same_refl xs i

length_more : (xs : List ℕ) (c : ℕ) → length (xs ++ (c ∷ [])) ≡ suc (length xs)
length_more xs c = length-append xs (c ∷ []) ∙ omega arith

-- ---- what stands left of the units
unfoldable pub front_of : List ℕ → Option ℕ
front_of xs = pick (same xs (front (length xs) (value_of xs)) && ltb (value_of xs) (2 ^ 64)) (Some (value_of xs)) None

-- what is found of a byte more: p that the digits left of it are those of a tenth of m, d what is written in its place
found : Bool → ℕ → ℕ → ℕ → Option ℕ
found p c d m = pick ((p && eqb c d) && ltb m (2 ^ 64)) (Some m) None

fronted : (p : Bool) → ℕ → Option ℕ
fronted p v = pick (p && ltb v (2 ^ 64)) (Some v) None

nothing : (p : Bool) (c d m : ℕ) → (c ≡ d → ⊥) → found p c d m ≡ None
unfolding found
nothing p c d m h = λ i. pick (not_both i && ltb m (2 ^ 64)) (Some m) None
  where
    not_both : p && eqb c d ≡ false
    not_both = ap (λ (b : Bool). p && b) (ne_eqb c d h) ∙ and_false p

pub no_digit : (n c : ℕ) → (48 ≤ c → c ≤ 57 → ⊥) → digit_of n c ≡ None
unfolding digit_of
no_digit n c h = go (leb 48 c) (leb c 57) refl refl
  where
    go : (a b : Bool) → leb 48 c ≡ a → leb c 57 ≡ b
        → pick (leb 48 c && leb c 57 && ltb (10 * n + (c - 48)) (2 ^ 64)) (Some (10 * n + (c - 48))) None ≡ None
    go true true e f = absurd (h (leb-true 48 c e) (leb-true c 57 f))
    go true false e f = λ i. pick (e i && f i && ltb (10 * n + (c - 48)) (2 ^ 64)) (Some (10 * n + (c - 48))) None
    go false b e f = λ i. pick (e i && leb c 57 && ltb (10 * n + (c - 48)) (2 ^ 64)) (Some (10 * n + (c - 48))) None

pub a_digit : (n c : ℕ) → 48 ≤ c → c ≤ 57 → digit_of n c ≡ pick (ltb (10 * n + (c - 48)) (2 ^ 64)) (Some (10 * n + (c - 48))) None
unfolding digit_of
a_digit n c h k =
    λ i. pick (le-leb 48 c h i && le-leb c 57 k i && ltb (10 * n + (c - 48)) (2 ^ 64)) (Some (10 * n + (c - 48))) None

-- ---- the units' digit
last_digit : (p : Bool) (v c : ℕ) → 48 ≤ c → c ≤ 57 → found p c c (10 * v + (c - 48)) ≡ last_of (fronted p v) c
unfolding found fronted
last_digit false v c h k = refl
last_digit true v c h k = (λ i. pick (eq-eqb c c refl i && ltb (10 * v + (c - 48)) (2 ^ 64)) (Some (10 * v + (c - 48))) None) ∙ go (ltb v (2 ^ 64)) refl
  where
    go : (t : Bool) → ltb v (2 ^ 64) ≡ t
        → pick (ltb (10 * v + (c - 48)) (2 ^ 64)) (Some (10 * v + (c - 48))) None ≡ last_of (pick t (Some v) None) c
    go true e = sym (a_digit v c h k)
    go false e = λ i. pick (le-ltb (10 * v + (c - 48)) (2 ^ 64) (omega (arith, ltb-false v (2 ^ 64) e)) i) (Some (10 * v + (c - 48))) None

last_other : (p : Bool) (v c : ℕ) → (48 ≤ c → c ≤ 57 → ⊥) → None ≡ last_of (fronted p v) c
unfolding fronted
last_other p v c h = go (p && ltb v (2 ^ 64))
  where
    go : (t : Bool) → None ≡ last_of (pick t (Some v) None) c
    go true = sym (no_digit v c h)
    go false = refl

-- ---- a place further left
step_digit : (p : Bool) (v c : ℕ) → 48 ≤ c → c ≤ 57 → 1 ≤ 10 * v + (c - 48) → found p c c (10 * v + (c - 48)) ≡ step_of (fronted p v) c
unfolding fronted
step_digit p v c h k o = last_digit p v c h k ∙ go (p && ltb v (2 ^ 64))
  where
    zero_first : (t : Bool) → eqb v 0 ≡ t → t && eqb c 48 ≡ false
    zero_first true e = ne_eqb c 48 (λ f. omega (arith, eqb-true v 0 e))
    zero_first false e = refl

    go : (t : Bool) → last_of (pick t (Some v) None) c ≡ step_of (pick t (Some v) None) c
    go true =
        sym
        (λ i. pick ((ap (λ (b : Bool). eqb v 0 && b) (ne_eqb c 32 (λ f. omega arith)) ∙ and_false (eqb v 0)) i) (Some 0)
        (pick (zero_first (eqb v 0) refl i) None (digit_of v c)))
    go false = refl

step_other : (p : Bool) (v c : ℕ) → (v ≡ 0 → c ≡ 32 → ⊥) → (48 ≤ c → c ≤ 57 → ⊥) → None ≡ step_of (fronted p v) c
unfolding fronted
step_other p v c b h = go (p && ltb v (2 ^ 64))
  where
    blank : (t : Bool) → eqb v 0 ≡ t → t && eqb c 32 ≡ false
    blank true e = ne_eqb c 32 (b (eqb-true v 0 e))
    blank false e = refl

    go : (t : Bool) → None ≡ step_of (pick t (Some v) None) c
    go true =
        sym
        (λ i. pick (blank (eqb v 0) refl i) (Some 0)
        (pick ((ap (λ (b : Bool). eqb v 0 && b) (ne_eqb c 48 (λ f. h (omega arith) (omega arith))) ∙ and_false (eqb v 0)) i) None (no_digit v c h i)))
    go false = refl

step_blank : (p : Bool) → found p 32 32 0 ≡ step_of (fronted p 0) 32
unfolding found fronted
step_blank true = refl
step_blank false = refl

step_zero : (p : Bool) → None ≡ step_of (fronted p 0) 48
unfolding fronted
step_zero true = refl
step_zero false = refl

-- ---- a byte more of a text
module _ (xs : List ℕ) (c : ℕ) where
  -- the digits left of the byte are those of n
  lefts : ℕ → Bool
  lefts n = same xs (front (length xs) n)

  -- the whole, and what is written in the byte's place
  abbrev whole : ℕ
  whole = 10 * value_of xs + (c - 48)

  abbrev placed : ℕ
  placed = pick (leb 1 whole) (48 + whole % 10) 32

  opened : front_of (xs ++ (c ∷ [])) ≡ found (lefts (whole / 10)) c placed whole
  unfolding front_of found lefts
  opened =
      (λ i. pick (same (xs ++ (c ∷ [])) (front (length_more xs c i) (value_more 0 c xs i)) && ltb (value_more 0 c xs i) (2 ^ 64)) (Some (value_more 0 c xs i)) None)
      ∙ ap (λ (b : Bool). pick (b && ltb whole (2 ^ 64)) (Some whole) None)
      (ap (same (xs ++ (c ∷ []))) (front_more (length xs) whole) ∙ same_more c placed xs (front (length xs) (whole / 10)) (sym (front_length (length xs) (whole / 10))))

  closed : read_of (xs ++ (c ∷ [])) ≡ found (lefts (whole / 10)) c (48 + whole % 10) whole
  unfolding read_of found lefts
  closed =
      (λ i. pick (ltb 0 (length_more xs c i) && same (xs ++ (c ∷ [])) (natural (length_more xs c i) (value_more 0 c xs i)) && ltb (value_more 0 c xs i) (2 ^ 64))
      (Some (value_more 0 c xs i)) None)
      ∙ (λ i. pick (lt-ltb 0 (suc (length xs)) (omega arith) i && digits i && ltb whole (2 ^ 64)) (Some whole) None)
    where
      digits : same (xs ++ (c ∷ [])) (natural (suc (length xs)) whole) ≡ same xs (front (length xs) (whole / 10)) && eqb c (48 + whole % 10)
      digits =
          ap (same (xs ++ (c ∷ []))) (column_more (length xs) whole)
          ∙ same_more c (48 + whole % 10) xs (front (length xs) (whole / 10)) (sym (front_length (length xs) (whole / 10)))

  fronts : front_of xs ≡ fronted (lefts (value_of xs)) (value_of xs)
  unfolding front_of fronted lefts
  fronts = refl

  -- where the byte is a digit, the rest of the whole is its value, and the tenth is what stands left of it
  tenth : 48 ≤ c → c ≤ 57 → whole / 10 ≡ value_of xs
  tenth h k = omega arith

  unit : 48 ≤ c → c ≤ 57 → 48 + whole % 10 ≡ c
  unit h k = omega arith

  pub read_more : read_of (xs ++ (c ∷ [])) ≡ last_of (front_of xs) c
  read_more = closed ∙ go (leb 48 c) (leb c 57) refl refl ∙ ap (λ (f : Option ℕ). last_of f c) (sym fronts)
    where
      other : (48 ≤ c → c ≤ 57 → ⊥) → found (lefts (whole / 10)) c (48 + whole % 10) whole ≡ last_of (fronted (lefts (value_of xs)) (value_of xs)) c
      other h =
          nothing (lefts (whole / 10)) c (48 + whole % 10) whole (λ e. h (omega arith) (omega arith))
          ∙ last_other (lefts (value_of xs)) (value_of xs) c h

      go : (a b : Bool) → leb 48 c ≡ a → leb c 57 ≡ b → found (lefts (whole / 10)) c (48 + whole % 10) whole ≡ last_of (fronted (lefts (value_of xs)) (value_of xs)) c
      go true true e f =
          (λ i. found (lefts (tenth (leb-true 48 c e) (leb-true c 57 f) i)) c (unit (leb-true 48 c e) (leb-true c 57 f) i) whole)
          ∙ last_digit (lefts (value_of xs)) (value_of xs) c (leb-true 48 c e) (leb-true c 57 f)
      go true false e f = other (λ h k. omega (arith, leb-false c 57 f))
      go false b e f = other (λ h k. omega (arith, leb-false 48 c e))

  abbrev Goal : Type 0
  Goal = found (lefts (whole / 10)) c placed whole ≡ step_of (fronted (lefts (value_of xs)) (value_of xs)) c

  pub front_step : front_of (xs ++ (c ∷ [])) ≡ step_of (front_of xs) c
  front_step = opened ∙ go (leb 48 c) (leb c 57) refl refl ∙ ap (λ (f : Option ℕ). step_of f c) (sym fronts)
    where
      -- no digit: a blank after blanks, or nothing
      blank : value_of xs ≡ 0 → c ≡ 32 → Goal
      blank v e =
          (λ i. found (lefts (tenths i)) (e i) (placed_blank i) (nought i)) ∙ step_blank (lefts 0)
          ∙ sym (λ i. step_of (fronted (lefts (v i)) (v i)) (e i))
        where
          nought : whole ≡ 0
          nought = omega arith

          tenths : whole / 10 ≡ 0
          tenths = omega arith

          placed_blank : placed ≡ 32
          placed_blank = ap (λ (b : Bool). pick b (48 + whole % 10) 32) (lt-leb 1 whole (omega arith))

      elsewhere : (48 ≤ c → c ≤ 57 → ⊥) → (value_of xs ≡ 0 → c ≡ 32 → ⊥) → Goal
      elsewhere h b =
          nothing (lefts (whole / 10)) c placed whole (differs (leb 1 whole) refl) ∙ step_other (lefts (value_of xs)) (value_of xs) c b h
        where
          differs : (t : Bool) → leb 1 whole ≡ t → c ≡ pick t (48 + whole % 10) 32 → ⊥
          differs true e f = h (omega arith) (omega arith)
          differs false e f = b (omega (arith, leb-false 1 whole e)) f

      other : (48 ≤ c → c ≤ 57 → ⊥) → Goal
      other h = go (eqb (value_of xs) 0) (eqb c 32) refl refl
        where
          go : (a b : Bool) → eqb (value_of xs) 0 ≡ a → eqb c 32 ≡ b → Goal
          go true true e f = blank (eqb-true (value_of xs) 0 e) (eqb-true c 32 f)
          go true false e f = elsewhere h (λ v k. eqb-false c 32 f k)
          go false b e f = elsewhere h (λ v k. eqb-false (value_of xs) 0 e v)

      -- a digit: not a 0 after blanks
      digit : 48 ≤ c → c ≤ 57 → (t : Bool) → leb 1 whole ≡ t → Goal
      digit h k true e =
          (λ i. found (lefts (tenth h k i)) c ((ap (λ (b : Bool). pick b (48 + whole % 10) 32) e ∙ unit h k) i) whole)
          ∙ step_digit (lefts (value_of xs)) (value_of xs) c h k (leb-true 1 whole e)
      digit h k false e =
          (λ i. found (lefts (whole / 10)) (zero_digit i) (ap (λ (b : Bool). pick b (48 + whole % 10) 32) e i) whole)
          ∙ nothing (lefts (whole / 10)) 48 32 whole (λ f. omega arith) ∙ step_zero (lefts 0)
          ∙ sym (λ i. step_of (fronted (lefts (nought i)) (nought i)) (zero_digit i))
        where
          zero_digit : c ≡ 48
          zero_digit = omega (arith, leb-false 1 whole e)

          nought : value_of xs ≡ 0
          nought = omega (arith, leb-false 1 whole e)

      go : (a b : Bool) → leb 48 c ≡ a → leb c 57 ≡ b → Goal
      go true true e f = digit (leb-true 48 c e) (leb-true c 57 f) (leb 1 whole) refl
      go true false e f = other (λ h k. omega (arith, leb-false c 57 f))
      go false b e f = other (λ h k. omega (arith, leb-false 48 c e))

pub front_none : front_of [] ≡ Some 0
unfolding front_of front tab
front_none = refl

-- what holds no number holds none with more bytes after it
stays : (xs ys : List ℕ) → front_of xs ≡ None → front_of (xs ++ ys) ≡ None
stays xs [] e = ap front_of (append-nil xs) ∙ e
stays xs (y ∷ ys) e =
    ap front_of (sym (append_assoc xs (y ∷ []) ys)) ∙ stays (xs ++ (y ∷ [])) ys (front_step xs y ∙ ap (λ (f : Option ℕ). step_of f y) e)

pub read_stays : (l : List ℕ) (i c : ℕ) → front_of (take i l) ≡ None → read_of (l ++ (c ∷ [])) ≡ None
read_stays l i c e =
    read_more l c
    ∙ ap (λ (f : Option ℕ). last_of f c) (ap front_of (sym (take-append-drop i l)) ∙ stays (take i l) (drop i l) e)

-- the front of a byte more
pub front_more_at : (l : List ℕ) (i n : ℕ) → i < length l → Some n ≡ front_of (take i l) → step_of (Some n) (get_or l i 0) ≡ front_of (take (i + 1) l)
front_more_at l i n h e =
    ap (λ (f : Option ℕ). step_of f (get_or l i 0)) e ∙ sym (front_step (take i l) (get_or l i 0)) ∙ ap front_of (sym (take-suc l i 0 h))
    ∙ ap (λ (k : ℕ). front_of (take k l)) (sym (add-one i))

-- ---- what was written is read back
front_value : (w n : ℕ) → n < 10 ^ w → value_of (front w n) ≡ n
unfolding front tab
front_value zero n h = omega arith
front_value (suc w) n h =
    ap value_of (front_more w n) ∙ value_more 0 (pick (leb 1 n) (48 + n % 10) 32) (front w (n / 10))
    ∙ ap (λ (m : ℕ). 10 * m + (pick (leb 1 n) (48 + n % 10) 32 - 48)) (front_value w (n / 10) shorter) ∙ go (leb 1 n) refl
  where
    shorter : n / 10 < 10 ^ w
    shorter = let e = pow-suc 10 w in omega arith

    go : (t : Bool) → leb 1 n ≡ t → 10 * (n / 10) + (pick t (48 + n % 10) 32 - 48) ≡ n
    go true e = omega arith
    go false e = omega (arith, leb-false 1 n e)

column_value : (w n : ℕ) → n < 10 ^ suc w → value_of (natural (suc w) n) ≡ n
column_value w n h =
    ap value_of (column_more w n) ∙ value_more 0 (48 + n % 10) (front w (n / 10))
    ∙ ap (λ (m : ℕ). 10 * m + (48 + n % 10 - 48)) (front_value w (n / 10) shorter) ∙ omega arith
  where
    shorter : n / 10 < 10 ^ w
    shorter = let e = pow-suc 10 w in omega arith

-- every number that fits its column is read back from it
pub written_read : (w n : ℕ) → n < 10 ^ suc w → n < 2 ^ 64 → read_of (natural (suc w) n) ≡ Some n
unfolding read_of
written_read w n h k =
    (λ i. pick (ltb 0 (long i) && same (natural (suc w) n) (natural (long i) (worth i)) && ltb (worth i) (2 ^ 64)) (Some (worth i)) None)
    ∙ (λ i. pick (lt-ltb 0 (suc w) (omega arith) i && same_refl (natural (suc w) n) i && lt-ltb n (2 ^ 64) k i) (Some n) None)
  where
    long : length (natural (suc w) n) ≡ suc w
    long = column_length (suc w) false n

    worth : value_of (natural (suc w) n) ≡ n
    worth = column_value w n h

same_is : (xs ys : List ℕ) → same xs ys ≡ true → xs ≡ ys
same_is [] [] e = refl
same_is [] (y ∷ ys) e = let z : ◌≡◌ {A = ℕ} 0 1 = cc in absurd (omega arith)
same_is (x ∷ xs) [] e = let z : ◌≡◌ {A = ℕ} 0 1 = cc in absurd (omega arith)
same_is (x ∷ xs) (y ∷ ys) e = λ i. eqb-true x y (left (eqb x y) (same xs ys) e) i ∷ same_is xs ys (right (eqb x y) (same xs ys) e) i

-- and each column that is read as a number is the one that is written for it
pub read_written : (bytes : List ℕ) (n : ℕ) → read_of bytes ≡ Some n → bytes ≡ natural (length bytes) n
unfolding read_of
read_written bytes n = go _ refl
  where
    go : (t : Bool) → ltb 0 (length bytes) && same bytes (natural (length bytes) (value_of bytes)) && ltb (value_of bytes) (2 ^ 64) ≡ t
        → pick t (Some (value_of bytes)) None ≡ Some n → bytes ≡ natural (length bytes) n
    go true e f =
        same_is bytes (natural (length bytes) (value_of bytes))
        (right (ltb 0 (length bytes)) _ (left _ (ltb (value_of bytes) (2 ^ 64)) e))
        ∙ ap (natural (length bytes)) (let g : value_of bytes ≡ n = cc in g)
    go false e f = let z : ◌≡◌ {A = ℕ} 0 1 = cc in absurd (omega arith)

-- a column of no width holds no number
pub read_none : (bytes : List ℕ) → length bytes ≡ 0 → read_of bytes ≡ None
unfolding read_of
read_none bytes h =
    λ i. pick (le-ltb 0 (length bytes) (omega arith) i && same bytes (natural (length bytes) (value_of bytes)) && ltb (value_of bytes) (2 ^ 64))
    (Some (value_of bytes)) None
