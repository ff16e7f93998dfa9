-- Transfers that act as functions do: one after the other, and one again and again. Assumes nothing.
use mathlib.Core.Path.{◌≡◌, refl, sym, ap, subst, ◌∙◌}
use Prim.Native.Nat.{ℕ, zero, suc, ◌+◌, ◌*◌, ◌/◌, ◌%◌, ◌≤◌, ◌<◌}
use native.Mathlib.Omega.{arith}
use native.Mathlib.Nat.{mul-add, add-mul, mul-one, one-mul, add-zero, add-suc}
use lib.IntN.{ℤ, pos, negsuc, nat_abs}
use lib.Signed.{◌≤ℤ◌}
use mir.Syntax.{w64}
use mir.Val.{SFits}
use Rattle.numbers.proofs.Lin.{whole, le_in, le_out}
use Rattle.glass.specs.declared.Transfer.{Transfer}
use Rattle.glass.specs.Transfers.{apply_t, then_t, identity_t}
use Rattle.glass.proofs.Compose.{Sane, then_apply, apply_mono}
use Rattle.glass.proofs.Exactly.{Moves, moves_start}
use Rattle.combine.specs.Acts.{ActsAs, again, Repeated}

-- ---- one after the other
pub sane : {S : ℕ} {t : Transfer} {f : ℕ → ℕ} → ActsAs S t f → Sane t (pos S)
sane {S} {t} {f} a =
    let l = a.low in
    let h = a.high in
    let o = a.order in
    let w = a.within S (omega arith) in
    record { low = omega whole; order = omega whole; high = omega whole }

module _ (S : ℕ) (room : S ≤ 9223372036854775807) where
  -- a transfer keeps the order of states
  moves_mono : {t : Transfer} {f : ℕ → ℕ} → Moves S t f → (x y : ℕ) → x ≤ y → y ≤ S → f x ≤ f y
  moves_mono {t} {f} m x y h k =
      let p = m x (omega arith) in
      let q = m y k in
      let s = p.sane in
      let l = apply_mono t (pos x) (pos y) (le_in _ _ s.order) (le_in _ _ (omega whole)) in
      omega (arith, le_out (subst (λ (z : ℤ). z ≤ℤ pos (f y)) p.is (subst (λ (z : ℤ). apply_t t (pos x) ≤ℤ z) q.is l)))

  -- of the second only what it does to states counts: the ends of both together are where it takes those of the first
  pub acts_then : {t u : Transfer} {f g : ℕ → ℕ} → ActsAs S t f → Moves S u g → ActsAs S (then_t t u) (λ x. g (f x))
  acts_then {t} {u} {f} {g} a m =
      record {
        is = λ x h. then_apply t u (pos S) (pos x) (omega whole) (sane a) (m (f x) (a.within x h)).sane (omega whole) (omega whole)
            ∙ ap (apply_t u) (a.is x h)
            ∙ (m (f x) (a.within x h)).is;
        within = λ x h. (m (f x) (a.within x h)).within;
        low = ap (apply_t u) a.low ∙ (m (f 0) (a.within 0 (omega arith))).is;
        high = ap (apply_t u) a.high ∙ (m (f S) (a.within S (omega arith))).is;
        order = moves_mono m (f 0) (f S) a.order (a.within S (omega arith));
      }

  moves_of : {t : Transfer} {f : ℕ → ℕ} → ActsAs S t f → Moves S t f
  moves_of a x h = record { sane = sane a; is = a.is x h; within = a.within x h }

  pub acts_start : ActsAs S (identity_t (pos S)) (λ x. x)
  acts_start = record { is = λ x h. (moves_start S room x h).is; within = λ x h. h; low = refl; high = refl; order = omega arith }

  -- a function that is the same on states
  pub acts_as : {t : Transfer} {f g : ℕ → ℕ} → ((x : ℕ) → x ≤ S → f x ≡ g x) → ActsAs S t f → ActsAs S t g
  acts_as {t} {f} {g} e a =
      record {
        is = λ x h. a.is x h ∙ ap pos (e x h);
        within = λ x h. let p = e x h in let w = a.within x h in omega arith;
        low = a.low ∙ ap pos (e 0 (omega arith));
        high = a.high ∙ ap pos (e S (omega arith));
        order = let p = e 0 (omega arith) in let q = e S (omega arith) in let o = a.order in omega arith;
      }

-- ---- again and again
again_add : (a b : ℕ) (f : ℕ → ℕ) (x : ℕ) → again b f (again a f x) ≡ again (a + b) f x
unfolding again
again_add a zero f x = ap (λ (n : ℕ). again n f x) (sym (add-zero a))
again_add a (suc b) f x = ap f (again_add a b f x) ∙ ap (λ (n : ℕ). again n f x) (sym (add-suc a b))

-- r acts as t does, n times
pub record Power (t : Transfer) (n : ℕ) (r : Transfer) : Type 0 where
  pub acts : (S : ℕ) → S ≤ 9223372036854775807 → (f : ℕ → ℕ) → ActsAs S t f → ActsAs S r (again n f)

power_then : {t u v : Transfer} {a b : ℕ} → Power t a u → Power t b v → Power t (a + b) (then_t u v)
power_then {t} {u} {v} {a} {b} p q =
    record { acts = λ S room f e. acts_as S room (λ x h. again_add a b f x) (acts_then S room (p.acts S room f e) (moves_of S room (q.acts S room f e))) }

repeated_then : {from t u v : Transfer} {a b : ℕ} → Repeated from t a u → Power t b v → Repeated from t (a + b) (then_t u v)
repeated_then {from} {t} {u} {v} {a} {b} p q =
    record {
      acts = λ S room f g d e. acts_as S room (λ x h. again_add a b f (g x)) (acts_then S room (p.acts S room f g d e) (moves_of S room (q.acts S room f e)));
    }

pub repeated_none : (from t : Transfer) → Repeated from t 0 from
unfolding again
repeated_none from t = record { acts = λ S room f g d e. d }

-- ---- the loop over the count
-- `done` has t a times, `power` b times, and the b × left times that are left make n
pub record Halving (from t : Transfer) (n : ℕ) (done power : Transfer) (left : ℕ) : Type 0 where
  pub a : ℕ
  pub b : ℕ
  pub sum : a + b * left ≡ n
  pub some : 1 ≤ left
  pub so_far : Repeated from t a done
  pub step : Power t b power

pub halving_of : {from t : Transfer} {n : ℕ} {done power d p : Transfer} {k : ℕ} → d ≡ done → p ≡ power → Halving from t n done power k → Halving from t n d p k
halving_of {from} {t} {n} {done} {power} {d} {p} {k} e f h =
    subst (λ (u : Transfer). Halving from t n u p k) (sym e) (subst (λ (u : Transfer). Halving from t n done u k) (sym f) h)

pub halving_start : (from t : Transfer) (n : ℕ) → 1 ≤ n → Halving from t n from t n
unfolding again
halving_start from t n h =
    record { a = 0; b = 1; sum = ap (λ (m : ℕ). 0 + m) (one-mul n) ∙ omega arith; some = h; so_far = repeated_none from t; step = record { acts = λ S room f e. e } }

double : (b k : ℕ) → (b + b) * (k / 2) ≡ b * (2 * (k / 2))
double b k = add-mul b b (k / 2) ∙ sym (ap (λ (m : ℕ). b * m) two ∙ mul-add b (k / 2) (k / 2))
  where
    two : 2 * (k / 2) ≡ k / 2 + k / 2
    two = omega arith

pub halving_odd : {from t : Transfer} {n k : ℕ} {done power : Transfer} → 1 < k → k % 2 ≡ 1 → Halving from t n done power k
    → Halving from t n (then_t done power) (then_t power power) (k / 2)
halving_odd {k} l o h =
    let e : k ≡ 2 * (k / 2) + 1 = omega arith in
    let f : h.b * k ≡ h.b * (2 * (k / 2)) + h.b =
    ap (λ (m : ℕ). h.b * m) e ∙ mul-add h.b (2 * (k / 2)) 1 ∙ ap (λ (m : ℕ). h.b * (2 * (k / 2)) + m) (mul-one h.b) in
    record {
      a = h.a + h.b;
      b = h.b + h.b;
      sum = let s = h.sum in omega (arith, double h.b k);
      some = omega arith;
      so_far = repeated_then h.so_far h.step;
      step = power_then h.step h.step;
    }

pub halving_even : {from t : Transfer} {n k : ℕ} {done power : Transfer} → 1 < k → (k % 2 ≡ 1 → ⊥) → Halving from t n done power k
    → Halving from t n done (then_t power power) (k / 2)
halving_even {k} l o h =
    let e : k ≡ 2 * (k / 2) = omega arith in
    let f : h.b * k ≡ h.b * (2 * (k / 2)) = ap (λ (m : ℕ). h.b * m) e in
    record {
      a = h.a;
      b = h.b + h.b;
      sum = let s = h.sum in omega (arith, double h.b k);
      some = omega arith;
      so_far = h.so_far;
      step = power_then h.step h.step;
    }

pub halving_end : {from t : Transfer} {n k : ℕ} {done power r : Transfer} → (1 < k → ⊥) → r ≡ then_t done power → Halving from t n done power k → Repeated from t n r
halving_end {from} {t} {n} {k} {done} {power} {r} l q h =
    let one : k ≡ 1 = let s = h.some in omega arith in
    let z : h.b * k ≡ h.b = ap (λ (m : ℕ). h.b * m) one ∙ mul-one h.b in
    subst (λ (u : Transfer). Repeated from t n u) (sym q)
    (subst (λ (m : ℕ). Repeated from t m (then_t done power)) (let s = h.sum in omega arith) (repeated_then h.so_far h.step))

-- ---- a swing as a natural number
pub record Swing (z : ℤ) : Type 0 where
  pub is : z ≡ pos (nat_abs z)
  pub some : 1 ≤ nat_abs z
  pub room : nat_abs z ≤ 9223372036854775807

pub swing_is : {z : ℤ} → SFits w64 z → pos 1 ≤ℤ z → Swing z
swing_is {z = pos n} f h = record { is = refl; some = omega (arith, le_out h); room = omega (arith, f.sfits) }
swing_is {z = negsuc n} f h = absurd (omega (arith, le_out h))
