-- A number of digits, a digit more, and how large it can be. Assumes nothing.
use mathlib.Core.Path.{◌≡◌, refl, sym, ap, ◌∙◌}
use Prim.Native.Nat.{ℕ, zero, suc, ◌+◌, ◌-◌, ◌*◌, ◌^◌, ◌≤◌}
use native.Mathlib.Nat.{pow-suc}
use native.Mathlib.Numerals.{add-one}
use native.Mathlib.Omega.{arith}
use Rattle.numbers.specs.Lists.{tab}
use Rattle.column.specs.Reading.{value_from, value_of}

pub value_none : (f : ℕ → ℕ) → 0 ≡ value_of (tab 0 f)
unfolding tab
value_none f = refl

value_suc : (w n : ℕ) (f : ℕ → ℕ) → value_from n (tab (suc w) f) ≡ 10 * value_from n (tab w f) + (f w - 48)
unfolding tab
value_suc zero n f = refl
value_suc (suc w) n f = value_suc w (10 * n + (f 0 - 48)) (λ k. f (suc k))

pub value_more : (w : ℕ) (f : ℕ → ℕ) (n d : ℕ) → n ≡ value_of (tab w f) → d ≡ f w - 48 → 10 * n + d ≡ value_of (tab (w + 1) f)
value_more w f n d e h = rw (e, h) (sym (value_suc w 0 f) ∙ ap (λ (k : ℕ). value_of (tab k f)) (sym (add-one w)))

-- with digits from bytes, so up to 207 each
abbrev pub Bounded : ℕ → ℕ → Type 0
Bounded i n = 9 * n + 207 ≤ 207 * 10 ^ i

pub bounded_more : (i n d : ℕ) → Bounded i n → d ≤ 207 → Bounded (i + 1) (10 * n + d)
bounded_more i n d b h = let e = ap (λ (k : ℕ). 10 ^ k) (add-one i) ∙ pow-suc 10 i in omega (arith, e)

-- of seven digits
power : (i : ℕ) → i ≤ 7 → 10 ^ i ≤ 10000000
power zero l = omega arith
power (suc zero) l = omega arith
power (suc (suc zero)) l = omega arith
power (suc (suc (suc zero))) l = omega arith
power (suc (suc (suc (suc zero)))) l = omega arith
power (suc (suc (suc (suc (suc zero))))) l = omega arith
power (suc (suc (suc (suc (suc (suc zero)))))) l = omega arith
power (suc (suc (suc (suc (suc (suc (suc zero))))))) l = omega arith
power (suc (suc (suc (suc (suc (suc (suc (suc i)))))))) l = absurd (omega arith)

pub bounded : (i n : ℕ) → i ≤ 7 → Bounded i n → n ≤ 230000000
bounded i n l b = omega (arith, power i l)
