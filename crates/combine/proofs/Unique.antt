-- Two transfers that act as one function do are one transfer, but for what is added where their ends have met. Assumes nothing.
use mathlib.Core.Path.{◌≡◌, refl, sym, ◌∙◌}
use mathlib.Core.Bool.{Bool, true, false}
use Prim.Native.Nat.{ℕ, ◌+◌, ◌≤◌, ◌<◌}
use native.Mathlib.Omega.{arith}
use lib.IntN.{ℤ, pos, nat_abs, ◌+ℤ◌, ◌-ℤ◌}
use lib.Signed.{le_z}
use Rattle.numbers.specs.Choice.{pick}
use Rattle.numbers.specs.Saturation.{clamp_z, sat_z}
use Rattle.numbers.proofs.Lin.{Le, Lt, whole, add_out, sub_out, abs_pos, eq_in}
use Rattle.numbers.proofs.Hold.{clamp_elim, clamp_mid, at_least, at_most}
use Rattle.glass.specs.declared.Transfer.{Transfer}
use Rattle.glass.specs.Transfers.{apply_t}
use Rattle.glass.proofs.Compose.{apply_plain}
use Rattle.combine.specs.Acts.{ActsAs}
use Rattle.combine.specs.Settled.{Alike, settled}
use Rattle.combine.proofs.Powers.{sane}

-- what is held above the low end was no less before
held_above : (z lo hi : ℤ) → Le lo hi → Lt lo (clamp_z z lo hi) → Le (clamp_z z lo hi) z
held_above z lo hi o = clamp_elim z lo hi (λ w. Lt lo w → Le w z) (λ a l. omega whole) (λ a b l. omega whole) (λ a b l. omega whole)

-- what is held below the high end was no more
held_below : (z lo hi : ℤ) → Lt (clamp_z z lo hi) hi → Le lo hi → Le z (clamp_z z lo hi)
held_below z lo hi = clamp_elim z lo hi (λ w. Lt w hi → Le lo hi → Le z w) (λ a l o. omega whole) (λ a b l o. omega whole) (λ a b l o. omega whole)

module _ (S : ℕ) (room : S ≤ 9223372036854775807) (f : ℕ → ℕ) (apart : f 0 < f S) where
  -- t takes x, the state just above those that it takes to its low end, to lo + 1, and so u does
  add_le : {t u : Transfer} → ActsAs S t f → ActsAs S u f → Le t.add u.add
  add_le {t} {u} a b =
      let st = sane a in
      let su = sane b in
      let lo = a.low in
      let hi = a.high in
      let lo' = b.low in
      let hi' = b.high in
      let p0 = sym (apply_plain t (pos S) (pos 0) (omega whole) st) ∙ a.is 0 (omega arith) in
      let pS = sym (apply_plain t (pos S) (pos S) (omega whole) st) ∙ a.is S (omega arith) in
      let a0 = add_out (pos 0) t.add in
      let aS = add_out (pos S) t.add in
      let low = held_below (pos 0 +ℤ t.add) t.lo t.hi (omega whole) st.order in
      let high = held_above (pos S +ℤ t.add) t.lo t.hi st.order (omega whole) in
      let gap = t.lo -ℤ t.add in
      let g = sub_out t.lo t.add in
      let x = nat_abs gap + 1 in
      let n = abs_pos gap (omega whole) in
      let within : x ≤ S = omega whole in
      let ax = add_out (pos x) t.add in
      let px : apply_t t (pos x) ≡ pos x +ℤ t.add =
      apply_plain t (pos S) (pos x) (omega whole) st ∙ clamp_mid (pos x +ℤ t.add) t.lo t.hi (omega whole) (omega whole) in
      let fx : pos x +ℤ t.add ≡ pos (f x) = sym px ∙ a.is x within in
      let qx = sym (apply_plain u (pos S) (pos x) (omega whole) su) ∙ b.is x within in
      let up = held_above (pos x +ℤ u.add) u.lo u.hi su.order (omega whole) in
      let bx = add_out (pos x) u.add in
      omega whole

pub unique : (S : ℕ) → S ≤ 9223372036854775807 → (f : ℕ → ℕ) {t u : Transfer} → ActsAs S t f → ActsAs S u f → settled t ≡ settled u
unfolding settled
unique S room f {t} {u} a b = by (le_z t.hi t.lo) refl
  where
    lo : t.lo ≡ u.lo
    lo = a.low ∙ sym b.low

    hi : t.hi ≡ u.hi
    hi = a.high ∙ sym b.high

    by : (met : Bool) → le_z t.hi t.lo ≡ met
        → pick (le_z t.hi t.lo) (record { add = pos 0; lo = t.lo; hi = t.hi }) t ≡ pick (le_z u.hi u.lo) (record { add = pos 0; lo = u.lo; hi = u.hi }) u
    by true h = rw (h, sym (λ i. le_z (hi i) (lo i)) ∙ h) (λ i. record { add = pos 0; lo = lo i; hi = hi i })
    by false h =
        let l = a.low in
        let m = a.high in
        let apart : f 0 < f S = omega whole in
        let p = add_le S room f apart a b in
        let q = add_le S room f apart b a in
        rw (h, sym (λ i. le_z (hi i) (lo i)) ∙ h) (λ i. record { add = eq_in t.add u.add (omega whole) i; lo = lo i; hi = hi i })

-- settling changes nothing that a transfer does, to any number
pub settled_alike : (t : Transfer) → Le t.lo t.hi → Alike (settled t) t
unfolding settled
settled_alike t o z = by (le_z t.hi t.lo) refl
  where
    one : (y : ℤ) → Le t.hi t.lo → clamp_z y t.lo t.hi ≡ t.lo
    one y h = eq_in _ _ (omega (whole, at_least y t.lo t.hi o, at_most y t.lo t.hi o))

    by : (met : Bool) → le_z t.hi t.lo ≡ met → apply_t (pick (le_z t.hi t.lo) (record { add = pos 0; lo = t.lo; hi = t.hi }) t) z ≡ apply_t t z
    by true h = rw h (one (sat_z (z +ℤ pos 0)) (omega whole) ∙ sym (one (sat_z (z +ℤ t.add)) (omega whole)))
    by false h = rw h
