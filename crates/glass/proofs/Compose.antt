-- Transfers one after the other: what `then_t` makes of two moves a state as the two do in turn, saturation and all.
-- Assumes nothing.
use mathlib.Core.Path.{◌≡◌, sym, ap, ◌∙◌}
use lib.IntN.{ℤ, pos, ◌+ℤ◌, +ℤ_assoc, +ℤ_comm}
use lib.Signed.{◌≤ℤ◌}
use Rattle.numbers.specs.Saturation.{clamp_z, sat_z, least, most}
use Rattle.numbers.proofs.Lin.{Le, whole, le_in, le_out, add_out}
use Rattle.numbers.proofs.Hold.{clamp_mono, at_least, at_most, clamp_clamp, clamp_shift, clamp_wide}
use Rattle.glass.specs.declared.Transfer.{Transfer}
use Rattle.glass.specs.Transfers.{apply_t, then_t}

-- a transfer whose bounds are states of a panel
pub record Sane (t : Transfer) (s : ℤ) : Type 0 where
  pub low : Le (pos 0) t.lo
  pub order : Le t.lo t.hi
  pub high : Le t.hi s

-- with sane bounds, saturation shows nowhere
pub apply_plain : (t : Transfer) (s x : ℤ) → Le s most → Sane t s → apply_t t x ≡ clamp_z (x +ℤ t.add) t.lo t.hi
apply_plain t s x m h = clamp_wide (x +ℤ t.add) least most t.lo t.hi (omega whole) h.order (omega whole)

-- and what it gives is a state
pub apply_low : (t : Transfer) (s x : ℤ) → Sane t s → Le (pos 0) (apply_t t x)
apply_low t s x h = omega (whole, at_least (sat_z (x +ℤ t.add)) t.lo t.hi h.order)

pub apply_high : (t : Transfer) (s x : ℤ) → Sane t s → Le (apply_t t x) s
apply_high t s x h = omega (whole, at_most (sat_z (x +ℤ t.add)) t.lo t.hi h.order)

-- the order of two states is kept
pub apply_mono : (t : Transfer) (x y : ℤ) → t.lo ≤ℤ t.hi → x ≤ℤ y → apply_t t x ≤ℤ apply_t t y
apply_mono t x y h l =
    clamp_mono _ _ t.lo t.hi h (clamp_mono (x +ℤ t.add) (y +ℤ t.add) least most (le_in least most (omega whole)) (le_in _ _ (omega (whole, add_out x t.add, add_out y t.add))))

module _ (t n : Transfer) (s x : ℤ) (m : Le s most) (ht : Sane t s) (hn : Sane n s) (x0 : Le (pos 0) x) (xs : Le x s) where
  abbrev l : ℤ
  l = clamp_z (t.lo +ℤ n.add) n.lo n.hi

  abbrev h : ℤ
  h = clamp_z (t.hi +ℤ n.add) n.lo n.hi

  -- the bounds that `then_t` makes saturate nothing
  lo_plain : clamp_z (sat_z (t.lo +ℤ n.add)) n.lo n.hi ≡ l
  lo_plain = clamp_wide _ least most n.lo n.hi (omega whole) hn.order (omega whole)

  hi_plain : clamp_z (sat_z (t.hi +ℤ n.add)) n.lo n.hi ≡ h
  hi_plain = clamp_wide _ least most n.lo n.hi (omega whole) hn.order (omega whole)

  l_h : Le l h
  l_h =
      let o = clamp_mono (t.lo +ℤ n.add) (t.hi +ℤ n.add) n.lo n.hi (le_in _ _ hn.order) (le_in _ _ (omega (whole, add_out t.lo n.add, add_out t.hi n.add))) in
      le_out o

  l_0 : Le (pos 0) l
  l_0 = omega (whole, at_least (t.lo +ℤ n.add) n.lo n.hi hn.order)

  h_s : Le h s
  h_s = omega (whole, at_most (t.hi +ℤ n.add) n.lo n.hi hn.order)

  -- two drives, of which the sum saturates, move x as the exact sum does
  sum_plain : clamp_z (x +ℤ sat_z (t.add +ℤ n.add)) l h ≡ clamp_z (x +ℤ (t.add +ℤ n.add)) l h
  sum_plain =
      let k = t.add +ℤ n.add in
      let al = add_out least x in
      let am = add_out most x in
      let u = l_0 in
      let v = l_h in
      let w = h_s in
      ap (λ (y : ℤ). clamp_z y l h) (+ℤ_comm x (sat_z k) ∙ clamp_shift k least most x)
      ∙ clamp_wide (k +ℤ x) (least +ℤ x) (most +ℤ x) l h (omega whole) l_h (omega whole)
      ∙ ap (λ (y : ℤ). clamp_z y l h) (+ℤ_comm k x)

  pub then_sane : Sane (then_t t n) s
  then_sane =
      let e = lo_plain in
      let f = hi_plain in
      let u = l_0 in
      let v = l_h in
      let w = h_s in
      record { low = omega whole; order = omega whole; high = omega whole }

  pub then_apply : apply_t (then_t t n) x ≡ apply_t n (apply_t t x)
  then_apply =
      apply_plain (then_t t n) s x m then_sane
      ∙ (λ i. clamp_z (x +ℤ sat_z (t.add +ℤ n.add)) (lo_plain i) (hi_plain i))
      ∙ sum_plain
      ∙ sym
      (ap (λ (y : ℤ). clamp_z (y +ℤ n.add) n.lo n.hi) (apply_plain t s x m ht)
      ∙ ap (λ (y : ℤ). clamp_z y n.lo n.hi) (clamp_shift (x +ℤ t.add) t.lo t.hi n.add)
      ∙ clamp_clamp _ (t.lo +ℤ n.add) (t.hi +ℤ n.add) n.lo n.hi (omega (whole, add_out t.lo n.add, add_out t.hi n.add)) hn.order
      ∙ ap (λ (y : ℤ). clamp_z y l h) (+ℤ_assoc x t.add n.add))
      ∙ sym (apply_plain n s (apply_t t x) m hn)

-- three in turn, grouped either way: the sums may saturate apart, and no state from 0 to the swing shows it
pub then_assoc : (t n u : Transfer) (s x : ℤ) → Le s most → Sane t s → Sane n s → Sane u s → Le (pos 0) x → Le x s
    → apply_t (then_t (then_t t n) u) x ≡ apply_t (then_t t (then_t n u)) x
then_assoc t n u s x m ht hn hu x0 xs =
    then_apply (then_t t n) u s x m (then_sane t n s x m ht hn x0 xs) hu x0 xs
    ∙ ap (apply_t u) (then_apply t n s x m ht hn x0 xs)
    ∙ sym (then_apply n u s (apply_t t x) m hn hu (apply_low t s x ht) (apply_high t s x ht))
    ∙ sym (then_apply t (then_t n u) s x m ht (then_sane n u s x m hn hu x0 xs) x0 xs)
