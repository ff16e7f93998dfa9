-- Moves: a transfer's bounds, each less the sum and held to 64 bits, put before the sum do what they do after it. Assumes nothing.
use mathlib.Core.Path.{◌≡◌, refl, sym, ap, ◌∙◌}
use lib.IntN.{ℤ, pos, ◌+ℤ◌, ◌-ℤ◌}
use lib.Signed.{◌≤ℤ◌}
use mir.Syntax.{w64}
use mir.Val.{SFits}
use Rattle.numbers.specs.Saturation.{clamp_z, sat_z, least, most}
use Rattle.numbers.proofs.Lin.{Le, Lt, whole, le_in, le_out, eq_in, add_out, sub_out, ranged, fits_is}
use Rattle.numbers.proofs.Hold.{clamp_low, clamp_high, clamp_mid, clamp_mono, clamp_elim, clamp_shift, below, above}
use Rattle.glass.specs.declared.Transfer.{Transfer}
use Rattle.glass_tables.specs.declared.Move.{Move}
use Rattle.glass_tables.specs.Moves.{Word, moved_by, Fitting, Does}

-- ---- numbers of 64 bits
pub word : {x : ℤ} → SFits w64 x → Word x
word {x} f = let r = ranged f in record { at_least = le_in _ _ (omega whole); at_most = le_in _ _ (omega whole) }

word_in : (x : ℤ) → Le least x → Le x most → Word x
word_in x h k = record { at_least = le_in _ _ h; at_most = le_in _ _ k }

-- what is held between bounds that fit when moved fits too
pub sum_fits : (m : Move) (x : ℤ) → Fitting m → SFits w64 (moved_by m x)
sum_fits m x f =
    let al = add_out m.lo m.add in
    let ah = add_out m.hi m.add in
    let ax = add_out x m.add in
    let fl = le_out f.from.at_least in
    let fm = le_out f.from.at_most in
    let tl = le_out f.to.at_least in
    let tm = le_out f.to.at_most in
    clamp_elim x m.lo m.hi (λ w. SFits w64 (w +ℤ m.add)) (λ p. fits_is (omega whole)) (λ p q. fits_is (omega whole)) (λ p q. fits_is (omega whole))

-- ---- bounds and saturation
-- bounds of 64 bits hold a sum as they hold the saturated sum
sat_first : (z lo hi : ℤ) → Le least lo → Le lo most → Le least hi → Le hi most → clamp_z (sat_z z) lo hi ≡ clamp_z z lo hi
sat_first z lo hi a b d e =
    clamp_elim z least most (λ w. clamp_z w lo hi ≡ clamp_z z lo hi)
    (λ m. clamp_elim least lo hi (λ w. w ≡ lo) (λ p. refl) (λ p q. eq_in hi lo (omega whole)) (λ p q. eq_in least lo (omega whole)) ∙ sym (clamp_low z lo hi (omega whole)))
    (λ m n. clamp_elim most lo hi (λ w. w ≡ hi) (λ p. eq_in lo hi (omega whole)) (λ p q. refl) (λ p q. eq_in most hi (omega whole)) ∙ sym (clamp_high z lo hi (omega whole) (omega whole)))
    (λ m n. refl)

-- a state of 64 bits is held by bounds as by the saturated ones, if it could come to both
sat_bounds : (x lo hi : ℤ) → Le least x → Le x most → Le lo most → Le least hi → clamp_z x (sat_z lo) (sat_z hi) ≡ clamp_z x lo hi
sat_bounds x lo hi a b d e =
    clamp_elim x lo hi (λ w. clamp_z x (sat_z lo) (sat_z hi) ≡ w)
    (λ p. ap (λ (y : ℤ). clamp_z x y (sat_z hi)) (clamp_mid lo least most (omega whole) (omega whole)) ∙ clamp_low x lo (sat_z hi) p)
    (λ p q.
    ap (λ (y : ℤ). clamp_z x (sat_z lo) y) (clamp_mid hi least most (omega whole) (omega whole))
    ∙ clamp_high x (sat_z lo) hi (below lo least most x p a) q)
    (λ p q. clamp_mid x (sat_z lo) (sat_z hi) (below lo least most x p a) (above hi least most x q b))

undo : (b a : ℤ) → (b -ℤ a) +ℤ a ≡ b
undo b a = eq_in ((b -ℤ a) +ℤ a) b (omega (whole, add_out (b -ℤ a) a, sub_out b a))

-- ---- the move of a transfer
module _ (t : Transfer) (ta : Word t.add) (tl : Word t.lo) (th : Word t.hi) where
  abbrev lo : ℤ
  lo = t.lo -ℤ t.add

  abbrev hi : ℤ
  hi = t.hi -ℤ t.add

  -- no sum comes up to the lower bound
  pub all_below : Lt (sat_z (most +ℤ t.add)) t.lo → Does t (record { lo = t.lo; hi = t.lo; add = pos 0 })
  all_below h =
      let l = le_out tl.at_least in
      let u = le_out tl.at_most in
      let z = add_out t.lo (pos 0) in
      let stays : Word (t.lo +ℤ pos 0) = word_in _ (omega whole) (omega whole) in
      record {
        fitting = record { from = stays; to = stays };
        does = λ x w.
            let p = le_out w.at_most in
            let ax = add_out x t.add in
            let am = add_out most t.add in
            let o = le_out (clamp_mono (x +ℤ t.add) (most +ℤ t.add) least most (le_in _ _ (omega whole)) (le_in _ _ (omega whole))) in
            ap (λ (y : ℤ). y +ℤ pos 0) (clamp_elim x t.lo t.lo (λ y. y ≡ t.lo) (λ a. refl) (λ a b. refl) (λ a b. eq_in x t.lo (omega whole)))
            ∙ eq_in (t.lo +ℤ pos 0) t.lo (omega whole)
            ∙ sym (clamp_low (sat_z (x +ℤ t.add)) t.lo t.hi (omega whole));
      }

  -- some sum does, so that the lower bound less the sum is no more than the largest number
  low_le : Le t.lo (sat_z (most +ℤ t.add)) → Le lo most
  low_le h =
      let a = le_out ta.at_least in
      let u = le_out tl.at_most in
      let am = add_out most t.add in
      let s = sub_out t.lo t.add in
      clamp_elim (most +ℤ t.add) least most (λ y. Le t.lo y → Le lo most) (λ p k. omega whole) (λ p q k. omega whole) (λ p q k. omega whole) h

  pub sums : Le t.lo (sat_z (most +ℤ t.add)) → pos 0 ≤ℤ t.hi → Does t (record { lo = sat_z lo; hi = sat_z hi; add = t.add })
  sums h k =
      let a = le_out ta.at_least in
      let b = le_out ta.at_most in
      let l = le_out tl.at_least in
      let u = le_out tl.at_most in
      let v = le_out th.at_least in
      let w = le_out th.at_most in
      let n = le_out k in
      let sl = sub_out t.lo t.add in
      let sh = sub_out t.hi t.add in
      let al = add_out least t.add in
      let am = add_out most t.add in
      let bl = add_out lo t.add in
      let bh = add_out hi t.add in
      let top : Le lo most = low_le h in
      let bottom : Le least hi = omega whole in
      record {
        fitting = record {
          from = clamp_elim lo least most (λ y. Word (y +ℤ t.add))
              (λ p. word_in _ (omega whole) (omega whole))
              (λ p q. word_in _ (omega whole) (omega whole))
              (λ p q. word_in _ (omega whole) (omega whole));
          to = clamp_elim hi least most (λ y. Word (y +ℤ t.add))
              (λ p. word_in _ (omega whole) (omega whole))
              (λ p q. word_in _ (omega whole) (omega whole))
              (λ p q. word_in _ (omega whole) (omega whole));
        };
        does = λ x e.
            ap (λ (y : ℤ). y +ℤ t.add) (sat_bounds x lo hi (le_out e.at_least) (le_out e.at_most) top bottom)
            ∙ clamp_shift x lo hi t.add
            ∙ (λ i. clamp_z (x +ℤ t.add) (undo t.lo t.add i) (undo t.hi t.add i))
            ∙ sym (sat_first (x +ℤ t.add) t.lo t.hi l u v w);
      }
