-- What a passed test says. Assumes nothing.
use mathlib.Core.Path.{◌≡◌, refl, sym, subst}
use mathlib.Core.Bool.{Bool, true, false, ◌&&◌}
use mathlib.Core.List.{List}
use Prim.Native.Nat.{ℕ, zero, suc, ◌+◌, ◌*◌, ◌^◌, ◌≤◌, ◌<◌}
use native.Mathlib.Nat.{not-suc-le-zero, le_of_suc-le-suc}
use native.Mathlib.Omega.{arith}
use lib.Dec.{eqb, ltb, leb}
use lib.IntN.{ℤ, pos}
use lib.Signed.{le_z, ◌≤ℤ◌}
use lib.ListN.{get_or}
use borrow.Author.Tests.{eqb-true, eqb-false, ltb-true, leb-true}
use Rattle.numbers.specs.Choice.{pick}
use Rattle.numbers.proofs.Cases.{left, right}
use Rattle.numbers.proofs.Lin.{le_in, le_true}
use Rattle.config.specs.Lowest.{lowest}
use Rattle.config.specs.Tests.{zero_period}
use Rattle.config.specs.declared.PanelGeometry.{PanelGeometry}
use Rattle.bench.specs.Asked.{lasting, grayable, walkable, combinable, countable, scannable, finishable}
use Rattle.bench.specs.Made.{geometry_of}

-- a search that finds nothing passed over every number
none_passes : (p : ℕ → Bool) (n : ℕ) → lowest p n ≡ n → (k : ℕ) → k < n → p k ≡ false
unfolding lowest
none_passes p zero e k l = absurd (not-suc-le-zero l)
none_passes p (suc n) e k l = by (p 0) refl e (λ e k l. none_passes (λ k. p (suc k)) n e k l) k l
  where
    by : (t : Bool) → p 0 ≡ t → pick t 0 (suc (lowest (λ k. p (suc k)) n)) ≡ suc n
        → (lowest (λ k. p (suc k)) n ≡ n → (k : ℕ) → k < n → p (suc k) ≡ false) → (k : ℕ) → k < suc n → p k ≡ false
    by true h e later k l = absurd (omega arith)
    by false h e later zero l = h
    by false h e later (suc k) l = later (omega arith) k (le_of_suc-le-suc l)

pub lasts : (p : List ℕ) → lasting p ≡ true → (code : ℕ) → code < 16 → 0 < get_or p code 0
unfolding lasting
lasts p e code l =
    let h = eqb-false (get_or p code 0) 0 (none_passes (λ k. eqb (get_or p k 0) 0) 16 (eqb-true (zero_period p) 16 e) code l) in
    omega (arith, h)

pub gray_some : (swing : ℤ) (states pixels : ℕ) → grayable swing states pixels ≡ true → pos 1 ≤ℤ swing
unfolding grayable
gray_some swing states pixels e = le_in (pos 1) swing (le_true (pos 1) swing (left (le_z (pos 1) swing) (eqb pixels states) e))

pub gray_long : (swing : ℤ) (states pixels : ℕ) → grayable swing states pixels ≡ true → pixels ≡ states
unfolding grayable
gray_long swing states pixels e = eqb-true pixels states (right (le_z (pos 1) swing) (eqb pixels states) e)

pub walk_lasts : (p : List ℕ) (lut : ℕ) → walkable p lut ≡ true → (code : ℕ) → code < 16 → 0 < get_or p code 0
unfolding walkable
walk_lasts p lut e = lasts p (left (lasting p) (ltb lut 5) e)

pub walk_lut : (p : List ℕ) (lut : ℕ) → walkable p lut ≡ true → lut < 5
unfolding walkable
walk_lut p lut e = ltb-true lut 5 (right (lasting p) (ltb lut 5) e)

pub combine_walks : (p : List ℕ) (lut : ℕ) (swing : ℤ) → combinable p lut swing ≡ true → walkable p lut ≡ true
unfolding combinable
combine_walks p lut swing e = left (walkable p lut) (le_z (pos 1) swing) e

pub combine_some : (p : List ℕ) (lut : ℕ) (swing : ℤ) → combinable p lut swing ≡ true → pos 1 ≤ℤ swing
unfolding combinable
combine_some p lut swing e = le_in (pos 1) swing (le_true (pos 1) swing (right (walkable p lut) (le_z (pos 1) swing) e))

module _ (p : List ℕ) (swing : ℤ) (states luts pixels counts : ℕ) (e : finishable p swing states luts pixels counts ≡ true) where
  abbrev glass : Bool
  glass = (lasting p && grayable swing states pixels) && eqb luts states

  fits : glass ≡ true
  unfolding finishable
  fits = left glass (countable states counts) e

  both : lasting p && grayable swing states pixels ≡ true
  both = left (lasting p && grayable swing states pixels) (eqb luts states) fits

  counted : countable states counts ≡ true
  unfolding finishable
  counted = right glass (countable states counts) e

  pub finish_lasts : (code : ℕ) → code < 16 → 0 < get_or p code 0
  finish_lasts = lasts p (left (lasting p) (grayable swing states pixels) both)

  pub finish_grays : grayable swing states pixels ≡ true
  finish_grays = right (lasting p) (grayable swing states pixels) both

  pub finish_luts : luts ≡ states
  finish_luts = eqb-true luts states (right (lasting p && grayable swing states pixels) (eqb luts states) fits)

  pub finish_counts : counts ≡ 256
  unfolding countable
  finish_counts = eqb-true counts 256 (left (eqb counts 256) (ltb states (2 ^ 32)) counted)

  pub finish_few : states < 2 ^ 32
  unfolding countable
  finish_few = ltb-true states (2 ^ 32) (right (eqb counts 256) (ltb states (2 ^ 32)) counted)

module _ (luts gates red black_white width height first : ℕ) where
  abbrev Scans : PanelGeometry → Type 0
  Scans g =
      (luts ≡ g.height * g.width)
      × ((gates ≡ g.height) × ((red ≡ 81600) × ((black_white ≡ 81600) × (g.first_source + g.width ≤ 960))))

  pub scan_asked : (columns sm gd rows : Bool) (g : PanelGeometry) → g ≡ geometry_of width height first columns sm gd rows → scannable luts gates red black_white width height first ≡ true → Scans g
  unfolding scannable
  scan_asked columns sm gd rows g made e =
      let glass = eqb luts (height * width) && eqb gates height in
      let planes = eqb red 81600 && eqb black_white 81600 in
      let four = left (glass && planes) (leb (first + width) 960) e in
      let two = left glass planes four in
      let others = right glass planes four in
      subst Scans (sym made) (
        eqb-true luts (height * width) (left (eqb luts (height * width)) (eqb gates height) two),
        (
          eqb-true gates height (right (eqb luts (height * width)) (eqb gates height) two),
          (
            eqb-true red 81600 (left (eqb red 81600) (eqb black_white 81600) others),
            (
              eqb-true black_white 81600 (right (eqb red 81600) (eqb black_white 81600) others),
              leb-true (first + width) 960 (right (glass && planes) (leb (first + width) 960) e),
            ),
          ),
        ),
      )
