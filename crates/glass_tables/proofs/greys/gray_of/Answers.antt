-- `glass_tables::greys::gray_of` meets its contract. Assumes nothing.
use mathlib.Core.Path.{◌≡◌, sym, ap, ◌∙◌}
use mathlib.Core.List.{List}
use Prim.Native.Nat.{ℕ, ◌+◌, ◌*◌, ◌/◌, ◌^◌, ◌≤◌, ◌<◌}
use native.Mathlib.Omega.{arith}
use lib.ListN.{get_or}
use lib.Pow.{shr_mono}
use lib.IntN.{pos, nat_abs}
use lib.Signed.{pos-nat_abs}
use Rattle.numbers.specs.Lists.{tab}
use Rattle.numbers.proofs.Lin.{whole, ranged, back, unsigned, abs_pos, abs_back, is_le}
use Rattle.numbers.proofs.Painted.{get_d_tab}
use Rattle.glass.specs.Greys.{gray_z}
use Rattle.glass_tables.specs.Greys.{bits_of, firsts_of, grey_end, ends_of}
use Rattle.glass.proofs.Grey.{gray_low, gray_high}
use Rattle.glass_tables.proofs.Found.{bits_pos, bits_within, within_lt, gray_within, first_le, past, before}
use borrow.Author.Tests.{ltb-true, ltb-false}
use Rattle.glass_tables.proofs.greys.gray_of.Goals.{After-bits-found, Else-swing-found, Start, Then-ends-first}
use Rattle.glass_tables.proofs.greys.gray_of.Goals as goal

pub overflow_cast-swing : goal.overflow_cast-swing
overflow_cast-swing c =
    let s = c in
    unsigned s.ranges.swing (omega (whole, ranged s.ranges.swing, s.requires.some))

found_is : (c : After-bits-found) → c.bits-found.result ≡ bits_of c.args.state
found_is c = c.bits-found.ensures ∙ ap bits_of (back c.ranges.state)

-- ---- a state that is not from 0 to the swing
pub returns-then-state-lt0 : goal.returns-then-state-lt0
returns-then-state-lt0 c =
    let s = c in
    gray_low s.args.state _ s.requires.some (is_le s.args.state (pos 0) (omega (whole, ranged s.ranges.state)))

pub returns-else-state-lt0 : goal.returns-else-state-lt0
returns-else-state-lt0 c =
    let call = c in
    let s = call in
    let f = ranged s.ranges.state in
    let g = ranged s.ranges.swing in
    let x = abs_pos s.args.state (omega whole) in
    let n = abs_pos s.args.swing (omega (whole, s.requires.some)) in
    let b = bits_pos s.args.state (omega whole) in
    gray_high s.args.state s.args.swing s.requires.some
    (is_le s.args.swing s.args.state (omega (whole, abs_back s.ranges.swing, found_is c.before.before, ltb-true, c.if-swing-found.true)))

-- ---- a state from 0 to the swing
abbrev start : Else-swing-found → Start
start c = c.before.before

abbrev x : Else-swing-found → ℕ
x c = c.bits-found.result

abbrev n : Else-swing-found → ℕ
n c = nat_abs (start c).args.swing

abbrev k : Else-swing-found → ℕ
k c = (start c).args.shift

record Within (c : Else-swing-found) : Type 0 where
  pub below : x c ≤ n c
  pub some : 1 ≤ n c
  pub state : pos (x c) ≡ (start c).args.state
  pub swing : pos (n c) ≡ (start c).args.swing

within : (c : Else-swing-found) → Within c
within c =
    let s = start c in
    let o = s.requires.some in
    let e = found_is c.before in
    let f = ranged s.ranges.state in
    let g = ranged s.ranges.swing in
    let v = abs_pos s.args.swing (omega whole) in
    let b : x c ≤ n c = omega (arith, abs_back s.ranges.swing, ltb-false, c.if-swing-found.false) in
    record {
      below = b;
      some = omega whole;
      state = ap pos e ∙ bits_within s.args.state (n c) (omega whole) (omega whole) (omega arith);
      swing = ap pos (sym (abs_back s.ranges.swing)) ∙ pos-nat_abs _ (unsigned s.ranges.swing (omega whole)).0 ∙ back s.ranges.swing;
    }

step_lt : (c : Else-swing-found) → x c / 2 ^ k c < 512
step_lt c = let w = within c in omega (arith, shr_mono (k c) w.below, (start c).requires.steps.few)

pub bounds-firsts-found : goal.bounds-firsts-found
bounds-firsts-found c = step_lt c.before.before

-- the grey that the state's step begins with
abbrev l : Else-swing-found → ℕ
l c = (510 * (x c / 2 ^ k c * 2 ^ k c) + n c) / (2 * n c)

abbrev first : Else-swing-found → ℕ
first c = get_or (start c).args.firsts.now (x c / 2 ^ k c) 0

first_is : (c : Else-swing-found) → first c ≡ l c
unfolding firsts_of
first_is c =
    let s = start c in
    let w = within c in
    ap (λ (ls : List ℕ). get_or ls (x c / 2 ^ k c) 0) s.requires.firsts_are
    ∙ get_d_tab 512 (λ step. gray_z (pos (step * 2 ^ k c)) s.args.swing) (x c / 2 ^ k c) 0 (step_lt c)
    ∙ ap (gray_z _) (sym w.swing)
    ∙ sym (gray_within _ (n c) (let b = first_le (x c) (n c) (k c) w.some s.requires.steps.fine in omega arith) w.some)

l_lt : (c : Else-swing-found) → l c < 256
l_lt c =
    let s = start c in
    let w = within c in
    within_lt _ (n c) (let b = first_le (x c) (n c) (k c) w.some s.requires.steps.fine in omega arith) w.some

end_is : (c : Else-swing-found) → get_or (start c).args.ends.now (first c) 0 ≡ grey_end (n c) (l c)
unfolding ends_of
end_is c =
    let s = start c in
    ap (λ (es : List ℕ). get_or es (first c) 0) s.requires.ends_are
    ∙ ap (λ (g : ℕ). get_or (tab 256 (grey_end (n c))) g 0) (first_is c)
    ∙ get_d_tab 256 (grey_end (n c)) (l c) 0 (l_lt c)

-- the grey, if it is found
is : (c : Else-swing-found) (g : ℕ) → g ≡ (510 * x c + n c) / (2 * n c) → g ≡ gray_z (start c).args.state (start c).args.swing
is c g e = let w = within c in e ∙ gray_within (x c) (n c) w.below w.some ∙ (λ i. gray_z (w.state i) (w.swing i))

pub overflow_cast-first : goal.overflow_cast-first
overflow_cast-first c = record { fits = omega (arith, first_is c.before.before.before, l_lt c.before.before.before) }

pub offset_bounds-ends-first : goal.offset_bounds-ends-first
offset_bounds-ends-first c = record { fits = omega (arith, first_is c.before.before.before, l_lt c.before.before.before) }

pub bounds-ends-first : goal.bounds-ends-first
bounds-ends-first c = omega (arith, first_is c.before.before.before.before, l_lt c.before.before.before.before)

next : (c : Then-ends-first) → l c.before.before.before.before.before.before + 1 ≡ (510 * x c.before.before.before.before.before.before + n c.before.before.before.before.before.before) / (2 * n c.before.before.before.before.before.before)
next c =
    let e = c in
    let w = within c.before.before.before.before.before.before in
    past (x c.before.before.before.before.before.before) (n c.before.before.before.before.before.before) (k c.before.before.before.before.before.before) w.some (start c.before.before.before.before.before.before).requires.steps.fine (omega (arith, end_is c.before.before.before.before.before.before, c.if-ends-first.true))

pub overflow_add-result : goal.overflow_add-result
overflow_add-result c =
    let e = c in
    let w = within c.before.before.before.before.before.before in
    record { fits = omega (arith, first_is c.before.before.before.before.before.before, next c, within_lt (x c.before.before.before.before.before.before) (n c.before.before.before.before.before.before) w.below w.some) }

pub returns-then-ends-first : goal.returns-then-ends-first
returns-then-ends-first c =
    let e = c in
    is c.before.before.before.before.before.before _ (ap (λ (g : ℕ). g + 1) (first_is c.before.before.before.before.before.before) ∙ next c)

pub returns-else-ends-first : goal.returns-else-ends-first
returns-else-ends-first c =
    let e = c in
    let w = within c.before.before.before.before.before.before in
    is c.before.before.before.before.before.before _ (first_is c.before.before.before.before.before.before ∙ before (x c.before.before.before.before.before.before) (n c.before.before.before.before.before.before) (k c.before.before.before.before.before.before) w.some (start c.before.before.before.before.before.before).requires.steps.fine (omega (arith, end_is c.before.before.before.before.before.before, c.if-ends-first.false)))
