-- `finish::refresh::paint` meets its contract: after i turns the first i states are moved and the first i pixels refilled. Assumes nothing.
use mathlib.Core.Path.{◌≡◌, ap, subst, ◌∙◌}
use mathlib.Core.List.{List}
use Prim.Native.Nat.{ℕ, ◌+◌, ◌<◌}
use native.Mathlib.Decide.{dec_lt}
use native.Mathlib.Omega.{arith}
use lib.IntN.{ℤ, pos}
use lib.ListN.{length, get_or}
use Rattle.glass.specs.Greys.{gray_z}
use Rattle.glass_tables.specs.Moves.{Word, moved_by}
use Rattle.glass_tables.proofs.Moved.{word}
use Rattle.numbers.proofs.Lin.{rd, got, field_back}
use Rattle.numbers.proofs.Painted.{painted_none, painted_more, painted_all, painted_next, tab_ext}
use Rattle.panel.specs.Pixels.{state_by, states_by, grays}
use Rattle.finish.specs.Refresh.{in_table}
use Rattle.finish.specs.Moves.{move_at}
use Rattle.finish.proofs.Steps.{grays_tab}
use borrow.Author.Rules.{rules}
use Rattle.finish.proofs.refresh.paint.Invariants.{moved, Read}
use Rattle.finish.proofs.refresh.paint.Goals as goal

read_more : (i : ℕ) (states : List ℤ) → Read i states → Word (get_or states i (pos 0)) → Read (i + 1) states
read_more i states read one k l = by (dec_lt k i)
  where
    by : Dec (k < i) → Word (get_or states k (pos 0))
    by (yes h) = read k h
    by (no h) = subst (λ (j : ℕ). Word (get_or states j (pos 0))) (omega arith) one

pub firsts-firsts-requires : goal.firsts-firsts-requires
firsts-firsts-requires c = (search rules, c.shift-shift.ensures.small)

pub moves-moves-requires : goal.moves-moves-requires
moves-moves-requires c = c.requires.movable

pub loop-i-init : goal.loop-i-init
loop-i-init c = (painted_none _ _, painted_none _ _, λ k l. absurd (omega arith))

pub bounds-luts-i : goal.bounds-luts-i
bounds-luts-i c = omega arith

pub place-at-requires : goal.place-at-requires
place-at-requires c = tt

pub offset_bounds-moves-at : goal.offset_bounds-moves-at
offset_bounds-moves-at c = omega (arith, c.place-at.ensures.1)

pub bounds-moves-at : goal.bounds-moves-at
bounds-moves-at c = c.place-at.ensures.1

pub offset_bounds-states-i : goal.offset_bounds-states-i
offset_bounds-states-i c = omega arith

pub slice_copy_out-apply : goal.slice_copy_out-apply
slice_copy_out-apply c = omega arith

pub apply-state-requires : goal.apply-state-requires
apply-state-requires c =
    let place = c in
    place.moves-moves.ensures.fitting _ place.place-at.ensures.1

pub offset_bounds-states-i-in-loop-i : goal.offset_bounds-states-i-in-loop-i
offset_bounds-states-i-in-loop-i c = omega arith

pub bounds-states-i : goal.bounds-states-i
bounds-states-i c = omega arith

pub gray_of-requires : goal.gray_of-requires
gray_of-requires c =
    let ends = c in
    record {
      some = search rules;
      steps = ends.shift-shift.ensures;
      firsts_are = ends.firsts-firsts.ensures;
      ends_are = ends.ends-ends.ensures;
    }

pub bounds-pixels-i : goal.bounds-pixels-i
bounds-pixels-i c = omega arith

pub overflow_step-i : goal.overflow_step-i
overflow_step-i c = omega arith

pub loop-i-smaller : goal.loop-i-smaller
loop-i-smaller c = omega arith

pub loop-i-preserved : goal.loop-i-preserved
loop-i-preserved c =
    let call = c in
    let place = call in
    let m = place in
    let s = m in
    let a = s.args in
    let ms = m.moves-moves.result in
    let i = m.loop-i.i in
    let next = painted_next (pos 0) m.loop-i.invariant.0 (omega arith) in
    let given = call.apply-arg-1.given in
    let was : rd (get_or m.loop-i.states i (pos 0)) ≡ get_or a.states.now i (pos 0) = field_back _ given ∙ next in
    let is : rd call.apply-state.result ≡ moved ms a.luts.now a.states.now i =
    got call.apply-state.type_inv
    (call.apply-state.ensures ∙ ap (moved_by _) was ∙ ap (λ (k : ℕ). moved_by (move_at ms k) (get_or a.states.now i (pos 0))) place.place-at.ensures.0) in (
      painted_more m.loop-i.invariant.0 (omega arith) is,
      painted_more m.loop-i.invariant.1 (omega (arith, s.requires.repaintable.pixels_long)) (c.gray_of.ensures ∙ ap (λ (z : ℤ). gray_z z (rd a.refresh.swing)) is),
      read_more i a.states.now m.loop-i.invariant.2 (subst Word next (word (record { sfits = given }))),
    )

pub shape_of-states : goal.shape_of-states
shape_of-states c = c.loop-i.invariant.0.long

pub shape_of-pixels : goal.shape_of-pixels
shape_of-pixels c = c.loop-i.invariant.1.long

pub returns : goal.returns
unfolding states_by
returns c =
    let made = c in
    let told = made in
    let s = told in
    let a = s.args in
    let n = length a.states.now in
    let f = moved made.moves-moves.result a.luts.now a.states.now in
    let same =
    tab_ext n f (λ k. state_by (in_table a.transfers) (get_or a.luts.now k 0) (get_or a.states.now k (pos 0)))
    (λ k l. made.moves-moves.ensures.does (get_or a.luts.now k 0) (omega (arith, told.shared_slice_known-1.given k)) (get_or a.states.now k (pos 0)) (c.loop-i.invariant.2 k (omega arith))) in
    let swing : rd a.refresh.swing ≡ a.refresh.swing = field_back _ told.struct_told-1.given.1.1.0.1 in record { states_after = painted_all c.loop-i.invariant.0 (omega arith) ∙ same; pixels_after = rw s.requires.repaintable.pixels_long at (painted_all c.loop-i.invariant.1 (omega arith)) ∙ grays_tab (rd a.refresh.swing) n f ∙ (λ j. grays (swing j) (same j)) }
