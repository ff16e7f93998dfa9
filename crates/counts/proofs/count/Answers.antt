-- `counts::count` meets its contract: before either loop's turn, the four tables together count the pixels passed. Assumes nothing.
use mathlib.Core.Path.{refl, ap, subst, ◌∙◌}
use mathlib.Core.List.{List}
use Prim.Native.Nat.{ℕ, ◌+◌, ◌*◌, ◌/◌}
use native.Mathlib.Omega.{arith}
use lib.ListN.{length, get_or}
use Rattle.std.proofs.lemmas.List.{get_or-drop}
use Rattle.numbers.specs.Lists.{tab}
use Rattle.counts.specs.Counts.{occurs, counts_of}
use Rattle.counts.specs.Tables.{one_more}
use Rattle.counts.proofs.Tables.{Counted, a_room, b_room, c_room, d_room, joinable, counted_none, counted_four, counted_one, counted_all}
use Rattle.counts.proofs.Quads.{quad_at, in_quads}
use Rattle.counts.proofs.count.Goals as goal

pub loop-quad-init : goal.loop-quad-init
unfolding occurs counts_of tab
loop-quad-init c = counted_none _

pub add-requires : goal.add-requires
add-requires c =
    let q = c.loop-quad.quad-index in
    let e = quad_at c.args.pixels.now c.as_chunks.ensures.front c.as_chunks.ensures.front_len q 0 (4 * q) c.loop-quad-test.true (omega arith) (omega arith) in
    a_room
    c.loop-quad.invariant
    c.requires.pixels_len_bound
    _
    (omega (arith, e, (c.type_inv.pixels (4 * q)).fits))
    (omega (arith, in_quads c.args.pixels.now c.as_chunks.ensures.front c.as_chunks.ensures.front_len q c.loop-quad-test.true))

pub add-requires-in-loop-quad : goal.add-requires-in-loop-quad
add-requires-in-loop-quad c =
    let q = c.loop-quad.quad-index in
    let e = quad_at c.args.pixels.now c.as_chunks.ensures.front c.as_chunks.ensures.front_len q 1 (4 * q + 1) c.loop-quad-test.true (omega arith) refl in
    b_room
    c.loop-quad.invariant
    c.requires.pixels_len_bound
    _
    (omega (arith, e, (c.type_inv.pixels (4 * q + 1)).fits))
    (omega (arith, in_quads c.args.pixels.now c.as_chunks.ensures.front c.as_chunks.ensures.front_len q c.loop-quad-test.true))

pub add-requires-in-loop-quad-2 : goal.add-requires-in-loop-quad-2
add-requires-in-loop-quad-2 c =
    let q = c.loop-quad.quad-index in
    let e = quad_at c.args.pixels.now c.as_chunks.ensures.front c.as_chunks.ensures.front_len q 2 (4 * q + 2) c.loop-quad-test.true (omega arith) refl in
    c_room
    c.loop-quad.invariant
    c.requires.pixels_len_bound
    _
    (omega (arith, e, (c.type_inv.pixels (4 * q + 2)).fits))
    (omega (arith, in_quads c.args.pixels.now c.as_chunks.ensures.front c.as_chunks.ensures.front_len q c.loop-quad-test.true))

pub add-requires-in-loop-quad-3 : goal.add-requires-in-loop-quad-3
add-requires-in-loop-quad-3 c =
    let q = c.loop-quad.quad-index in
    let e = quad_at c.args.pixels.now c.as_chunks.ensures.front c.as_chunks.ensures.front_len q 3 (4 * q + 3) c.loop-quad-test.true (omega arith) refl in
    d_room
    c.loop-quad.invariant
    c.requires.pixels_len_bound
    _
    (omega (arith, e, (c.type_inv.pixels (4 * q + 3)).fits))
    (omega (arith, in_quads c.args.pixels.now c.as_chunks.ensures.front c.as_chunks.ensures.front_len q c.loop-quad-test.true))

pub loop-quad-preserved : goal.loop-quad-preserved
loop-quad-preserved c =
    let q = c.loop-quad.quad-index in
    let at = quad_at c.args.pixels.now c.as_chunks.ensures.front c.as_chunks.ensures.front_len q in
    let t = c.loop-quad-test.true in
    counted_four
    c.loop-quad.invariant
    (in_quads c.args.pixels.now c.as_chunks.ensures.front c.as_chunks.ensures.front_len q t)
    (λ k. (c.type_inv.pixels k).fits)
    (c.add.ensures ∙ ap (one_more c.loop-quad.a) (at 0 (4 * q) t (omega arith) (omega arith)))
    (c.add-in-loop-quad.ensures ∙ ap (one_more c.loop-quad.b) (at 1 (4 * q + 1) t (omega arith) refl))
    (c.add-in-loop-quad-2.ensures ∙ ap (one_more c.loop-quad.c) (at 2 (4 * q + 2) t (omega arith) refl))
    (c.add-in-loop-quad-3.ensures ∙ ap (one_more c.loop-quad.d) (at 3 (4 * q + 3) t (omega arith) refl))
    (omega arith)

pub loop-pixel-init : goal.loop-pixel-init
loop-pixel-init c =
    subst (λ (n : ℕ). Counted c.args.pixels.now n c.loop-quad.a c.loop-quad.b c.loop-quad.c c.loop-quad.d)
    (omega (arith, c.loop-quad.auto.quad-index-end, c.loop-quad-test.false, c.as_chunks.ensures.front_len)) c.loop-quad.invariant

pub add-requires-in-loop-pixel : goal.add-requires-in-loop-pixel
add-requires-in-loop-pixel c =
    let p = length c.args.pixels.now / 4 * 4 + c.loop-pixel.pixel-index in
    let e = ap (λ (ps : List ℕ). get_or ps c.loop-pixel.pixel-index 0) c.as_chunks.ensures.back ∙ get_or-drop (length c.args.pixels.now / 4 * 4) c.args.pixels.now c.loop-pixel.pixel-index 0 in
    a_room
    c.loop-pixel.invariant
    c.requires.pixels_len_bound
    _
    (omega (arith, e, (c.type_inv.pixels p).fits))
    (omega (arith, c.loop-pixel-test.true, c.as_chunks.ensures.back_len))

pub loop-pixel-preserved : goal.loop-pixel-preserved
loop-pixel-preserved c =
    let p = length c.args.pixels.now / 4 * 4 + c.loop-pixel.pixel-index in
    let e = ap (λ (ps : List ℕ). get_or ps c.loop-pixel.pixel-index 0) c.as_chunks.ensures.back ∙ get_or-drop (length c.args.pixels.now / 4 * 4) c.args.pixels.now c.loop-pixel.pixel-index 0 in
    counted_one
    c.loop-pixel.invariant
    (omega (arith, c.loop-pixel-test.true, c.as_chunks.ensures.back_len))
    (c.type_inv.pixels p).fits
    (c.add-in-loop-pixel.ensures ∙ ap (one_more c.loop-pixel.a) e)
    (omega arith)

pub join-requires : goal.join-requires
join-requires c = joinable c.loop-pixel.invariant c.requires.pixels_len_bound

pub returns : goal.returns
returns c = c.join.ensures ∙ counted_all c.loop-pixel.invariant (omega (arith, c.loop-pixel.auto.pixel-index-end, c.loop-pixel-test.false, c.as_chunks.ensures.back_len))
