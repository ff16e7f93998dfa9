-- `full_read::read_full`: each read adds to the front what the reader loses.
use Rattle.std.proofs.Common.{◌≡◌, ℕ, ◌+◌, ◌-◌, ◌≤◌, List, [], ◌++◌, rules, arith, length, take, slice_range, sym, ap, ◌∙◌, refl, subst, le_refl, drop_at, length-take-le, append_assoc, Option, None, Some}
use Rattle.std.proofs.lemmas.Slice.{take-put_mid_below}
use Rattle.std.specs.Io.KnownBytes.{Consumes}
use borrow.Rule.Slice.PartMut.{put_mid, post_of}
use lib.Seq.{take-add, take-append-le}
use Rattle.full_read.proofs.read_full.Goals as goal

consumes_none : (a : Option (List ℕ)) → Consumes a a []
consumes_none None = tt
consumes_none (Some xs) = refl

consumes_both : (a b c : Option (List ℕ)) (bs cs : List ℕ) → Consumes a b bs → Consumes b c cs → Consumes a c (bs ++ cs)
consumes_both None b c bs cs p q = tt
consumes_both (Some x) None c bs cs p q = absurd p
consumes_both (Some x) (Some y) None bs cs p q = absurd q
consumes_both (Some x) (Some y) (Some z) bs cs p q = p ∙ ap (λ l. bs ++ l) q ∙ sym (append_assoc bs cs z)

take_split : (a b : ℕ) (old new : List ℕ) → a ≤ b → take a new ≡ take a old → take a old ++ slice_range new a b ≡ take b new
take_split a b old new h front =
    let same : a + (b - a) ≡ b = omega arith in
    ap (λ l. l ++ slice_range new a b) (sym front) ∙ sym (take-add a (b - a) new) ∙ ap (λ n. take n new) same

range_put : (a k n : ℕ) (xs ys : List ℕ) → a ≤ length xs → n ≤ length ys → slice_range (put_mid a k xs ys) a (a + n) ≡ take n ys
range_put a k n xs ys within fits =
    let same : (a + n) - a ≡ n = omega arith in
    let after = post_of a k xs in
    ap (take ((a + n) - a)) (drop_at (take a xs) (ys ++ after) a (length-take-le a xs within)) ∙ ap (λ m. take m (ys ++ after)) same ∙ take-append-le n ys after fits

-- a front, and what is read behind it
front_more : (a k n : ℕ) (xs ys : List ℕ) → a ≤ length xs → n ≤ length ys → take a xs ++ take n ys ≡ take (a + n) (put_mid a k xs ys)
front_more a k n xs ys within fits =
    ap (λ l. take a xs ++ l) (sym (range_put a k n xs ys within fits))
    ∙ take_split a (a + n) xs (put_mid a k xs ys) (omega arith) (take-put_mid_below _ _ _ _ _ (le_refl _) within)

pub loop-done-init : goal.loop-done-init
loop-done-init g c = (omega arith, consumes_none _)

pub loop-done-preserved : goal.loop-done-preserved
loop-done-preserved g c =
    let read = c.in_ok-count.ensures in
    let from = c.loop-done.invariant in (
      search rules,
      subst (Consumes _ _)
          (front_more _ _ _ c.loop-done.buf c.read.new.buf from.0 read.bound.0)
          (consumes_both _ _ _ _ _ from.1 read.bytes.0),
    )

pub returns-then-count-eq0-clause-bytes : goal.returns-then-count-eq0-clause-bytes
returns-then-count-eq0-clause-bytes g c =
    let read = c.in_ok-count.ensures in
    let from = c.loop-done.invariant in
    let none : c.loop-done.done + c.in_ok-count.count ≡ c.loop-done.done = omega arith in
    subst (Consumes _ _)
    (front_more _ _ _ c.loop-done.buf c.read.new.buf from.0 read.bound.0 ∙ ap (λ n. take n (put_mid c.loop-done.done (length c.loop-done.buf - c.loop-done.done) c.loop-done.buf c.read.new.buf)) none)
    (consumes_both _ _ _ _ _ from.1 read.bytes.0)
