-- `proved_finish` meets its contract.
use mathlib.Core.Path.{sym, ap, subst, ◌∙◌}
use lib.IntN.{ℤ, pos}
use lib.Signed.{◌≤ℤ◌}
use lib.ListN.{length}
use Rattle.numbers.proofs.Lin.{rd, back, field_back}
use Rattle.counts.specs.Counts.{picture}
use Rattle.panel.specs.declared.Panel.{Panel}
use Rattle.panel.specs.Finish.{glass, ending, finished}
use Rattle.bench.specs.Asked.{finishable}
use Rattle.bench.specs.Made.{panel_of, shown, shown_of}
use Rattle.bench.proofs.Passed.{gray_some, gray_long, finish_lasts, finish_grays, finish_luts, finish_counts, finish_few}
use Rattle.bench.proofs.proved_finish.Goals as goal

pub finish-finished-requires : goal.finish-finished-requires
finish-finished-requires c =
    let a = c.args in
    let n = length a.states.now in
    let l = length a.luts.now in
    let m = length a.pixels.now in
    let k = length a.counts.now in
    let e = sym c.can_finish.ensures ∙ c.if-can_finish.true in
    let g = finish_grays a.periods.now (rd a.swing) n l m k e in
    record {
      luts_long = finish_luts a.periods.now (rd a.swing) n l m k e;
      pixels_long = gray_long (rd a.swing) n m g;
      counts_long = ap length c.in-Some.ensures.cases.same ∙ finish_counts a.periods.now (rd a.swing) n l m k e;
      few = finish_few a.periods.now (rd a.swing) n l m k e;
      some = subst (λ (p : Panel). pos 1 ≤ℤ p.swing) (sym c.panel_of-panel.ensures) (gray_some (rd a.swing) n m g);
      lasting = finish_lasts a.periods.now (rd a.swing) n l m k e;
    }

pub returns-in_default : goal.returns-in_default
returns-in_default c =
    let a = c.args in
    let e = sym c.can_finish.ensures ∙ c.if-can_finish.true in
    elim
    (c.in_default.ensures.cases
    (finish_counts a.periods.now (rd a.swing) (length a.states.now) (length a.luts.now) (length a.pixels.now) (length a.counts.now) e))
    [ ]

pub returns-then-can_finish : goal.returns-then-can_finish
returns-then-can_finish c =
    let a = c.args in
    let e = ap (λ (z : ℤ). finishable a.periods.now z (length a.states.now) (length a.luts.now) (length a.pixels.now) (length a.counts.now)) (sym (back c.ranges.swing))
    ∙ sym c.can_finish.ensures ∙ c.if-can_finish.true in
    let panel = c.panel_of-panel.ensures ∙ (λ i. panel_of (back c.ranges.swing i) (back c.ranges.border i) a.width a.height a.generation) in
    rw e
    ((λ i. shown (field_back c.finish-finished.result.border c.struct_told-1.given.1.0.1 i) c.finish-finished.new.states (picture c.finish-finished.new.pixels c.finish-finished.new.counts) (c.header_of.ensures i))
    ∙ ap shown_of
    (c.finish-finished.ensures
    ∙ (λ i. finished (ending (c.display_of-display.ensures i) a.positive_drives_black a.periods.now a.at (c.until_of-until.ensures i)) a.luts.now (glass (panel i) a.states.now (picture a.pixels.now (c.in-Some.ensures.cases.same i))))))

pub returns : goal.returns
returns c =
    let a = c.args in
    let e = ap (λ (z : ℤ). finishable a.periods.now z (length a.states.now) (length a.luts.now) (length a.pixels.now) (length a.counts.now)) (sym (back c.ranges.swing))
    ∙ sym c.can_finish.ensures ∙ c.if-can_finish.false in
    rw e (ap (λ (z : ℤ). shown z a.states.now (picture a.pixels.now a.counts.now) a.header.now) (back c.ranges.border))
