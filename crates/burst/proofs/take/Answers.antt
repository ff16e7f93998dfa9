-- `burst::take` meets its contract.
use mathlib.Core.Path.{◌∙◌, sym}
use Rattle.data.proofs.Cases.{untouched}
use Rattle.burst.proofs.Cases.{takes_it, leaves_it, passes_it}
use Rattle.burst.proofs.take.Goals as goal

pub returns-then-write : goal.returns-then-write
returns-then-write c =
    let s = c in
    let w = c.write.ensures in
    takes_it s.args.course s.args.kind s.args.time s.args.byte _ s.args.reached s.args.plane.now _ c.max-latest.ensures c.is_quiet-quiet.ensures
    _ _ _ c.if-kind-quiet.true c.if-write.true w.value w.plane_after c.advanced-counter.ensures c.saturating_add-received.ensures

pub returns-then-kind-quiet : goal.returns-then-kind-quiet
returns-then-kind-quiet c =
    let s = c in
    let w = c.write.ensures in
    leaves_it s.args.course s.args.kind s.args.time s.args.byte _ s.args.reached s.args.plane.now _ c.max-latest.ensures c.is_quiet-quiet.ensures
    _ c.if-kind-quiet.true c.if-write.false w.value (w.plane_after ∙ untouched _ _ _ (sym w.value ∙ c.if-write.false))

pub returns : goal.returns
returns c =
    let s = c in
    passes_it s.args.course s.args.kind s.args.time s.args.byte _ s.args.reached s.args.plane.now _ c.max-latest.ensures c.is_quiet-quiet.ensures
    c.if-kind-quiet.false
