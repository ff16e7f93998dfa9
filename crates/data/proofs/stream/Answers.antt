-- `data::stream` meets its contract: by whether the plane has the byte.
use mathlib.Core.Path.{refl, sym, ◌∙◌}
use mathlib.Core.List.{List, []}
use Prim.Native.Nat.{ℕ}
use Rattle.device.proofs.ByKind.{streaming}
use Rattle.world.specs.World.{with_ram}
use Rattle.data.proofs.Cases.{puts, stays, stream_is, streams, streamed_as, leaves}
use Rattle.data.proofs.stream.Goals as goal

pub returns-then-put-clause-by_index : goal.returns-then-put-clause-by_index
returns-then-put-clause-by_index c =
    let d = c.args.state in
    let b = c.args.black_white.now in
    let r = c.args.red.now in
    let a = c.in-Active.active in
    let found = c.put.ensures in
    let tells = streaming a.kind _ _ c.bounds.ensures c.is_some.ensures c.if-is_some.false in
    let y = sym c.if-put.true ∙ streams c.args.byte d b r d.bus.current a _ c.in-Active.is tells _ refl found.value in
    λ (l : List ℕ).
    streamed_as c.args.byte d b r d.bus.current _ (with_ram d b r l) y refl
    (stream_is c.args.byte (with_ram d b r l) _ d.bus.current a _ c.in-Active.is tells refl
    (puts c.args.byte a (with_ram d b r l) _ _ _ found.value found.black_white_after found.red_after _ _ _ _
    c.if-put.true c.advanced-counter.ensures c.count-next.ensures c.set_current-bus.ensures refl))

pub returns-else-put-clause-by_index : goal.returns-else-put-clause-by_index
returns-else-put-clause-by_index c =
    let d = c.args.state in
    let b = c.args.black_white.now in
    let r = c.args.red.now in
    let a = c.in-Active.active in
    let found = c.put.ensures in
    let tells = streaming a.kind _ _ c.bounds.ensures c.is_some.ensures c.if-is_some.false in
    let n = sym c.if-put.false ∙ streams c.args.byte d b r d.bus.current a _ c.in-Active.is tells _ refl found.value in
    let k = stays c.args.byte a (with_ram d b r []) _ _ _ found.value found.black_white_after found.red_after c.if-put.false in
    leaves c.args.byte d b r d.bus.current _ _ n k.0 k.1
