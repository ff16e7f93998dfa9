-- Events from a start on, by what the start and the events leave. Assumes nothing.
use mathlib.Core.Path.{◌≡◌, ap, ◌∙◌}
use mathlib.Core.List.{List}
use Prim.Native.Nat.{ℕ}
use Rattle.event.specs.declared.Event.{Event}
use Rattle.power_on.specs.Start.{buffers, Powered, world_of}
use Rattle.world.specs.World.{World}
use Rattle.traffic.specs.Traffic.{fed, made, feeding}
use Rattle.bench.specs.Made.{header_of}
use Rattle.bench_device.specs.Whole.{ran, ran_of, ran_from}

pub ran_on : (otp : List ℕ) (event : ℕ → Event) (n : ℕ) (p q : Powered) (left : World) {number count : ℕ} {header : List ℕ}
    → q ≡ p → fed number count left ≡ feeding (made otp event) n 0 (world_of q) → header ≡ header_of left.device.panel.image
    → ran count header (buffers left.states left.luts left.picture left.black_white left.red left.gates left.log) ≡ ran_from otp event n p
unfolding ran_from
ran_on otp event n p q left {count = count} f e h =
    (λ i. ran count (h i) (buffers left.states left.luts left.picture left.black_white left.red left.gates left.log))
    ∙ ap ran_of e
    ∙ ap (ran_from otp event n) f
