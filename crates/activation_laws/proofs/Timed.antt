-- The times of a display that an activation begins (#101): it does not end before it starts, and its end, converted once from the activation, is
-- the first cycle by which the time up to it has passed. Assumes nothing.
use Prim.Native.Nat.{ℕ, ◌+◌, ◌-◌, ◌*◌, ◌≤◌, ◌<◌, min}
use mathlib.Core.Path.{◌≡◌}
use mathlib.Core.Bool.{Bool}
use mathlib.Core.List.{List}
use native.Mathlib.Omega.{arith}
use Rattle.numbers.specs.Saturation.{largest}
use Rattle.frequency.specs.Conversions.{cycles_of}
use Rattle.frequency_laws.proofs.Rounded.{rounded_up, cycles_is, cycles_last, cycles_near}
use Rattle.moment.specs.Moments.{after_ns}
use Rattle.moment.proofs.Spans.{after_longer}
use Rattle.activation.specs.Display.{display_of}

module _ (setting : List ℕ) (border frequency time before ns : ℕ) (two : Bool) where
  pub starts_before_end : before ≤ largest 64
      → (display_of setting border frequency time before ns two).started ≤ (display_of setting border frequency time before ns two).ends
  unfolding display_of
  starts_before_end h = after_longer frequency time before ns h

  -- where neither the sum, its cycles nor the moment is held at 2^64 − 1: not a cycle early, and less than one late
  module _ (sum : before + ns ≤ largest 64) (room : time + rounded_up frequency (before + ns) ≤ largest 64) where
    abbrev end : ℕ
    end = (display_of setting border frequency time before ns two).ends

    end_is : end ≡ time + cycles_of frequency (before + ns)
    unfolding display_of after_ns
    end_is =
        let same : min (before + ns) (largest 64) ≡ before + ns = omega arith in
        rw same (omega (arith, cycles_is frequency (before + ns)))

    pub not_early : (before + ns) * frequency ≤ (end - time) * 1000000000
    not_early = omega (arith, end_is, cycles_last frequency (before + ns) (omega arith))

    pub not_late : (end - time) * 1000000000 < (before + ns) * frequency + 1000000000
    not_late = omega (arith, end_is, cycles_near frequency (before + ns))
