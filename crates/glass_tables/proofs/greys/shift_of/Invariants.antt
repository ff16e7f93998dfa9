use Prim.Native.Nat.{◌+◌, ◌*◌, ◌^◌, ◌≤◌}
use Rattle.glass_tables.proofs.greys.shift_of.Given as goal

abbrev pub invariant-loop-shift : goal.invariant-loop-shift
invariant-loop-shift l = (l.shift ≤ 54) × (255 * 2 ^ l.shift ≤ l.swing + 255)
