use Prim.Native.Nat.{◌+◌, ◌*◌, ◌/◌}
use lib.ListN.{length}
use Rattle.counts.proofs.Tables.{Counted}
use Rattle.counts.proofs.count.Given as goal

abbrev pub invariant-loop-quad : goal.invariant-loop-quad
invariant-loop-quad l = Counted l.pixels (4 * l.quad-index) l.a l.b l.c l.d

abbrev pub invariant-loop-pixel : goal.invariant-loop-pixel
invariant-loop-pixel l = Counted l.pixels (length l.pixels / 4 * 4 + l.pixel-index) l.a l.b l.c l.d
