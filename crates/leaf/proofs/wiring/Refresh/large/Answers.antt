-- `leaf::wiring::Refresh::large` is safe: as many bytes are lent as there are.
use mathlib.Core.Path.{sym}
use Prim.Native.Nat.{ℕ}
use Rattle.std.proofs.lemmas.List.{length-replicate}
use Rattle.leaf.proofs.wiring.Refresh.large.Goals as goal

pub slice_bounds-hash_in-end : goal.slice_bounds-hash_in-end
slice_bounds-hash_in-end c = sym (length-replicate {0} {A = ℕ} 652800 0)
