-- `glass_tables::greys::shift` meets its contract. Assumes nothing.
use mathlib.Core.Path.{subst}
use Prim.Native.Nat.{ℕ}
use Rattle.numbers.proofs.Lin.{whole, ranged, unsigned, abs_back, abs_pos}
use Rattle.glass_tables.specs.Greys.{Steps}
use Rattle.glass_tables.proofs.greys.shift.Goals as goal

pub overflow_cast-swing : goal.overflow_cast-swing
overflow_cast-swing c = unsigned c.ranges.swing (let p = c.requires in omega whole)

pub shift_of-requires : goal.shift_of-requires
shift_of-requires c =
    let p = c.requires in
    let g = ranged c.ranges.swing in
    let q = abs_back c.ranges.swing in
    let v = abs_pos c.args.swing (omega whole) in
    omega whole

pub returns : goal.returns
returns c = subst (λ (n : ℕ). Steps n c.shift_of.result) (abs_back c.ranges.swing) c.shift_of.ensures
