-- `finish::refresh::moves` meets its contract. Assumes nothing.
use native.Mathlib.Omega.{arith}
use Rattle.glass_tables.specs.Moves.{Does}
use Rattle.finish.specs.Refresh.{in_table}
use Rattle.finish.specs.Moves.{move_at}
use Rattle.finish.proofs.Moves.{four, written, moves_of}
use Rattle.finish.proofs.refresh.moves.Goals as goal

pub move_of-requires : goal.move_of-requires
move_of-requires c = c.requires 0 (omega arith)

pub move_of-requires-2 : goal.move_of-requires-2
move_of-requires-2 c = c.requires 1 (omega arith)

pub move_of-requires-3 : goal.move_of-requires-3
move_of-requires-3 c = c.requires 2 (omega arith)

pub move_of-requires-4 : goal.move_of-requires-4
move_of-requires-4 c = c.requires 3 (omega arith)

pub returns : goal.returns
returns c =
    let two = c in
    let one = two in
    let zero = one in
    let left = zero in
    let ts = left.args.transfers in
    let l = left.move_of-left.result in
    let m₀ = zero.move_of.result in
    let m₁ = one.move_of-2.result in
    let m₂ = two.move_of-3.result in
    let m₃ = c.move_of-4.result in
    moves_of ts l m₀ m₁ m₂ m₃ left.move_of-left.ensures
    (four (λ k. Does (in_table ts k) (move_at (written l m₀ m₁ m₂ m₃) k)) zero.move_of.ensures one.move_of-2.ensures two.move_of-3.ensures c.move_of-4.ensures)
