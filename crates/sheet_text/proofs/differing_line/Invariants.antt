use Rattle.std.proofs.Common.{◌≡◌, ◌+◌, ◌≤◌, length}
use Rattle.sheet_text.specs.Reading.{differs_in}
use Rattle.sheet_text.proofs.differing_line.Given as goal

-- what is left to compare, and how far the line can be
abbrev pub invariant-loop-byte : goal.invariant-loop-byte
invariant-loop-byte l =
    let rest = l.byte-iterator.a.rest.now in
    let other = l.byte-iterator.b.rest.now in
    (goal.iterator-loop-byte).can_next l.byte-iterator × (goal.iterator-loop-byte).is_finite l.byte-iterator
    × (differs_in 1 l.text l.written ≡ differs_in l.line rest other) × (l.line + length rest ≤ 1 + length l.text)
    × (length l.text + length other ≡ length l.written + length rest)
