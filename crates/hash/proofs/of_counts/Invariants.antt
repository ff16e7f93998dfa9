use mathlib.Core.Path.{◌≡◌}
use lib.ListN.{take}
use Rattle.hash.specs.Hash.{hash_from, count_bytes}
use Rattle.hash.proofs.of_counts.Given as goal

abbrev pub invariant-loop-count : goal.invariant-loop-count
invariant-loop-count l = l.hash ≡ hash_from 0 (count_bytes (take l.count-index l.counts))
