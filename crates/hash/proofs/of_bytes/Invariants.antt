use mathlib.Core.Path.{◌≡◌}
use lib.ListN.{take}
use Rattle.hash.specs.Hash.{hash_from}
use Rattle.hash.proofs.of_bytes.Given as goal

abbrev pub invariant-loop-byte : goal.invariant-loop-byte
invariant-loop-byte l = l.hash ≡ hash_from 0 (take l.byte-index l.bytes)
