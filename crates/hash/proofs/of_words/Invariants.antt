use mathlib.Core.Path.{◌≡◌}
use lib.ListN.{take}
use Rattle.hash.specs.Hash.{hash_from, word_bytes}
use Rattle.hash.proofs.of_words.Given as goal

abbrev pub invariant-loop-word : goal.invariant-loop-word
invariant-loop-word l = l.hash ≡ hash_from 0 (word_bytes (take l.word-index l.words))
