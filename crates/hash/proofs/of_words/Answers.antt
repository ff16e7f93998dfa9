-- `hash::of_words` meets its contract: the hash is that of what was gone over.
use mathlib.Core.Path.{◌∙◌}
use native.Mathlib.Omega.{arith}
use Rattle.hash.specs.Hash.{hash_from, word_bytes}
use Rattle.hash.proofs.Laws.{turn, all, words_more}
use Rattle.hash.proofs.of_words.Goals as goal

pub loop-word-init : goal.loop-word-init
unfolding hash_from word_bytes
loop-word-init c = c.new-hash.ensures

pub loop-word-preserved : goal.loop-word-preserved
unfolding hash_from word_bytes
loop-word-preserved c =
    let l = c.loop-word in
    turn word_bytes words_more c.args.words.now l.word-index 0 (omega arith) l.invariant c.add_word.ensures

pub returns : goal.returns
returns c =
    let l = c.loop-word in
    c.value.ensures ∙ all word_bytes words_more c.args.words.now l.word-index (omega arith) l.invariant
