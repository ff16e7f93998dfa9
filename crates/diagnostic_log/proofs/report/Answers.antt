-- `diagnostic_log::report` meets its contract: the record's bytes are copied over their place.
use Prim.Native.Nat.{◌*◌}
use native.Mathlib.Omega.{arith}
use mathlib.Core.Path.{ap, ◌∙◌}
use borrow.Author.Tests.{lt-ltb, le-ltb}
use Rattle.diagnostic.specs.Log.{entries, reported}
use Rattle.diagnostic.proofs.Over.{wrote}
use borrow.Author.Rules.{rules}
use Rattle.diagnostic_log.proofs.report.Goals as goal

pub returns-then-count-lt-MAX_DIAGNOSTICS : goal.returns-then-count-lt-MAX_DIAGNOSTICS
unfolding reported
returns-then-count-lt-MAX_DIAGNOSTICS c =
    let made = c in
    let then = made in
    rw (lt-ltb then.args.journal.count 1024 (omega arith))
    (ap (entries _) (wrote _ made.record_of-bytes16.result _ _ (16 * then.args.journal.count) 16 (search rules) (search rules) c.copy.ensures.front ∙ rw made.record_of-bytes16.ensures))

pub returns : goal.returns
unfolding reported
returns c = rw (le-ltb c.args.journal.count 1024 (omega arith), c.saturating_add.ensures)
