-- `check_with_table` meets its contract: 13, 11 and 15, then 12.
use mathlib.Core.Path.{◌≡◌, refl, sym, ◌∙◌}
use borrow.Author.Rules.{rules}
use Rattle.std.specs.Prelude.{Ok}
use Rattle.std.proofs.lemmas.Result.{err_from_is_err_and}
use Rattle.numbers.proofs.Cases.{took, passed}
use Rattle.guard.specs.Refusals.{guarded}
use Rattle.guard.proofs.WithTable.{refused_before, table_decides}
use Rattle.guard.proofs.check_with_table.Goals as goal

pub returns-in_err-check : goal.returns-in_err-check
returns-in_err-check c =
    let p = err_from_is_err_and c.from_residual.result c.from_residual.ensures.1 in
    rw (p.1, p.2) (refused_before _ _ _ _ c.in_err-check.ensures)

pub returns-then-bad : goal.returns-then-bad
returns-then-bad c =
    let accepted : Ok tt ≡ guarded c.args.state c.args.lengths = search rules in
    table_decides _ _ _ _ accepted (took _ _ _ _ (sym c.is_bad_table-bad.ensures ∙ c.if-bad.true) refl)

pub returns : goal.returns
returns c = table_decides _ _ _ _ c.in_ok-check.ensures (passed _ _ _ _ (sym c.is_bad_table-bad.ensures ∙ c.if-bad.false) refl)
