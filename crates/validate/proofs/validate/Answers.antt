-- `validate::validate` meets its contract: the tests of each call, one list after the other.
use mathlib.Core.List.{List, [], ◌∷◌}
use Prim.Native.Nat.{ℕ}
use borrow.Author.Rules.{rules}
use Rattle.std.proofs.lemmas.Result.{err_from_is_err_and}
use Rattle.config.specs.Answer.{Test}
use Rattle.config.specs.Tests.{config_tests}
use Rattle.config.proofs.Answers.{stops_at, goes_past}
use Rattle.otp.specs.Table.{table_test, voltages_test}
use Rattle.validate.proofs.validate.Goals as goal

abbrev table : List ℕ → List Test
table o = table_test o ∷ []

abbrev voltages : List ℕ → List Test
voltages o = voltages_test o ∷ []

abbrev rest : List ℕ → List Test
rest o = table_test o ∷ voltages_test o ∷ []

pub returns-in_err-check : goal.returns-in_err-check
returns-in_err-check c =
    let p = err_from_is_err_and c.from_residual.result c.from_residual.ensures.1 in
    rw (p.1, p.2) (stops_at _ _ (config_tests c.args.config) (rest c.args.otp.now) _ c.in_err-check.ensures)

pub returns-in_err-check_table : goal.returns-in_err-check_table
returns-in_err-check_table c =
    let o = c.args.otp.now in
    let p = err_from_is_err_and c.from_residual-in_err-check_table.result c.from_residual-in_err-check_table.ensures.1 in
    rw (p.1, p.2)
    (goes_past _ (config_tests c.args.config) (rest o) _ c.in_ok-check.ensures
    (stops_at _ _ (table o) (voltages o) _ c.in_err-check_table.ensures))

pub returns : goal.returns
returns c =
    let o = c.args.otp.now in
    goes_past _ (config_tests c.args.config) (rest o) _ c.in_ok-check.ensures
    (goes_past _ (table o) (voltages o) _ c.in_ok-check_table.ensures (search rules))
