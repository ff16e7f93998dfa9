-- `line::fields::largest_of_state` meets its contract: each return is the arm of the first test that holds.
use mathlib.Core.Path.{refl}
use native.Mathlib.Omega.{arith}
use borrow.Author.Tests.{lt-ltb, le-ltb}
use Rattle.line.specs.Fields.{state_bits_of}
use Rattle.line.proofs.fields.largest_of_state.Goals as goal

pub returns-then-field-lt12 : goal.returns-then-field-lt12
unfolding state_bits_of
returns-then-field-lt12 c = rw (lt-ltb c.args.field 12 (omega arith)) refl

pub returns-then-field-lt14 : goal.returns-then-field-lt14
unfolding state_bits_of
returns-then-field-lt14 c =
    let f = c.args.field in
    rw (le-ltb f 12 (omega arith)) (rw (lt-ltb f 14 (omega arith)) refl)

pub returns-then-field-lt31 : goal.returns-then-field-lt31
unfolding state_bits_of
returns-then-field-lt31 c =
    let f = c.args.field in
    rw (le-ltb f 12 (omega arith)) (rw (le-ltb f 14 (omega arith)) (rw (lt-ltb f 31 (omega arith)) refl))

pub returns : goal.returns
unfolding state_bits_of
returns c =
    let f = c.args.field in
    rw (le-ltb f 12 (omega arith)) (rw (le-ltb f 14 (omega arith)) (rw (le-ltb f 31 (omega arith)) refl))
