-- `line::fields::longest` meets its contract: each return is the arm of the first test that holds.
use mathlib.Core.Path.{refl}
use native.Mathlib.Omega.{arith}
use borrow.Author.Tests.{lt-ltb, le-ltb}
use Rattle.line.specs.Fields.{longest_of}
use Rattle.line.proofs.fields.longest.Goals as goal

pub returns-then-buffer-lt3 : goal.returns-then-buffer-lt3
unfolding longest_of
returns-then-buffer-lt3 c = rw (lt-ltb c.args.buffer 3 (omega arith)) refl

pub returns-then-buffer-lt5 : goal.returns-then-buffer-lt5
unfolding longest_of
returns-then-buffer-lt5 c =
    let b = c.args.buffer in
    rw (le-ltb b 3 (omega arith)) (rw (lt-ltb b 5 (omega arith)) refl)

pub returns-then-buffer-lt6 : goal.returns-then-buffer-lt6
unfolding longest_of
returns-then-buffer-lt6 c =
    let b = c.args.buffer in
    rw (le-ltb b 3 (omega arith)) (rw (le-ltb b 5 (omega arith)) (rw (lt-ltb b 6 (omega arith)) refl))

pub returns-then-buffer-lt7 : goal.returns-then-buffer-lt7
unfolding longest_of
returns-then-buffer-lt7 c =
    let b = c.args.buffer in
    rw (le-ltb b 3 (omega arith)) (rw (le-ltb b 5 (omega arith)) (rw (le-ltb b 6 (omega arith)) (rw (lt-ltb b 7 (omega arith)) refl)))

pub returns-then-buffer-lt8 : goal.returns-then-buffer-lt8
unfolding longest_of
returns-then-buffer-lt8 c =
    let b = c.args.buffer in
    rw (le-ltb b 3 (omega arith))
    (rw (le-ltb b 5 (omega arith)) (rw (le-ltb b 6 (omega arith)) (rw (le-ltb b 7 (omega arith)) (rw (lt-ltb b 8 (omega arith)) refl))))

pub returns : goal.returns
unfolding longest_of
returns c =
    let b = c.args.buffer in
    rw (le-ltb b 3 (omega arith))
    (rw (le-ltb b 5 (omega arith)) (rw (le-ltb b 6 (omega arith)) (rw (le-ltb b 7 (omega arith)) (rw (le-ltb b 8 (omega arith)) refl))))
