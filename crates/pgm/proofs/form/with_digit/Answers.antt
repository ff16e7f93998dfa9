-- `pgm::form::with_digit` meets its contract.
use mathlib.Core.Path.{◌∙◌}
use Prim.Native.Nat.{◌+◌, ◌*◌}
use native.Mathlib.Omega.{arith}
use borrow.Author.Tests.{leb-true}
use lib.Dec.{leb}
use Rattle.numbers.proofs.Cases.{left, at_most}
use Rattle.pgm.proofs.Numbers.{within, digit_there, no_digit_there}
use Rattle.pgm.proofs.form.with_digit.Goals as goal

pub overflow_sub-byte : goal.overflow_sub-byte
overflow_sub-byte c =
    let b = c.byte_at-byte.result in
    leb-true 48 b (left (leb 48 b) (leb b 57) c.if-byte.true)

pub overflow_add-result-then-byte : goal.overflow_add-result-then-byte
overflow_add-result-then-byte c =
    let b = c.byte_at-byte in
    let s = c.args in
    let digit = leb-true 48 b.result (left (leb 48 b.result) (leb b.result 57) c.if-byte.true) in
    let there = within s.file.now s.number.end (omega (arith, b.ensures)) in
    omega arith

pub returns-then-byte : goal.returns-then-byte
returns-then-byte c =
    let b = c.byte_at-byte in
    let s = c.args in
    let most = at_most (leb 48 b.result) b.result 57 c.if-byte.true in
    record {
      digit = (λ i. record { value = 10 * s.number.value + c.from-digit.ensures i; end = s.number.end + 1 }) ∙ digit_there s.file.now s.number b.ensures c.if-byte.true;
      small = omega (arith, c.from-digit.ensures);
      near = omega arith;
    }

pub returns : goal.returns
returns c =
    let s = c.args in record { digit = no_digit_there s.file.now s.number c.byte_at-byte.ensures c.if-byte.false; small = omega arith; near = omega arith }
