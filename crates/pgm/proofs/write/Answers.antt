-- `pgm::write` meets its contract: the header, and then the pixels.
use mathlib.Core.Path.{sym, ◌∙◌}
use native.Mathlib.Omega.{arith}
use Rattle.pgm.specs.Form.{pgm_header}
use Rattle.pgm.proofs.Headers.{most}
use Rattle.pgm.proofs.Parts.{filled}
use Rattle.pgm.proofs.Answers.{write_answered, write_71, write_72, write_73, write_written}
use Rattle.pgm.proofs.write.Goals as goal

pub returns-then-not-fine : goal.returns-then-not-fine
returns-then-not-fine c =
    let fine = c in
    let test = fine in
    let s = test.args in let whole = write_answered s.width s.height s.pixels.now s.out.now
    (write_71 s.width s.height s.pixels.now s.out.now (sym test.in_range-fine.ensures ∙ fine.if-not-fine.true)) in record { file = whole.0; within = whole.1 }

pub overflow_mul-count : goal.overflow_mul-count
overflow_mul-count c =
    let test = c in
    let s = test.args in
    omega (arith, most s.width s.height (sym test.in_range-fine.ensures ∙ c.if-not-fine.false))

pub returns-then-pixels-count : goal.returns-then-pixels-count
returns-then-pixels-count c =
    let fine = c in
    let test = fine in
    let s = test.args in
    let ranged = sym test.in_range-fine.ensures ∙ fine.if-not-fine.false in let whole = write_answered s.width s.height s.pixels.now s.out.now (write_72 s.width s.height s.pixels.now s.out.now ranged (λ e. omega arith)) in record { file = whole.0; within = whole.1 }

pub returns-then-out-length : goal.returns-then-out-length
returns-then-out-length c =
    let count = c in
    let fine = count in
    let test = fine in
    let s = test.args in
    let ranged = sym test.in_range-fine.ensures ∙ fine.if-not-fine.false in let whole = write_answered s.width s.height s.pixels.now s.out.now
    (write_73 s.width s.height s.pixels.now s.out.now ranged (omega arith) (omega (arith, count.byte_count-start.ensures.count))) in record { file = whole.0; within = whole.1 }

pub returns : goal.returns
returns c =
    let copy = c in
    let put = copy in
    let count = put in
    let fine = count in
    let test = fine in
    let s = test.args in
    let ranged = sym test.in_range-fine.ensures ∙ fine.if-not-fine.false in
    let start = count.byte_count-start in let whole = write_answered s.width s.height s.pixels.now s.out.now
    (write_written s.width s.height s.pixels.now s.out.now ranged (omega arith) (omega (arith, start.ensures.count)) (omega (arith, start.ensures.count))
    (filled (pgm_header s.width s.height) s.pixels.now s.out.now put.put.new.out copy.copy.new.dst start.result start.ensures.count put.put.ensures
    copy.copy.ensures.front)) in record { file = whole.0; within = whole.1 }
