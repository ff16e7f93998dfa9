-- `pgm::write_header` meets its contract.
use mathlib.Core.Path.{sym, ◌∙◌}
use native.Mathlib.Omega.{arith}
use Rattle.pgm.proofs.Answers.{header_answered, header_71, header_73, header_written_is}
use Rattle.pgm.proofs.write_header.Goals as goal

pub returns-then-not-fine : goal.returns-then-not-fine
returns-then-not-fine c =
    let fine = c in
    let test = fine in
    let s = test.args in let whole = header_answered s.width s.height s.out.now (header_71 s.width s.height s.out.now (sym test.in_range-fine.ensures ∙ fine.if-not-fine.true)) in record { header = whole.0; within = whole.1 }

pub returns-then-out-length : goal.returns-then-out-length
returns-then-out-length c =
    let count = c in
    let fine = count in
    let test = fine in
    let s = test.args in
    let ranged = sym test.in_range-fine.ensures ∙ fine.if-not-fine.false in let whole = header_answered s.width s.height s.out.now (header_73 s.width s.height s.out.now ranged (omega (arith, count.byte_count-length.ensures.count))) in record { header = whole.0; within = whole.1 }

pub returns : goal.returns
returns c =
    let put = c in
    let count = put in
    let fine = count in
    let test = fine in
    let s = test.args in
    let ranged = sym test.in_range-fine.ensures ∙ fine.if-not-fine.false in let whole = header_answered s.width s.height s.out.now
    (header_written_is s.width s.height s.out.now ranged (omega (arith, count.byte_count-length.ensures.count)) count.byte_count-length.ensures.count put.put.ensures) in record { header = whole.0; within = whole.1 }
