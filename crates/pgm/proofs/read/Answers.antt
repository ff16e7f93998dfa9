-- `pgm::read` meets its contract: the header that stands there, the count, the room, and then the rest of the file.
use mathlib.Core.Path.{sym, ◌∙◌}
use native.Mathlib.Omega.{arith}
use Rattle.pgm.proofs.Headers.{most}
use Rattle.pgm.proofs.Starts.{found_in_range, found_within}
use Rattle.pgm.proofs.Parts.{copied_front}
use Rattle.pgm.proofs.Answers.{read_71, read_72, read_73, read_whole}
use Rattle.pgm.proofs.read.Goals as goal

pub returns-then-not-fine : goal.returns-then-not-fine
returns-then-not-fine c =
    let fine = c in
    let test = fine in
    let size = test.size_in-size in
    let s = test.args in
    read_71 s.file.now s.out.now size.ensures (sym test.is_header-fine.ensures ∙ fine.if-not-fine.true)

pub overflow_sub-found : goal.overflow_sub-found
overflow_sub-found c =
    let fine = c in
    let test = fine in
    let size = test.size_in-size in
    let s = test.args in
    let found = sym test.is_header-fine.ensures ∙ fine.if-not-fine.false in
    omega (arith, c.byte_count-start.ensures.count, found_within size.result.width size.result.height s.file.now found)

pub overflow_mul-count : goal.overflow_mul-count
overflow_mul-count c =
    let fine = c in
    let test = fine in
    let size = test.size_in-size in
    let s = test.args in
    let found = sym test.is_header-fine.ensures ∙ fine.if-not-fine.false in
    let w = size.result.width in
    let h = size.result.height in
    omega (arith, most w h (found_in_range w h s.file.now found))

pub returns-then-found-count : goal.returns-then-found-count
returns-then-found-count c =
    let count = c in
    let fine = count in
    let test = fine in
    let size = test.size_in-size in
    let s = test.args in
    let found = sym test.is_header-fine.ensures ∙ fine.if-not-fine.false in
    read_72 s.file.now s.out.now size.ensures found count.byte_count-start.ensures.count (λ e. omega arith)

pub returns-then-out-count : goal.returns-then-out-count
returns-then-out-count c =
    let count = c in
    let fine = count in
    let test = fine in
    let size = test.size_in-size in
    let s = test.args in
    let found = sym test.is_header-fine.ensures ∙ fine.if-not-fine.false in
    read_73 s.file.now s.out.now size.ensures found count.byte_count-start.ensures.count (omega arith) (omega arith)

pub slice_bounds-copy-count : goal.slice_bounds-copy-count
slice_bounds-copy-count c =
    let count = c in
    let fine = count in
    let test = fine in
    let size = test.size_in-size in
    let s = test.args in
    let found = sym test.is_header-fine.ensures ∙ fine.if-not-fine.false in
    omega (arith, count.byte_count-start.ensures.count, found_within size.result.width size.result.height s.file.now found)

pub slice_bounds-copy-start : goal.slice_bounds-copy-start
slice_bounds-copy-start c =
    let count = c in
    let fine = count in
    let test = fine in
    let size = test.size_in-size in
    let s = test.args in
    let found = sym test.is_header-fine.ensures ∙ fine.if-not-fine.false in
    omega (arith, count.byte_count-start.ensures.count, found_within size.result.width size.result.height s.file.now found)

pub returns : goal.returns
returns c =
    let copy = c in
    let full = copy in
    let count = full in
    let fine = count in
    let test = fine in
    let size = test.size_in-size in
    let s = test.args in
    let found = sym test.is_header-fine.ensures ∙ fine.if-not-fine.false in
    read_whole s.file.now s.out.now size.ensures found count.byte_count-start.ensures.count (omega (arith, full.if-found-count.false)) (omega arith)
    (copied_front s.file.now s.out.now _ count.byte_count-start.result copy.copy.ensures.front)
