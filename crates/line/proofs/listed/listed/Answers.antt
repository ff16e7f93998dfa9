-- `line::listed::listed` meets its contract: in each arm the kind is the row's number, and the table computes; in the last, it is no row's.
use Rattle.std.specs.Prelude.{None}
use mathlib.Core.Path.{ap, ◌∙◌}
use Prim.{Unit}
use Rattle.numbers.specs.Rows.{lookup}
use Rattle.numbers.proofs.Miss.{miss}
use Rattle.line.specs.Lines.{within, rows, listed_as}
use Rattle.line.proofs.listed.listed.Goals as goal

pub returns-in-1 : goal.returns-in-1
unfolding rows lookup listed_as
returns-in-1 c = rw c.in-1.is c.command.ensures

pub returns-in-2 : goal.returns-in-2
unfolding rows lookup listed_as
returns-in-2 c = rw c.in-2.is c.data.ensures

pub returns-in-3 : goal.returns-in-3
unfolding rows lookup listed_as
returns-in-3 c = rw c.in-3.is c.zero.ensures

pub returns-in-4 : goal.returns-in-4
unfolding rows lookup listed_as
returns-in-4 c = rw c.in-4.is c.reset.ensures

pub returns-in-5 : goal.returns-in-5
unfolding rows lookup listed_as
returns-in-5 c = rw c.in-5.is c.zero-in-5.ensures

pub returns-in-6 : goal.returns-in-6
unfolding rows lookup listed_as
returns-in-6 c = rw c.in-6.is c.zero-in-6.ensures

pub returns-in-7 : goal.returns-in-7
unfolding rows lookup listed_as
returns-in-7 c =
    let s = c.args in
    rw c.in-7.is (c.zero-in-7-2.ensures ∙ ap (within s.number 1) c.zero-in-7.ensures)

pub returns-in-8 : goal.returns-in-8
unfolding rows lookup listed_as
returns-in-8 c = rw c.in-8.is c.zero-in-8.ensures

pub returns-in-9 : goal.returns-in-9
unfolding rows lookup listed_as
returns-in-9 c =
    let s = c.args in
    rw c.in-9.is (c.zero-in-9.ensures ∙ ap (within s.value 1) c.ambient.ensures)

pub returns-in-10 : goal.returns-in-10
unfolding rows lookup listed_as
returns-in-10 c =
    let s = c.args in
    rw c.in-10.is (c.zero-in-10.ensures ∙ ap (within s.number 1) c.case.ensures)

pub returns-in-11 : goal.returns-in-11
unfolding rows lookup listed_as
returns-in-11 c = rw c.in-11.is c.field.ensures

pub returns-in-12 : goal.returns-in-12
unfolding rows lookup listed_as
returns-in-12 c = rw c.in-12.is c.otp.ensures

pub returns-in-13 : goal.returns-in-13
unfolding rows lookup listed_as
returns-in-13 c =
    let s = c.args in
    rw c.in-13.is (c.zero-in-13-2.ensures ∙ ap (within s.number 1) c.zero-in-13.ensures)

pub returns-in-14 : goal.returns-in-14
unfolding rows lookup listed_as
returns-in-14 c =
    let s = c.args in
    rw c.in-14.is (c.zero-in-14-2.ensures ∙ ap (within s.number 1) c.zero-in-14.ensures)

pub returns-in-15 : goal.returns-in-15
unfolding rows lookup listed_as
returns-in-15 c = rw c.in-15.is c.lent.ensures

pub returns-in-16 : goal.returns-in-16
unfolding rows lookup listed_as
returns-in-16 c = rw c.in-16.is c.state.ensures

pub returns-in-17 : goal.returns-in-17
unfolding rows lookup listed_as
returns-in-17 c =
    let s = c.args in
    rw c.in-17.is (c.zero-in-17-2.ensures ∙ ap (within s.number 1) c.zero-in-17.ensures)

pub returns-in-18 : goal.returns-in-18
unfolding rows lookup listed_as
returns-in-18 c =
    let s = c.args in
    rw c.in-18.is (c.zero-in-18-2.ensures ∙ ap (within s.number 1) c.zero-in-18.ensures)

pub returns-in_default : goal.returns-in_default
unfolding rows listed_as
returns-in_default c = (miss None c.args.kind (rows c.args.number c.args.value) Unit c.in_default.in_default-own.rest).1
