-- `command::kind` meets its contract: in each arm the command is the row's number, and the table computes; in the last, it is no row's.
-- Assumes nothing.
use Rattle.std.specs.Prelude.{None}
use Prim.{Unit}
use Rattle.command.specs.Table.{rows, kind_of}
use Rattle.numbers.specs.Rows.{lookup}
use Rattle.numbers.proofs.Miss.{miss}
use Rattle.command.proofs.kind.Goals as goal

pub returns-in-1 : goal.returns-in-1
unfolding rows lookup kind_of
returns-in-1 c = rw c.in-1.is

pub returns-in-3 : goal.returns-in-3
unfolding rows lookup kind_of
returns-in-3 c = rw c.in-3.is

pub returns-in-4 : goal.returns-in-4
unfolding rows lookup kind_of
returns-in-4 c = rw c.in-4.is

pub returns-in-8 : goal.returns-in-8
unfolding rows lookup kind_of
returns-in-8 c = rw c.in-8.is

pub returns-in-9 : goal.returns-in-9
unfolding rows lookup kind_of
returns-in-9 c = rw c.in-9.is

pub returns-in-10 : goal.returns-in-10
unfolding rows lookup kind_of
returns-in-10 c = rw c.in-10.is

pub returns-in-12 : goal.returns-in-12
unfolding rows lookup kind_of
returns-in-12 c = rw c.in-12.is

pub returns-in-16 : goal.returns-in-16
unfolding rows lookup kind_of
returns-in-16 c = rw c.in-16.is

pub returns-in-17 : goal.returns-in-17
unfolding rows lookup kind_of
returns-in-17 c = rw c.in-17.is

pub returns-in-18 : goal.returns-in-18
unfolding rows lookup kind_of
returns-in-18 c = rw c.in-18.is

pub returns-in-20 : goal.returns-in-20
unfolding rows lookup kind_of
returns-in-20 c = rw c.in-20.is

pub returns-in-21 : goal.returns-in-21
unfolding rows lookup kind_of
returns-in-21 c = rw c.in-21.is

pub returns-in-24 : goal.returns-in-24
unfolding rows lookup kind_of
returns-in-24 c = rw c.in-24.is

pub returns-in-26 : goal.returns-in-26
unfolding rows lookup kind_of
returns-in-26 c = rw c.in-26.is

pub returns-in-27 : goal.returns-in-27
unfolding rows lookup kind_of
returns-in-27 c = rw c.in-27.is

pub returns-in-28 : goal.returns-in-28
unfolding rows lookup kind_of
returns-in-28 c = rw c.in-28.is

pub returns-in-32 : goal.returns-in-32
unfolding rows lookup kind_of
returns-in-32 c = rw c.in-32.is

pub returns-in-33 : goal.returns-in-33
unfolding rows lookup kind_of
returns-in-33 c = rw c.in-33.is

pub returns-in-34 : goal.returns-in-34
unfolding rows lookup kind_of
returns-in-34 c = rw c.in-34.is

pub returns-in-36 : goal.returns-in-36
unfolding rows lookup kind_of
returns-in-36 c = rw c.in-36.is

pub returns-in-37 : goal.returns-in-37
unfolding rows lookup kind_of
returns-in-37 c = rw c.in-37.is

pub returns-in-38 : goal.returns-in-38
unfolding rows lookup kind_of
returns-in-38 c = rw c.in-38.is

pub returns-in-39 : goal.returns-in-39
unfolding rows lookup kind_of
returns-in-39 c = rw c.in-39.is

pub returns-in-40 : goal.returns-in-40
unfolding rows lookup kind_of
returns-in-40 c = rw c.in-40.is

pub returns-in-41 : goal.returns-in-41
unfolding rows lookup kind_of
returns-in-41 c = rw c.in-41.is

pub returns-in-42 : goal.returns-in-42
unfolding rows lookup kind_of
returns-in-42 c = rw c.in-42.is

pub returns-in-43 : goal.returns-in-43
unfolding rows lookup kind_of
returns-in-43 c = rw c.in-43.is

pub returns-in-44 : goal.returns-in-44
unfolding rows lookup kind_of
returns-in-44 c = rw c.in-44.is

pub returns-in-45 : goal.returns-in-45
unfolding rows lookup kind_of
returns-in-45 c = rw c.in-45.is

pub returns-in-46 : goal.returns-in-46
unfolding rows lookup kind_of
returns-in-46 c = rw c.in-46.is

pub returns-in-47 : goal.returns-in-47
unfolding rows lookup kind_of
returns-in-47 c = rw c.in-47.is

pub returns-in-48 : goal.returns-in-48
unfolding rows lookup kind_of
returns-in-48 c = rw c.in-48.is

pub returns-in-49 : goal.returns-in-49
unfolding rows lookup kind_of
returns-in-49 c = rw c.in-49.is

pub returns-in-50 : goal.returns-in-50
unfolding rows lookup kind_of
returns-in-50 c = rw c.in-50.is

pub returns-in-52 : goal.returns-in-52
unfolding rows lookup kind_of
returns-in-52 c = rw c.in-52.is

pub returns-in-53 : goal.returns-in-53
unfolding rows lookup kind_of
returns-in-53 c = rw c.in-53.is

pub returns-in-54 : goal.returns-in-54
unfolding rows lookup kind_of
returns-in-54 c = rw c.in-54.is

pub returns-in-55 : goal.returns-in-55
unfolding rows lookup kind_of
returns-in-55 c = rw c.in-55.is

pub returns-in-56 : goal.returns-in-56
unfolding rows lookup kind_of
returns-in-56 c = rw c.in-56.is

pub returns-in-57 : goal.returns-in-57
unfolding rows lookup kind_of
returns-in-57 c = rw c.in-57.is

pub returns-in-58 : goal.returns-in-58
unfolding rows lookup kind_of
returns-in-58 c = rw c.in-58.is

pub returns-in-59 : goal.returns-in-59
unfolding rows lookup kind_of
returns-in-59 c = rw c.in-59.is

pub returns-in-60 : goal.returns-in-60
unfolding rows lookup kind_of
returns-in-60 c = rw c.in-60.is

pub returns-in-65 : goal.returns-in-65
unfolding rows lookup kind_of
returns-in-65 c = rw c.in-65.is

pub returns-in-68 : goal.returns-in-68
unfolding rows lookup kind_of
returns-in-68 c = rw c.in-68.is

pub returns-in-69 : goal.returns-in-69
unfolding rows lookup kind_of
returns-in-69 c = rw c.in-69.is

pub returns-in-70 : goal.returns-in-70
unfolding rows lookup kind_of
returns-in-70 c = rw c.in-70.is

pub returns-in-71 : goal.returns-in-71
unfolding rows lookup kind_of
returns-in-71 c = rw c.in-71.is

pub returns-in-77 : goal.returns-in-77
unfolding rows lookup kind_of
returns-in-77 c = rw c.in-77.is

pub returns-in-78 : goal.returns-in-78
unfolding rows lookup kind_of
returns-in-78 c = rw c.in-78.is

pub returns-in-79 : goal.returns-in-79
unfolding rows lookup kind_of
returns-in-79 c = rw c.in-79.is

pub returns-in-127 : goal.returns-in-127
unfolding rows lookup kind_of
returns-in-127 c = rw c.in-127.is

pub returns-in_default : goal.returns-in_default
unfolding rows kind_of
returns-in_default c = (miss None _ rows Unit c.in_default.in_default-own.rest).1
