-- `unsupported_names::unsupported_name` meets its contract: in each arm the command is the row's number, in the last it is no row's.
use mathlib.Core.Path.{ap, ◌∙◌}
use mathlib.Core.List.{[]}
use Rattle.numbers.specs.Rows.{lookup}
use Rattle.numbers.proofs.Miss.{miss}
use Rattle.unsupported_names.specs.Names.{ascii, padded, names}
use Rattle.unsupported_names.proofs.unsupported_name.Goals as goal

pub returns-in-8 : goal.returns-in-8
unfolding ascii names lookup
returns-in-8 c = c.name.ensures ∙ rw c.in-8.is

pub returns-in-9 : goal.returns-in-9
unfolding ascii names lookup
returns-in-9 c = c.name-in-9.ensures ∙ rw c.in-9.is

pub returns-in-10 : goal.returns-in-10
unfolding ascii names lookup
returns-in-10 c = c.name-in-10.ensures ∙ rw c.in-10.is

pub returns-in-28 : goal.returns-in-28
unfolding ascii names lookup
returns-in-28 c = c.name-in-28.ensures ∙ rw c.in-28.is

pub returns-in-37 : goal.returns-in-37
unfolding ascii names lookup
returns-in-37 c = c.name-in-37.ensures ∙ rw c.in-37.is

pub returns-in-42 : goal.returns-in-42
unfolding ascii names lookup
returns-in-42 c = c.name-in-42.ensures ∙ rw c.in-42.is

pub returns-in-48 : goal.returns-in-48
unfolding ascii names lookup
returns-in-48 c = c.name-in-48.ensures ∙ rw c.in-48.is

pub returns-in-49 : goal.returns-in-49
unfolding ascii names lookup
returns-in-49 c = c.name-in-49.ensures ∙ rw c.in-49.is

pub returns-in-52 : goal.returns-in-52
unfolding ascii names lookup
returns-in-52 c = c.name-in-52.ensures ∙ rw c.in-52.is

pub returns-in-53 : goal.returns-in-53
unfolding ascii names lookup
returns-in-53 c = c.name-in-53.ensures ∙ rw c.in-53.is

pub returns-in-54 : goal.returns-in-54
unfolding ascii names lookup
returns-in-54 c = c.name-in-54.ensures ∙ rw c.in-54.is

pub returns-in-57 : goal.returns-in-57
unfolding ascii names lookup
returns-in-57 c = c.name-in-57.ensures ∙ rw c.in-57.is

pub returns-in-77 : goal.returns-in-77
unfolding ascii names lookup
returns-in-77 c = c.name-in-77.ensures ∙ rw c.in-77.is

pub returns-in_default : goal.returns-in_default
unfolding ascii names lookup
returns-in_default c = c.name-in_default.ensures ∙ ap padded (miss [] c.args.command names _ c.in_default.in_default-own.rest).1
