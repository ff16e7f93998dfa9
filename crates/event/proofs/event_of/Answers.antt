-- `event::event_of` meets its contract: in each arm the kind is the row's number, and the table computes; in the last, it is no row's.
use Prim.{Unit}
use Rattle.event.specs.declared.Event.TheVariants.{Advance}
use Rattle.numbers.specs.Rows.{lookup}
use Rattle.numbers.proofs.Miss.{miss}
use mathlib.Core.Path.{refl}
use Rattle.event.specs.Events.{rows, event_of}
use Rattle.event.proofs.event_of.Goals as goal

pub returns-in-1 : goal.returns-in-1
unfolding lookup event_of
returns-in-1 c = rw c.in-1.is refl

pub returns-in-2 : goal.returns-in-2
unfolding lookup event_of
returns-in-2 c = rw c.in-2.is refl

pub returns-in-3 : goal.returns-in-3
unfolding lookup event_of
returns-in-3 c = rw c.in-3.is refl

pub returns-in-4 : goal.returns-in-4
unfolding lookup event_of
returns-in-4 c = rw c.in-4.is refl

pub returns-in_default : goal.returns-in_default
unfolding event_of
returns-in_default c =
    let a = c.args in
    (miss (Advance a.time) a.kind (rows a.time a.value) Unit c.in_default.in_default-own.rest).1
