-- `drive_sheet::supplies::is_listed_as` meets its contract.
use Rattle.std.specs.Prelude.{ℤ, Option}
use mathlib.Core.Path.{sym, ap, ◌∙◌}
use Rattle.drive_sheet.specs.Supplies.{is_listed_as}
use Rattle.drive_sheet.proofs.Equal.{bits_same}
use Rattle.drive_sheet.proofs.supplies.is_listed_as.Goals as goal

pub returns-in-Some : goal.returns-in-Some
unfolding is_listed_as
returns-in-Some c =
    let s = c in
    let z = s.args.millivolts in
    bits_same c.in-Some.value z (record { sfits = c.in-Some.known_told-1-own.given.0.1 }) s.ranges.millivolts
    ∙ ap (λ (m : Option ℤ). is_listed_as m z) (sym c.in-Some.is)

pub returns-in-None : goal.returns-in-None
unfolding is_listed_as
returns-in-None c = ap (λ (m : Option ℤ). is_listed_as m c.args.millivolts) (sym c.in-None.is)
