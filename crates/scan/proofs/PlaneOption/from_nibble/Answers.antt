-- `scan::PlaneOption::from_nibble` meets its contract: the low nibble is the remainder by 16.
use Prim.Native.Nat.{◌%◌}
use mathlib.Core.Path.{◌≡◌, sym, ◌∙◌}
use borrow.Author.Tests.{ne_eqb}
use Rattle.scan.specs.Luts.{option_of}
use Rattle.scan.proofs.PlaneOption.from_nibble.Goals as goal

pub returns-in-4 : goal.returns-in-4
unfolding option_of
returns-in-4 c =
    let n = c.args.nibble in
    let e : n % 16 ≡ 4 = sym c.low_nibble-low.ensures ∙ c.in-4.is in
    simp e

pub returns-in-8 : goal.returns-in-8
unfolding option_of
returns-in-8 c =
    let n = c.args.nibble in
    let e : n % 16 ≡ 8 = sym c.low_nibble-low.ensures ∙ c.in-8.is in
    simp e

pub returns-in_default : goal.returns-in_default
unfolding option_of
returns-in_default c =
    let n = c.args.nibble in
    let m = c.low_nibble-low.ensures in
    simp (ne_eqb (n % 16) 4 (λ e. c.in_default.in_default-own.rest.0.1 (m ∙ e)), ne_eqb (n % 16) 8 (λ e. c.in_default.in_default-own.rest.1 (m ∙ e)))
