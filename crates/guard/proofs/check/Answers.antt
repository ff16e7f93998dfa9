-- `check` meets its contract: 13, then 11, then 15.
use mathlib.Core.Path.{◌≡◌, refl, sym, ap, ◌∙◌}
use mathlib.Core.Bool.{true, not}
use borrow.Author.Rules.{rules}
use Rattle.numbers.proofs.Cases.{took, passed}
use Rattle.guard.specs.Refusals.{guarded}
use Rattle.guard.proofs.check.Goals as goal

pub returns-then-not-fine : goal.returns-then-not-fine
unfolding guarded
returns-then-not-fine c = took _ _ _ _ (ap not (sym c.state_is_fine-fine.ensures ∙ c.if-not-fine.true)) refl

pub returns-then-not-fit : goal.returns-then-not-fit
unfolding guarded
returns-then-not-fit c =
    let fine : c.state_is_fine-fine.result ≡ true = search rules in
    passed _ _ _ _ (ap not (sym c.state_is_fine-fine.ensures ∙ fine))
    (took _ _ _ _ (ap not (sym c.lengths_fit-fit.ensures ∙ c.if-not-fit.true)) refl)

pub returns-then-not-counted : goal.returns-then-not-counted
unfolding guarded
returns-then-not-counted c =
    let fine : c.state_is_fine-fine.result ≡ true = search rules in
    let fit : c.lengths_fit-fit.result ≡ true = search rules in
    passed _ _ _ _ (ap not (sym c.state_is_fine-fine.ensures ∙ fine))
    (passed _ _ _ _ (ap not (sym c.lengths_fit-fit.ensures ∙ fit))
    (took _ _ _ _ (ap not (sym c.counts_fit-counted.ensures ∙ c.if-not-counted.true)) refl))

pub returns : goal.returns
unfolding guarded
returns c =
    passed _ _ _ _ (ap not (sym c.state_is_fine-fine.ensures ∙ c.if-not-fine.false))
    (passed _ _ _ _ (ap not (sym c.lengths_fit-fit.ensures ∙ c.if-not-fit.false))
    (passed _ _ _ _ (ap not (sym c.counts_fit-counted.ensures ∙ c.if-not-counted.false)) refl))
