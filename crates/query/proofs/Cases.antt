-- What each return of the code hands over, over plain variables. Assumes nothing.
use Rattle.std.specs.Prelude.{Result, Ok, Err}
use Rattle.std.specs.Result.{result_and}
use mathlib.Core.Path.{◌≡◌, refl}
use mathlib.Core.Bool.{Bool, true, false}
use Prim.Native.Nat.{ℕ}
use Rattle.config.specs.declared.Ssd1677Config.{Ssd1677Config}
use Rattle.diagnostic.specs.declared.Journal.{Journal}
use Rattle.device.specs.declared.Ssd1677.{Ssd1677}
use Rattle.device.specs.Parts.{with_config, with_journal}
use Rattle.guard.specs.declared.Refusal.{Refusal}
use Rattle.guard.specs.declared.Refused.{Refused}
use Rattle.guard.specs.declared.Refusal.TheVariants.{State}
use Rattle.guard_state.specs.State.{state_fine}
use Rattle.guard.specs.Refusals.{number_of}
use Rattle.query.specs.Queries.{with_ambient, with_count, journal_emptied}
use Rattle.query.specs.Outcome.{outcome, unless, told, told_part, given_back, state_guarded}

module _ (d : Ssd1677) (b : Bool) (is : b ≡ state_fine d) where
  pub is_fine : b ≡ true → Ok tt ≡ state_guarded d
  unfolding state_guarded
  is_fine h = rw (← is, h)

  pub is_not_fine : b ≡ false → Err State ≡ state_guarded d
  unfolding state_guarded
  is_not_fine h = rw (← is, h)

-- by the answer of the guard
module _ {A : Type 0} (g : Result Unit Refusal) (given done : A) where
  pub grants : (v : A) → Ok tt ≡ g → v ≡ done → outcome 0 v ≡ unless g given done
  grants v is e = rw (← is, e)

  pub refuses : (r : Refusal) → Err r ≡ g → outcome (number_of r) given ≡ unless g given done
  refuses r is = rw (← is)

-- a question: what it answers where the guard lets it pass, and nothing of a refused state
module _ {A : Type 0} (none done : A) where
  answers : (g : Result Unit Refusal) → told none (result_and g (Ok done)) ≡ unless g none done
  answers (Ok value) = refl
  answers (Err refusal) = refl

  pub asks : (g checked : Result Unit Refusal) (v : A) (x : Result A Refusal) → checked ≡ g → v ≡ done → x ≡ result_and checked (Ok v) → told none x ≡ unless g none done
  asks g checked v x is e f = rw (f, e, is) (answers g)

-- the same, of a part of the state, which a refused question hands back
module _ {A : Type 0} (part : Ssd1677 → A) (d : Ssd1677) where
  parts : (g : Result Unit Refusal) → told_part part (result_and (given_back d g) (Ok (part d))) ≡ unless g (part d) (part d)
  parts (Ok value) = refl
  parts (Err refusal) = refl

  pub asks_part : (g : Result Unit Refusal) (checked : Result Unit Refused) (v : A) (x : Result A Refused) → checked ≡ given_back d g → v ≡ part d
      → x ≡ result_and checked (Ok v) → told_part part x ≡ unless g (part d) (part d)
  asks_part g checked v x is e f = rw (f, e, is) (parts g)

pub sets : (d : Ssd1677) (register : ℕ) (c : Ssd1677Config) (r : Ssd1677) → c ≡ with_ambient d.config register → r ≡ with_config d c
    → r ≡ with_config d (with_ambient d.config register)
sets d register c r e f = rw (f, e)

pub takes : (d : Ssd1677) (j : Journal) (r : Ssd1677) → j ≡ journal_emptied d.journal → r ≡ with_journal d j
    → with_count r d.journal.count ≡ with_count (with_journal d (journal_emptied d.journal)) d.journal.count
takes d j r e f = rw (f, e)
