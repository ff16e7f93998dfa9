-- Periods that 81 lets pass, and what a call leaves where it is refused and where it is not.
-- Assumes nothing.
use mathlib.Core.Path.{◌≡◌, refl, sym, ap, ◌∙◌}
use mathlib.Core.Bool.{Bool, true, false, ◌||◌}
use mathlib.Core.List.{List, [], ◌∷◌, ◌++◌}
use Prim.Native.Nat.{ℕ, zero, suc, ◌<◌}
use native.Mathlib.Nat.{not-suc-le-zero, le_of_suc-le-suc, eq-or-lt_of_le}
use native.Mathlib.Omega.{arith}
use mathlib.Core.Logic.{⊎_elim}
use lib.Dec.{ltb}
use lib.ListN.{get_or}
use borrow.Author.Tests.{ltb-false}
use Rattle.numbers.proofs.Cases.{took, passed}
use Rattle.std.specs.Prelude.{Ok, Err}
use Rattle.config.specs.declared.ConfigError.{ConfigError}
use Rattle.config.specs.Answer.{Answer, accepted, refused, is_accepted, Test, first_of, refused_by, answer_of}
use Rattle.config.proofs.Answers.{refuses, passes, none_left, stops_at, goes_past, ok_accepted}
use Rattle.otp.specs.Search.{any_of}
use Rattle.charges.specs.Charge.{longest_period, long_period_test, AllShort, with_answer, tested}

-- where none of the first n passes a test, each of them fails it
none_passes : (p : ℕ → Bool) (n : ℕ) → any_of p n ≡ false → (k : ℕ) → k < n → p k ≡ false
unfolding any_of
none_passes p zero e k h = absurd (not-suc-le-zero h)
none_passes p (suc n) e k h =
    ⊎_elim (λ (q : k ≡ n). ap p q ∙ second (any_of p n) (p n) e) (λ (l : k < n). none_passes p n (first (any_of p n) (p n) e) k l) (eq-or-lt_of_le (le_of_suc-le-suc h))
  where
    first : (a b : Bool) → a || b ≡ false → a ≡ false
    first true b e = e
    first false b e = refl

    second : (a b : Bool) → a || b ≡ false → b ≡ false
    second true b e = absurd (let z : ◌≡◌ {A = ℕ} 0 1 = cc in omega arith)
    second false b e = e

-- periods of which 81 refuses none
pub none_long : (periods : List ℕ) → (long_period_test periods).refuses ≡ false → AllShort periods
none_long periods e code h = ltb-false longest_period (get_or periods code 0) (none_passes (λ k. ltb longest_period (get_or periods k 0)) 16 e code h)

-- ---- the answer of the first tests, then 81 and 11: what a call leaves where one of them refuses it, and where none does
module _ {A : Type 0} (tests : List Test) (before done : A) where
  left_alone : (x : Answer) → x ≡ first_of tests → is_accepted x ≡ false → with_answer x before ≡ tested tests before done
  unfolding tested
  left_alone x e h = λ i. with_answer (e i) (passed _ done before before (ap is_accepted (sym e) ∙ h) refl i)

  does : {now : A} → accepted ≡ first_of tests → now ≡ done → with_answer accepted now ≡ tested tests before done
  unfolding tested
  does {now} e t = λ i. with_answer (e i) (took _ done before now (ap is_accepted (sym e)) t i)

module _ {A : Type 0} (B : Type 0) (first : List Test) (long lent : Test) (before done : A) where
  pub at_first : (error : ConfigError) → answer_of {A = B} (Err error) ≡ first_of first → with_answer (refused_by error) before ≡ tested (first ++ long ∷ lent ∷ []) before done
  unfolding answer_of
  at_first error e =
      left_alone _ before done (refused_by error) (stops_at B B first (long ∷ lent ∷ []) error e) (sym (ok_accepted B (Err error)))

  module _ (value : B) (e : answer_of (Ok value) ≡ first_of first) where
    on : (y : Answer) → y ≡ first_of (long ∷ lent ∷ []) → y ≡ first_of (first ++ long ∷ lent ∷ [])
    on y = goes_past value first (long ∷ lent ∷ []) y e

    pub at_long : long.refuses ≡ true → with_answer (refused long.number long.value) before ≡ tested (first ++ long ∷ lent ∷ []) before done
    at_long h = left_alone _ before done _ (on _ (refuses long (lent ∷ []) _ h refl)) refl

    module _ (passes-long : long.refuses ≡ false) where
      pub at_lent : lent.refuses ≡ true → with_answer (refused lent.number lent.value) before ≡ tested (first ++ long ∷ lent ∷ []) before done
      at_lent h = left_alone _ before done _ (on _ (passes long (lent ∷ []) _ passes-long (refuses lent [] _ h refl))) refl

      pub at_none : {now : A} → lent.refuses ≡ false → now ≡ done → with_answer accepted now ≡ tested (first ++ long ∷ lent ∷ []) before done
      at_none h t = does _ before done (on _ (passes long (lent ∷ []) _ passes-long (passes lent [] _ h (none_left _ refl)))) t
