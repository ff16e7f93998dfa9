-- The two answers of `approximated`. Assumes nothing.
use Rattle.std.specs.Prelude.{Ok, Err}
use mathlib.Core.Path.{◌≡◌, refl, sym, ap, ◌∙◌}
use mathlib.Core.Bool.{Bool, true, false, not, ◌||◌}
use mathlib.Core.List.{List, [], ◌∷◌}
use Prim.Native.Nat.{ℕ}
use Rattle.numbers.specs.Choice.{pick}
use Rattle.config.specs.declared.ConfigError.{ConfigError}
use Rattle.config.specs.declared.Ssd1677Config.{Ssd1677Config}
use Rattle.config.specs.Answer.{Answer, accepted, refused, is_accepted, first_of, refused_by, answer_of}
use Rattle.config.proofs.Answers.{ok_accepted}
use Rattle.otp.specs.Table.{entry_count, bad_table, table_test}
use Rattle.otp.specs.Search.{any_of}
use Rattle.approximation.specs.Approximation.{approximate, approximate_entry, approximated}

-- the table's one test accepts where the table is not bad
by_table : (otp : List ℕ) (x : Answer) → x ≡ first_of (table_test otp ∷ []) → is_accepted x ≡ not (bad_table otp)
unfolding first_of
by_table otp x e = ap is_accepted e ∙ by (bad_table otp)
  where
    by : (t : Bool) → is_accepted (pick t (refused 12 0) accepted) ≡ not t
    by true = refl
    by false = refl

turned : (a b : Bool) → a ≡ not b → b ≡ not a
turned true true e = e
turned true false e = refl
turned false true e = refl
turned false false e = e

module _ (config : Ssd1677Config) (otp : List ℕ) where
  pub refused_is : (A : Type 0) (error : ConfigError) → answer_of {A = A} (Err error) ≡ first_of (table_test otp ∷ [])
      → record { told = refused_by error; approximation = false } ≡ approximated config otp
  unfolding approximated answer_of
  refused_is A error e =
      let bad : bad_table otp ≡ true = turned false (bad_table otp) (ok_accepted A (Err error) ∙ by_table otp (refused_by error) e) in
      λ i. record {
        told = e i;
        approximation = pick (sym bad i) false
            (approximate config.optics.provenance || approximate config.timing.provenance || any_of (approximate_entry otp) (entry_count otp));
      }

  pub answered_is : {A : Type 0} (value : A) (glass durations entries : Bool) → answer_of (Ok value) ≡ first_of (table_test otp ∷ [])
      → glass ≡ approximate config.optics.provenance
      → durations ≡ approximate config.timing.provenance → entries ≡ any_of (approximate_entry otp) (entry_count otp)
      → record { told = accepted; approximation = glass || durations || entries } ≡ approximated config otp
  unfolding approximated answer_of
  answered_is value glass durations entries e g d n =
      let fine : bad_table otp ≡ false = turned true (bad_table otp) (by_table otp accepted e) in
      λ i. record { told = e i; approximation = pick (sym fine i) false (g i || d i || n i) }
