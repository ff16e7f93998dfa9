-- Tests taken one after the other, and lists of tests: what the first that refuses decides. Assumes nothing.
use mathlib.Core.Path.{◌≡◌, refl, sym, ap, ◌∙◌}
use mathlib.Core.Bool.{Bool, true, false}
use mathlib.Core.List.{List, [], ◌∷◌, ◌++◌}
use Prim.Native.Nat.{ℕ}
use native.Mathlib.Omega.{arith}
use Rattle.numbers.specs.Choice.{pick}
use Rattle.std.specs.Prelude.{Result, Ok, Err, is_ok}
use Rattle.config.specs.declared.ConfigError.{ConfigError}
use Rattle.config.specs.declared.ConfigError.TheVariants.{EmptyPanel, PanelOutsideRam, OddRowsWithGd, ZeroSwing, ZeroFramePeriod, ZeroFrequency, BadTable, OtpVoltage}
use Rattle.config.specs.Answer.{Answer, accepted, refused, is_accepted, Test, first_of, refused_by, answer_of}

-- the first test refuses, or lets pass
module _ (t : Test) (ts : List Test) where
  pub refuses : (x : Answer) → t.refuses ≡ true → x ≡ refused t.number t.value → x ≡ first_of (t ∷ ts)
  unfolding first_of
  refuses x h e = rw h e

  pub passes : (x : Answer) → t.refuses ≡ false → x ≡ first_of ts → x ≡ first_of (t ∷ ts)
  unfolding first_of
  passes x h e = rw h e

pub none_left : (x : Answer) → x ≡ accepted → x ≡ first_of []
unfolding first_of
none_left x e = e

no : false ≡ true → ⊥
no e = let z : ◌≡◌ {A = ℕ} 0 1 = cc in omega arith

-- the first list refuses
pub stops : (a b : List Test) (x : Answer) → x ≡ first_of a → is_accepted x ≡ false → x ≡ first_of (a ++ b)
unfolding first_of
stops [] b x e h = absurd (no (sym h ∙ ap is_accepted e))
stops (t ∷ a) b x e h = by t.refuses e (λ f. stops a b x f h)
  where
    by : (r : Bool) → x ≡ pick r (refused t.number t.value) (first_of a) → (x ≡ first_of a → x ≡ first_of (a ++ b)) → x ≡ pick r (refused t.number t.value) (first_of (a ++ b))
    by true f more = f
    by false f more = more f

-- the first list lets pass, and the second decides
pub goes_on : (a b : List Test) (x y : Answer) → x ≡ first_of a → is_accepted x ≡ true → y ≡ first_of b → y ≡ first_of (a ++ b)
unfolding first_of
goes_on [] b x y e h f = f
goes_on (t ∷ a) b x y e h f = by t.refuses e (λ g. goes_on a b x y g h f)
  where
    by : (r : Bool) → x ≡ pick r (refused t.number t.value) (first_of a) → (x ≡ first_of a → y ≡ first_of (a ++ b)) → y ≡ pick r (refused t.number t.value) (first_of (a ++ b))
    by true g more = absurd (no (sym (ap is_accepted g) ∙ h))
    by false g more = more g

-- every error refuses
refused_all : (error : ConfigError) → is_accepted (refused_by error) ≡ false
unfolding refused_by
refused_all EmptyPanel = refl
refused_all PanelOutsideRam = refl
refused_all OddRowsWithGd = refl
refused_all ZeroSwing = refl
refused_all (ZeroFramePeriod code) = refl
refused_all ZeroFrequency = refl
refused_all BadTable = refl
refused_all (OtpVoltage index) = refl

-- the same of what the code answers: an error of the first list, or none of it
pub stops_at : (A B : Type 0) (a b : List Test) (error : ConfigError) → answer_of {A = A} (Err error) ≡ first_of a → answer_of {A = B} (Err error) ≡ first_of (a ++ b)
unfolding answer_of
stops_at A B a b error e = stops a b (refused_by error) e (refused_all error)

pub goes_past : {A : Type 0} (value : A) (a b : List Test) (y : Answer) → answer_of (Ok value) ≡ first_of a → y ≡ first_of b → y ≡ first_of (a ++ b)
unfolding answer_of
goes_past value a b y e f = goes_on a b accepted y e refl f

-- the code's answer accepts where the tests do
pub ok_accepted : (A : Type 0) (r : Result A ConfigError) → is_ok r ≡ is_accepted (answer_of r)
unfolding answer_of
ok_accepted A (Ok value) = refl
ok_accepted A (Err error) = sym (refused_all error)
