-- What the parts of a combined display promise one another: transfers that act on the states from 0 to S as functions do.
use Rattle.std.specs.Prelude.{◌≡◌, List, ℕ, zero, suc, ◌≤◌, pos, nat_abs, ◌≤ℤ◌}
use Rattle.glass.specs.declared.Transfer.{Transfer}
use Rattle.glass.specs.Transfers.{apply_t}
use Rattle.glass.specs.Exact.{drives}
use Rattle.waveform.specs.declared.Driving.{Driving}
use Rattle.waveform.specs.declared.Phase.{Phase}
use Rattle.waveform.specs.Exact.{all_drives}
use Rattle.waveform.specs.Walks.{Drivable}

-- t takes every state x to the state f x; its ends are where 0 and S go, in their order
pub record ActsAs (S : ℕ) (t : Transfer) (f : ℕ → ℕ) : Type 0 where
  pub is : (x : ℕ) → x ≤ S → apply_t t (pos x) ≡ pos (f x)
  pub within : (x : ℕ) → x ≤ S → f x ≤ S
  pub low : t.lo ≡ pos (f 0)
  pub high : t.hi ≡ pos (f S)
  pub order : f 0 ≤ f S

-- f, n times
unfoldable pub again : ℕ → (ℕ → ℕ) → ℕ → ℕ
again zero f x = x
again (suc n) f x = f (again n f x)

-- r acts as `from` does and then, n times, as t does: at every swing up to 2^63 − 1
pub record Repeated (from t : Transfer) (n : ℕ) (r : Transfer) : Type 0 where
  pub acts : (S : ℕ) → S ≤ 9223372036854775807 → (f g : ℕ → ℕ) → ActsAs S from g → ActsAs S t f → ActsAs S r (λ x. again n f (g x))

-- what combining asks: what the walks ask, and a swing from 1 on
pub record Combinable (d : Driving) : Type 0 where
  pub drivable : Drivable d
  pub some : pos 1 ≤ℤ d.swing

-- the swing as a natural number
abbrev pub swing_in : Driving → ℕ
swing_in d = nat_abs d.swing

-- what phases do to a state: their exact drives, one after the other, each sum held
abbrev pub driven_by : Driving → List Phase → ℕ → ℕ
driven_by d ps = drives (swing_in d) (all_drives d.positive_drives_black ps)

-- r acts as t does and then as the phases drive
pub record Extends (d : Driving) (ps : List Phase) (t r : Transfer) : Type 0 where
  pub acts : (f : ℕ → ℕ) → ActsAs (swing_in d) t f → ActsAs (swing_in d) r (λ x. driven_by d ps (f x))
