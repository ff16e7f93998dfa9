-- The table of moves: it does what the four transfers do, and these have upper bounds from 0 on, as it asks. Assumes nothing.
use Rattle.std.specs.Prelude.{Option, Some, None}
use mathlib.Core.Path.{◌≡◌, refl, sym, ap, subst, ◌∙◌}
use mathlib.Core.Bool.{Bool, true, false}
use mathlib.Core.List.{List, [], ◌∷◌, foldl}
use Prim.Native.Nat.{ℕ, zero, suc, ◌-◌, ◌≤◌, ◌<◌}
use native.Mathlib.Omega.{arith}
use lib.Dec.{ltb}
use lib.IntN.{ℤ, pos, ◌+ℤ◌}
use lib.Signed.{le_z, ◌≤ℤ◌}
use lib.ListN.{set, replicate, get_or-replicate}
use borrow.Author.Tests.{ltb-true, ltb-false}
use Rattle.numbers.specs.Choice.{pick}
use Rattle.numbers.specs.Saturation.{clamp_z, sat_z, least, most}
use Rattle.numbers.proofs.Lin.{whole, le_in, le_out, eq_in, add_out}
use Rattle.numbers.proofs.Hold.{clamp_mid, at_least}
use Rattle.glass.specs.declared.Transfer.{Transfer}
use Rattle.glass.specs.Transfers.{identity_t, apply_t}
use Rattle.glass_tables.specs.declared.Move.{Move}
use Rattle.glass_tables.specs.Moves.{Word, moved_by, Fitting, Does}
use Rattle.waveform.specs.declared.Drive.{Drive}
use Rattle.waveform.specs.declared.Driving.{Driving}
use Rattle.waveform.specs.declared.Phase.{Phase}
use Rattle.waveform.specs.declared.Progress.{Progress}
use Rattle.waveform.specs.declared.Waveform.{Waveform}
use Rattle.waveform.specs.Phases.{phases_of}
use Rattle.waveform.specs.Walks.{driving_of, saturated_drive, pushed, whole_step, phase_end, run_on, phase_cut, cut_step, walk_start, whole_of, transfer_of}
use Rattle.combine.specs.Settled.{settled, combined_of}
use Rattle.panel.specs.Pixels.{state_by}
use Rattle.finish.specs.Refresh.{in_table}
use Rattle.finish.specs.Moves.{move_at, MovesOf}

-- ---- what the table does
-- a transfer that leaves every number of 64 bits
abbrev leaving : Transfer
leaving = record { add = pos 0; lo = least; hi = most }

leaves : (x : ℤ) → Word x → apply_t leaving x ≡ x
leaves x w =
    let a = le_out w.at_least in
    let b = le_out w.at_most in
    let s : x +ℤ pos 0 ≡ x = eq_in (x +ℤ pos 0) x (omega (whole, add_out x (pos 0))) in
    ap (λ (y : ℤ). clamp_z (sat_z y) least most) s
    ∙ ap (λ (y : ℤ). clamp_z y least most) (clamp_mid x least most a b)
    ∙ clamp_mid x least most a b

pub four : (P : ℕ → Type 0) → P 0 → P 1 → P 2 → P 3 → (k : ℕ) → k < 4 → P k
four P a b d e zero l = a
four P a b d e (suc zero) l = b
four P a b d e (suc (suc zero)) l = d
four P a b d e (suc (suc (suc zero))) l = e
four P a b d e (suc (suc (suc (suc k)))) l = absurd (omega arith)

-- one move throughout, then four written over the first of it
abbrev pub written : Move → Move → Move → Move → Move → List Move
written m a b d e = set (set (set (set (replicate 256 m) 0 a) 1 b) 2 d) 3 e

rest : (m a b d e : Move) (lut : ℕ) → 4 ≤ lut → lut < 256 → move_at (written m a b d e) lut ≡ m
rest m a b d e (suc (suc (suc (suc k)))) g l = get_or-replicate 252 k m _ (omega arith)
rest m a b d e zero g l = absurd (omega arith)
rest m a b d e (suc zero) g l = absurd (omega arith)
rest m a b d e (suc (suc zero)) g l = absurd (omega arith)
rest m a b d e (suc (suc (suc zero))) g l = absurd (omega arith)

module _ (ts : List Transfer) (m a b d e : Move) (left : Does leaving m) (driven : (lut : ℕ) → lut < 4 → Does (in_table ts lut) (move_at (written m a b d e) lut)) where
  abbrev ms : List Move
  ms = written m a b d e

  fits : (lut : ℕ) → lut < 256 → Fitting (move_at ms lut)
  fits lut h = by (ltb lut 4) refl
    where
      by : (t : Bool) → ltb lut 4 ≡ t → Fitting (move_at ms lut)
      by true q = (driven lut (ltb-true lut 4 q)).fitting
      by false q = subst Fitting (sym (rest m a b d e lut (ltb-false lut 4 q) h)) left.fitting

  moves_state : (lut : ℕ) → lut < 256 → (x : ℤ) → Word x → moved_by (move_at ms lut) x ≡ state_by (in_table ts) lut x
  unfolding state_by
  moves_state lut h x w = by (ltb lut 4) refl
    where
      by : (t : Bool) → ltb lut 4 ≡ t → moved_by (move_at ms lut) x ≡ pick t (apply_t (in_table ts lut) x) x
      by true q = (driven lut (ltb-true lut 4 q)).does x w
      by false q = ap (λ (n : Move). moved_by n x) (rest m a b d e lut (ltb-false lut 4 q) h) ∙ left.does x w ∙ leaves x w

  pub moves_of : MovesOf ts ms
  moves_of = record { fitting = fits; does = moves_state }

-- ---- the upper bounds
folds : {A B : Type 0} (P : B → Type 0) (step : B → A → B) → ((b : B) (a : A) → P b → P (step b a)) → (xs : List A) (b : B) → P b → P (foldl step b xs)
folds P step keep [] b h = h
folds P step keep (a ∷ xs) b h = folds P step keep xs (step b a) (keep b a h)

module _ (d : Driving) (some : pos 1 ≤ℤ d.swing) where
  pushed_high : (p : Phase) (run : ℕ) (t : Transfer) → pos 0 ≤ℤ (pushed d p run t).hi
  unfolding pushed
  pushed_high p run t =
      let n = le_out some in
      let delta = saturated_drive d.positive_drives_black p.millivolts run p.frame_ns in
      le_in _ _ (at_least (sat_z (t.hi +ℤ delta)) (pos 0) d.swing (omega whole))

  cut_high : (until : ℕ) (w : Progress) (p : Phase) → pos 0 ≤ℤ w.transfer.hi → pos 0 ≤ℤ (cut_step d until w p).transfer.hi
  unfolding cut_step
  cut_high until w p h = by w.stopped (ltb until (phase_end p w.elapsed))
    where
      by : (s t : Bool)
          → pos 0 ≤ℤ (pick s w (pick t (phase_cut d p (until - w.elapsed) (phase_end p w.elapsed) w.transfer) (run_on d p (phase_end p w.elapsed) w.transfer))).transfer.hi
      by true t = h
      by false true = pushed_high p _ w.transfer
      by false false = pushed_high p _ w.transfer

-- a walk's upper bound
walked_high : (w : Waveform) (drive : Drive) (swing : ℤ) (black : Bool) → pos 1 ≤ℤ swing → (until : Option ℕ) → pos 0 ≤ℤ (transfer_of w drive swing black until).hi
walked_high w drive swing black some None =
    let d = driving_of w drive swing black in
    folds (λ (t : Transfer). pos 0 ≤ℤ t.hi) (whole_step d) (λ t p h. pushed_high d some p p.frames t) (phases_of w drive) (identity_t swing) (let n = le_out some in le_in _ _ (omega whole))
walked_high w drive swing black some (Some until) =
    let d = driving_of w drive swing black in
    folds (λ (q : Progress). pos 0 ≤ℤ q.transfer.hi) (cut_step d until) (cut_high d some until) (phases_of w drive) (walk_start swing) (let n = le_out some in le_in _ _ (omega whole))

-- a combined transfer has the walk's upper bound
pub combined_high : (w : Waveform) (drive : Drive) (swing : ℤ) (black : Bool) → pos 1 ≤ℤ swing → (until : Option ℕ) → pos 0 ≤ℤ (combined_of w drive swing black until).hi
unfolding settled
combined_high w drive swing black some None = by (le_z t.hi t.lo)
  where
    t : Transfer
    t = whole_of w drive swing black

    by : (b : Bool) → pos 0 ≤ℤ (pick b (record { add = pos 0; lo = t.lo; hi = t.hi }) t).hi
    by true = walked_high w drive swing black some None
    by false = walked_high w drive swing black some None
combined_high w drive swing black some (Some until) = walked_high w drive swing black some (Some until)
