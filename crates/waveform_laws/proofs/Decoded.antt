-- A decoded waveform is one that the walks take: its voltages lie from −17,000 to 17,000, and its groups have a frame period.
-- Assumes nothing.
use Rattle.std.specs.Prelude.{Some}
use mathlib.Core.Path.{◌≡◌, refl, sym, subst}
use mathlib.Core.Bool.{Bool, true, false, ◌&&◌}
use mathlib.Core.List.{List, [], ◌∷◌}
use Prim.Native.Nat.{ℕ, ◌+◌, ◌-◌, ◌/◌, ◌%◌, ◌≤◌, ◌<◌}
use native.Mathlib.Omega.{arith}
use lib.IntN.{ℤ, pos}
use lib.Dec.{leb, eqb}
use lib.ListN.{get_or}
use borrow.Author.Tests.{leb-true}
use Rattle.numbers.specs.Choice.{pick}
use Rattle.numbers.proofs.Cases.{left, right}
use Rattle.numbers.proofs.Lin.{whole, le_in, neg_out}
use Rattle.numbers.proofs.Painted.{get_d_tab}
use Rattle.voltage.specs.Codes.{Line, voltage, has, at, source_high, source_low, source_voltage, vsl_line, vsl_voltage, below}
use Rattle.waveform.specs.declared.Drive.{Drive}
use Rattle.waveform.specs.declared.Group.{Group}
use Rattle.waveform.specs.declared.Waveform.{Waveform}
use Rattle.waveform.specs.Voltages.{or_zero, levels_of, Listable, AllListable}
use Rattle.waveform.specs.Setting.{frame_rate_of, group_codes_of, timed, waveform_of}
use Rattle.waveform.specs.Phases.{no_group, Takes, Timed}
use Rattle.waveform.specs.Walks.{Walkable}
use Rattle.waveform_laws.proofs.Range.{no_volts}

-- a line whose millivolts are listable, before lines whose are
line_listed : (sign : ℕ → ℤ) (l : Line) (ls : List Line) (code : ℕ) → (code ≤ l.last → Listable (sign (at l code))) → Listable (or_zero (voltage sign ls code))
    → Listable (or_zero (voltage sign (l ∷ ls) code))
unfolding voltage
line_listed sign l ls code f g = by (has l code) refl
  where
    by : (t : Bool) → has l code ≡ t → Listable (or_zero (pick t (Some (sign (at l code))) (voltage sign ls code)))
    by true e = f (leb-true code l.last (right (leb l.first code) (leb code l.last) (left (leb l.first code && leb code l.last) (eqb ((code - l.first) % l.every) 0) e)))
    by false e = g

no_line : (sign : ℕ → ℤ) (code : ℕ) → Listable (or_zero (voltage sign [] code))
unfolding voltage
no_line sign code = no_volts

source_listed : (code : ℕ) → Listable (or_zero (source_voltage code))
source_listed code =
    line_listed pos source_high (source_low ∷ []) code (λ h. record { low = le_in _ _ (omega whole); high = le_in _ _ (omega whole) })
    (line_listed pos source_low [] code (λ h. record { low = le_in _ _ (omega whole); high = le_in _ _ (omega whole) })
    (no_line pos code))

vsl_listed : (code : ℕ) → Listable (or_zero (vsl_voltage code))
vsl_listed code =
    line_listed below vsl_line [] code
    (λ h. let n = neg_out (pos (at vsl_line code)) in record { low = le_in _ _ (omega whole); high = le_in _ _ (omega whole) })
    (no_line below code)

-- the voltages of a setting
pub levels_listable : (s : List ℕ) → AllListable (levels_of s)
unfolding levels_of
levels_listable s = record { vsh1_listable = source_listed (get_or s 106 0); vsh2_listable = source_listed (get_or s 107 0); vsl_listable = vsl_listed (get_or s 108 0) }

-- a frame-rate code is one of sixteen
pub rate_below : (s : List ℕ) (g : ℕ) → frame_rate_of s g < 16
unfolding frame_rate_of
rate_below s g = by (eqb (g % 2) 0)
  where
    by : (t : Bool) → pick t (get_or s (100 + g / 2) 0 / 16 % 16) (get_or s (100 + g / 2) 0 % 16) < 16
    by true = omega arith
    by false = omega arith

-- where every code has a period, every group has
pub all_timed : (s p : List ℕ) → ((k : ℕ) → k < 16 → 0 < get_or p k 0) → Timed (waveform_of s p)
unfolding waveform_of group_codes_of
all_timed s p h k l =
    subst (λ (g : Group). 0 < g.frame_ns) (sym (get_d_tab 10 (λ group. timed p (group_codes_of s group)) k no_group l)) (h (frame_rate_of s k) (rate_below s k))

-- so the walks take it
pub walkable : (s p : List ℕ) (drive : Drive) → ((k : ℕ) → k < 16 → 0 < get_or p k 0) → Takes drive → Walkable (waveform_of s p) drive
unfolding waveform_of
walkable s p drive h t = record { timed = all_timed s p h; listable = levels_listable s; takes = t }

-- ---- for a caller that has decoded w
module _ (s p : List ℕ) (drive : Drive) {w : Waveform} (decoded : w ≡ waveform_of s p) where
  pub decoded_walkable : ((k : ℕ) → k < 16 → 0 < get_or p k 0) → Takes drive → Walkable w drive
  decoded_walkable h t = subst (λ (v : Waveform). Walkable v drive) (sym decoded) (walkable s p drive h t)
