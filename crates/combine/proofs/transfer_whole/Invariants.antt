use mathlib.Core.List.{List}
use Prim.Native.Nat.{ℕ, ◌≤◌, ◌-◌}
use lib.ListN.{get_or}
use Rattle.waveform.specs.declared.Driving.{Driving}
use Rattle.waveform.specs.declared.Phase.{Phase}
use Rattle.waveform.specs.Setting.{waveform_of}
use Rattle.waveform.specs.Phases.{no_group, joined}
use Rattle.waveform.specs.Walks.{group_in}
use Rattle.combine.specs.Acts.{ActsAs, swing_in, driven_by}
use Rattle.combine.proofs.transfer_whole.Given as goal

-- the phases of group k
abbrev pub of : Driving → List ℕ → List ℕ → ℕ → List Phase
of d s p k = group_in d (get_or (waveform_of s p).groups k no_group)

abbrev pub invariant-loop-k : goal.invariant-loop-k
invariant-loop-k l = (l.k ≤ 10) × ActsAs (swing_in l.driving) l.moved (driven_by l.driving (joined l.k (of l.driving l.setting l.frame_period)))
