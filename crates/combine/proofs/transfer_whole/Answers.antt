-- `combine::transfer_whole` meets its contract: after k turns the first k groups are worked in, and what all ten make acts as the walk
-- does, so that it is the walk's, settled. Assumes nothing.
use mathlib.Core.Bool.{not}
use mathlib.Core.Path.{◌≡◌, refl, sym, ap, subst, ◌∙◌}
use native.Mathlib.Omega.{arith}
use Prim.Native.Nat.{ℕ}
use lib.IntN.{ℤ, pos, nat_abs}
use lib.Signed.{◌≤ℤ◌}
use Rattle.numbers.proofs.Lin.{rd, back}
use Rattle.glass.specs.declared.Transfer.{Transfer}
use Rattle.glass.specs.Transfers.{apply_t, identity_t}
use Rattle.waveform.specs.declared.Driving.{Driving}
use Rattle.waveform.specs.declared.Group.{Group}
use Rattle.waveform.specs.declared.Levels.{Levels}
use Rattle.waveform.specs.Voltages.{AllListable}
use Rattle.waveform.specs.Setting.{group_codes_of, waveform_of}
use Rattle.waveform.specs.Phases.{joined, phases_of}
use Rattle.waveform.specs.Walks.{group_in, whole_step, whole_of, driving_of}
use Rattle.walk.specs.Ready.{no_frames}
use Rattle.walk.proofs.Made.{idle_walk}
use Rattle.combine.specs.Acts.{ActsAs, Extends, swing_in, driven_by}
use Rattle.combine.specs.Groups.{timed_group}
use Rattle.combine.specs.Settled.{settled}
use Rattle.combine.proofs.Bytes.{group_is}
use Rattle.combine.proofs.Powers.{Swing, swing_is, sane, acts_as}
use Rattle.combine.proofs.Phases.{walk_acts, walk_extends, start_acts, drive_none, drive_more}
use Rattle.combine.proofs.Unique.{unique, settled_alike}
use Rattle.combine.proofs.transfer_whole.Invariants.{of}
use Rattle.combine.proofs.transfer_whole.Goals.{After-from_setting-levels, Start}
use Rattle.combine.proofs.transfer_whole.Goals as goal
use Rattle.combine.proofs.transfer_whole.Goals.{then-not-idle, else-not-idle}

-- what drives, by its levels and its swing
abbrev driving : Start → Levels → ℤ → Driving
driving s levels swing = record { levels = levels; drive = s.args.drive; swing = swing; positive_drives_black = s.args.positive_drives_black }

-- the same as the machine reads them
abbrev machine : After-from_setting-levels → Driving
machine c = driving c.before c.from_setting-levels.result (rd c.args.swing)

swings : (s : Start) → Swing s.args.swing
swings s = swing_is s.ranges.swing s.requires.1

swings_in : (s : Start) → Swing (rd s.args.swing)
swings_in s = subst Swing (sym (back s.ranges.swing)) (swings s)

pub loop-k-init : goal.loop-k-init
loop-k-init c =
    let s = c in
    let d = machine c.before in
    let w = swings_in c.before.before in (
      omega arith,
      acts_as (swing_in d) w.room (λ x h. drive_none d (of d s.args.setting.now s.args.frame_period.now) x) (start_acts d w c.identity-moved.ensures),
    )

pub group_combined-moved-requires : goal.group_combined-moved-requires
unfolding waveform_of
group_combined-moved-requires c =
    let test = c in
    let made = test in
    let s = made in (
      test.loop-k-test.true,
      record {
        drivable = record { listable = subst AllListable (sym made.from_setting-levels.ensures) s.requires.0.listable; takes = s.requires.0.takes };
        some = subst (λ (z : ℤ). pos 1 ≤ℤ z) (sym (back s.ranges.swing)) s.requires.1;
      },
    )

pub loop-k-preserved : goal.loop-k-preserved
unfolding group_codes_of
loop-k-preserved c =
    let test = c in
    let l = test in
    let made = l in
    let s = made in
    let d = machine c.before.before.before.before.before.before in
    let w = swings_in c.before.before.before.before.before.before.before in
    let k = l.loop-k.k in
    let bytes = s.args.setting.now in
    let periods = s.args.frame_period.now in
    let g = timed_group bytes periods k in
    let next : Extends d (group_in d g) l.loop-k.moved c.if-not-idle.moved =
    elim c.if-not-idle.branch [
      | then-not-idle v ↦ subst (λ (u : Transfer). Extends d (group_in d g) l.loop-k.moved u) (sym v.moved-is) v.group_combined-moved.ensures
      | else-not-idle v ↦ walk_extends d w (group_in d g) l.loop-k.moved c.if-not-idle.moved (v.moved-is ∙ idle_walk (whole_step d) d g l.loop-k.moved (c.idle.ensures ∙ ap no_frames c.frames.ensures) (ap not v.if-not-idle.false))
    ] in
    let worked : Extends d (of d bytes periods k) l.loop-k.moved c.if-not-idle.moved =
    subst (λ (h : Group). Extends d (group_in d h) l.loop-k.moved c.if-not-idle.moved) (group_is bytes periods k test.loop-k-test.true) next in (
      omega arith,
      acts_as (swing_in d) w.room (λ x h. drive_more d (of d bytes periods) k x) (worked.acts _ l.loop-k.invariant.1),
    )

pub returns : goal.returns
unfolding waveform_of
returns c =
    let l = c in
    let made = l in
    let s = made in
    let a = s.args in
    let black = a.positive_drives_black in
    let bytes = a.setting.now in
    let periods = a.frame_period.now in
    let whole = waveform_of bytes periods in
    let w = swings c.before.before.before.before.before in
    let d = driving_of whole a.drive a.swing black in
    let ps = phases_of whole a.drive in
    let r = l.loop-k.moved in
    let walk = whole_of whole a.drive a.swing black in
    let walked : ActsAs (swing_in d) walk (driven_by d ps) = walk_acts d w ps (identity_t a.swing) (λ x. x) (start_acts d w refl) in
    let all : l.loop-k.k ≡ 10 = omega arith in
    let acts : Levels → ℤ → ℕ → Type 0 = λ levels swing k. ActsAs (nat_abs swing) r (driven_by (driving c.before.before.before.before.before levels swing) (joined k (of (driving c.before.before.before.before.before levels swing) bytes periods))) in
    let combined : ActsAs (swing_in d) r (driven_by d ps) =
    subst (λ (z : ℤ). acts whole.levels z 10) (back s.ranges.swing)
    (subst (λ (v : Levels). acts v (rd a.swing) 10) made.from_setting-levels.ensures
    (subst (λ (k : ℕ). acts made.from_setting-levels.result (rd a.swing) k) all l.loop-k.invariant.1)) in
    let e : c.settle.result ≡ settled walk = c.settle.ensures ∙ unique (swing_in d) w.room _ combined walked in record { value = e; alike = λ z. ap (λ (t : Transfer). apply_t t z) e ∙ settled_alike walk (sane walked).order z }
