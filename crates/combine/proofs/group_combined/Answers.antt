-- `combine::group_combined` meets its contract: a group that runs once is its four phases, and another those, again and again.
-- Assumes nothing.
use mathlib.Core.Path.{◌≡◌, sym, ap, subst, ◌∙◌}
use mathlib.Core.Bool.{Bool}
use mathlib.Core.List.{foldl}
use Prim.Native.Nat.{ℕ}
use borrow.Author.Tests.{eq-eqb, ne_eqb}
use Rattle.numbers.specs.Choice.{pick}
use Rattle.numbers.proofs.Lin.{rd, field_back}
use Rattle.glass.specs.declared.Transfer.{Transfer}
use Rattle.glass.specs.Transfers.{identity_t}
use Rattle.waveform.specs.declared.Driving.{Driving}
use Rattle.waveform.specs.declared.Group.{Group}
use Rattle.waveform.specs.Phases.{joined}
use Rattle.waveform.specs.Setting.{group_codes_of}
use Rattle.waveform.specs.Walks.{four_in, group_in, whole_step}
use Rattle.combine.specs.Acts.{Repeated, swing_in}
use Rattle.combine.specs.Groups.{timed_group}
use Rattle.combine.proofs.Powers.{swing_is, acts_as}
use Rattle.combine.proofs.Phases.{walk_extends, start_acts, drive_again}
use Rattle.combine.proofs.group_combined.Goals.{After-repeats-repeats, Start}
use Rattle.combine.proofs.group_combined.Goals as goal

once_is : (d : Driving) (g : Group) → g.repeats ≡ 1 → four_in d g ≡ group_in d g
unfolding joined
once_is d g e = ap (λ (n : ℕ). joined n (λ k. four_in d g)) (sym e)

-- the group that is read, and how often it runs
abbrev group_at : (c : Start) → Group
group_at c = timed_group c.args.setting.now c.args.frame_period.now c.args.group

repeats_are : (c : After-repeats-repeats) → c.repeats-repeats.result ≡ (group_at c.before).repeats
unfolding group_codes_of
repeats_are c = c.repeats-repeats.ensures

pub returns-then-once : goal.returns-then-once
returns-then-once c =
    let call = c in
    let told = call in
    let ran = told in
    let a = ran.args in
    let d = a.driving in
    let t = a.transfer in
    let g = group_at c.before.before.before.before.before in
    let from = call.start-start.ensures ∙ ap (λ (b : Bool). pick b t (identity_t (rd d.swing))) (eq-eqb _ _ c.if-once.true) in
    let w = swing_is (record { sfits = c.struct_told-1.given.1.1.0.1 }) c.requires.1.some in
    walk_extends d w (group_in d g) t _
    (call.pass-passed.ensures
    ∙ ap (λ (u : Transfer). foldl (whole_step d) u (four_in d g)) from
    ∙ ap (foldl (whole_step d) t) (once_is d g (sym (repeats_are c.before.before.before.before) ∙ c.if-once.true)))

pub repeated-requires : goal.repeated-requires
repeated-requires c = tt

pub returns : goal.returns
returns c =
    let test = c in
    let call = test in
    let told = call in
    let ran = told in
    let a = ran.args in
    let d = a.driving in
    let w = swing_is (record { sfits = c.struct_told-1.given.1.1.0.1 }) c.requires.1.some in
    let four = four_in d (group_at c.before.before.before.before.before.before) in
    let from = call.start-start.ensures ∙ ap (λ (b : Bool). pick b a.transfer (identity_t (rd d.swing))) (ne_eqb _ _ test.if-once.false) ∙ ap identity_t (field_back d.swing told.struct_told-1.given.1.1.0.1) in
    let once = (walk_extends d w four _ _ call.pass-passed.ensures).acts (λ x. x) (start_acts d w from) in
    let many = subst (λ (n : ℕ). Repeated a.transfer call.pass-passed.result n c.repeated.result) (repeats_are c.before.before.before.before.before) c.repeated.ensures in
    record {
      acts = λ f h. acts_as (swing_in d) w.room (λ x l. drive_again d (group_at c.before.before.before.before.before.before).repeats four (f x)) (many.acts (swing_in d) w.room _ f h once);
    }
