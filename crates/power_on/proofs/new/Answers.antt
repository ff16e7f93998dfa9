-- `power_on::new` meets its contract.
use mathlib.Core.Path.{refl, ◌∙◌}
use Rattle.counts.specs.Counts.{picture}
use Rattle.power_on.proofs.Accepted.{ready, ready_arrays}
use Rattle.power_on.proofs.Cases.{starts, starts_not}
use Rattle.power_on.specs.Start.{buffers, start_answer_of, powered_up}
use Rattle.power_on.proofs.new.Goals as goal

pub returns-in-Err : goal.returns-in-Err
returns-in-Err c =
    let s = c.args in
    starts_not s.config s.otp.now (buffers s.states.now s.luts.now (picture s.pixels.now s.counts.now) s.black_white.now s.red.now s.gates.now s.log.now) _
    c.all_lent-lengths.ensures _ _ c.in-Err.ensures c.refuse.ensures

pub returns-in_default-as_mut_array : goal.returns-in_default-as_mut_array
unfolding start_answer_of
returns-in_default-as_mut_array c =
    let s = c.args in
    let r = ready_arrays s.config s.otp.now (buffers s.states.now s.luts.now (picture s.pixels.now s.counts.now) s.black_white.now s.red.now s.gates.now s.log.now) _ _
    c.all_lent-lengths.ensures c.in_default.ensures refl in
    elim (c.in_default-as_mut_array.ensures.cases r.0) [ ]

pub returns-in_default-as_mut_array-2 : goal.returns-in_default-as_mut_array-2
unfolding start_answer_of
returns-in_default-as_mut_array-2 c =
    let s = c.args in
    let r = ready_arrays s.config s.otp.now (buffers s.states.now s.luts.now (picture s.pixels.now s.counts.now) s.black_white.now s.red.now s.gates.now s.log.now) _ _
    c.all_lent-lengths.ensures c.in_default.ensures refl in
    elim (c.in_default-as_mut_array-2.ensures.cases r.1) [ ]

pub power_up-requires : goal.power_up-requires
unfolding start_answer_of
power_up-requires c =
    let s = c.args in
    ready s.config s.otp.now (buffers s.states.now s.luts.now (picture s.pixels.now s.counts.now) s.black_white.now s.red.now s.gates.now s.log.now) _ _
    c.all_lent-lengths.ensures c.in_default.ensures refl

pub returns : goal.returns
returns c =
    let s = c.args in
    starts s.config s.otp.now (buffers s.states.now s.luts.now (picture s.pixels.now s.counts.now) s.black_white.now s.red.now s.gates.now s.log.now) _
    c.all_lent-lengths.ensures _ _ c.in_default.ensures
    (c.power_up.ensures
    ∙ (λ i. powered_up s.config (buffers s.states.now s.luts.now (picture s.pixels.now (c.in-Some.ensures.cases.same i)) s.black_white.now s.red.now s.gates.now (c.in-Some-as_mut_array.ensures.cases.same i))))
