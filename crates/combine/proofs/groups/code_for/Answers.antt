-- `combine::groups::code_for` meets its contract. Assumes nothing.
use mathlib.Core.Path.{ap, sym, subst, ◌∙◌}
use Prim.Native.Nat.{◌<◌}
use native.Mathlib.Omega.{arith}
use Rattle.waveform.specs.declared.Drive.{Drive}
use Rattle.waveform.specs.Phases.{Takes, code_for}
use Rattle.waveform.specs.Setting.{codes_of}
use Rattle.combine.proofs.Bytes.{code_at}
use Rattle.combine.proofs.groups.code_for.Goals.{In-Lut}
use Rattle.combine.proofs.groups.code_for.Goals as goal

lut_below : (c : In-Lut) → c.in-Lut.lut < 5
lut_below c = subst Takes c.in-Lut.is c.requires.2

pub overflow_mul-lut : goal.overflow_mul-lut
overflow_mul-lut c = omega (arith, lut_below c)

pub overflow_add-lut : goal.overflow_add-lut
overflow_add-lut c = omega (arith, lut_below c)

pub bounds-setting-lut : goal.bounds-setting-lut
bounds-setting-lut c = omega (arith, lut_below c.before.before)

pub returns-in-Lut : goal.returns-in-Lut
returns-in-Lut c =
    let told = c in
    let s = told in
    let a = s.args in
    let codes = codes_of a.setting.now a.group in
    c.code_in.ensures
    ∙ code_at a.setting.now a.group _ a.phase (lut_below c.before.before.before.before) s.requires.1
    ∙ sym (ap (λ (d : Drive). code_for d codes a.phase) told.in-Lut.is)
