-- `walk::phases::code_for` meets its contract. Assumes nothing.
use Prim.Native.Nat.{◌<◌}
use native.Mathlib.Omega.{arith}
use mathlib.Core.Path.{ap, sym, subst}
use Rattle.waveform.specs.declared.Drive.{Drive}
use Rattle.waveform.specs.Phases.{code_for, Takes}
use Rattle.walk.proofs.phases.code_for.Goals as goal

lut_below : (c : goal.In-Lut-unread) → c.in-Lut.lut < 5
lut_below c = subst Takes c.in-Lut.is c.requires.1

pub overflow_mul-result : goal.overflow_mul-result
overflow_mul-result c = omega (arith, lut_below c)

pub overflow_add-result : goal.overflow_add-result
overflow_add-result c = omega (arith, lut_below c)

pub bounds-codes-lut : goal.bounds-codes-lut
bounds-codes-lut c = omega (arith, lut_below c)

pub returns-in-Lut : goal.returns-in-Lut
returns-in-Lut c = let s = c.args in sym (ap (λ (d : Drive). code_for d s.codes s.phase) c.in-Lut.is)
