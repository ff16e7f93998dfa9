-- `waveform::Levels::from_setting` meets its contract. Assumes nothing.
use Rattle.std.specs.Prelude.{ℤ, Option, Some, None, unwrap_or}
use mathlib.Core.Path.{◌≡◌, refl, ap, ◌∙◌}
use Prim.Native.Nat.{◌<◌, ◌^◌}
use lib.IntN.{pos}
use lib.Signed.{mag}
use Rattle.numbers.proofs.Lin.{rd, got}
use Rattle.waveform.specs.Voltages.{or_zero, levels_of}
use Rattle.waveform.proofs.Levels.from_setting.Goals as goal

or_zero_is : (o : Option ℤ) → unwrap_or o (pos 0) ≡ or_zero o
or_zero_is (Some z) = refl
or_zero_is None = refl

level : {r : ℤ} {o u : Option ℤ} → mag r < 2 ^ 63 → r ≡ unwrap_or o (pos 0) → o ≡ u → rd r ≡ or_zero u
level {o} ok e f = got ok (e ∙ or_zero_is o ∙ ap or_zero f)

pub returns : goal.returns
unfolding levels_of
returns c =
    λ i. record {
      vsh1 = level c.unwrap_or.type_inv c.unwrap_or.ensures c.source_millivolts.ensures i;
      vsh2 = level c.unwrap_or-2.type_inv c.unwrap_or-2.ensures c.source_millivolts-2.ensures i;
      vsl = level c.unwrap_or-3.type_inv c.unwrap_or-3.ensures c.vsl_millivolts.ensures i;
    }
