-- `setting::group_of` meets its contract. Assumes nothing.
use mathlib.Core.Path.{sym, ap, subst, ◌∙◌}
use Prim.Native.Nat.{◌<◌}
use Rattle.waveform.specs.declared.GroupCodes.{GroupCodes}
use Rattle.waveform.specs.Setting.{group_codes_of, timed}
use Rattle.waveform_laws.proofs.Decoded.{rate_below}
use Rattle.setting.proofs.group_of.Goals as goal

pub with_period-requires : goal.with_period-requires
unfolding group_codes_of
with_period-requires c = subst (λ (g : GroupCodes). g.frame_rate < 16) (sym c.group_codes-codes.ensures) (rate_below c.args.setting.now c.args.group)

pub returns : goal.returns
returns c = c.with_period.ensures ∙ ap (timed c.args.frame_period.now) c.group_codes-codes.ensures
