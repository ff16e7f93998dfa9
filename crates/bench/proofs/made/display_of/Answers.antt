-- `display_of` meets its contract.
use Rattle.bench.proofs.made.display_of.Goals as goal

pub returns : goal.returns
returns c =
    let a = c.args in
    λ i. record { started = a.started; ends = 0; kind = c.kind_of-kind.ensures i; setting = a.setting.now; border = a.register }
