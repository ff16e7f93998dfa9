-- `hash::Hash::add` meets its contract.
use Prim.Native.Nat.{◌+◌, ◌*◌, ◌%◌}
use Rattle.hash.specs.Hash.{step_of}
use Rattle.hash.proofs.Hash.add.Goals as goal

pub returns : goal.returns
unfolding step_of
returns c = λ i. (c.self.view_is i * 16777619 + c.from.ensures i + 1) % 4294967291
