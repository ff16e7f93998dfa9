-- A transfer with its bounds put before its sum (glass.rs, `Transfer::apply`).
use Rattle.std.specs.Prelude.{◌≡◌, ℤ, ◌+ℤ◌, ◌≤ℤ◌}
use Rattle.numbers.specs.Saturation.{clamp_z, least, most}
use Rattle.glass.specs.declared.Transfer.{Transfer}
use Rattle.glass.specs.Transfers.{apply_t}
use Rattle.glass_tables.specs.declared.Move.{Move}

-- a number of 64 bits
pub record Word (x : ℤ) : Type 0 where
  pub at_least : least ≤ℤ x
  pub at_most : x ≤ℤ most

-- x held between the move's bounds, then moved
abbrev pub moved_by : Move → ℤ → ℤ
moved_by m x = clamp_z x m.lo m.hi +ℤ m.add

-- both bounds stay within 64 bits when they are moved, and so does all that is held between them
pub record Fitting (m : Move) : Type 0 where
  pub from : Word (m.lo +ℤ m.add)
  pub to : Word (m.hi +ℤ m.add)

-- the move does to every number of 64 bits what the transfer does
pub record Does (t : Transfer) (m : Move) : Type 0 where
  pub fitting : Fitting m
  pub does : (x : ℤ) → Word x → moved_by m x ≡ apply_t t x
