-- When an active command has the kind that `kind` gives it (13; SCOPE, Refusals).
use Rattle.std.specs.Prelude.{ℕ, Bool, true, false, ◌&&◌, eqb, Option, Some, None}
use Rattle.device.specs.declared.Kind.{Kind}
use Rattle.device.specs.declared.Kind.TheVariants.{Write, Read, Unsupported, Reserved}
use Rattle.device.specs.declared.Params.TheVariants.{Exactly, Between, Stream}
use Rattle.device.specs.declared.Current.{Current}
use Rattle.device.specs.declared.Current.TheVariants.{Idle, Ignoring, Active}
use Rattle.command.specs.Table.{kind_of}

-- a kind in numbers: its form, and the fewest and most parameter bytes
pub record Code : Type 0 where
  pub form : ℕ
  pub least : ℕ
  pub most : ℕ

-- the numbers of a kind
abbrev pub code_of : Kind → Code
code_of (Write (Exactly n)) = record { form = 0; least = n; most = n }
code_of (Write (Between n m)) = record { form = 1; least = n; most = m }
code_of (Write Stream) = record { form = 2; least = 0; most = 0 }
code_of Read = record { form = 3; least = 0; most = 0 }
code_of Unsupported = record { form = 4; least = 0; most = 0 }
code_of Reserved = record { form = 5; least = 0; most = 0 }

-- the numbers agree
abbrev pub same_code : Code → Code → Bool
same_code a b = eqb a.form b.form && eqb a.least b.least && eqb a.most b.most

-- two kinds are the same (`same_is_equal` of proofs/SameKind.antt: this is equality)
unfoldable pub same_kind : Kind → Kind → Bool
same_kind a b = same_code (code_of a) (code_of b)

-- Table 7-1 has the kind
abbrev pub gives : Option Kind → Kind → Bool
gives None k = false
gives (Some given) k = same_kind given k

-- an active command's kind is the one that `kind` gives it
unfoldable pub current_fine : Current → Bool
current_fine Idle = true
current_fine Ignoring = true
current_fine (Active a) = gives (kind_of a.command) a.kind
