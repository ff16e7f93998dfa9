-- `command::is_read_command` meets its contract: by the kind that the table gives.
use Rattle.std.specs.Prelude.{Some}
use mathlib.Core.Path.{ap, ◌∙◌, sym}
use Rattle.command.specs.Table.{is_read}
use Rattle.command.proofs.is_read_command.Goals as goal

pub returns-in_default : goal.returns-in_default
returns-in_default c = ap is_read (sym c.in_default.is ∙ c.kind.ensures)

pub returns-in-Write : goal.returns-in-Write
returns-in-Write c =
    ap is_read (sym (ap Some c.in-Write.is) ∙ sym c.in-Some.is ∙ c.kind.ensures)

pub returns-in-Read : goal.returns-in-Read
returns-in-Read c =
    ap is_read (sym (ap Some c.in-Read.is) ∙ sym c.in-Some.is ∙ c.kind.ensures)

pub returns-in-Unsupported : goal.returns-in-Unsupported
returns-in-Unsupported c =
    ap is_read (sym (ap Some c.in-Unsupported.is) ∙ sym c.in-Some.is ∙ c.kind.ensures)

pub returns-in-Reserved : goal.returns-in-Reserved
returns-in-Reserved c =
    ap is_read (sym (ap Some c.in-Reserved.is) ∙ sym c.in-Some.is ∙ c.kind.ensures)
