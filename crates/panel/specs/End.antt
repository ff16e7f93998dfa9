-- When the display in progress ends (mod.rs, `next_deadline`).
use Rattle.std.specs.Prelude.{ℕ, Option, Some, None}
use Rattle.panel.specs.declared.Display.{Display}

-- the end of the display, if there is one
abbrev pub display_end : Option Display → Option ℕ
display_end None = None
display_end (Some display) = Some display.ends
