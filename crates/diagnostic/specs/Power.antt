-- What a stage needs (mod.rs, `powered`).
use Rattle.std.specs.Prelude.{Bool}
use Rattle.numbers.specs.Choice.{pick}
use Rattle.diagnostic.specs.declared.Stage.{Stage}
use Rattle.diagnostic.specs.declared.DiagnosticKind.{DiagnosticKind}
use Rattle.diagnostic.specs.declared.DiagnosticKind.TheVariants.{WithoutClock, WithoutAnalog}

-- with the clock and the analog supplies on, a stage runs; 33 with the clock off, else 34 with the analog supplies off
abbrev pub if_powered : {A : Type 0} → Bool → Bool → Stage → A → (DiagnosticKind → A) → A
if_powered clock analog stage runs reports = pick clock (pick analog runs (reports (WithoutAnalog stage))) (reports (WithoutClock stage))
