-- What a call other than start refuses of what it is handed, by SCOPE, Refusals: 13, 11, 15, 12.
use Rattle.std.specs.Prelude.{ℕ, not, List, Result, Ok, Err}
use Rattle.numbers.specs.Choice.{pick}
use Rattle.otp.specs.Table.{bad_table}
use Rattle.device.specs.declared.Ssd1677.{Ssd1677}
use Rattle.guard_lengths.specs.declared.Lengths.{Lengths}
use Rattle.guard.specs.declared.Refusal.{Refusal}
use Rattle.guard.specs.declared.Refusal.TheVariants.{Buffer, Table, State, Counts}
use Rattle.guard_state.specs.State.{state_fine}
use Rattle.guard_lengths.specs.Lengths.{lengths_fit, counts_fit}

-- the number of a refusal
abbrev pub number_of : Refusal → ℕ
number_of Buffer = 11
number_of Table = 12
number_of State = 13
number_of Counts = 15

-- the number of what a call answers, 0 where it is not refused
abbrev pub refusal_number : {A : Type 0} → Result A Refusal → ℕ
refusal_number (Ok value) = 0
refusal_number (Err refusal) = number_of refusal

-- 13, then 11, then 15
unfoldable pub guarded : Ssd1677 → Lengths → Result Unit Refusal
guarded d l =
    pick (not (state_fine d)) (Err State)
    (pick (not (lengths_fit d.config.panel l)) (Err Buffer)
    (pick (not (counts_fit l)) (Err Counts)
    (Ok tt)))

-- 13, then 11, then 15, then 12
unfoldable pub guarded_with_table : Ssd1677 → Lengths → List ℕ → Result Unit Refusal
guarded_with_table d l otp =
    pick (not (state_fine d)) (Err State)
    (pick (not (lengths_fit d.config.panel l)) (Err Buffer)
    (pick (not (counts_fit l)) (Err Counts)
    (pick (bad_table otp) (Err Table)
    (Ok tt))))
