-- The dropped count over a list of calls (SCOPE, Log: the log has room for 1,024 records, and the count of those beyond it stops at 2^64 − 1).
use Rattle.std.specs.Prelude.{ℕ, ◌+◌, ◌-◌, min, ◌≡◌, Bool, true, false, List, [], ◌∷◌}
use Rattle.numbers.specs.Saturation.{largest}
use Rattle.device.specs.Parts.{with_journal}
use Rattle.world.specs.World.{World, device_in_world}
use Rattle.calls.specs.World.{Call, advance, set_reset, write_command, write_data, read_data, set_ambient, take_diagnostics, taken}
use Rattle.history.specs.Reckon.{Core, device_of, bare, core_after}

-- a world that has a core, nothing in its log, and whether the command has reported a reserved value, which it does once (30)
abbrev pub bare_with : Core → Bool → World
bare_with c flag = device_in_world.put (bare c) (with_journal (device_of c) (record { count = 0; dropped = 0; reserved_reported = flag }))

-- how many reports a call makes: the records that it writes to an empty log, whose room is far more
abbrev pub reports_of : List ℕ → Core → Bool → Call → ℕ
reports_of otp c flag call = (taken otp (bare_with c flag) call).device.journal.count

-- whether the command has reported a reserved value after the call
abbrev pub flag_after : List ℕ → Core → Bool → Call → Bool
flag_after otp c flag call = (taken otp (bare_with c flag) call).device.journal.reserved_reported

-- the records that wait, the dropped count, and whether the command has reported a reserved value
pub record Tally : Type 0 where
  pub waiting : ℕ
  pub dropped : ℕ
  pub flag : Bool

-- so many reports more: they wait while there is room for 1,024, and those beyond are counted, stopping at 2^64 − 1
abbrev pub with_reports : Tally → ℕ → Bool → Tally
with_reports t n flag =
    record {
      waiting = min (t.waiting + n) 1024;
      dropped = min (t.dropped + (t.waiting + n - 1024)) (largest 64);
      flag = flag;
    }

-- the reports of a call
abbrev pub after_reports : List ℕ → Core → Tally → Call → Tally
after_reports otp c t call = with_reports t (reports_of otp c t.flag call) (flag_after otp c t.flag call)

-- by call; take_diagnostics alone takes the records that wait
abbrev pub tally_call : List ℕ → Core → Tally → Call → Tally
tally_call otp c t (advance time) = after_reports otp c t (advance time)
tally_call otp c t (set_reset time low) = after_reports otp c t (set_reset time low)
tally_call otp c t (write_command time command) = after_reports otp c t (write_command time command)
tally_call otp c t (write_data time byte) = after_reports otp c t (write_data time byte)
tally_call otp c t (read_data time) = after_reports otp c t (read_data time)
tally_call otp c t (set_ambient register) = after_reports otp c t (set_ambient register)
tally_call otp c t take_diagnostics = record { waiting = 0; dropped = t.dropped; flag = t.flag }

-- over a list of accepted calls
unfoldable pub tally : List ℕ → Core → Tally → List Call → Tally
tally otp c t [] = t
tally otp c t (call ∷ calls) = tally otp (core_after otp c call) (tally_call otp c t call) calls

-- at first
abbrev pub no_report : Tally
no_report = record { waiting = 0; dropped = 0; flag = false }

-- how many reports a list of calls makes
abbrev pub reports_in : List ℕ → Core → Bool → List Call → ℕ
reports_in otp c flag [] = 0
reports_in otp c flag (call ∷ calls) = reports_of otp c flag call + reports_in otp (core_after otp c call) (flag_after otp c flag call) calls

-- a call that takes the records that wait
abbrev pub takes_records : Call → Bool
takes_records (advance time) = false
takes_records (set_reset time low) = false
takes_records (write_command time command) = false
takes_records (write_data time byte) = false
takes_records (read_data time) = false
takes_records (set_ambient register) = false
takes_records take_diagnostics = true

-- none of the calls does
abbrev pub Untaken : List Call → Type 0
Untaken [] = Unit {0}
Untaken (call ∷ calls) = (takes_records call ≡ false) × Untaken calls

-- a world beside the tally
pub record Tallies (w : World) (t : Tally) : Type 0 where
  pub waiting : w.device.journal.count ≡ t.waiting
  pub dropped : w.device.journal.dropped ≡ t.dropped
  pub flag : w.device.journal.reserved_reported ≡ t.flag
