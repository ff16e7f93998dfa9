-- What each return of the code hands over, over plain variables. Assumes nothing.
use Prim.Native.Nat.{ℕ, ◌≤◌, ◌<◌}
use mathlib.Core.Path.{◌≡◌}
use borrow.Author.Tests.{lt-ltb, le-ltb}
use Rattle.diagnostic.specs.declared.Journal.{Journal}
use Rattle.diagnostic.specs.declared.DiagnosticKind.{DiagnosticKind}
use Rattle.diagnostic.specs.declared.DiagnosticKind.TheVariants.{MissingData}
use Rattle.diagnostic.specs.Log.{Entries, reported}
use Rattle.device.specs.declared.Ssd1677.{Ssd1677}
use Rattle.device.specs.declared.Bus.{Bus}
use Rattle.device.specs.declared.Active as the
use Rattle.device.specs.declared.Current.{Current}
use Rattle.device.specs.declared.Current.TheVariants.{Ignoring, Active}
use Rattle.device.specs.Parts.{with_bus, with_current, with_journal}
use Rattle.world.specs.World.{WithLog, with_log}
use Rattle.device.specs.Kinds.{expected_of}
use Rattle.chip.specs.Close.{entries_of, missing, reserved_unreported, closed}
use Rattle.chip.specs.Report.{logged}

module _ (time : ℕ) (e : Entries) (current : Current) (a : the.Active) (is : current ≡ Active a) where
  pub lacks : (want : ℕ) (r : Entries) → want ≡ expected_of a.kind → a.received < want
      → r ≡ reported e time (MissingData a.command want a.received) → r ≡ missing time e current
  unfolding missing
  lacks want r wants h f = rw (is, ← wants, lt-ltb a.received want h) f

  pub lacks_none : (want : ℕ) → want ≡ expected_of a.kind → want ≤ a.received → e ≡ missing time e current
  unfolding missing
  lacks_none want wants h = rw (is, ← wants, le-ltb a.received want h)

pub closes : (k : WithLog) (e : Entries) (j : Journal) (d : Ssd1677) (bus : Bus) (r : Ssd1677)
    → e ≡ missing k.device.now (entries_of k) k.device.bus.current → j ≡ reserved_unreported e.journal → d ≡ with_journal k.device j
    → bus ≡ with_current k.device.bus Ignoring → r ≡ with_bus d bus → with_log r e.log ≡ closed k
unfolding closed
closes k e j d bus r e₁ e₂ e₃ e₄ e₅ = rw (e₅, e₄, e₃, e₂, e₁)

pub logs : (kind : DiagnosticKind) (k : WithLog) (e : Entries) (r : Ssd1677) → e ≡ reported (entries_of k) k.device.now kind
    → r ≡ with_journal k.device e.journal → with_log r e.log ≡ logged kind k
unfolding logged
logs kind k e r p q = rw (q, p)
