-- What each return of the code hands over, over plain variables. Assumes nothing.
use Rattle.std.specs.Prelude.{Option, Some, None}
use Prim.Native.Nat.{ℕ, ◌≤◌, ◌<◌, zero-le}
use mathlib.Core.Path.{◌≡◌, refl, sym, ap, ◌∙◌}
use mathlib.Core.Bool.{Bool, true, false}
use mathlib.Core.List.{List}
use lib.Dec.{eqb}
use lib.Seq.{set_out}
use borrow.Author.Tests.{lt-ltb, le-ltb, ltb-false}
use Rattle.numbers.specs.Choice.{pick}
use Rattle.numbers.proofs.Cases.{took, passed}
use Rattle.counter.specs.declared.Counter.{Counter}
use Rattle.ram.specs.declared.Plane.TheVariants.{BlackWhite, Red}
use Rattle.ram.specs.Plane.{plane_of, index_of, is_there, put_at, wrote_at, written_at}
use Rattle.counter.specs.Counter.{advanced_of}
use Rattle.diagnostic.specs.declared.DiagnosticKind.TheVariants.{DataWithoutCommand, ExtraData, RamOutOfRange}
use Rattle.device.specs.declared.Active.{Active}
use Rattle.device.specs.declared.Bus.{Bus}
use Rattle.device.specs.declared.Current.{Current}
use Rattle.device.specs.declared.Current.TheVariants as current
use Rattle.device.specs.declared.Kind.{Kind}
use Rattle.device.specs.declared.Kind.TheVariants.{Write, Read, Unsupported, Reserved}
use Rattle.device.specs.declared.Params.TheVariants.{Exactly, Between, Stream}
use Rattle.device.specs.declared.Power.{Power}
use Rattle.device.specs.declared.Power.TheVariants.{Running, Asleep, InReset}
use Rattle.device.specs.declared.Ssd1677.{Ssd1677}
use Rattle.device.specs.Parts.{with_bus, with_current, with_pointed}
use Rattle.world.specs.World.{WithLog, with_log, WithRam, with_ram, on, device_in_ram, log_in_ram}
use Rattle.chip.specs.Report.{logged}
use Rattle.parameter.specs.Parameter.{parameter_taken}
use Rattle.device.specs.Kinds.{is_stream, most_of}
use Rattle.data.specs.Data.{one_byte_more, current_set, writing_on, surplus, at_most, plane_for, plane_written, is_inside, counter_stepped, out_of_range, ram_written, data_by_kind, unasked, data_taken}
use Rattle.data.specs.Stream.{is_streamed, streamed}

pub goes_on : (d e r : Ssd1677) (a b : Active) → e ≡ d → b ≡ a → r ≡ current_set (current.Active b) e → r ≡ current_set (current.Active a) d
goes_on d e r a b e₁ e₂ e₃ = rw (e₃, e₂, e₁)

module _ (a : Active) (w : WithRam) where
  pub is_surplus : (k : WithLog) (r : Ssd1677)
      → k ≡ pick a.extra_reported (with_log w.device w.log) (logged (ExtraData a.command) (with_log w.device w.log))
      → r ≡ current_set (current.Active (one_byte_more a true a.range_reported)) k.device → with_ram r w.black_white w.red k.log ≡ surplus a w
  unfolding surplus
  is_surplus k r e f = by a.extra_reported e
    where
      by : (b : Bool) → k ≡ pick b (with_log w.device w.log) (logged (ExtraData a.command) (with_log w.device w.log))
          → with_ram r w.black_white w.red k.log
          ≡ writing_on a true a.range_reported
          (pick b w
          (with_ram
          (logged (ExtraData a.command) (with_log w.device w.log)).device
          w.black_white
          w.red
          (logged (ExtraData a.command) (with_log w.device w.log)).log))
      by true e = rw (f, e)
      by false e = rw (f, e)

  pub takes : (most byte : ℕ) (t : WithRam) (r : Ssd1677) → a.received < most → t ≡ parameter_taken a.command a.received byte w
      → r ≡ current_set (current.Active (one_byte_more a a.extra_reported a.range_reported)) t.device
      → with_ram r t.black_white t.red t.log ≡ at_most most byte a w
  unfolding at_most
  takes most byte t r h e f = rw (lt-ltb a.received most h, f, e)

  pub takes_not : (most byte : ℕ) (z : WithRam) → most ≤ a.received → z ≡ surplus a w → z ≡ at_most most byte a w
  unfolding at_most
  takes_not most byte z h e = rw (le-ltb a.received most h) e

  pub steps_outside : (n : WithLog) (r : Ssd1677) → n ≡ out_of_range a (with_log w.device w.log)
      → r ≡ current_set (current.Active (one_byte_more a a.extra_reported true)) (counter_stepped n.device)
      → with_ram r w.black_white w.red n.log ≡ writing_on a a.extra_reported true (on device_in_ram counter_stepped (on log_in_ram (out_of_range a) w))
  steps_outside n r e f = rw (f, e)

module _ (a : Active) (k : WithLog) where
  pub past : a.range_reported ≡ true → k ≡ out_of_range a k
  unfolding out_of_range
  past h = rw h

  pub past_first : (n : WithLog) → a.range_reported ≡ false
      → n ≡ logged (RamOutOfRange a.command k.device.regs.counter.x k.device.regs.counter.y) k → n ≡ out_of_range a k
  unfolding out_of_range
  past_first n h e = rw h e

-- a write that does not find its byte leaves the plane
pub untouched : (p : List ℕ) (c : Counter) (byte : ℕ) → wrote_at p c ≡ false → written_at p c byte ≡ p
unfolding wrote_at written_at
untouched p c byte h = by (index_of c) h
  where
    by : (q : Option ℕ) → is_there p q ≡ false → put_at p q byte ≡ p
    by (Some i) h = set_out p i byte (ltb-false i _ h)
    by None h = refl

-- a byte at the counter of the plane that the command writes
module _ (byte : ℕ) (a : Active) (w : WithRam) (wrote : Bool) (b d : List ℕ)
    (found : wrote ≡ wrote_at (plane_of w.black_white w.red (plane_for a.command)) w.device.regs.counter)
    (black_white : b ≡ pick (eqb a.command 0x24) (written_at w.black_white w.device.regs.counter byte) w.black_white)
    (red : d ≡ pick (eqb a.command 0x24) w.red (written_at w.red w.device.regs.counter byte)) where
  pub puts : (c : Counter) (n : Active) (bus : Bus) (r : Ssd1677) → wrote ≡ true
      → c ≡ advanced_of w.device.regs.counter w.device.regs.window w.device.regs.entry
      → n ≡ one_byte_more a a.extra_reported a.range_reported → bus ≡ with_current w.device.bus (current.Active n)
      → r ≡ with_pointed w.device c bus → with_ram r b d w.log ≡ ram_written byte a w
  unfolding ram_written
  puts c n bus r h e₁ e₂ e₃ e₄ = rw (← found, h) (by (eqb a.command 0x24) black_white red)
    where
      by : (t : Bool) → b ≡ pick t (written_at w.black_white w.device.regs.counter byte) w.black_white
          → d ≡ pick t w.red (written_at w.red w.device.regs.counter byte)
          → with_ram r b d w.log ≡ writing_on a a.extra_reported a.range_reported (on device_in_ram counter_stepped (plane_written (pick t BlackWhite Red) byte w))
      by true p q = rw (e₄, e₃, e₂, e₁, p, q)
      by false p q = rw (e₄, e₃, e₂, e₁, p, q)

  pub stays : wrote ≡ false → (b ≡ w.black_white) × (d ≡ w.red)
  stays h = by (eqb a.command 0x24) (rw (← found) h) black_white red
    where
      by : (t : Bool) → wrote_at (plane_of w.black_white w.red (pick t BlackWhite Red)) w.device.regs.counter ≡ false
          → b ≡ pick t (written_at w.black_white w.device.regs.counter byte) w.black_white
          → d ≡ pick t w.red (written_at w.red w.device.regs.counter byte) → (b ≡ w.black_white) × (d ≡ w.red)
      by true m p q = (p ∙ untouched w.black_white w.device.regs.counter byte m, q)
      by false m p q = (p, q ∙ untouched w.red w.device.regs.counter byte m)

-- past the RAM
pub outside : (byte : ℕ) (a : Active) (w z : WithRam) → is_inside (plane_for a.command) w ≡ false
    → z ≡ writing_on a a.extra_reported true (on device_in_ram counter_stepped (on log_in_ram (out_of_range a) w)) → z ≡ ram_written byte a w
unfolding ram_written
outside byte a w z h e = passed _ _ _ _ h e

module _ (byte : ℕ) (w : WithRam) (p : Power) where
  pub reports_unasked : (k : WithLog) → p ≡ Running → k ≡ logged (DataWithoutCommand byte) (with_log w.device w.log)
      → with_ram k.device w.black_white w.red k.log ≡ unasked byte w p
  unfolding unasked
  reports_unasked k h e = rw (h, e)

  pub sleeps : p ≡ Asleep → w ≡ unasked byte w p
  unfolding unasked
  sleeps h = rw h

  pub resets : p ≡ InReset → w ≡ unasked byte w p
  unfolding unasked
  resets h = rw h

pub ignores : (byte : ℕ) (w v : WithRam) (bus : Bus) (r : Ssd1677) → v ≡ unasked byte w w.device.bus.power
    → bus ≡ with_current v.device.bus current.Ignoring → r ≡ with_bus v.device bus
    → with_ram r v.black_white v.red v.log ≡ data_taken byte w current.Idle
unfolding data_taken
ignores byte w v bus r e₁ e₂ e₃ = rw (e₃, e₂, e₁)

-- a kind that takes no parameters: every byte is surplus
none_taken : (byte : ℕ) (a : Active) (w : WithRam) → at_most 0 byte a w ≡ surplus a w
unfolding at_most
none_taken byte a w = rw (le-ltb a.received 0 zero-le)

by_kind : (byte : ℕ) (a : Active) (w z : WithRam) (k : Kind) → z ≡ pick (is_stream k) (ram_written byte a w) (at_most (most_of k) byte a w) → z ≡ data_by_kind byte a w k
unfolding data_by_kind
by_kind byte a w z (Write (Exactly count)) e = e
by_kind byte a w z (Write (Between least most)) e = e
by_kind byte a w z (Write Stream) e = e
by_kind byte a w z Read e = e ∙ none_taken byte a w
by_kind byte a w z Unsupported e = e ∙ none_taken byte a w
by_kind byte a w z Reserved e = e ∙ none_taken byte a w

module _ (byte : ℕ) (w z : WithRam) (c : Current) where
  pub is_unasked : c ≡ current.Idle → z ≡ data_taken byte w current.Idle → z ≡ data_taken byte w c
  is_unasked h e = rw h e

  pub is_ignored : c ≡ current.Ignoring → w ≡ data_taken byte w c
  unfolding data_taken
  is_ignored h = rw h

  module _ (a : Active) (t : Bool) (is : c ≡ current.Active a) (tells : t ≡ is_stream a.kind) where
    pub stream_is : t ≡ true → z ≡ ram_written byte a w → z ≡ data_taken byte w c
    unfolding data_taken
    stream_is h e = rw is (by_kind byte a w z a.kind (rw (← tells, h) e))

    pub is_other : (most : ℕ) → t ≡ false → most ≡ most_of a.kind → z ≡ at_most most byte a w → z ≡ data_taken byte w c
    unfolding data_taken
    is_other most h m e = rw is (by_kind byte a w z a.kind (rw (← tells, h, ← m) e))

-- a byte of RAM data apart from all else
module _ (byte : ℕ) (d : Ssd1677) (b r : List ℕ) (c : Current) where
  module _ (a : Active) (t : Bool) (is : c ≡ current.Active a) (tells : t ≡ is_stream a.kind) where
    pub streams : (wrote : Bool) → t ≡ true → wrote ≡ wrote_at (plane_of b r (plane_for a.command)) d.regs.counter → wrote ≡ is_streamed d b r c
    streams wrote h found = rw (is, ← tells, h) found

    pub streams_not : t ≡ false → false ≡ is_streamed d b r c
    streams_not h = rw (is, ← tells, h)

  pub streams_idle : c ≡ current.Idle → false ≡ is_streamed d b r c
  streams_idle is = rw is

  pub streams_ignoring : c ≡ current.Ignoring → false ≡ is_streamed d b r c
  streams_ignoring is = rw is

  pub streamed_as : (z w : WithRam) → true ≡ is_streamed d b r c → w ≡ with_ram d b r w.log → z ≡ data_taken byte w c → z ≡ streamed byte w c
  streamed_as z w y e f = took _ _ _ _ (ap (λ (x : WithRam). is_streamed x.device x.black_white x.red c) e ∙ sym y) f

  pub leaves : (e f : List ℕ) → false ≡ is_streamed d b r c → e ≡ b → f ≡ r → (l : List ℕ) → with_ram d e f l ≡ streamed byte (with_ram d b r l) c
  leaves e f n p q l = passed _ _ _ _ (sym n) (rw (p, q))
