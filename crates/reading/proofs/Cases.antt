-- What each return of the code hands over, over plain variables. Assumes nothing.
use Rattle.std.specs.Prelude.{Option, Some, None}
use Prim.Native.Nat.{ℕ}
use mathlib.Core.Path.{◌≡◌, sym, subst}
use mathlib.Core.Bool.{Bool, true, false}
use mathlib.Core.List.{List}
use borrow.Author.Tests.{eq-eqb, ne_eqb}
use Rattle.ram.specs.Plane.{plane_of, read_at}
use Rattle.diagnostic.specs.declared.DiagnosticKind.TheVariants.{NothingToRead}
use Rattle.device.specs.declared.Active.{Active}
use Rattle.device.specs.declared.Current.{Current}
use Rattle.device.specs.declared.Current.TheVariants as current
use Rattle.device.specs.declared.Kind.{Kind}
use Rattle.device.specs.declared.Kind.TheVariants.{Write, Read, Unsupported, Reserved}
use Rattle.device.specs.declared.Params.{Params}
use Rattle.device.specs.declared.Power.{Power}
use Rattle.device.specs.declared.Power.TheVariants.{Running, Asleep, InReset}
use Rattle.device.specs.declared.Ssd1677.{Ssd1677}
use Rattle.world.specs.World.{WithLog, with_log}
use Rattle.registers.specs.Read.{read_register}
use Rattle.busy.specs.Busy.{busy_at}
use Rattle.chip.specs.Report.{logged}
use Rattle.data.specs.Data.{current_set, counter_stepped, out_of_range}
use Rattle.reading.specs.Reading.{WithByte, with_byte, one_read_more, nothing_read, register_read, chosen, ram_found, ram_read, byte_read, read_by_kind, by_current, read_taken}

-- the command goes on with a read more
abbrev on : Active → Bool → Bool → Ssd1677 → Ssd1677
on a range nothing d = current_set (current.Active (one_read_more a range nothing)) d

module _ (a : Active) (k : WithLog) where
  pub silent : (r : Ssd1677) → a.nothing_reported ≡ true → r ≡ on a a.range_reported true k.device
      → with_byte (with_log r k.log) None ≡ nothing_read a k
  unfolding nothing_read
  silent r h e = rw (h, e)

  pub tells : (n : WithLog) (r : Ssd1677) → a.nothing_reported ≡ false → n ≡ logged (NothingToRead a.command) k
      → r ≡ on a a.range_reported true n.device → with_byte (with_log r n.log) None ≡ nothing_read a k
  unfolding nothing_read
  tells n r h e f = rw (h, f, e)

  pub gives : (busy : Bool) (b : Option ℕ) (r : Ssd1677) → busy ≡ busy_at k.device.bus k.device.now
      → b ≡ read_register k.device.regs k.device.status busy a.command a.read
      → r ≡ on a a.range_reported a.nothing_reported k.device → with_byte (with_log r k.log) b ≡ register_read a k
  unfolding register_read
  gives busy b r e f h = rw (f, e, h)

  pub finds : (b : Option ℕ) (value : ℕ) (m r : Ssd1677) → b ≡ Some value → m ≡ counter_stepped k.device
      → r ≡ on a a.range_reported a.nothing_reported m → with_byte (with_log r k.log) (Some value) ≡ ram_found a k b
  unfolding ram_found
  finds b value m r h e f = rw (h, f, e)

  pub finds_none : (b : Option ℕ) (n : WithLog) (m r : Ssd1677) → b ≡ None → n ≡ out_of_range a k → m ≡ counter_stepped n.device
      → r ≡ on a true a.nothing_reported m → with_byte (with_log r n.log) None ≡ ram_found a k b
  unfolding ram_found
  finds_none b n m r h e f g = rw (h, g, f, e)

  module _ (black_white red : List ℕ) where
    pub dummy : (r : Ssd1677) → a.read ≡ 0 → r ≡ on a a.range_reported a.nothing_reported k.device
        → with_byte (with_log r k.log) (Some 0) ≡ ram_read black_white red a k
    unfolding ram_read
    dummy r h e = rw (eq-eqb a.read 0 h, e)

    pub reads_ram : (b : Option ℕ) (z : WithByte) → (a.read ≡ 0 → ⊥)
        → b ≡ read_at (plane_of black_white red (chosen k.device)) k.device.regs.counter → z ≡ ram_found a k b → z ≡ ram_read black_white red a k
    unfolding ram_read
    reads_ram b z h g i = rw (ne_eqb a.read 0 h, ← g) i

    pub is_ram : (z : WithByte) → a.command ≡ 0x27 → z ≡ ram_read black_white red a k → z ≡ byte_read black_white red a k
    unfolding byte_read
    is_ram z h e = rw (eq-eqb a.command 0x27 h) e

    pub is_register : (z : WithByte) → (a.command ≡ 0x27 → ⊥) → z ≡ register_read a k → z ≡ byte_read black_white red a k
    unfolding byte_read
    is_register z h e = rw (ne_eqb a.command 0x27 h) e

module _ (black_white red : List ℕ) (d : Ssd1677) (b : Option ℕ) where
  pub of_red : d.regs.read_ram_red ≡ true → b ≡ read_at red d.regs.counter → b ≡ read_at (plane_of black_white red (chosen d)) d.regs.counter
  of_red h e = rw h e

  pub of_black_white : d.regs.read_ram_red ≡ false → b ≡ read_at black_white d.regs.counter
      → b ≡ read_at (plane_of black_white red (chosen d)) d.regs.counter
  of_black_white h e = rw h e

module _ (black_white red : List ℕ) (k : WithLog) (z : WithByte) (c : Current) where
  pub is_idle : c ≡ current.Idle → with_byte k None ≡ by_current black_white red k c
  unfolding by_current
  is_idle h = rw h

  pub is_ignored : c ≡ current.Ignoring → with_byte k None ≡ by_current black_white red k c
  unfolding by_current
  is_ignored h = rw h

  module _ (a : Active) (is : c ≡ current.Active a) where
    by_kind : (x : Kind) → a.kind ≡ x → z ≡ read_by_kind black_white red a k x → z ≡ by_current black_white red k c
    unfolding by_current
    by_kind x h e = rw is (subst (λ (y : Kind). z ≡ read_by_kind black_white red a k y) (sym h) e)

    pub is_read : a.kind ≡ Read → z ≡ byte_read black_white red a k → z ≡ by_current black_white red k c
    unfolding read_by_kind
    is_read h e = by_kind Read h e

    pub is_write : (p : Params) → a.kind ≡ Write p → z ≡ nothing_read a k → z ≡ by_current black_white red k c
    unfolding read_by_kind
    is_write p h e = by_kind (Write p) h e

    pub is_unsupported : a.kind ≡ Unsupported → z ≡ nothing_read a k → z ≡ by_current black_white red k c
    unfolding read_by_kind
    is_unsupported h e = by_kind Unsupported h e

    pub is_reserved : a.kind ≡ Reserved → z ≡ nothing_read a k → z ≡ by_current black_white red k c
    unfolding read_by_kind
    is_reserved h e = by_kind Reserved h e

module _ (black_white red : List ℕ) (k : WithLog) (z : WithByte) (p : Power) where
  pub runs : p ≡ Running → z ≡ by_current black_white red k k.device.bus.current → z ≡ read_taken black_white red k p
  unfolding read_taken
  runs h e = rw h e

  pub sleeps : p ≡ Asleep → with_byte k None ≡ read_taken black_white red k p
  unfolding read_taken
  sleeps h = rw h

  pub in_reset_is : p ≡ InReset → with_byte k None ≡ read_taken black_white red k p
  unfolding read_taken
  in_reset_is h = rw h
