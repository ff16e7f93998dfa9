-- A data byte keeps BUSY high to the end of the display in progress: while there is one the current command is inert. Assumes nothing.
use Prim.Native.Nat.{ℕ, ◌≤◌}
use mathlib.Core.Path.{◌≡◌, refl, sym, ◌∙◌}
use mathlib.Core.Bool.{Bool, true, false}
use native.Mathlib.Omega.{arith}
use borrow.Author.Tests.{eqb-true, le-ltb}
use Rattle.numbers.specs.Choice.{pick}
use Rattle.diagnostic.specs.declared.DiagnosticKind.TheVariants.{ExtraData}
use Rattle.panel.specs.declared.Display.{Display}
use Rattle.device.specs.declared.Active.{Active}
use Rattle.device.specs.declared.Current.{Current}
use Rattle.device.specs.declared.Current.TheVariants as current
use Rattle.device.specs.declared.Kind.{Kind}
use Rattle.device.specs.declared.Kind.TheVariants.{Write, Read, Unsupported, Reserved}
use Rattle.device.specs.declared.Params.TheVariants.{Exactly, Between, Stream}
use Rattle.device.specs.declared.Power.{Power}
use Rattle.device.specs.declared.Power.TheVariants.{Running, Asleep, InReset}
use Rattle.world.specs.World.{WithRam, on, device_in_ram, log_in_ram}
use Rattle.chip.specs.Report.{logged}
use Rattle.data.specs.Data.{current_set, writing_on, surplus, at_most, data_by_kind, unasked, data_taken}
use Rattle.data_laws.proofs.Kept.{data_leaves}
use Rattle.calls.specs.Sound.{takes_none, inert, UnderWay, Held}
use Rattle.calls.proofs.Clock.{under_way_kept}

never : false ≡ true → ⊥
never e = let z : ◌≡◌ {A = ℕ} 0 1 = cc in omega arith

module _ (w : WithRam) {display : Display} (u : UnderWay w.device display) where
  module _ (a : Active) (none : takes_none a.kind ≡ true) where
    -- a byte too many is counted, and reported once
    surplus_under_way : UnderWay (surplus a w).device display
    unfolding surplus logged
    surplus_under_way = by a.extra_reported
      where
        by : (b : Bool) → UnderWay (writing_on a true a.range_reported (pick b w (on log_in_ram (logged (ExtraData a.command)) w))).device display
        by true = under_way_kept w.device _ refl refl refl refl none u
        by false = under_way_kept w.device _ refl refl refl refl none u

    -- a command that takes no byte
    none_under_way : (count byte : ℕ) → count ≡ 0 → UnderWay (at_most count byte a w).device display
    unfolding at_most
    none_under_way count byte e = rw (le-ltb a.received count (omega arith)) surplus_under_way

    kind_under_way : (byte : ℕ) (kind : Kind) → takes_none kind ≡ true → UnderWay (data_by_kind byte a w kind).device display
    unfolding data_by_kind
    kind_under_way byte (Write (Exactly count)) h = none_under_way count byte (eqb-true count 0 h)
    kind_under_way byte (Write (Between least most)) h = absurd (never h)
    kind_under_way byte (Write Stream) h = absurd (never h)
    kind_under_way byte Read h = surplus_under_way
    kind_under_way byte Unsupported h = surplus_under_way
    kind_under_way byte Reserved h = surplus_under_way

  unasked_under_way : (byte : ℕ) (p : Power) → UnderWay (on device_in_ram (current_set current.Ignoring) (unasked byte w p)).device display
  unfolding unasked logged
  unasked_under_way byte Running = under_way_kept w.device _ refl refl refl refl refl u
  unasked_under_way byte Asleep = under_way_kept w.device _ refl refl refl refl refl u
  unasked_under_way byte InReset = under_way_kept w.device _ refl refl refl refl refl u

  data_under_way : (byte : ℕ) (c : Current) → inert c ≡ true → UnderWay (data_taken byte w c).device display
  unfolding data_taken
  data_under_way byte current.Idle h = unasked_under_way byte w.device.bus.power
  data_under_way byte current.Ignoring h = u
  data_under_way byte (current.Active a) h = kind_under_way a h byte a.kind h

pub held_data : (byte : ℕ) (w : WithRam) → byte ≤ 255 → Held w.device → Held (data_taken byte w w.device.bus.current).device
held_data byte w small h display is =
    let u = h display (sym (data_leaves byte w w.device.bus.current small).rests.same_display ∙ is) in
    data_under_way w u byte w.device.bus.current u.inert_command
