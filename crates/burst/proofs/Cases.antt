-- What each return of the code hands over, over plain variables. Assumes nothing.
use Prim.Native.Nat.{ℕ, max, min, ◌+◌}
use mathlib.Core.Path.{◌≡◌, ap, ◌∙◌}
use mathlib.Core.Bool.{Bool, true, false, ◌&&◌}
use mathlib.Core.List.{List}
use lib.Dec.{eqb}
use Rattle.numbers.specs.Saturation.{largest}
use Rattle.counter.specs.declared.Counter.{Counter}
use Rattle.counter.specs.Counter.{advanced_of}
use Rattle.ram.specs.Plane.{wrote_at, written_at}
use Rattle.device.specs.declared.Active.{Active}
use Rattle.device.specs.declared.Bus.{Bus}
use Rattle.device.specs.declared.Current.{Current}
use Rattle.device.specs.declared.Current.TheVariants as current
use Rattle.device.specs.declared.Ssd1677.{Ssd1677}
use Rattle.device.specs.Parts.{with_now, with_current, with_pointed}
use Rattle.moment.specs.Moments.{quiet_at}
use Rattle.device.specs.Kinds.{is_stream}
use Rattle.burst.specs.declared.Course.{Course}
use Rattle.burst.specs.declared.Reached.{Reached}
use Rattle.burst.specs.Running.{byte_step, taking, Ran, running}
use Rattle.burst.specs.Burst.{course_of, start_of, received_as, reached_by, Into, into, put_back, bursted, ran_into, burstOf}

module _ (c : Course) (kind time byte latest : ℕ) (s : Reached) (plane : List ℕ) (quiet : Bool)
    (later : latest ≡ max s.latest time) (tells : quiet ≡ quiet_at c.ends c.busy_until latest) where
  -- the byte was taken
  pub takes_it : (wrote : Bool) (counter : Counter) (received : ℕ) {p : List ℕ} → (eqb kind 2 && quiet) ≡ true → wrote ≡ true
      → wrote ≡ wrote_at plane s.counter → p ≡ written_at plane s.counter byte
      → counter ≡ advanced_of s.counter c.window c.entry → received ≡ min (s.received + 1) (largest 16)
      → byte_step true (record { latest = latest; counter = counter; received = received }) p ≡ taking c kind time byte s plane
  takes_it wrote counter received h w found put steps counts = rw (← later, ← tells, h, ← found, w, put, steps, counts)

  -- the plane does not have the counter's byte
  pub leaves_it : (wrote : Bool) {p : List ℕ} → (eqb kind 2 && quiet) ≡ true → wrote ≡ false
      → wrote ≡ wrote_at plane s.counter → p ≡ plane → byte_step false s p ≡ taking c kind time byte s plane
  leaves_it wrote h w found same = rw (← later, ← tells, h, ← found, w, same)

  -- the event is no data byte, or something else comes about
  pub passes_it : (eqb kind 2 && quiet) ≡ false → byte_step false s plane ≡ taking c kind time byte s plane
  passes_it h = rw (← later, ← tells, h)

pub puts_back : (d m r : Ssd1677) (a : Active) (s : Reached) (bus : Bus) → bus ≡ with_current d.bus (current.Active (received_as a s.received))
    → m ≡ with_now d s.latest → r ≡ with_pointed m s.counter bus → r ≡ reached_by d a s
puts_back d m r a s bus e₁ e₂ e₃ = rw (e₃, e₂, e₁)

module _ (kinds times values : List ℕ) (n i : ℕ) (d : Ssd1677) where
  pub runs_into : (a : Active) (plane : List ℕ) (c : Course) (r : Ran) (x : Ssd1677) → c ≡ course_of d
      → r ≡ running kinds times values c n i (start_of d a) plane → x ≡ reached_by d a r.reached
      → into r.made x r.plane ≡ ran_into kinds times values n i d a plane
  unfolding ran_into
  runs_into a plane c r x e₁ e₂ e₃ =
      ap (λ (y : Ssd1677). into r.made y r.plane) e₃
      ∙ ap (put_back d a) (e₂ ∙ ap (λ (y : Course). running kinds times values y n i (start_of d a) plane) e₁)

  module _ (black_white red : List ℕ) (cur : Current) where
    pub bursts_idle : cur ≡ current.Idle → bursted i d black_white red ≡ burstOf kinds times values n i d black_white red cur
    unfolding burstOf
    bursts_idle is = rw is

    pub bursts_ignoring : cur ≡ current.Ignoring → bursted i d black_white red ≡ burstOf kinds times values n i d black_white red cur
    unfolding burstOf
    bursts_ignoring is = rw is

    module _ (a : Active) (t : Bool) (is : cur ≡ current.Active a) (tells : t ≡ is_stream a.kind) where
      pub bursts_not : t ≡ false → bursted i d black_white red ≡ burstOf kinds times values n i d black_white red cur
      unfolding burstOf
      bursts_not h = rw (is, ← tells, h)

      pub bursts_black_white : (r : Into) → t ≡ true → eqb a.command 0x24 ≡ true → r ≡ ran_into kinds times values n i d a black_white
          → bursted r.made r.device r.plane red ≡ burstOf kinds times values n i d black_white red cur
      unfolding burstOf
      bursts_black_white r h k e = rw (is, ← tells, h, k, e)

      pub bursts_red : (r : Into) → t ≡ true → eqb a.command 0x24 ≡ false → r ≡ ran_into kinds times values n i d a red
          → bursted r.made r.device black_white r.plane ≡ burstOf kinds times values n i d black_white red cur
      unfolding burstOf
      bursts_red r h k e = rw (is, ← tells, h, k, e)
