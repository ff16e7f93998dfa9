-- RAM data written in a burst is RAM data written a byte a call: feeding goes on alike from where the burst ends. Assumes nothing.
use Rattle.std.specs.Prelude.{Result, Ok, Err, is_ok}
use mathlib.Core.Path.{◌≡◌, refl, sym, ap, subst, ◌∙◌}
use mathlib.Core.Bool.{Bool, true, false, ◌&&◌}
use mathlib.Core.List.{List, [], ◌∷◌}
use Prim.Native.Nat.{ℕ, zero, suc, ◌+◌, ◌-◌, ◌≤◌, max}
use native.Mathlib.Omega.{arith}
use lib.Dec.{eqb}
use lib.IntN.{ℤ}
use lib.ListN.{length, get_or}
use borrow.Author.Tests.{eqb-true, eq-eqb}
use Rattle.numbers.specs.Choice.{pick}
use Rattle.numbers.specs.Rows.{lookup}
use Rattle.numbers.proofs.Cases.{left, right}
use Rattle.counter.specs.declared.Counter.{Counter}
use Rattle.counter.specs.Counter.{advanced_of}
use Rattle.ram.specs.Plane.{plane_of, wrote_at, written_at}
use Rattle.ram_laws.proofs.Tens.{TenBitCounter, TenBitWindow, advanced_ten}
use Rattle.device.specs.declared.Active.{Active}
use Rattle.device.specs.declared.Current.{Current}
use Rattle.device.specs.declared.Current.TheVariants as current
use Rattle.device.specs.declared.Ssd1677.{Ssd1677}
use Rattle.device.specs.Parts.{with_now, with_current, with_pointed}
use Rattle.counts.specs.Counts.{Picture}
use Rattle.world.specs.World.{World, world, with_ram, WithPlanes, with_planes, planes_in_world}
use Rattle.registers.proofs.Bounds.{Bounded}
use Rattle.clock.specs.Advance.{is_quiet}
use Rattle.device.specs.Kinds.{is_stream}
use Rattle.data.specs.Data.{one_byte_more, plane_for, data_taken}
use Rattle.data.proofs.Cases.{puts, stream_is}
use Rattle.data_laws.proofs.Kept.{written_length}
use Rattle.guard_lengths.specs.declared.Lengths.{Lengths}
use Rattle.guard_lengths.specs.Lengths.{lengths_fit, planes_log_lent}
use Rattle.guard_kinds.specs.Kinds.{current_fine}
use Rattle.guard_state.specs.State.{panel_fine, swing_fine, periods_fine, registers_fine, count_fine, frequency_fine, state_fine}
use Rattle.guard_laws.proofs.Joined.{each}
use Rattle.guard_laws.proofs.Accepted.{fine_registers, accepted_state, accepted_lengths, accepted_counts}
use Rattle.guard_laws.proofs.Kept.{registers_pass, state_passes}
use Rattle.guard.specs.declared.Refusal.{Refusal}
use Rattle.guard.specs.Refusals.{guarded}
use Rattle.query.specs.Outcome.{Outcome, outcome}
use Rattle.event.specs.declared.Event.{Event}
use Rattle.event.specs.declared.Event.TheVariants.{Data}
use Rattle.event.specs.Events.{event_of}
use Rattle.high.specs.Data.{data_written}
use Rattle.high.proofs.Cases.{data_rests}
use Rattle.dispatch.specs.Dispatch.{tells, dispatched}
use Rattle.burst.specs.declared.Reached.{Reached}
use Rattle.burst.specs.Running.{takes, onward, Ran, ran, running}
use Rattle.burst.proofs.Running.{from_on, not_past}
use Rattle.burst.specs.Burst.{course_of, start_of, received_as, reached_by, Bursted, bursted, ran_into, burstOf}
use Rattle.traffic.specs.Traffic.{event_at, feeding, unread, made, EndsAlike}
use Rattle.traffic.proofs.Feeding.{never, going_on, one}

-- ---- 13 and 11 refuse no byte of a burst

module _ (d : Ssd1677) (a : Active) (is : d.bus.current ≡ current.Active a) (fine : state_fine d ≡ true) where
  passed : (k : ℕ)
      → get_or
      (panel_fine d.config.panel
      ∷ swing_fine d.panel.swing
      ∷ periods_fine d.config.timing.frame_period
      ∷ registers_fine d.regs
      ∷ count_fine d.journal.count
      ∷ current_fine d.bus.current
      ∷ frequency_fine d.config.frequency
      ∷ [])
      k true
      ≡ true
  unfolding state_fine
  passed =
      each (panel_fine d.config.panel)
      (swing_fine d.panel.swing ∷ periods_fine d.config.timing.frame_period ∷ registers_fine d.regs ∷ count_fine d.journal.count
      ∷ current_fine d.bus.current ∷ frequency_fine d.config.frequency ∷ [])
      fine

  registers : Bounded d.regs
  registers = fine_registers d.regs (passed 3)

  abbrev window_ten : TenBitWindow d.regs.window
  window_ten = registers.window_ten

  pub counter_ten : TenBitCounter d.regs.counter
  counter_ten = registers.counter_ten

  still_current : (n : ℕ) → current_fine (current.Active (received_as a n)) ≡ true
  unfolding current_fine
  still_current n = ap current_fine (sym is) ∙ passed 5

  fine_reached : (s : Reached) → TenBitCounter s.counter → state_fine (reached_by d a s) ≡ true
  fine_reached s t =
      state_passes (reached_by d a s) (passed 0) (passed 1) (passed 2)
      (registers_pass (reached_by d a s).regs
      (record {
        mux_ten = registers.mux_ten;
        entry_three = registers.entry_three;
        window_ten = registers.window_ten;
        counter_ten = t;
        temperature_twelve = registers.temperature_twelve;
      }))
      (passed 4) (still_current s.received) (passed 6)

accepted : (d : Ssd1677) (l : Lengths) → state_fine d ≡ true → lengths_fit d.config.panel l ≡ true → l.counts ≡ 256 → guarded d l ≡ Ok tt
unfolding guarded
accepted d l e f k = rw (e, f, eq-eqb l.counts 256 k)

-- ---- a byte of a burst is a call

-- the event of kind 2 is a data byte
data_event : (kind time value : ℕ) → kind ≡ 2 → event_of kind time value ≡ Data time value
unfolding event_of lookup
data_event kind time value e = rw e

-- the command's own plane, of two: `white` says that it is the black-white one
module _ (d : Ssd1677) (a : Active) (is : d.bus.current ≡ current.Active a) (fine : state_fine d ≡ true) (streams : is_stream a.kind ≡ true)
    (white : Bool) (plane-is : eqb a.command 0x24 ≡ white) (other : List ℕ) (states : List ℤ) (luts : List ℕ) (shown : Picture) (gates log : List ℕ)
    (counted : length shown.counts ≡ 256) where
  -- the planes' lengths are such as 11 accepts
  Fit : List ℕ → Type 0
  Fit p =
      lengths_fit d.config.panel
      (planes_log_lent (length states) (length luts) (length shown.pixels) (length shown.counts) (length log) (length (pick white p other)) (length (pick white other p)))
      ≡ true

  abbrev planes : Reached → List ℕ → WithPlanes
  planes s p = with_planes (reached_by d a s) states shown (pick white p other) (pick white other p) log

  abbrev at : Reached → List ℕ → World
  at s p = world (reached_by d a s) states luts shown (pick white p other) (pick white other p) gates log

  -- the byte is put, the counter steps and the byte counts
  put_one : (time byte : ℕ) (s : Reached) (p : List ℕ) → wrote_at p s.counter ≡ true
      → with_ram (reached_by d a (onward (course_of d) time s))
      (pick white (written_at p s.counter byte) other)
      (pick white other (written_at p s.counter byte))
      log
      ≡ data_taken byte (with_ram (with_now (reached_by d a s) (max s.latest time)) (pick white p other) (pick white other p) log)
      (current.Active (received_as a s.received))
  put_one time byte s p there =
      let w = with_ram (with_now (reached_by d a s) (max s.latest time)) (pick white p other) (pick white other p) log in
      let next = one_byte_more (received_as a s.received) a.extra_reported a.range_reported in
      stream_is byte w _ _ (received_as a s.received) true refl (sym streams) refl
      (puts byte (received_as a s.received) w true _ _
      (by_plane white plane-is)
      (by_black_white white plane-is)
      (by_red white plane-is)
      (advanced_of s.counter d.regs.window d.regs.entry) next
      (with_current d.bus (current.Active next)) _ refl refl refl refl refl)
    where
      by_plane : (t : Bool) → eqb a.command 0x24 ≡ t
          → true ≡ wrote_at (plane_of (pick t p other) (pick t other p) (plane_for a.command)) s.counter
      by_plane true e = rw (e, there)
      by_plane false e = rw (e, there)

      by_black_white : (t : Bool) → eqb a.command 0x24 ≡ t
          → pick t (written_at p s.counter byte) other
          ≡ pick (eqb a.command 0x24) (written_at (pick t p other) s.counter byte) (pick t p other)
      by_black_white true e = rw e
      by_black_white false e = rw e

      by_red : (t : Bool) → eqb a.command 0x24 ≡ t
          → pick t other (written_at p s.counter byte)
          ≡ pick (eqb a.command 0x24) (pick t other p) (written_at (pick t other p) s.counter byte)
      by_red true e = rw e
      by_red false e = rw e

  -- write_data takes it and refuses nothing
  written_one : (time byte : ℕ) (s : Reached) (p : List ℕ) → TenBitCounter s.counter → Fit p → is_quiet (with_now (reached_by d a s) (max s.latest time)) ≡ true
      → wrote_at p s.counter ≡ true
      → outcome 0 (planes (onward (course_of d) time s) (written_at p s.counter byte)) ≡ data_written luts time byte (planes s p)
  unfolding Fit
  written_one time byte s p ten fit quiet there =
      let l = planes_log_lent (length states) (length luts) (length shown.pixels) (length shown.counts) (length log) (length (pick white p other)) (length (pick white other p)) in
      let ok = accepted (reached_by d a s) l (fine_reached d a is fine s ten) fit counted in
      data_rests luts time byte (planes s p) l refl (sym ok)
      (with_now (reached_by d a s) (max s.latest time)) true
      (with_ram (reached_by d a (onward (course_of d) time s)) (pick white (written_at p s.counter byte) other) (pick white other (written_at p s.counter byte)) log)
      refl (sym quiet) refl (put_one time byte s p there)

  -- ---- and so is a burst
  module _ (otp kinds times values : List ℕ) where
    abbrev events : ℕ → Event
    events = event_at kinds times values

    abbrev step : ℕ → World → Outcome World
    step = made otp events

    made_step : (i : ℕ) (s : Reached) (p : List ℕ) → TenBitCounter s.counter → Fit p
        → takes (course_of d) (get_or kinds i 0) (get_or times i 0) s p ≡ true
        → outcome 0 (at (onward (course_of d) (get_or times i 0) s) (written_at p s.counter (get_or values i 0))) ≡ step i (at s p)
    unfolding dispatched
    made_step i s p ten fit h =
        let kind = get_or kinds i 0 in
        let time = get_or times i 0 in
        let quiet = is_quiet (with_now (reached_by d a s) (max s.latest time)) in
        let calm = left (eqb kind 2 && quiet) (wrote_at p s.counter) h in
        let e = data_event kind time (get_or values i 0) (eqb-true kind 2 (left (eqb kind 2) quiet calm)) in
        ap (λ (o : Outcome WithPlanes). unread (tells planes_in_world (at s p) o))
        (written_one time (get_or values i 0) s p ten fit (right (eqb kind 2) quiet calm) (right (eqb kind 2 && quiet) (wrote_at p s.counter) h))
        ∙ ap (λ (x : Event). unread (dispatched otp (at s p) x)) (sym e)

    fit_written : (p : List ℕ) (c : Counter) (byte : ℕ) → Fit p → Fit (written_at p c byte)
    unfolding Fit
    fit_written p c byte fit = by white fit
      where
        by : (t : Bool)
            → lengths_fit d.config.panel
            (planes_log_lent (length states) (length luts) (length shown.pixels) (length shown.counts) (length log) (length (pick t p other)) (length (pick t other p)))
            ≡ true
            → lengths_fit d.config.panel
            (planes_log_lent (length states) (length luts) (length shown.pixels) (length shown.counts) (length log)
            (length (pick t (written_at p c byte) other))
            (length (pick t other (written_at p c byte))))
            ≡ true
        by true f = rw (written_length p c byte) f
        by false f = rw (written_length p c byte) f

    -- feeding goes on from the end of a burst as it would have gone on from its beginning
    Alike : ℕ → ℕ → Reached → List ℕ → Ran → Type 0
    Alike n i s p r = feeding step (i + n - r.made) r.made (at r.reached r.plane) ≡ feeding step n i (at s p)

    none_more : (n i : ℕ) (s : Reached) (p : List ℕ) → Alike n i s p (ran i s p)
    unfolding Alike
    none_more n i s p = let e : i + n - i ≡ n = omega arith in ap (λ (k : ℕ). feeding step k i (at s p)) e

    -- what the byte at a place leaves
    abbrev reached : ℕ → Reached → Reached
    reached i s = onward (course_of d) (get_or times i 0) s

    abbrev plane : ℕ → Reached → List ℕ → List ℕ
    plane i s p = written_at p s.counter (get_or values i 0)

    abbrev taken : ℕ → Reached → List ℕ → Bool
    taken i s p = takes (course_of d) (get_or kinds i 0) (get_or times i 0) s p

    abbrev goes : ℕ → ℕ → Reached → List ℕ → Ran
    goes n i s p = running kinds times values (course_of d) n i s p

    one_fed : (n i : ℕ) (s : Reached) (p : List ℕ) → TenBitCounter s.counter → Fit p → taken i s p ≡ true
        → feeding step n (i + 1) (at (reached i s) (plane i s p)) ≡ feeding step (suc n) i (at s p)
    one_fed n i s p ten fit h = ap (going_on step n i) (made_step i s p ten fit h) ∙ sym (one step n i (at s p))

    one_more : (n i : ℕ) (s : Reached) (p : List ℕ) → TenBitCounter s.counter → Fit p → taken i s p ≡ true
        → (r : Ran) → Alike n (i + 1) (reached i s) (plane i s p) r → Alike (suc n) i s p r
    unfolding Alike
    one_more n i s p ten fit h r ih =
        let e : i + suc n - r.made ≡ i + 1 + n - r.made = omega arith in
        ap (λ (k : ℕ). feeding step k r.made (at r.reached r.plane)) e ∙ ih ∙ one_fed n i s p ten fit h

    burst_alike : (n i : ℕ) (s : Reached) (p : List ℕ) → TenBitCounter s.counter → Fit p → Alike n i s p (goes n i s p)
    unfolding running
    burst_alike zero i s p ten fit = none_more zero i s p
    burst_alike (suc n) i s p ten fit =
        by (λ t f. burst_alike n (i + 1) (reached i s) (plane i s p) t f) (taken i s p) refl
      where
        by : (TenBitCounter (reached i s).counter → Fit (plane i s p) → Alike n (i + 1) (reached i s) (plane i s p) (goes n (i + 1) (reached i s) (plane i s p)))
            → (b : Bool) → taken i s p ≡ b → Alike (suc n) i s p (pick b (goes n (i + 1) (reached i s) (plane i s p)) (ran i s p))
        by ih true h =
            one_more n i s p ten fit h _
            (ih (advanced_ten s.counter d.regs.window d.regs.entry ten (window_ten d a is fine)) (fit_written p s.counter (get_or values i 0) fit))
        by ih false h = none_more (suc n) i s p

-- ---- from a state with its planes

-- before the first byte
starts : (d : Ssd1677) (a : Active) → d.bus.current ≡ current.Active a → reached_by d a (start_of d a) ≡ d
starts d a is = ap (λ (c : Current). with_pointed (with_now d d.now) d.regs.counter (with_current d.bus c)) (sym is)

module _ (kinds times values : List ℕ) (count i : ℕ) (within : i ≤ count) (d : Ssd1677) (black_white red : List ℕ) (lengths : Lengths) where
  -- a burst ends within the events, and they go on alike from there
  pub record Goes (b : Bursted) : Type 0 where
    pub from_here : i ≤ b.made
    pub to_count : b.made ≤ count
    pub alike : EndsAlike kinds times values count lengths (bursted i d black_white red) b

  pub stays : Goes (bursted i d black_white red)
  unfolding EndsAlike
  stays = record { from_here = omega arith; to_count = within; alike = λ gates otp luts shown log states e. refl }

  -- where a command's bytes end
  abbrev ends : Active → List ℕ → Ran
  ends a p = running kinds times values (course_of d) (count - i) i (start_of d a) p

  module _ (a : Active) (is : d.bus.current ≡ current.Active a) (streams : is_stream a.kind ≡ true) (passes : guarded d lengths ≡ Ok tt) where
    abbrev fine : state_fine d ≡ true
    fine = accepted_state d lengths passes

    -- the plane of the command, and the other
    module _ (white : Bool) (plane-is : eqb a.command 0x24 ≡ white) (plane other : List ℕ)
        (first : black_white ≡ pick white plane other) (second : red ≡ pick white other plane) where
      abbrev burst : Bursted
      burst =
          bursted (ends a plane).made (reached_by d a (ends a plane).reached) (pick white (ends a plane).plane other) (pick white other (ends a plane).plane)

      goes_alike : EndsAlike kinds times values count lengths (bursted i d black_white red) burst
      unfolding EndsAlike Alike Fit
      goes_alike gates otp luts shown log states e =
          let m = (ends a plane).made in
          let all : i + (count - i) - m ≡ count - m = omega (arith, within) in
          let step = made otp (event_at kinds times values) in
          let fit =
          ap (λ (l : Lengths). lengths_fit d.config.panel l)
          (sym
          (e
          ∙ ap (λ (p : List ℕ). planes_log_lent (length states) (length luts) (length shown.pixels) (length shown.counts) (length log) (length p) (length red)) first
          ∙ ap (λ (p : List ℕ). planes_log_lent (length states) (length luts) (length shown.pixels) (length shown.counts) (length log) (length (pick white plane other)) (length p)) second))
          ∙ accepted_lengths d lengths passes in
          let counted = ap (λ (l : Lengths). l.counts) (sym e) ∙ accepted_counts d lengths passes in
          ap (λ (k : ℕ). feeding step k m (world burst.device states luts shown burst.black_white burst.red gates log)) (sym all)
          ∙ burst_alike d a is fine streams white plane-is other states luts shown gates log counted otp kinds times values (count - i) i (start_of d a) plane
          (counter_ten d a is fine) fit
          ∙ ap (λ (x : Ssd1677). feeding step (count - i) i (world x states luts shown (pick white plane other) (pick white other plane) gates log)) (starts d a is)
          ∙ ap (λ (p : List ℕ). feeding step (count - i) i (world d states luts shown p (pick white other plane) gates log)) (sym first)
          ∙ ap (λ (p : List ℕ). feeding step (count - i) i (world d states luts shown black_white p gates log)) (sym second)

      burst_goes : Goes burst
      burst_goes =
          record {
            from_here = from_on kinds times values (course_of d) (count - i) i (start_of d a) plane;
            to_count =
                let h = not_past kinds times values (course_of d) (count - i) i (start_of d a) plane in
                let e : i + (count - i) ≡ count = omega (arith, within) in
                omega (arith, h, e);
            alike = goes_alike;
          }

    by_plane : (white : Bool) → eqb a.command 0x24 ≡ white
        → Goes
        (pick white
        (bursted (ends a black_white).made (reached_by d a (ends a black_white).reached) (ends a black_white).plane red)
        (bursted (ends a red).made (reached_by d a (ends a red).reached) black_white (ends a red).plane))
    by_plane true e = burst_goes true e black_white red refl refl
    by_plane false e = burst_goes false e red black_white refl refl

  -- whatever is current
  pub bursts : guarded d lengths ≡ Ok tt → Goes (burstOf kinds times values (count - i) i d black_white red d.bus.current)
  unfolding burstOf ran_into
  bursts passes = by d.bus.current refl
    where
      by_kind : (a : Active) → d.bus.current ≡ current.Active a → (t : Bool) → is_stream a.kind ≡ t
          → Goes
          (pick t
          (pick (eqb a.command 0x24)
          (bursted (ends a black_white).made (reached_by d a (ends a black_white).reached) (ends a black_white).plane red)
          (bursted (ends a red).made (reached_by d a (ends a red).reached) black_white (ends a red).plane))
          (bursted i d black_white red))
      by_kind a is true h = by_plane a is h passes (eqb a.command 0x24) refl
      by_kind a is false h = stays

      by : (c : Current) → d.bus.current ≡ c → Goes (burstOf kinds times values (count - i) i d black_white red c)
      by current.Idle is = stays
      by current.Ignoring is = stays
      by (current.Active a) is = by_kind a is (is_stream a.kind) refl

  -- by the guard's answer
  pub burst_made : (r : Result Unit Refusal) (t : Bool) (b : Bursted) → r ≡ guarded d lengths → t ≡ is_ok r → t ≡ true
      → b ≡ burstOf kinds times values (count - i) i d black_white red d.bus.current → Goes b
  burst_made (Ok value) t b is tells h e = subst (λ (x : Bursted). Goes x) (sym e) (bursts (sym is))
  burst_made (Err refusal) t b is tells h e = absurd (never (sym tells ∙ h))
