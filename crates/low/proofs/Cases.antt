-- A command byte: what each return of the code hands over, over plain variables. Assumes nothing.
use Rattle.std.specs.Prelude.{Some, Result, Ok, Err}
use Prim.Native.Nat.{ℕ, ◌+◌, ◌*◌, ◌≤◌, ◌<◌}
use mathlib.Core.Path.{◌≡◌, refl, sym, ap, subst, ◌∙◌}
use mathlib.Core.List.{List}
use native.Mathlib.Omega.{arith}
use lib.IntN.{ℤ}
use lib.ListN.{length}
use native.Mathlib.Nat.{mul_comm}
use Rattle.counts.specs.Counts.{Picture}
use Rattle.device.specs.declared.Registers.{Registers}
use Rattle.device.specs.declared.Ssd1677.{Ssd1677}
use Rattle.world.specs.World.{WithLog, with_log, WithGlass, with_glass, WithBuffers, with_buffers, Lent}
use Rattle.config.specs.declared.PanelGeometry.{PanelGeometry}
use Rattle.clock.specs.Advance.{Ready, advanced}
use Rattle.chip.specs.Close.{closed}
use Rattle.clock.proofs.Arrived.{config_advanced, regs_advanced}
use Rattle.reset.proofs.Kept.{ready_closed}
use Rattle.activation.specs.Activation.{Activatable}
use Rattle.activation.proofs.Kept.{ready_advanced}
use Rattle.begin.specs.Begin.{begun}
use Rattle.guard_lengths.specs.declared.Lengths.{Lengths}
use Rattle.guard.specs.declared.Refusal.{Refusal}
use Rattle.guard_lengths.specs.Lengths.{all_lent}
use Rattle.guard.specs.Refusals.{number_of, guarded_with_table}
use Rattle.guard_laws.proofs.Accepted.{fine_state, fine_lengths}
use Rattle.query.specs.Outcome.{outcome}
use Rattle.query.proofs.Cases.{grants, refuses}
use Rattle.low.specs.Command.{command_taken, command_written}
use Rattle.entry_laws.proofs.Passed.{ready_fine, table_state_passed, table_lengths_passed, table_counts_passed}

module _ (d : Ssd1677) (states : List ℤ) (luts : List ℕ) (p : Picture) (black_white red gates log : List ℕ) (time : ℕ) (a : WithGlass) (c : WithLog)
    (moved : a ≡ advanced luts time (with_glass d states p)) (is-closed : c ≡ closed (with_log a.device log)) where
  closed_regs : (k : WithLog) → (closed k).device.regs ≡ k.device.regs
  unfolding closed
  closed_regs k = refl

  closed_config : (k : WithLog) → (closed k).device.config ≡ k.device.config
  unfolding closed
  closed_config k = refl

  regs_kept : c.device.regs ≡ d.regs
  regs_kept =
      ap (λ (k : WithLog). k.device.regs) is-closed ∙ closed_regs (with_log a.device log)
      ∙ ap (λ (g : WithGlass). g.device.regs) moved ∙ regs_advanced luts time (with_glass d states p)

  panel_kept : c.device.config.panel ≡ d.config.panel
  panel_kept =
      ap (λ (k : WithLog). k.device.config.panel) is-closed ∙ ap (λ x. x.panel) (closed_config (with_log a.device log))
      ∙ ap (λ (g : WithGlass). g.device.config.panel) moved ∙ ap (λ x. x.panel) (config_advanced luts time (with_glass d states p))

  -- what the clock's move and the end of the last command keep of what an activation asks
  pub still_activatable : Activatable d states luts p.pixels p.counts black_white red gates
      → Activatable c.device a.states luts a.picture.pixels a.picture.counts black_white red gates
  still_activatable h =
      let s = h.startable in
      record {
        startable =
            record {
              mux_small = subst (λ (x : Registers). x.mux < 1024) (sym regs_kept) s.mux_small;
              sources = subst (λ (g : PanelGeometry). g.first_source + g.width ≤ 960) (sym panel_kept) s.sources;
              luts_long = subst (λ (g : PanelGeometry). length luts ≡ g.height * g.width) (sym panel_kept) s.luts_long;
              gates_long = subst (λ (g : PanelGeometry). length gates ≡ g.height) (sym panel_kept) s.gates_long;
              black_white_long = s.black_white_long;
              red_long = s.red_long;
            };
        ready =
            ready_closed a.states luts a.picture.pixels a.picture.counts (with_log a.device log) c is-closed
            (subst (λ (g : WithGlass). Ready g.device g.states luts g.picture.pixels g.picture.counts) (sym moved)
            (ready_advanced luts time (with_glass d states p) h.ready));
      }

pub takes : (k : Lent) (time command : ℕ) (w : WithBuffers) (a : WithGlass) (c : WithLog) (v : WithBuffers)
    → a ≡ advanced w.luts time (with_glass w.device w.states w.picture) → c ≡ closed (with_log a.device w.log)
    → v ≡ begun k command (with_buffers c.device a.states w.luts a.picture c.log) c.device.bus.power
    → v ≡ command_taken k time command w
unfolding command_taken
takes k time command w a c v e₁ e₂ e₃ = rw (e₃, e₂, e₁)

module _ (k : Lent) (time command : ℕ) (w : WithBuffers) (l : Lengths)
    (Lent-is : l
    ≡ all_lent (length w.states) (length w.luts) (length w.picture.pixels) (length w.picture.counts) (length w.log) (length k.black_white) (length k.red) (length k.gates)) where
  abbrev lengths : Lengths
  lengths =
      all_lent (length w.states) (length w.luts) (length w.picture.pixels) (length w.picture.counts) (length w.log) (length k.black_white) (length k.red) (length k.gates)

  same_table : (r : Result Unit Refusal) → r ≡ guarded_with_table w.device l k.otp → r ≡ guarded_with_table w.device lengths k.otp
  same_table r is = is ∙ ap (λ (x : Lengths). guarded_with_table w.device x k.otp) Lent-is

  module _ (passes : Ok tt ≡ guarded_with_table w.device l k.otp) where
    pub command_activatable : Activatable w.device w.states w.luts w.picture.pixels w.picture.counts k.black_white k.red k.gates
    command_activatable =
        let fine = table_state_passed w.device lengths k.otp (same_table _ passes) in
        let fit = table_lengths_passed w.device lengths k.otp (same_table _ passes) in
        let f = fine_state w.device fine in
        let g = fine_lengths w.device.config.panel lengths fit in
        record {
          startable =
              record {
                mux_small = let n = f.registers.mux_ten in omega arith;
                sources = f.panel.sources;
                luts_long = g.luts ∙ mul_comm w.device.config.panel.width w.device.config.panel.height;
                gates_long = g.gates (length k.gates) refl;
                black_white_long = g.black_white (length k.black_white) refl;
                red_long = g.red (length k.red) refl;
              };
          ready =
              ready_fine w.device w.states w.luts w.picture.pixels w.picture.counts (Some (length w.log)) (Some (length k.black_white)) (Some (length k.red))
              (Some (length k.gates)) fine fit (table_counts_passed w.device lengths k.otp (same_table _ passes));
        }

    pub command_log : length w.log ≡ 16384
    command_log = (fine_lengths w.device.config.panel lengths (table_lengths_passed w.device lengths k.otp (same_table _ passes))).log (length w.log) refl

    pub command_moves : (v : WithBuffers) → v ≡ command_taken k time command w → outcome 0 v ≡ command_written k time command w
    unfolding command_written
    command_moves v e = grants (guarded_with_table w.device lengths k.otp) w (command_taken k time command w) v (same_table _ passes) e

  pub command_refused : (r : Refusal) → Err r ≡ guarded_with_table w.device l k.otp → outcome (number_of r) w ≡ command_written k time command w
  unfolding command_written
  command_refused r is = refuses (guarded_with_table w.device lengths k.otp) w (command_taken k time command w) r (same_table _ is)
