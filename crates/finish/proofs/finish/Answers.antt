-- `finish::finish` meets its contract. Calls put in another order are refused for what they leave. Assumes nothing.
use Rattle.std.specs.Prelude.{Option}
use mathlib.Core.Path.{◌≡◌, sym, subst}
use mathlib.Core.Bool.{Bool}
use mathlib.Core.List.{List}
use Prim.Native.Nat.{ℕ, ◌<◌}
use lib.IntN.{ℤ, pos}
use lib.ListN.{get_or}
use lib.Signed.{◌≤ℤ◌}
use Rattle.waveform_laws.proofs.Decoded.{walkable}
use Rattle.finish.specs.declared.refresh.DisplayDrive.{DisplayDrive}
use Rattle.finish.specs.Refresh.{display_drive, Refreshable}
use Rattle.finish.proofs.Steps.{finishes}
use Rattle.finish.proofs.finish.Goals as goal

refreshable : (r : DisplayDrive) (s p : List ℕ) (swing : ℤ) (black : Bool) (until : Option ℕ) → r ≡ display_drive s p swing black until → ((k : ℕ) → k < 16 → 0 < get_or p k 0) → pos 1 ≤ℤ swing → Refreshable r
refreshable r s p swing black until e lasting some =
    subst (λ (d : DisplayDrive). Refreshable d) (sym e) (record { walkable = λ drive takes. walkable _ _ drive lasting takes; some = some })

pub repaint-requires : goal.repaint-requires
repaint-requires c =
    let asked = refreshable _ _ _ _ _ _ c.display_drive-refresh.ensures c.requires.lasting c.requires.some in
    record {
      walkable = asked.walkable;
      some = asked.some;
      luts_long = c.requires.luts_long;
      pixels_long = c.requires.pixels_long;
    }

pub drive_border-moved-requires : goal.drive_border-moved-requires
drive_border-moved-requires c = refreshable _ _ _ _ _ _ c.display_drive-refresh.ensures c.requires.lasting c.requires.some

pub returns : goal.returns
returns c =
    finishes _ _ _ c.display_drive-refresh.result _ _ _ c.drive_border-moved.result _
    c.display_drive-refresh.ensures
    c.repaint.ensures.states_after
    c.repaint.ensures.pixels_after
    c.count.ensures
    c.drive_border-moved.ensures
    c.publish.ensures
