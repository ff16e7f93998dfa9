-- SCOPE, History: what the theorem says of a run's end.
use Rattle.std.specs.Prelude.{ℕ, ◌+◌, ◌*◌, ◌≤◌, ◌<◌, ◌≡◌, List, [], ◌∷◌, pos, length, get_or}
use Rattle.glass.specs.Greys.{gray_z}
use Rattle.counts.specs.Counts.{occurs, sum}
use Rattle.world.specs.World.{World}
use Rattle.calls.specs.World.{Call}
use Rattle.history.specs.Reckon.{core_of, shown_by, Worked, worked, swing_s, Reckoning, reckon_call}

-- a world beside the reckoning: each lent state is its pixel's whole number, which lies from 0 to S, and each pixel shows the grey of it
-- (those that a finished or cut refresh has driven among them); the refresh under way is the one that the reckoning follows; the count of each
-- grey is the number of pixels that have it, and all counts together are the panel's pixels (#108)
pub record Agrees (w : World) (r : Reckoning) : Type 0 where
  pub core : core_of w ≡ r.core
  pub shown_under_way : shown_by w.device.display w.luts ≡ r.under_way
  pub swing : w.device.panel.swing ≡ pos (swing_s w.device.config)
  pub states : (pixel : ℕ) → pixel < length w.states → get_or w.states pixel (pos 0) ≡ pos (r.number pixel)
  pub within : (pixel : ℕ) → pixel < length w.states → r.number pixel ≤ swing_s w.device.config
  pub pixels : (pixel : ℕ) → pixel < length w.states → get_or w.picture.pixels pixel 0 ≡ gray_z (pos (r.number pixel)) (pos (swing_s w.device.config))
  pub counts : (grey : ℕ) → grey < 256 → get_or w.picture.counts grey 0 ≡ occurs grey w.picture.pixels
  pub total : sum w.picture.counts ≡ w.device.config.panel.width * w.device.config.panel.height

-- how many refreshes a list of calls works in: the image's generation, held at 2^64 − 1
abbrev pub works_in : List ℕ → Reckoning → List Call → ℕ
works_in otp r [] = 0
works_in otp r (call ∷ calls) = length (worked otp r call) + works_in otp (reckon_call otp r call) calls

-- two pixels have one LUT in each of the refreshes
abbrev pub SameLut : ℕ → ℕ → List Worked → Type 0
SameLut i j [] = Unit {0}
SameLut i j (w ∷ ws) = (get_or w.luts i 0 ≡ get_or w.luts j 0) × SameLut i j ws

-- in every refresh that the calls work in: such pixels keep the order of their states
abbrev pub AlwaysSameLut : ℕ → ℕ → List ℕ → Reckoning → List Call → Type 0
AlwaysSameLut i j otp r [] = Unit {0}
AlwaysSameLut i j otp r (call ∷ calls) = SameLut i j (worked otp r call) × AlwaysSameLut i j otp (reckon_call otp r call) calls
