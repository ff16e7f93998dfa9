-- The phases of a waveform in order: ten groups, each repeated, each of four phases (datasheet Figure 6-6; SCOPE, Settings).
use Rattle.std.specs.Prelude.{List, [], ◌∷◌, ◌++◌, ℕ, zero, suc, ◌+◌, ◌*◌, ◌<◌, ◌-ℤ◌, eqb, get_or}
use Rattle.numbers.specs.Choice.{pick}
use Rattle.waveform.specs.declared.Levels.{Levels}
use Rattle.waveform.specs.declared.Group.{Group}
use Rattle.waveform.specs.declared.Waveform.{Waveform}
use Rattle.waveform.specs.declared.Phase.{Phase}
use Rattle.waveform.specs.declared.Drive.{Drive}
use Rattle.waveform.specs.declared.Drive.TheVariants.{Lut, Fixed}
use Rattle.waveform.specs.Voltages.{source_level, vcom_swing}

-- the source's code in phase k of a group, by its codes: that of the LUT, or the fixed one; LUT 4's is read as a source level too, so 3 is VSH2 there
abbrev pub code_for : Drive → List ℕ → ℕ → ℕ
code_for (Lut lut) codes k = get_or codes (4 * lut + k) 0
code_for (Fixed code) codes k = code

-- LUTs 0 to 4; of a fixed code the low two bits count
abbrev pub Takes : Drive → Type 0
Takes (Lut lut) = lut < 5
Takes (Fixed code) = Unit {0}

-- phase k of a group: the source against VCOM (LUT 4), in millivolts, for some frames
unfoldable pub phase_of : Levels → Drive → Group → ℕ → Phase
phase_of l d g k =
    record {
      frames = get_or g.frames k 0;
      frame_ns = g.frame_ns;
      millivolts = source_level l (code_for d g.codes k) -ℤ vcom_swing l (get_or g.codes (16 + k) 0);
    }

-- a phase of 0 frames is passed over
unfoldable pub driven : Phase → List Phase
driven p = pick (eqb p.frames 0) [] (p ∷ [])

-- four phases, those of 0 frames passed over
abbrev pub phases_in : Phase → Phase → Phase → Phase → List Phase
phases_in p q r s = ((driven p ++ driven q) ++ driven r) ++ driven s

-- f 0, f 1, .., f (n − 1), joined
unfoldable pub joined : {A : Type 0} → ℕ → (ℕ → List A) → List A
joined zero f = []
joined (suc n) f = joined n f ++ f n

-- the four phases of a group
abbrev pub four_phases : Levels → Drive → Group → List Phase
four_phases l d g = joined 4 (λ k. driven (phase_of l d g k))

-- a group with its repeats
abbrev pub group_phases : Levels → Drive → Group → List Phase
group_phases l d g = joined g.repeats (λ k. four_phases l d g)

-- what stands past the end of a list of groups
abbrev pub no_group : Group
no_group = record { frames = []; repeats = 0; frame_ns = 0; codes = [] }

-- all of a waveform's
abbrev pub phases_of : Waveform → Drive → List Phase
phases_of w d = joined 10 (λ k. group_phases w.levels d (get_or w.groups k no_group))

-- every group has a frame period
abbrev pub Timed : Waveform → Type 0
Timed w = (k : ℕ) → k < 10 → 0 < (get_or w.groups k no_group).frame_ns
