-- What the transfers of a display do to the pixels (panel.rs, `Panel::finish` and `grays`).
use Rattle.std.specs.Prelude.{List, ℕ, ltb, ℤ, pos, length, get_or}
use Rattle.numbers.specs.Choice.{pick}
use Rattle.numbers.specs.Lists.{tab}
use Rattle.glass.specs.declared.Transfer.{Transfer}
use Rattle.glass.specs.Greys.{gray_z}
use Rattle.glass.specs.Transfers.{apply_t}

-- the LUT of a pixel that no gate or source drives (panel.rs, `UNDRIVEN`)
abbrev pub undriven : ℕ
undriven = 255

-- a pixel's state: LUTs 0 to 3 move it, each by its transfer, and any other byte leaves it
unfoldable pub state_by : (ℕ → Transfer) → ℕ → ℤ → ℤ
state_by transfer lut state = pick (ltb lut 4) (apply_t (transfer lut) state) state

-- the states by pixel
unfoldable pub states_by : (ℕ → Transfer) → List ℕ → List ℤ → List ℤ
states_by transfer luts states = tab (length states) (λ i. state_by transfer (get_or luts i 0) (get_or states i (pos 0)))

-- every pixel shows the grey of its state
unfoldable pub grays : ℤ → List ℤ → List ℕ
grays swing states = tab (length states) (λ i. gray_z (get_or states i (pos 0)) swing)
