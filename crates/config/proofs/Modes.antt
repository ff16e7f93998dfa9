-- The number of a display mode is that of its variant in order. Assumes nothing.
use mathlib.Core.Path.{◌≡◌, refl}
use denote.Enum.Declared.{tag_of}
use Rattle.config.specs.contracts.DisplayMode.{the_type}
use Rattle.config.specs.declared.DisplayMode.{DisplayMode}
use Rattle.config.specs.declared.DisplayMode.TheVariants.{One, Two}
use Rattle.config.specs.Mode.{mode_number}

pub mode_is : (mode : DisplayMode) → tag_of the_type mode ≡ mode_number mode
mode_is One = refl
mode_is Two = refl
