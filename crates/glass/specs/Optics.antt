-- The glass at its defaults (glass.rs, `Optics::default`).
use Rattle.std.specs.Prelude.{true}
use Rattle.glass.specs.declared.Optics.{Optics}
use Rattle.glass.specs.declared.Provenance.TheVariants.{Approximation}

-- 6 V·s from black to white, positive voltages darken, white at power-on; none of it measured (glass.rs, `Optics::default`)
abbrev pub default_optics : Optics
default_optics =
    record {
      provenance = Approximation;
      full_swing = 6000000000000;
      positive_drives_black = true;
      initial_gray = 255;
    }
