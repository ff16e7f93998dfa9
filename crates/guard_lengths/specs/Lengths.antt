-- The lengths that 11 and 15 ask of what a call is lent (SCOPE, Buffers).
use Rattle.std.specs.Prelude.{ℕ, ◌*◌, Bool, true, ◌&&◌, eqb, Option, Some, None}
use Rattle.config.specs.declared.PanelGeometry.{PanelGeometry}
use Rattle.guard_lengths.specs.declared.Lengths.{Lengths}

-- a plane: 680 rows of 120 bytes
abbrev pub plane_bytes : ℕ
plane_bytes = 81600

-- the log: 1,024 records of 16 bytes
abbrev pub log_bytes : ℕ
log_bytes = 16384

-- the pixels of a panel
abbrev pub pixels_of : PanelGeometry → ℕ
pixels_of p = p.width * p.height

-- a buffer has the right length, or is not lent
unfoldable pub fits : Option ℕ → ℕ → Bool
fits None right = true
fits (Some n) right = eqb n right

-- 11 finds nothing to refuse
unfoldable pub lengths_fit : PanelGeometry → Lengths → Bool
lengths_fit p l =
    eqb l.states (pixels_of p)
    && eqb l.luts (pixels_of p)
    && eqb l.pixels (pixels_of p)
    && fits l.log log_bytes
    && fits l.black_white plane_bytes
    && fits l.red plane_bytes
    && fits l.gates p.height

-- 15 finds nothing to refuse: a count for each grey (#108)
abbrev pub counts_fit : Lengths → Bool
counts_fit l = eqb l.counts 256

-- the lengths of what is lent
abbrev pub lengths_of : ℕ → ℕ → ℕ → ℕ → Option ℕ → Option ℕ → Option ℕ → Option ℕ → Lengths
lengths_of s l p c g b r o = record { states = s; luts = l; pixels = p; counts = c; log = g; black_white = b; red = r; gates = o }

-- what `advance` is lent: states, chosen LUTs, pixels and counts
abbrev pub glass_lent : ℕ → ℕ → ℕ → ℕ → Lengths
glass_lent s l p c = lengths_of s l p c None None None None

-- what `set_reset` is lent: the same and the log
abbrev pub glass_log_lent : ℕ → ℕ → ℕ → ℕ → ℕ → Lengths
glass_log_lent s l p c g = lengths_of s l p c (Some g) None None None

-- what `write_data` and `read_data` are lent: the same and both planes
abbrev pub planes_log_lent : ℕ → ℕ → ℕ → ℕ → ℕ → ℕ → ℕ → Lengths
planes_log_lent s l p c g b r = lengths_of s l p c (Some g) (Some b) (Some r) None

-- what `new` and `write_command` are lent: the same and gate-of-row
abbrev pub all_lent : ℕ → ℕ → ℕ → ℕ → ℕ → ℕ → ℕ → ℕ → Lengths
all_lent s l p c g b r o = lengths_of s l p c (Some g) (Some b) (Some r) (Some o)
