-- The state with all that it is lent, the parts that single functions are lent, and how each part lies in a larger one.
use Rattle.std.specs.Prelude.{ℕ, List, ℤ}
use Rattle.counts.specs.Counts.{Picture}
use Rattle.device.specs.declared.Ssd1677.{Ssd1677}

-- ---- the whole
-- the state and every lent buffer but the table, which no call changes
pub record World : Type 0 where
  pub device : Ssd1677
  pub states : List ℤ
  pub luts : List ℕ
  pub picture : Picture
  pub black_white : List ℕ
  pub red : List ℕ
  pub gates : List ℕ
  pub log : List ℕ

-- the eight as one
abbrev pub world : Ssd1677 → List ℤ → List ℕ → Picture → List ℕ → List ℕ → List ℕ → List ℕ → World
world d s u p b r g l = record { device = d; states = s; luts = u; picture = p; black_white = b; red = r; gates = g; log = l }

-- ---- the parts
-- the state with its log
pub record WithLog : Type 0 where
  pub device : Ssd1677
  pub log : List ℕ

-- the two as one
abbrev pub with_log : Ssd1677 → List ℕ → WithLog
with_log d l = record { device = d; log = l }

-- the state with the lent states and the picture
pub record WithGlass : Type 0 where
  pub device : Ssd1677
  pub states : List ℤ
  pub picture : Picture

-- the three as one
abbrev pub with_glass : Ssd1677 → List ℤ → Picture → WithGlass
with_glass d s p = record { device = d; states = s; picture = p }

-- the state with the lent states, the picture and the log
pub record WithGlassLog : Type 0 where
  pub device : Ssd1677
  pub states : List ℤ
  pub picture : Picture
  pub log : List ℕ

-- the four as one
abbrev pub with_glass_log : Ssd1677 → List ℤ → Picture → List ℕ → WithGlassLog
with_glass_log d s p l = record { device = d; states = s; picture = p; log = l }

-- the state with what a data byte may change once the clock has moved: both planes and the log
pub record WithRam : Type 0 where
  pub device : Ssd1677
  pub black_white : List ℕ
  pub red : List ℕ
  pub log : List ℕ

-- the four as one
abbrev pub with_ram : Ssd1677 → List ℕ → List ℕ → List ℕ → WithRam
with_ram d b r l = record { device = d; black_white = b; red = r; log = l }

-- the state with all the lent buffers that a data byte may change
pub record WithPlanes : Type 0 where
  pub device : Ssd1677
  pub states : List ℤ
  pub picture : Picture
  pub black_white : List ℕ
  pub red : List ℕ
  pub log : List ℕ

-- the six as one
abbrev pub with_planes : Ssd1677 → List ℤ → Picture → List ℕ → List ℕ → List ℕ → WithPlanes
with_planes d s p b r l = record { device = d; states = s; picture = p; black_white = b; red = r; log = l }

-- the state with all the lent buffers that a command, and so an activation, may change
pub record WithBuffers : Type 0 where
  pub device : Ssd1677
  pub states : List ℤ
  pub luts : List ℕ
  pub picture : Picture
  pub log : List ℕ

-- the five as one
abbrev pub with_buffers : Ssd1677 → List ℤ → List ℕ → Picture → List ℕ → WithBuffers
with_buffers d s u p l = record { device = d; states = s; luts = u; picture = p; log = l }

-- what is lent to an activation and stays as it is
pub record Lent : Type 0 where
  pub black_white : List ℕ
  pub red : List ℕ
  pub gates : List ℕ
  pub otp : List ℕ

-- the four as one
abbrev pub lent : List ℕ → List ℕ → List ℕ → List ℕ → Lent
lent b r g o = record { black_white = b; red = r; gates = g; otp = o }

-- the same of a world, with the table
abbrev pub lent_of : List ℕ → World → Lent
lent_of otp w = lent w.black_white w.red w.gates otp

-- ---- how a part lies in a larger one
-- the part, and the whole with the part put back
pub record Lens (S A : Type 0) : Type 0 where
  pub get : S → A
  pub put : S → A → S

-- what concerns the part alone
abbrev pub on : {S A : Type 0} → Lens S A → (A → A) → S → S
on l f w = l.put w (f (l.get w))

-- the state alone, in what `set_reset` may change
abbrev pub device_in_glass_log : Lens WithGlassLog Ssd1677
device_in_glass_log = record { get = λ w. w.device; put = λ w d. with_glass_log d w.states w.picture w.log }

-- the state and its log in it
abbrev pub log_in_glass_log : Lens WithGlassLog WithLog
log_in_glass_log = record { get = λ w. with_log w.device w.log; put = λ w k. with_glass_log k.device w.states w.picture k.log }

-- the state, the states and the picture in it
abbrev pub glass_in_glass_log : Lens WithGlassLog WithGlass
glass_in_glass_log =
    record { get = λ w. with_glass w.device w.states w.picture; put = λ w g. with_glass_log g.device g.states g.picture w.log }

-- the state alone, in the state with the planes and the log
abbrev pub device_in_ram : Lens WithRam Ssd1677
device_in_ram = record { get = λ w. w.device; put = λ w d. with_ram d w.black_white w.red w.log }

-- the state and its log in it
abbrev pub log_in_ram : Lens WithRam WithLog
log_in_ram = record { get = λ w. with_log w.device w.log; put = λ w k. with_ram k.device w.black_white w.red k.log }

-- the state alone, in what a command may change
abbrev pub device_in_buffers : Lens WithBuffers Ssd1677
device_in_buffers = record { get = λ w. w.device; put = λ w d. with_buffers d w.states w.luts w.picture w.log }

-- the state and its log in it
abbrev pub log_in_buffers : Lens WithBuffers WithLog
log_in_buffers = record { get = λ w. with_log w.device w.log; put = λ w k. with_buffers k.device w.states w.luts w.picture k.log }

-- the state, the states and the picture in it
abbrev pub glass_in_buffers : Lens WithBuffers WithGlass
glass_in_buffers =
    record { get = λ w. with_glass w.device w.states w.picture; put = λ w g. with_buffers g.device g.states w.luts g.picture w.log }

-- the state, the states and the picture, in what a data byte may change
abbrev pub glass_in_planes : Lens WithPlanes WithGlass
glass_in_planes =
    record {
      get = λ w. with_glass w.device w.states w.picture;
      put = λ w g. with_planes g.device g.states g.picture w.black_white w.red w.log;
    }

-- the state, the planes and the log in it
abbrev pub ram_in_planes : Lens WithPlanes WithRam
ram_in_planes =
    record {
      get = λ w. with_ram w.device w.black_white w.red w.log;
      put = λ w m. with_planes m.device w.states w.picture m.black_white m.red m.log;
    }

-- ---- what each call may change of the whole
-- what `set_ambient` and `take_diagnostics` are lent
abbrev pub device_in_world : Lens World Ssd1677
device_in_world =
    record { get = λ w. w.device; put = λ w d. world d w.states w.luts w.picture w.black_white w.red w.gates w.log }

-- what `advance` may change: a move of the clock reports nothing, so not the log
abbrev pub glass_in_world : Lens World WithGlass
glass_in_world =
    record {
      get = λ w. with_glass w.device w.states w.picture;
      put = λ w g. world g.device g.states w.luts g.picture w.black_white w.red w.gates w.log;
    }

-- what `set_reset` may change, not the planes: a reset keeps the RAM; and what `read_data` may, which only reads the planes
abbrev pub glass_log_in_world : Lens World WithGlassLog
glass_log_in_world =
    record {
      get = λ w. with_glass_log w.device w.states w.picture w.log;
      put = λ w g. world g.device g.states w.luts g.picture w.black_white w.red w.gates g.log;
    }

-- what `write_command` may change: it only reads the planes
abbrev pub buffers_in_world : Lens World WithBuffers
buffers_in_world =
    record {
      get = λ w. with_buffers w.device w.states w.luts w.picture w.log;
      put = λ w b. world b.device b.states b.luts b.picture w.black_white w.red w.gates b.log;
    }

-- what `write_data` may change: it only reads the LUTs that a display has chosen
abbrev pub planes_in_world : Lens World WithPlanes
planes_in_world =
    record {
      get = λ w. with_planes w.device w.states w.picture w.black_white w.red w.log;
      put = λ w p. world p.device p.states w.luts p.picture p.black_white p.red w.gates p.log;
    }
