-- The parameters that act at once (mod.rs, `deep_sleep`, `hv_ready_detection`, `vci_detection`; datasheet Table 7-1).
use Rattle.std.specs.Prelude.{ℕ, ◌+◌, ◌-◌, ◌*◌, ◌/◌, ◌%◌, Bool, true, false, ◌&&◌, ◌||◌, List, eqb, leb, ltb, length, None}
use Rattle.numbers.specs.Choice.{pick}
use Rattle.numbers.specs.Lists.{tab}
use Rattle.diagnostic.specs.declared.Stage.TheVariants.{HvReadyDetection, VciDetection}
use Rattle.device.specs.declared.Ssd1677.{Ssd1677}
use Rattle.device.specs.declared.Power.TheVariants.{Asleep}
use Rattle.device.specs.Parts.{with_slept, with_status}
use Rattle.world.specs.World.{WithLog, with_log, WithRam, with_ram, on, device_in_ram, log_in_ram}
use Rattle.start.specs.Start.{with_busy_for, is_powered, unpowered}
use Rattle.acts.specs.Reserved.{checked}

-- asleep: the supplies off, and BUSY without an end
unfoldable pub asleep : Ssd1677 → Ssd1677
asleep d = with_slept d (record { power = Asleep; current = d.bus.current; busy_until = None }) false false

-- a plane whose bytes are all 0
abbrev pub zeros : List ℕ → List ℕ
zeros plane = tab (length plane) (λ _. 0)

-- both planes lost
abbrev pub ram_lost : WithRam → WithRam
ram_lost w = with_ram w.device (zeros w.black_white) (zeros w.red) w.log

-- bits 1:0 of 0x10: 00 stays awake; 11 sleeps with the RAM lost; the reserved 01 and 10 sleep with the RAM kept (ASSUMPTION of mod.rs)
unfoldable pub sleeps : ℕ → WithRam → WithRam
sleeps byte w =
    pick (eqb (byte % 4) 0) w
    (pick (eqb (byte % 4) 3) (on device_in_ram asleep (ram_lost w)) (on device_in_ram asleep w))

-- 0x10: 00h and 03h alone are listed
unfoldable pub slept : ℕ → WithRam → WithRam
slept byte w = sleeps byte (on log_in_ram (checked (eqb byte 0 || eqb byte 3) 0x10 byte) w)

-- bit 5 of the status byte: the HV is not ready
abbrev pub with_hv_not_ready : Ssd1677 → Bool → Ssd1677
with_hv_not_ready d b = with_status d (record { hv_not_ready = b; vci_low = d.status.vci_low })

-- bit 4: VCI is low
abbrev pub with_vci_low : Ssd1677 → Bool → Ssd1677
with_vci_low d b = with_status d (record { hv_not_ready = d.status.hv_not_ready; vci_low = b })

-- 0x14 with the supplies on: ready after a cool-down of 10 ms times A[6:4] + 1; without them not ready, and 33 or 34
unfoldable pub hv_detected : ℕ → WithLog → WithLog
hv_detected byte k =
    pick (is_powered k.device)
    (with_log (with_busy_for (with_hv_not_ready k.device false) ((byte / 16 % 8 + 1) * 10000000)) k.log)
    (let u = unpowered HvReadyDetection k in with_log (with_hv_not_ready u.device true) u.log)

-- 0x14: bits 7 and 3 are 0
unfoldable pub hv_ready : ℕ → WithLog → WithLog
hv_ready byte k = hv_detected byte (checked (eqb (byte / 128) 0 && eqb (byte / 8 % 2) 0) 0x14 byte k)

-- the level of 0x15 in millivolts: A[2:0] of 3 to 7 is 2.2 V to 2.6 V, any other the 2.3 V of a reset
abbrev pub vci_level : ℕ → ℕ
vci_level byte = pick (leb 3 (byte % 8)) (2200 + 100 * (byte % 8 - 3)) 2300

-- 0x15 with the supplies on: whether VCI lies below the level; without them 33 or 34
unfoldable pub vci_detected : ℕ → WithLog → WithLog
vci_detected byte k =
    let d = k.device in
    pick (is_powered d)
    (with_log (with_busy_for (with_vci_low d (ltb d.config.vci_millivolts (vci_level byte))) d.config.timing.vci_detection) k.log)
    (unpowered VciDetection k)

-- 0x15: 3 to 7 are listed
unfoldable pub vci_sensed : ℕ → WithLog → WithLog
vci_sensed byte k = vci_detected byte (checked (leb 3 byte && ltb byte 8) 0x15 byte k)
