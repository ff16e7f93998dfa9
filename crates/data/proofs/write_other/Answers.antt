-- `data::write_other` meets its contract: by what is current and by the kind of its command.
use mathlib.Core.Path.{◌∙◌, refl, sym}
use Rattle.device.proofs.ByKind.{bounded, streaming}
use Rattle.world.specs.World.{with_ram}
use Rattle.data.proofs.Cases.{streams, outside, is_ignored, stream_is, is_other}
use Rattle.data.proofs.write_other.Goals as goal

pub returns-in-None : goal.returns-in-None
returns-in-None c =
    let s = c.args in
    let d = s.state in
    let b = s.black_white.now in
    let r = s.red.now in
    let w = with_ram d b r s.log.now in
    let a = c.in-Active.active in
    let is = c.in-Active.is in
    let tells = streaming a.kind _ _ c.in-None.ensures refl refl in
    stream_is s.byte w _ d.bus.current a _ is tells refl
    (outside s.byte a w _ (streams s.byte d b r d.bus.current a _ is tells _ refl refl ∙ c.requires.current_value) (c.step_outside.ensures _ _))

pub returns-in-Some : goal.returns-in-Some
returns-in-Some c =
    let s = c.args in
    let d = s.state in
    let k = bounded c.in-Active.active.kind c.in-Some.bounds c.in-Some.ensures in
    is_other s.byte (with_ram d s.black_white.now s.red.now s.log.now) _ d.bus.current _ _
    c.in-Active.is (sym k.no_stream) _ refl k.most c.up_to.ensures

pub returns-in-Ignoring : goal.returns-in-Ignoring
returns-in-Ignoring c =
    let s = c.args in
    let d = s.state in
    let w = with_ram d s.black_white.now s.red.now s.log.now in
    is_ignored s.byte w w d.bus.current c.in-Ignoring.is
