-- `proved_traffic` meets its contract.
use mathlib.Core.Path.{ap, ◌∙◌}
use Rattle.config.specs.declared.Ssd1677Config.{Ssd1677Config}
use Rattle.device.specs.declared.Ssd1677.{Ssd1677}
use Rattle.counts.specs.Counts.{picture}
use Rattle.power_on.specs.Start.{Start, buffers, powered, started}
use Rattle.world.specs.World.{world}
use Rattle.traffic.specs.Traffic.{event_at, shortest}
use Rattle.bench_device.specs.Whole.{config_of}
use Rattle.bench_device.proofs.Events.{ran_on}
use Rattle.bench_device.proofs.proved_traffic.Goals as goal

pub returns : goal.returns
returns c =
    let a = c.args in
    let begun = c.new-started.new in
    let fed = c.feed-fed.new in
    let lent = buffers a.states.now a.luts.now (picture a.pixels.now a.counts.now) a.black_white.now a.red.now a.gates.now a.log.now in
    ran_on a.otp.now (event_at a.kinds.now a.times.now a.values.now) (shortest a.kinds.now a.times.now a.values.now)
    (started (config_of a.width a.height) a.otp.now lent).left
    (powered c.handed_back-present.result (buffers begun.states begun.luts (picture begun.pixels begun.counts) begun.black_white begun.red begun.gates begun.log))
    (world c.feed-fed.result.state fed.states fed.luts (picture fed.pixels fed.counts) fed.black_white fed.red begun.gates fed.log)
    (ap (λ (d : Ssd1677). powered d (buffers begun.states begun.luts (picture begun.pixels begun.counts) begun.black_white begun.red begun.gates begun.log))
    c.handed_back-present.ensures
    ∙ ap (λ (s : Start). s.left) (c.new-started.ensures ∙ ap (λ (k : Ssd1677Config). started k a.otp.now lent) c.config_of.ensures))
    c.feed-fed.ensures
    c.header_of.ensures
