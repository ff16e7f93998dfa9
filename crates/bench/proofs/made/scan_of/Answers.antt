-- `scan_of` meets its contract.
use Rattle.bench.proofs.made.scan_of.Goals as goal

pub returns : goal.returns
returns c =
    let a = c.args in
    λ i. record { lines = a.lines; order = record { sm = a.sm; gd = a.gd }; red = c.from_nibble-red.ensures i; black_white = c.from_nibble-black_white.ensures i }
