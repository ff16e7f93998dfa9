-- `guard_lengths::lengths_fit` meets its contract: each length is compared with the right one.
use Rattle.guard_lengths.proofs.Parts.{all_lengths}
use Rattle.guard_lengths.proofs.lengths_fit.Goals as goal

pub returns : goal.returns
returns c =
    all_lengths c.args.panel c.args.lengths _ _ _ _ c.fits-log_fits.ensures c.fits-black_white_fits.ensures
    c.fits-red_fits.ensures c.fits-gates_fit.ensures
