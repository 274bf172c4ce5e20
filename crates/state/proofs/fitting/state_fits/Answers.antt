use Rattle.state.proofs.Parts.{fits_met}
use Rattle.state.proofs.fitting.state_fits.Goals as goal

pub returns : goal.returns
returns c =
    fits_met _ _ _ _ _ _ _ _ c.ring_fits.ensures c.ring_fits-2.ensures
    c.sizes_obeyed.ensures c.registers_fit.ensures c.talker_fits.ensures
