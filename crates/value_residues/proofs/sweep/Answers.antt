-- `value_residues::sweep` meets its contract.
use Rattle.value_residues.proofs.Residues.{reach_join}
use Rattle.value_residues.proofs.sweep.Goals as goal

pub returns : goal.returns
returns c =
    reach_join c.args.w.now c.args.class
    c.reach-at.ensures c.reach.ensures
