-- Sets by their atoms.
use Rattle.theory.proofs.SetLaws.{sets_by_atoms}
use Rattle.theory.proofs.sets_stand.Goals as goal

pub returns : goal.returns
returns c = sets_by_atoms
