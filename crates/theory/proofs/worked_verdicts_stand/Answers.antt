-- The worked verdicts.
use Rattle.theory.proofs.Computed.{computed}
use Rattle.theory.proofs.worked_verdicts_stand.Goals as goal

pub returns : goal.returns
returns c = computed
