-- What judging answers, as the definitions have it.
use Rattle.std.specs.Prelude.{ℕ, Some, None, Ok, Err, Option, Result}
use Rattle.sets.specs.declared.AtomSet.{AtomSet}
use Rattle.theory.specs.Calls as calls
use Rattle.theory.specs.Verdicts as theory
use Rattle.plans.specs.Refusals.{refusal_of}
use Rattle.plans.specs.declared.refusal.Refusal.{Refusal}
use Rattle.judging.specs.declared.Verdict.{Verdict}
use Rattle.judging.specs.declared.Verdict.TheVariants.{Broken, Smaller, Stable}

abbrev pub set_in : Option AtomSet → Option ℕ
set_in (Some set) = Some set.0
set_in None = None

abbrev pub verdict_of : Verdict → theory.Verdict
verdict_of (Broken place) = theory.broken place
verdict_of (Smaller set) = theory.smaller set.0
verdict_of Stable = theory.stable

abbrev pub judge_answer_of : Result Verdict Refusal → Result theory.Verdict calls.Refusal
judge_answer_of (Ok v) = Ok (verdict_of v)
judge_answer_of (Err f) = Err (refusal_of f)
