-- A refused call leaves the plan as it was.
use Rattle.std.proofs.Common.{refl, arith}
use Rattle.records.specs.Records.{name_sent, rule_sent, judge_sent}
use Rattle.host.specs.Laws.{RefusalsLeaveThePlan}

pub refusals_leave_the_plan : RefusalsLeaveThePlan
refusals_leave_the_plan bank plan (name_sent bytes) refused e = grind arith
refusals_leave_the_plan bank plan (rule_sent rule) refused e = grind arith
refusals_leave_the_plan bank plan (judge_sent reading i) refused e = refl
