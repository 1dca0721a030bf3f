-- The worked verdicts, by computing.
use Rattle.std.proofs.Common.{refl}
use Rattle.theory.specs.Sets.{contains, misses}
use Rattle.theory.specs.Rules.{relates, total, fact}
use Rattle.theory.specs.Verdicts.{lowest, lowest_inside, first_broken}
use Rattle.theory.specs.Worked.{Worked}

pub computed : Worked
unfolding contains misses relates total fact lowest lowest_inside first_broken
computed = record {
  choice_both = refl;
  choice_one = refl;
  circle_both = refl;
  not_fewer_flp = refl;
  not_fewer_ferraris = refl;
  none_without_flp = refl;
  none_without_ferraris = refl;
  empty_greatest_one = refl;
  empty_greatest_none = refl;
}
