-- Rules whose totals stay in range whatever the bank: what a plan keeps.
use Rattle.std.specs.Prelude.{Bool, ◌&&◌, length, nat_le}
use Rattle.std.specs.List.{list_all}
use Rattle.theory.specs.Rules.{Element, Tally, Rule}
use Rattle.theory.specs.Calls.{at_most_from_zero}

abbrev pub light : Element → Bool
light e = at_most_from_zero 1000000 e.weight

-- at most 12 elements, with weights in range
abbrev pub fit_tally : Tally → Bool
fit_tally t = nat_le (length t.elements) 12 && list_all light t.elements

abbrev pub fit_rule : Rule → Bool
fit_rule u = list_all fit_tally u.tallies
