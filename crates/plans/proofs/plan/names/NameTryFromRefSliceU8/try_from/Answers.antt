-- Of a name no test of its bytes applies.
use Rattle.std.proofs.Common.{◌≡◌, rules, tests, arith}
use Rattle.std.specs.List.{list_all}
use Rattle.theory.specs.Calls.{is_name_byte}
use Rattle.std.proofs.lemmas.Iterator.{YieldsList-from_slice}
use Rattle.std.proofs.lemmas.Iterator.Search.{all_from_yields_List}
use Rattle.std.proofs.lemmas.Bool.Decides.{nat_tests}
use Rattle.plans.proofs.plan.names.NameTryFromRefSliceU8.try_from.Goals as goal

pub returns : goal.returns
returns c =
    let all : c.all.result ≡ list_all is_name_byte c.args.bytes.now =
    all_from_yields_List is_name_byte _ _ _ c.all.ensures.ran (YieldsList-from_slice c.args.bytes.now cc) (λ x b q k. search (rules, tests)) in
    (c.in-Ok.ensures.0, let long = c.in-Ok.ensures in grind (arith, nat_tests))
