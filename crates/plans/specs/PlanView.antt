-- A plan of the code as the plan of the definitions.
use Rattle.std.specs.Prelude.{ℕ, List, map, vec_items}
use Rattle.theory.specs.Calls as calls
use Rattle.rules.specs.Kept.{rules_of}
use Rattle.plans.specs.declared.plan.Name.{Name}
use Rattle.plans.specs.declared.plan.Table.{Table}
use Rattle.plans.specs.declared.plan.Plan.{Plan}

-- the bytes of a name
abbrev pub text_of : Name → List ℕ
text_of n = n.text.items

abbrev pub texts_of : List Name → List (List ℕ)
texts_of names = map text_of names

abbrev pub table_of : Table → calls.Plan
table_of t = record { names = texts_of (vec_items t.names); rules = rules_of (vec_items t.rules) }

abbrev pub plan_of : {B : Type 0} → Plan B → calls.Plan
plan_of p = table_of p.table
