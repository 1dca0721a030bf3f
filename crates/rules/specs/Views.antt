-- A rule of the code as the rule of the definitions that it stands for.
use Rattle.std.specs.Prelude.{map, vec_items}
use Rattle.theory.specs.Rules.{Element, Relation, equal, unequal, below, above, at_most, at_least, unread, Sign, plain, negated, unsigned, Tally, Rule}
use Rattle.rules.specs.declared.Element.{Element as StoredElement}
use Rattle.rules.specs.declared.Relation.{Relation as StoredRelation}
use Rattle.rules.specs.declared.Relation.TheVariants.{Equal, Unequal, Below, Above, AtMost, AtLeast, Unread as UnreadRelation}
use Rattle.rules.specs.declared.Sign.{Sign as StoredSign}
use Rattle.rules.specs.declared.Sign.TheVariants.{Plain, Negated, Unread as UnreadSign}
use Rattle.rules.specs.declared.Tally.{Tally as StoredTally}
use Rattle.rules.specs.declared.Rule.{Rule as StoredRule}

abbrev pub relation_of : StoredRelation → Relation
relation_of Equal = equal
relation_of Unequal = unequal
relation_of Below = below
relation_of Above = above
relation_of AtMost = at_most
relation_of AtLeast = at_least
relation_of (UnreadRelation code) = unread code

abbrev pub sign_of : StoredSign → Sign
sign_of Plain = plain
sign_of Negated = negated
sign_of (UnreadSign code) = unsigned code

abbrev pub element_of : StoredElement → Element
element_of e = record { ins = e.ins.0; outs = e.outs.0; weight = e.weight }

abbrev pub tally_of : StoredTally → Tally
tally_of t = record {
  kind = t.kind;
  relation = relation_of t.relation;
  sign = sign_of t.sign;
  bound = t.bound;
  elements = map element_of (vec_items t.elements);
}

abbrev pub rule_of : StoredRule → Rule
rule_of r = record {
  head = r.head.0;
  must = r.must.0;
  mustnot = r.must_not.0;
  tallies = map tally_of (vec_items r.tallies);
}
