-- Elements, tallies and rules; what a set of atoms counts, meets and holds.
use Rattle.std.specs.Prelude.{ℕ, Bool, true, false, cond, not, ◌&&◌, ◌||◌, List, [], ◌∷◌, ℤ, int_le, int_lt, nat_le}
use Rattle.std.specs.List.{list_all}
use Rattle.theory.specs.Sets.{contains, misses}
use Rattle.theory.specs.Banks.{Bank}

-- one weight of a tally, with the set that must be there and the set that must not for it to count
pub record Element : Type 0 where
  pub ins : ℕ
  pub outs : ℕ
  pub weight : ℤ

-- between a total, on the left, and a bound; `unread` holds a code that was sent and is none of the six
pub data Relation : Type 0 where
  equal unequal below above at_most at_least : Relation
  unread : ℕ → Relation

-- a plain tally is met when its relation holds, a negated one when it fails; `unsigned` holds a code that is neither
pub data Sign : Type 0 where
  plain negated : Sign
  unsigned : ℕ → Sign

pub record Tally : Type 0 where
  pub kind : ℕ
  pub relation : Relation
  pub sign : Sign
  pub bound : ℤ
  pub elements : List Element

pub record Rule : Type 0 where
  pub head : ℕ
  pub must : ℕ
  pub mustnot : ℕ
  pub tallies : List Tally

-- whether the relation holds between a total and a bound; a code that is none of the six never holds
unfoldable pub relates : Relation → ℤ → ℤ → Bool
relates equal z b = int_le z b && int_le b z
relates unequal z b = not (int_le z b && int_le b z)
relates below z b = int_lt z b
relates above z b = int_lt b z
relates at_most z b = int_le z b
relates at_least z b = int_le b z
relates (unread c) z b = false

-- whether the sign is the negated one
abbrev pub negates : Sign → Bool
negates plain = false
negates negated = true
negates (unsigned c) = false

-- what a relation that holds, or fails, makes of a tally
abbrev pub as_signed : Bool → Bool → Bool
as_signed negative holds = cond negative (not holds) holds

-- the bank has the kind
abbrev pub has_kind : Bank → ℕ → Bool
has_kind bank k = nat_le 1 k && nat_le k bank.size

-- the total of the elements that count, in their written order, from a total so far
unfoldable pub total : Bank → ℕ → (Element → Bool) → ℤ → List Element → ℤ
total bank k counts so_far [] = so_far
total bank k counts so_far (e ∷ es) =
    total bank k counts (cond (counts e) (bank.step k so_far e.weight) so_far) es

-- whether the tally's relation holds where these elements count; only a kind that the bank has comes to a total
unfoldable pub fact : Bank → Tally → (Element → Bool) → Bool
fact bank t counts =
    has_kind bank t.kind
    && relates t.relation (total bank t.kind counts (bank.empty t.kind) t.elements) t.bound

-- the plain definition: when a set counts an element, meets a tally, holds a body and a rule
abbrev pub counted : ℕ → Element → Bool
counted s e = contains s e.ins && misses s e.outs

abbrev pub met : Bank → ℕ → Tally → Bool
met bank s t = as_signed (negates t.sign) (fact bank t (counted s))

abbrev pub holds_body : Bank → ℕ → Rule → Bool
holds_body bank s r = contains s r.must && (misses s r.mustnot && list_all (met bank s) r.tallies)

-- it does not hold the body, or it contains a head atom
abbrev pub holds_rule : Bank → ℕ → Rule → Bool
holds_rule bank s r = not (holds_body bank s r) || not (misses s r.head)
