-- The banks keep a bank's laws: the plain ones, and those made from lawful banks.
use Rattle.std.proofs.Common.{◌-◌, neg_ℤ, refl, arith}
use Rattle.std.proofs.lemmas.Int.{ints}
use Rattle.std.proofs.lemmas.Bool.Decides.{nat_tests}
use Rattle.theory.specs.Banks.{Bank, LawfulBank, counting, summing, topping, paired, mirrored, gaining, five_kinds}

pub counting_lawful : LawfulBank counting
counting_lawful = record {
  some_kind = omega arith;
  few_kinds = omega arith;
  empty_near = λ k _. omega arith;
  either_order = λ k z v w _ _ _ _ _ _. refl;
  short_step = λ k z w _ light _. omega (arith, ints);
}

pub summing_lawful : LawfulBank summing
summing_lawful = record {
  some_kind = omega arith;
  few_kinds = omega arith;
  empty_near = λ k _. omega arith;
  either_order = λ k z v w _ _ _ _ _ _. omega (arith, ints);
  short_step = λ k z w _ light _. omega (arith, ints);
}

pub topping_lawful : LawfulBank topping
topping_lawful = record {
  some_kind = omega arith;
  few_kinds = omega arith;
  empty_near = λ k _. omega arith;
  either_order = λ k z v w _ _ _ _ _ _. grind (arith, ints);
  short_step = λ k z w _ light _. grind (arith, ints);
}

pub paired_lawful : (a b : Bank) → LawfulBank a → LawfulBank b → LawfulBank (paired a b)
paired_lawful a b la lb = record {
  some_kind = omega (arith, la.some_kind);
  few_kinds = omega arith;
  empty_near = λ k h. grind (arith, nat_tests, la.empty_near k, lb.empty_near (k - a.size));
  either_order = λ k z v w h. grind (arith, nat_tests, la.either_order k z v w, lb.either_order (k - a.size) z v w);
  short_step = λ k z w h. grind (arith, nat_tests, la.short_step k z w, lb.short_step (k - a.size) z w);
}

pub mirrored_lawful : (b : Bank) → LawfulBank b → LawfulBank (mirrored b)
mirrored_lawful b l = record {
  some_kind = l.some_kind;
  few_kinds = l.few_kinds;
  empty_near = λ k h. omega (arith, ints, l.empty_near k h);
  either_order = λ k z v w h p q n c d. grind (arith, ints, l.either_order k (neg_ℤ z) (neg_ℤ v) (neg_ℤ w) h);
  short_step = λ k z w h q n. grind (arith, ints, l.short_step k (neg_ℤ z) (neg_ℤ w) h);
}

pub gaining_lawful : (b : Bank) → LawfulBank b → LawfulBank (gaining b)
gaining_lawful b l = record {
  some_kind = l.some_kind;
  few_kinds = l.few_kinds;
  empty_near = l.empty_near;
  either_order = λ k z v w h p q n c d. grind (arith, l.either_order k z v w h p q n);
  short_step = λ k z w h q n. grind (arith, l.short_step k z w h q n);
}

pub five_kinds_lawful : LawfulBank five_kinds
five_kinds_lawful =
    paired_lawful _ _
    (paired_lawful _ _ (paired_lawful _ _ (paired_lawful _ _ counting_lawful summing_lawful) topping_lawful) (mirrored_lawful _ topping_lawful))
    (gaining_lawful _ summing_lawful)
