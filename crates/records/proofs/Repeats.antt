-- A loop that reads this many parts, one after the other.
use Rattle.std.proofs.Common.{◌≡◌, ℕ, suc, ◌+◌, ◌-◌, ◌<◌, List, [], ◌∷◌, ◌++◌, sym, refl, ap, arith}
use Rattle.std.proofs.lemmas.List.{append_assoc}
use Rattle.records.specs.Fields.{Read, got, failed, and_then}
use Rattle.records.specs.Records.{repeated}
use Rattle.records.specs.declared.fault.ReaderFault.{ReaderFault}

module _ {A : Type 0} (one : List ℕ → Read A) where
  -- the parts that were read, and then n more
  abbrev pub with_more : List A → ℕ → List ℕ → Read (List A)
  with_more xs n bytes = and_then (repeated one n bytes) λ ys rest. got (xs ++ ys) rest

  -- one part more
  pub repeat_more : (xs : List A) (n i : ℕ) (bytes rest : List ℕ) (x : A) → i < n → got x rest ≡ one bytes
      → with_more xs (n - i) bytes ≡ with_more (xs ++ x ∷ []) (n - (i + 1)) rest
  repeat_more xs n i bytes rest x less e =
      let k : n - i ≡ suc (n - (i + 1)) = omega arith in rw (k, ← e) (step (repeated one (n - (i + 1)) rest))
    where
      step : (r : Read (List A)) → and_then (and_then r λ ys left. got (x ∷ ys) left) (λ ys left. got (xs ++ ys) left) ≡ and_then r λ ys left. got ((xs ++ x ∷ []) ++ ys) left
      step (got ys left) = ap (λ (zs : List A). got zs left) (sym (append_assoc xs (x ∷ []) ys))
      step (failed f) = refl

  -- a part that cannot be read
  pub repeat_failed : (xs : List A) (n i : ℕ) (bytes : List ℕ) (f : ReaderFault) → i < n → failed f ≡ one bytes
      → with_more xs (n - i) bytes ≡ failed f
  repeat_failed xs n i bytes f less e = let k : n - i ≡ suc (n - (i + 1)) = omega arith in rw (k, ← e)
