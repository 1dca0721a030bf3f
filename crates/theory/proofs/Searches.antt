-- The search for the lowest number that passes a test.
use Rattle.std.proofs.Common.{◌≡◌, ℕ, zero, suc, ◌+◌, ◌<◌, ◌≤◌, Bool, true, false, Some, None, refl, arith}
use Rattle.theory.specs.Verdicts.{lowest}

lowest_from : (p : ℕ → Bool) (n k j : ℕ) → k ≤ j → j < k + n → p j ≡ true → ((m : ℕ) → k ≤ m → m < j → p m ≡ false) → lowest p n k ≡ Some j
unfolding lowest
lowest_from p zero k j low high yes' none = absurd (omega arith)
lowest_from p (suc n) k j low high yes' none =
    let more : k < j → lowest p n (suc k) ≡ Some j = λ less. lowest_from p n (suc k) j less (omega arith) yes' (λ m a b. none m (omega arith) b) in
    grind (arith, none k)

lowest_nothing : (p : ℕ → Bool) (n k : ℕ) → ((m : ℕ) → k ≤ m → m < k + n → p m ≡ false) → lowest p n k ≡ None
unfolding lowest
lowest_nothing p zero k none = refl
lowest_nothing p (suc n) k none =
    let more = lowest_nothing p n (suc k) (λ m a b. none m (omega arith) (omega arith)) in
    grind (arith, none k)

pub lowest_found : (p : ℕ → Bool) (n j : ℕ) → j < n → p j ≡ true → ((m : ℕ) → m < j → p m ≡ false) → lowest p n 0 ≡ Some j
lowest_found p n j high yes' none = lowest_from p n 0 j (omega arith) (omega arith) yes' (λ m _ b. none m b)

pub lowest_none : (p : ℕ → Bool) (n : ℕ) → ((m : ℕ) → m < n → p m ≡ false) → lowest p n 0 ≡ None
lowest_none p n none = lowest_nothing p n 0 (λ m _ b. none m (omega arith))
