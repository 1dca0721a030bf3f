-- What a check of an item at its place answers.
use Rattle.std.specs.Prelude.{◌≡◌, ℕ, ◌<◌, List, Result}
use Rattle.std.specs.Borrow.{Bor}
use Rattle.theory.specs.Calls as calls
use Rattle.plans.specs.Refusals.{refusal_in}
use Rattle.plans.specs.declared.refusal.Refused.{Refused}

-- what it refuses is what the first applying of these tests refuses
abbrev pub Gives : {T : Type 0} → (Bor T → ℕ → Result (Unit {0}) Refused → Type 0) → (ℕ → T → List (calls.Test calls.Refused)) → Type 0
Gives {T} answers tests = (item : Bor T) (place : ℕ) (r : Result (Unit {0}) Refused) → place < 256 → answers item place r → refusal_in r ≡ calls.first_applying (tests place item.now)
