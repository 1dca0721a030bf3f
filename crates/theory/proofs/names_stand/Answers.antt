-- Names by their bytes.
use Rattle.std.proofs.Common.{◌≡◌, ℕ, List, refl}
use Rattle.std.specs.Str.{bytes_eq}
use Rattle.std.proofs.lemmas.Slice.Eq.{bytes_eq-Decides}
use Rattle.std.proofs.lemmas.Bool.Decides.{Decides-by_or}
use Rattle.theory.specs.Calls.{borne}
use Rattle.theory.proofs.names_stand.Goals as goal

pub returns : goal.returns
returns c names bytes =
    Decides-by_or (λ (n : List ℕ). bytes_eq n bytes) (λ (n : List ℕ). n ≡ bytes) (λ (ns : List (List ℕ)). borne ns bytes) (λ n. bytes_eq-Decides n bytes) refl (λ _ _. refl) names
