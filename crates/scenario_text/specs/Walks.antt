-- Lists that are gone through up to the first failure.
use Rattle.std.specs.Prelude.{ℕ, suc, List, [], ◌∷◌, Result, Ok}
pub use Rattle.net_names.specs.Trials.{◌>>=◌}
use Rattle.scenario_text.specs.Places.{item}
use Rattle.scenario_text.specs.declared.faults.ScenarioError.{ScenarioError}
use Rattle.scenario_text.specs.declared.places.Place.{Place}

-- what f gives for each item and its position, where the first item has this position; the first failure where one fails
unfoldable pub each_from : {A B E : Type 0} → (ℕ → A → Result B E) → ℕ → List A → Result (List B) E
each_from f i [] = Ok []
each_from f i (x ∷ xs) = f i x >>= λ y. each_from f (suc i) xs >>= λ ys. Ok (y ∷ ys)

-- how what stands at a place of the document is read
abbrev pub Reader : Type 0 → Type 0 → Type 0
Reader A B = Place → A → Result B ScenarioError

-- the items of the list at a place, each read at its own place
abbrev pub each_at : {A B : Type 0} → Reader A B → Reader (List A) (List B)
each_at read p = each_from (λ i. read (item p i)) 0
