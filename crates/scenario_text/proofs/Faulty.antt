-- A fault in the midst of a list, where memory may run out too.
use Rattle.std.proofs.Common.{◌≡◌, ℕ, ◌<◌, List, ◌∷◌, length, get_or, Result, refl}
use Rattle.scenario_text.specs.declared.faults.ScenarioError.{ScenarioError}
use Rattle.scenario_text.specs.declared.faults.ScenarioError.TheVariants as fault
use Rattle.scenario_text.specs.Faults.{Fails}
use Rattle.scenario_text.specs.Walks.{◌>>=◌, each_from}
use Rattle.scenario_text.proofs.Walking.{with_front, going, stops, next_fails}

pub fails : {A B : Type 0} (f : ℕ → A → Result B ScenarioError) (xs : List A) (front : List B) (i : ℕ) (d : A) (e : ScenarioError) (whole : Result (List B) ScenarioError) → i < length xs → Fails e (f i (get_or xs i d))
    → going f xs front i ≡ whole → Fails e whole
fails f xs front i d fault.Memory whole lt h so_far = tt
fails f xs front i d fault.NotJson whole lt h so_far = stops f xs front i d fault.NotJson whole lt h so_far
fails f xs front i d (fault.Shape p) whole lt h so_far = stops f xs front i d (fault.Shape p) whole lt h so_far
fails f xs front i d (fault.Value p) whole lt h so_far = stops f xs front i d (fault.Value p) whole lt h so_far
fails f xs front i d (fault.Twice p) whole lt h so_far = stops f xs front i d (fault.Twice p) whole lt h so_far
fails f xs front i d (fault.Limit w) whole lt h so_far = stops f xs front i d (fault.Limit w) whole lt h so_far

pub next_item_fails : {A B : Type 0} (f : ℕ → A → Result B ScenarioError) (front : List B) (x : A) (xs : List A) (e : ScenarioError) → Fails e (f (length front) x) → Fails e (with_front front (each_from f (length front) (x ∷ xs)))
next_item_fails f front x xs fault.Memory h = tt
next_item_fails f front x xs fault.NotJson h = next_fails f front x xs fault.NotJson h
next_item_fails f front x xs (fault.Shape p) h = next_fails f front x xs (fault.Shape p) h
next_item_fails f front x xs (fault.Value p) h = next_fails f front x xs (fault.Value p) h
next_item_fails f front x xs (fault.Twice p) h = next_fails f front x xs (fault.Twice p) h
next_item_fails f front x xs (fault.Limit w) h = next_fails f front x xs (fault.Limit w) h

-- where the first of two steps fails, both do
pub first_fails : {A B : Type 0} (r : Result A ScenarioError) (f : A → Result B ScenarioError) (e : ScenarioError) → Fails e r → Fails e (r >>= f)
first_fails r f fault.Memory h = tt
first_fails r f fault.NotJson h = rw h refl
first_fails r f (fault.Shape p) h = rw h refl
first_fails r f (fault.Value p) h = rw h refl
first_fails r f (fault.Twice p) h = rw h refl
first_fails r f (fault.Limit w) h = rw h refl
