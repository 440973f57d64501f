-- Lists of providers in one region.
use Rattle.std.specs.Prelude.{◌≡◌, ℕ, true, ◌+◌, ◌-◌, List, Option, Some, All, length, take, drop, slice_index}
use Rattle.net_names.specs.Numbers.{occurs}
use Rattle.net_names.specs.declared.routes.Rel.{Rel}
use Rattle.net_names.specs.declared.routes.Rel.TheVariants.{Provider}
use Rattle.as_graph.specs.declared.neighbour.Neighbour.{Neighbour}
use Rattle.as_graph.specs.Neighbours.{asns}
use Rattle.three_pass.specs.declared.lists.ProviderLists.{ProviderLists}

-- how many lists there are
abbrev pub count_of : ProviderLists → ℕ
count_of l = length l.starts.items - 1

-- the list at a place
abbrev pub list_at : ProviderLists → ℕ → List Neighbour
list_at l k = take (slice_index l.starts.items (k + 1) - slice_index l.starts.items k) (drop (slice_index l.starts.items k) l.items.items)

-- the list has neighbours of the AS, each with what it is to the AS, and these are all of its providers and no others
pub record AreProviders (relation : ℕ → ℕ → Option Rel) (a : ℕ) (xs : List Neighbour) : Type 0 where
  pub each : All (λ x. relation a x.asn ≡ Some x.rel) xs
  pub only : All (λ x. x.rel ≡ Provider) xs
  pub complete : (n : ℕ) → relation a n ≡ Some Provider → occurs n (asns xs) ≡ true
