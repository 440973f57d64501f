-- The neighbours that may make an AS an offer.
use Rattle.std.specs.Prelude.{◌≡◌, ℕ, true, Option, Some, List, All}
use Rattle.net_names.specs.declared.routes.Rel.{Rel}
use Rattle.net_names.specs.Links.{converse}
use Rattle.net_names.specs.Numbers.{occurs}
use Rattle.policy_laws.specs.Policy.{Policy}
use Rattle.as_graph.specs.declared.neighbour.Neighbour.{Neighbour}
use Rattle.as_graph.specs.Neighbours.{asns}
use Rattle.stability_laws.specs.declared.entry.Entry.{Entry}
use Rattle.route_choice.specs.declared.choice.Part.{Part}
use Rattle.route_choice.specs.Choices.{is_looked_at}

-- The list has neighbours of the AS, each with what it is to the AS, and among them all of the part that export to it what they hold (RFC 4271, section 9.1).
pub record AreGivers (part : Part) (relation : ℕ → ℕ → Option Rel) (policy : ℕ → Policy) (f : ℕ → Option Entry) (a : ℕ) (xs : List Neighbour) : Type 0 where
  pub each : All (λ x. relation a x.asn ≡ Some x.rel) xs
  pub complete : (n : ℕ) (r : Rel) (e : Entry) → relation a n ≡ Some r → is_looked_at part r ≡ true → f n ≡ Some e → (policy n).exports e.class e.otc (converse r) ≡ true → occurs n (asns xs) ≡ true
