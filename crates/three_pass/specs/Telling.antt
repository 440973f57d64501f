-- Who was told of the Origin and Customer entries.
use Rattle.std.specs.Prelude.{◌≡◌, ◌≢◌, ℕ, Option, None, Some}
use Rattle.net_names.specs.declared.routes.Rel.{Rel}
use Rattle.net_names.specs.declared.routes.Rel.TheVariants.{Customer, Provider}
use Rattle.stability_laws.specs.declared.entry.Entry.{Entry}
use Rattle.stability_laws.specs.Offers.{Setting}
use Rattle.stability_laws.specs.Steps.{lows}
use Rattle.three_pass.specs.declared.told.Told.{Told}
use Rattle.three_pass.specs.Told.{AreTrue, IsTold}

-- each customer and peer of the AS that holds an Origin or a Customer entry told it so; no other customer or peer makes it an offer (Gao and Rexford 2001)
abbrev pub HaveTold : (ℕ → ℕ → Type 0) → Setting → (ℕ → Option Entry) → ℕ → Type 0
HaveTold told w f a = (b : ℕ) (r : Rel) → w.relation a b ≡ Some r → r ≢ Provider → lows f b ≢ None → told a b

-- an AS that holds an entry has told its peers and its providers, all that was told stays told, and each note is right
pub record TellsOn (relation : ℕ → ℕ → Option Rel) (f : ℕ → Option Entry) (a : ℕ) (old new : Told) : Type 0 where
  pub around : f a ≢ None → (n : ℕ) (r : Rel) → relation a n ≡ Some r → r ≢ Customer → IsTold new n a
  pub others : (b c : ℕ) → IsTold old b c → IsTold new b c
  pub true_notes : AreTrue relation new
