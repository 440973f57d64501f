-- The best offer, by its view.
use Rattle.std.specs.Prelude.{◌≡◌, ◌≢◌, ℕ, true, IsTrue, if◌then◌else◌, Option, None, Some, List}
use Rattle.policy_laws.specs.declared.policy.View.{View}
use Rattle.policy_laws.specs.Policy.{Policy}
use Rattle.net_names.specs.Numbers.{occurs}
use Rattle.stability_laws.specs.Offers.{Offer}
use Rattle.stability_laws.specs.Stable.{IsBest}

-- of the ASes of the list, the one that the view names makes the offer with that view, before the
-- offers of the others; without a view none makes an offer (RFC 4271, section 9.1.2)
pub record IsFirstOf (p : Policy) (offers : ℕ → Option Offer) (xs : List ℕ) (v : View) : Type 0 where
  pub offer : Offer
  pub made : offers v.neighbour ≡ Some offer
  pub seen : offer.view ≡ v
  pub first : (m : ℕ) (q : Offer) → occurs m xs ≡ true → offers m ≡ Some q → m ≢ v.neighbour → IsTrue (p.before v q.view)

-- the view of the best offer among the ASes of the list, or none of them makes an offer (RFC 4271, section 9.1.2)
abbrev pub IsBestViewOf : Policy → (ℕ → Option Offer) → List ℕ → Option View → Type 0
IsBestViewOf p offers xs None = (n : ℕ) → occurs n xs ≡ true → offers n ≡ None
IsBestViewOf p offers xs (Some v) = IsFirstOf p offers xs v

-- the view of the best of all offers, or there is no offer (RFC 4271, section 9.1.2)
abbrev pub IsBestView : Policy → (ℕ → Option Offer) → Option View → Type 0
IsBestView p offers None = (n : ℕ) → offers n ≡ None
IsBestView p offers (Some v) = (o : Offer) × IsBest p offers v.neighbour o × (o.view ≡ v)

-- the better one of two views that may be missing (RFC 4271, section 9.1.2)
abbrev pub better_of : Policy → Option View → Option View → Option View
better_of p None new = new
better_of p (Some b) None = Some b
better_of p (Some b) (Some v) = if p.before v b then Some v else Some b
