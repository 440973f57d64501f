-- What one step of an AS leaves, and which neighbours need not choose anew after it.
use Rattle.std.specs.Prelude.{◌≡◌, ◌≢◌, ◌⊎◌, ℕ, Bool, true, IsTrue, Option, None, Some, is_some}
use Rattle.stability_laws.specs.declared.entry.Entry.{Entry}
use Rattle.stability_laws.specs.declared.entry.Seed.{Seed}
use Rattle.stability_laws.specs.Offers.{Setting, Offer, offer}
use Rattle.stability_laws.specs.Stable.{IsRight, IsRightGiven}
use Rattle.stability_laws.specs.Laws.{customer_offer}
use Rattle.stability_laws.specs.Steps.{low}
use Rattle.route_choice.specs.declared.choice.Part.{Part}
use Rattle.route_choice.specs.declared.choice.Part.TheVariants.{Up, Whole}
use Rattle.route_choice.specs.declared.overlay.Overlay.{Overlay}
use Rattle.route_choice.specs.Choices.{offers_of}
use Rattle.route_choice.specs.Tables.{change_at}

-- nothing, where what is held has an Origin or Customer part
abbrev pub without_low : Option Entry → Option Entry → Option Entry
without_low None held = held
without_low (Some e) held = None

-- what a step upwards leaves of what is held, given the seed's entry or the best of the customers' offers: that entry; or, where there is none, what is held, unless it is an Origin or Customer entry
abbrev pub after_up : Option Entry → Option Entry → Option Entry
after_up (Some e) held = Some e
after_up None held = without_low (low held) held

-- the Origin or Customer part of what a holds is right by its customers' offers alone
abbrev pub IsRightLow : Setting → (ℕ → Option Seed) → (ℕ → Option Entry) → ℕ → Type 0
IsRightLow w seeds f a = IsRightGiven (w.policy a) (seeds a) (λ n. customer_offer w f n a) (low (f a))

-- what b holds isn't the offer that a made it in f, and in g a makes it none, or one that another neighbour's offer is before (RFC 4271, section 9.1.2)
pub record IsSpared (w : Setting) (f g : ℕ → Option Entry) (a b : ℕ) : Type 0 where
  pub not_held : (o : Offer) → offer w f a b ≡ Some o → f b ≢ Some o.entry
  pub beaten : (offer w g a b ≡ None) ⊎ ((m : ℕ) × (q : Offer) × (n : Offer) × (m ≢ a) × (offer w f m b ≡ Some q) × (offer w g a b ≡ Some n) × IsTrue ((w.policy b).before q.view n.view))

-- b need not choose anew when a's entry goes from that in f to that in g: it has a seed, or a makes it the same offer, or it is spared
abbrev pub IsLeft : Setting → (ℕ → Option Seed) → (ℕ → Option Entry) → (ℕ → Option Entry) → ℕ → ℕ → Type 0
IsLeft w seeds f g a b = ((s : Seed) × (seeds b ≡ Some s)) ⊎ ((offer w f a b ≡ offer w g a b) ⊎ IsSpared w f g a b)

-- from f to g only a's entry may change, and where it does a is among the changed ASes afterwards
pub record ChangesOnly (a : ℕ) (f g : ℕ → Option Entry) (changed changed' : ℕ → Bool) : Type 0 where
  pub others : (b : ℕ) → b ≢ a → g b ≡ f b
  pub changed_others : (b : ℕ) → b ≢ a → changed' b ≡ changed b
  pub settled : ((g a ≡ f a) × (changed' a ≡ changed a)) ⊎ ((g a ≢ f a) × (changed' a ≡ true))

-- what a step leaves of what is held, given the seed's entry or the best of the offers it looks at: in a step over all offers just that
abbrev pub after : Part → Option Entry → Option Entry → Option Entry
after Up new held = after_up new held
after Whole new held = new

-- a took its seed's entry or the best of the offers that the step looks at; where there is neither, `nothing` says so (Gao and Rexford 2001)
pub record IsChosen (part : Part) (w : Setting) (seeds : ℕ → Option Seed) (a : ℕ) (f g : ℕ → Option Entry) (nothing : Bool) : Type 0 where
  pub new : Option Entry
  pub right : IsRightGiven (w.policy a) (seeds a) (λ n. offers_of part w f a n) new
  pub at : g a ≡ after part new (f a)
  pub none : new ≡ None → nothing ≡ true

-- of the offers of a part those that decide, given the Origin or Customer entry that the AS holds, if it holds one: its customers' then do (Gao and Rexford 2001, Guideline A)
abbrev pub decided_by : Part → Option Entry → Part
decided_by Up held = Up
decided_by Whole None = Whole
decided_by Whole (Some e) = Up

-- a holds no Origin or Customer entry, or is right with it, also by its customers' offers alone
abbrev pub IsRightIfLow : Setting → (ℕ → Option Seed) → (ℕ → Option Entry) → ℕ → Type 0
IsRightIfLow w seeds f a = (low (f a) ≡ None) ⊎ (IsRightLow w seeds f a × IsRight w seeds f a)

-- a can make the step: upwards, nothing is changed of it; over all offers, an Origin or Customer entry that it holds is right, and where something is changed of it, it holds nothing or what is right
abbrev pub IsReady : Part → Setting → (ℕ → Option Seed) → (ℕ → Option Entry) → Overlay → ℕ → Type 0
IsReady Up w seeds f overlay a = change_at overlay a ≡ None
IsReady Whole w seeds f overlay a = IsRightIfLow w seeds f a × (is_some (change_at overlay a) ≡ true → (f a ≡ None) ⊎ IsRight w seeds f a)
