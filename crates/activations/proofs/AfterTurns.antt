-- What marks say after a turn.
use Rattle.std.proofs.Common.{◌≡◌, inl, inr, ℕ, Bool, true, false, Option, Some, None, List, get_or, option_map, refl, sym, ◌∙◌, ap, subst}
use Rattle.std.proofs.lemmas.Bool.{cases_eq}
use Rattle.net_names.specs.declared.routes.Rel.{Rel}
use Rattle.net_names.specs.Links.{converse}
use Rattle.as_graph.proofs.Chains.{IsMutual}
use Rattle.stability_laws.specs.declared.entry.Entry.{Entry}
use Rattle.stability_laws.specs.declared.entry.Seed.{Seed}
use Rattle.stability_laws.specs.Offers.{Setting, Offer, offer_given}
use Rattle.stability_laws.specs.Stable.{IsRight, IsRightGiven, IsRightWith}
use Rattle.stability_laws.specs.Steps.{IsStepWhole}
use Rattle.activations.specs.Settling.{AreSettled, IsRenewed}

-- what an AS is right with depends on what its neighbours hold
right_with : (w : Setting) (seeds : ℕ → Option Seed) (f g : ℕ → Option Entry) (b : ℕ) → ((n : ℕ) (r : Rel) → w.relation b n ≡ Some r → f n ≡ g n) → (held : Option Entry) → IsRightWith w seeds f b held → IsRightWith w seeds g b held
right_with w seeds f g b same held right = subst (λ (os : ℕ → Option Offer). IsRightGiven (w.policy b) (seeds b) os held) (λ i n. offers n (w.relation b n) refl i) right
  where
    offers : (n : ℕ) (r : Option Rel) → w.relation b n ≡ r → offer_given (w.policy n) (w.policy b) w.state n b r (f n) ≡ offer_given (w.policy n) (w.policy b) w.state n b r (g n)
    offers n None is = refl
    offers n (Some r) is = ap (offer_given (w.policy n) (w.policy b) w.state n b (Some r)) (same n r is)

-- who was right before a turn of an AS, and is no neighbour of it, is right behind it, and so is that AS
module _ (w : Setting) (mutual_links : IsMutual w.relation) (alone : (a : ℕ) → w.relation a a ≡ None) (seeds : ℕ → Option Seed) (f g : ℕ → Option Entry) (a : ℕ) (step : IsStepWhole w seeds f a g) where
  strangers_hold : (b : ℕ) → w.relation b a ≡ None → (n : ℕ) (r : Rel) → w.relation b n ≡ Some r → f n ≡ g n
  strangers_hold b apart n r linked = sym (step.others n (λ e. (let no : None ≡ Some r = sym apart ∙ ap (w.relation b) (sym e) ∙ linked in cc)))

  right_now : IsRight w seeds g a
  right_now = right_with w seeds f g a (strangers_hold a (alone a)) (g a) step.right

  stays_right : (b : ℕ) → w.relation a b ≡ None → IsRight w seeds f b → IsRight w seeds g b
  stays_right b apart right = elim (cases_eq b a) [
    | inl e ↦ subst (IsRight w seeds g) (sym e) right_now
    | inr ne ↦ subst (IsRightWith w seeds g b) (sym (step.others b ne)) (right_with w seeds f g b (strangers_hold b (mutual_links a b ∙ ap (option_map converse) apart)) (f b) right)
  ]

  pub renewed : (changed : Bool) → (changed ≡ false → g ≡ f) → (rows : List ℕ) (old new : List Bool) → IsRenewed w.relation a changed rows old new → AreSettled w seeds f rows old → AreSettled w seeds g rows new
  renewed changed same rows old new is settled place b marked = elim (is place b marked) [
    | inr e ↦ subst (IsRight w seeds g) (sym e) right_now
    | inl kept ↦ by changed same kept.1 (settled place b kept.0)
  ]
    where
      by : (c : Bool) → (c ≡ false → g ≡ f) → (c ≡ true → w.relation a b ≡ None) → IsRight w seeds f b → IsRight w seeds g b
      by true still apart right = stays_right b (apart refl) right
      by false still apart right = subst (λ h. IsRight w seeds h b) (sym (still refl)) right

-- an AS that is right stays as it is in its turn
pub stays : (w : Setting) (seeds : ℕ → Option Seed) (f : ℕ → Option Entry) (a : ℕ) (held : Option Entry) → IsRightWith w seeds f a held → f a ≡ held → IsStepWhole w seeds f a f
stays w seeds f a held right is = record { others = λ n ne. refl; right = subst (IsRightWith w seeds f a) (sym is) right }

-- without marks nothing is claimed
pub none_settled : (w : Setting) (seeds : ℕ → Option Seed) (f : ℕ → Option Entry) (rows : List ℕ) (marks : List Bool) → ((place : ℕ) → get_or marks place false ≡ false) → AreSettled w seeds f rows marks
none_settled w seeds f rows marks none place a marked = let no : true ≡ false = sym marked.marked ∙ none place in absurd cc
