-- What the offer of one neighbour more changes.
use Rattle.std.proofs.Common.{◌≡◌, ℕ, Bool, true, false, not, ◌&&◌, cond, Option, Some, None, option_map, is_some, slice_get, refl, sym, ap, subst}
use Rattle.net_names.specs.declared.routes.Rel.{Rel}
use Rattle.net_names.specs.declared.routes.State.{State}
use Rattle.net_names.specs.Links.{converse}
use Rattle.net_names.specs.Numbers.{occurs}
use Rattle.policy_laws.specs.declared.policy.View.{View}
use Rattle.policy_laws.specs.Policy.{Policy}
use Rattle.stability_laws.specs.declared.entry.Entry.{Entry}
use Rattle.stability_laws.specs.BestView.{better_of}
use Rattle.stability_laws.specs.Offers.{Offer, offer_given, passed_on, view_of}
use Rattle.table_check.specs.declared.placed.Brief.{Brief}
use Rattle.table_check.specs.Walk.{brief_of}

-- the view of an offer that may be missing
abbrev pub seen : Option Offer → Option View
seen offer = option_map (λ o. o.view) offer

module _ (p s r : Policy) (state : ℕ → State) (n a : ℕ) where
  -- who holds nothing makes no offer
  pub nothing_more : (link : Option Rel) (f : Option Entry) (best : Option View) → None ≡ f → best ≡ better_of p best (seen (offer_given s r state n a link f))
  nothing_more link f best none = subst (λ g. best ≡ better_of p best (seen (offer_given s r state n a link g))) none (by link best)
    where
      by : (link : Option Rel) (best : Option View) → best ≡ better_of p best (seen (offer_given s r state n a link None))
      by None None = refl
      by None (Some b) = refl
      by (Some from) None = refl
      by (Some from) (Some b) = refl

  -- what is so of each entry that shows the same is so of the one that is held
  pub of_shown : (link : Option Rel) (from : Rel) (f : Option Entry) (b : Brief) (best : Option View) → link ≡ Some from → Some b ≡ option_map brief_of f
      → ((e : Entry) → brief_of e ≡ b → best ≡ better_of p best (seen (offer_given s r state n a (Some from) (Some e)))) → best ≡ better_of p best (seen (offer_given s r state n a link f))
  of_shown link from None b best linked shown each = absurd cc
  of_shown link from (Some e) b best linked shown each =
      let same : brief_of e ≡ b = cc in
      subst (λ l. best ≡ better_of p best (seen (offer_given s r state n a l (Some e)))) (sym linked) (each e same)

  module _ (from : Rel) (e : Entry) where
    abbrev view : View
    view = view_of s.marks state n from e

    abbrev made : Offer
    made = record { view = view; entry = passed_on s.marks r.marks n a from e }

    -- what is not exported is not offered
    pub unexported : (best : Option View) → s.exports e.class e.otc (converse from) ≡ false → best ≡ better_of p best (seen (offer_given s r state n a (Some from) (Some e)))
    unexported best h =
        let rest = is_some (slice_get e.path 0) && (not (occurs a e.path) && r.accepts view) in
        subst (λ (b : Bool). best ≡ better_of p best (seen (cond (b && rest) (Some made) None))) (sym h) (by best)
      where
        by : (best : Option View) → best ≡ better_of p best None
        by None = refl
        by (Some b) = refl

    -- the best view stays where that of the offer would not be before it
    pub stays : (best : View) → p.before view best ≡ false → Some best ≡ better_of p (Some best) (seen (offer_given s r state n a (Some from) (Some e)))
    stays best h = by (s.exports e.class e.otc (converse from) && (is_some (slice_get e.path 0) && (not (occurs a e.path) && r.accepts view)))
      where
        by : (b : Bool) → Some best ≡ better_of p (Some best) (seen (cond b (Some made) None))
        by true = sym (ap (λ t. cond t (Some view) (Some best)) h)
        by false = refl

  -- an entry whose path goes through the receiver is not offered
  pub looped : (link : Option Rel) (from : Rel) (f : Option Entry) (e : Entry) (best : Option View) → link ≡ Some from → Some e ≡ f → occurs a e.path ≡ true
      → best ≡ better_of p best (seen (offer_given s r state n a link f))
  looped link from f e best linked holds there =
      subst (λ l. best ≡ better_of p best (seen (offer_given s r state n a l f))) (sym linked)
      (subst (λ g. best ≡ better_of p best (seen (offer_given s r state n a (Some from) g))) holds
      (subst (λ (b : Bool). best ≡ better_of p best (seen (cond (s.exports e.class e.otc (converse from) && (is_some (slice_get e.path 0) && (not b && r.accepts (view from e)))) (Some (made from e)) None))) (sym there)
      (by (s.exports e.class e.otc (converse from)) (is_some (slice_get e.path 0)) best)))
    where
      by : (x y : Bool) (best : Option View) → best ≡ better_of p best (seen (cond (x && (y && false)) (Some (made from e)) None))
      by true true None = refl
      by true true (Some b) = refl
      by true false None = refl
      by true false (Some b) = refl
      by false y None = refl
      by false y (Some b) = refl
