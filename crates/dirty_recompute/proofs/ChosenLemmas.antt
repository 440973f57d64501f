-- What a step takes, by its choice.
use Rattle.std.proofs.Common.{◌≡◌, ◌≢◌, inl, inr, ℕ, ◌↔◌, Bool, IsTrue, Option, Some, None, option_map, refl, sym, ◌∙◌, ap, subst}
use Rattle.std.specs.Prelude.{IsSome, is_some}
use Rattle.policy_laws.specs.Policy.{Policy, RanksOffers}
use Rattle.stability_laws.specs.declared.entry.Entry.{Entry}
use Rattle.stability_laws.specs.declared.entry.Seed.{Seed}
use Rattle.stability_laws.specs.Offers.{Setting, Offer, offer}
use Rattle.stability_laws.specs.Laws.{customer_offer}
use Rattle.stability_laws.specs.Stable.{IsRightGiven}
use Rattle.stability_laws.specs.Steps.{low}
use Rattle.stability_laws.proofs.Local.{one_right}
use Rattle.path_pool.specs.declared.pool.PathPool.{PathPool}
use Rattle.route_choice.specs.declared.choice.Part.{Part}
use Rattle.route_choice.specs.declared.choice.Part.TheVariants.{Up, Whole}
use Rattle.route_choice.specs.declared.overlay.Overlay.{Overlay}
use Rattle.route_choice.specs.declared.table.Table.{Table}
use Rattle.route_choice.specs.declared.held.Held.{Held}
use Rattle.route_choice.specs.Routings.{entry_of, routing_of}
use Rattle.route_choice.specs.Tables.{joined}
use Rattle.route_choice.specs.declared.choice.Choice.{Choice}
use Rattle.route_choice.specs.declared.choice.Choice.TheVariants as choice
use Rattle.route_choice.specs.Choices.{IsChoice, named_by, offers_of}
use Rattle.route_choice.proofs.Chosen.{named_is_right}
use Rattle.dirty_recompute.specs.Giving.{GivesUpNone}
use Rattle.dirty_recompute.specs.Steps.{after, after_up, decided_by, IsChosen, IsReady}
use Rattle.dirty_recompute.proofs.Parts.{low_some}
use Rattle.dirty_recompute.proofs.RoomLemmas.{gives_none}

-- a choice that isn't nothing names an entry
choice_some : (p : Policy) (seed : Option Seed) (offers : ℕ → Option Offer) (c : Choice) (new : Option Entry) → IsChoice p seed offers c → IsRightGiven p seed offers new → c ≢ choice.Nothing → IsSome new
choice_some p seed offers choice.Nothing new h right ne = absurd (ne refl)
choice_some p None offers choice.Seed new (s, e) right ne = cc
choice_some p (Some s) offers choice.Seed new h right ne = ap (λ (x : Option Entry). is_some x) right
choice_some p (Some s) offers (choice.Via n r) new h right ne = (let x : Some s ≡ None = h.0 in cc)
choice_some p None offers (choice.Via n r) None (none, (o, best, is_r)) right ne = (let x : offers n ≡ None = right n in let y : offers n ≡ Some o = best.made in cc)
choice_some p None offers (choice.Via n r) (Some e) h right ne = refl

stays_some : (part : Part) (new held : Option Entry) → IsSome new → new ≡ after part new held
stays_some Up None held h = cc
stays_some Up (Some e) held h = refl
stays_some Whole new held h = refl

module _ (part : Part) (w : Setting) (seeds : ℕ → Option Seed) (a : ℕ) (f : ℕ → Option Entry) (c : Choice) (nothing : Bool) (chosen : IsChoice (w.policy a) (seeds a) (λ n. offers_of part w f a n) c) (says : IsTrue nothing ↔ (c ≡ choice.Nothing)) where
  abbrev new : Option Entry
  new = named_by w.policy (seeds a) f a c

  pub right : IsRightGiven (w.policy a) (seeds a) (λ n. offers_of part w f a n) new
  right = named_is_right part w f a (seeds a) c chosen

  some : c ≢ choice.Nothing → IsSome new
  some = choice_some (w.policy a) (seeds a) (λ n. offers_of part w f a n) c new chosen right

  is_nothing : (d : Choice) → c ≡ d → new ≡ None → c ≡ choice.Nothing
  is_nothing choice.Nothing e none = e
  is_nothing choice.Seed e none = (let y : IsSome new = some (λ x. (let y : choice.Seed ≡ choice.Nothing = sym e ∙ x in cc)) in cc)
  is_nothing (choice.Via n r) e none = (let y : IsSome new = some (λ x. (let y : choice.Via n r ≡ choice.Nothing = sym e ∙ x in cc)) in cc)

  -- the AS takes what its choice names, where it holds no entry that stays
  pub chosen_in : (g : ℕ → Option Entry) → g a ≡ new → (c ≡ choice.Nothing → after part None (f a) ≡ None) → IsChosen part w seeds a f g nothing
  chosen_in g at goes = record {
    new = new;
    right = right;
    at = at ∙ by c refl;
    none = λ e. says.1 (is_nothing c refl e);
  }
    where
      by : (d : Choice) → c ≡ d → new ≡ after part new (f a)
      by choice.Nothing e =
          let none : new ≡ None = ap (named_by w.policy (seeds a) f a) e in
          none ∙ sym (goes e) ∙ sym (ap (λ x. after part x (f a)) none)
      by choice.Seed e = stays_some part new (f a) (some (λ x. (let y : choice.Seed ≡ choice.Nothing = sym e ∙ x in cc)))
      by (choice.Via n r) e = stays_some part new (f a) (some (λ x. (let y : choice.Via n r ≡ choice.Nothing = sym e ∙ x in cc)))

  -- an AS that is to take nothing keeps an entry that stays
  pub chosen_none : IsTrue nothing → after part None (f a) ≡ f a → IsChosen part w seeds a f f nothing
  chosen_none at_once keeps = record { new = new; right = right; at = sym keeps ∙ sym (ap (λ x. after part x (f a)) none); none = λ e. at_once }
    where
      none : new ≡ None
      none = ap (named_by w.policy (seeds a) f a) (says.0 at_once)

-- whose offers decide: the customers' where an Origin or Customer entry is held,
pub decided_low : (part : Part) (h : Option Entry) → h ≢ None → Up ≡ decided_by part h
decided_low Up h some = refl
decided_low Whole None some = absurd (some refl)
decided_low Whole (Some e) some = refl

-- and those of the whole part elsewhere
pub decided_none : (part : Part) (h : Option Entry) → h ≡ None → part ≡ decided_by part h
decided_none Up h none = refl
decided_none Whole None none = refl
decided_none Whole (Some e) none = cc

pub decided_of : (pool : PathPool) (table : Table) (overlay : Overlay) (a : ℕ) (part deciding : Part) (held : Option Held) → ((p : PathPool) → deciding ≡ decided_by part (low (option_map (entry_of p) held))) → held ≡ joined table overlay a →
    deciding ≡ decided_by part (low (routing_of pool table overlay a))
decided_of pool table overlay a part deciding held says is = says pool ∙ ap (λ h. decided_by part (low (option_map (entry_of pool) h))) is

module _ (w : Setting) (seeds : ℕ → Option Seed) (o : Overlay) (a : ℕ) (f : ℕ → Option Entry) (ranks_offers : RanksOffers (w.policy a)) where
  abbrev IsRightBy : Part → Option Entry → Type 0
  IsRightBy part new = IsRightGiven (w.policy a) (seeds a) (λ n. offers_of part w f a n) new

  -- what is right by the offers that decide is so by all of the part, and is taken alike
  pub decided : (part : Part) (new : Option Entry) → IsReady part w seeds f o a → IsRightBy (decided_by part (low (f a))) new → IsRightBy part new × (after (decided_by part (low (f a))) new (f a) ≡ after part new (f a))
  decided Up new ready right = (right, refl)
  decided Whole new ready right = by (low (f a)) refl
    where
      by : (h : Option Entry) → low (f a) ≡ h → IsRightBy Whole new × (after (decided_by Whole (low (f a))) new (f a) ≡ after Whole new (f a))
      by None e = (subst (λ h. IsRightBy (decided_by Whole h) new) e right, ap (λ h. after (decided_by Whole h) new (f a)) e)
      by (Some d) e = elim ready.0 [
        | inl none ↦ (let x : None ≡ Some d = sym none ∙ e in cc)
        | inr held ↦
            let up : IsRightBy Up new = subst (λ h. IsRightBy (decided_by Whole h) new) e right in
            let same : new ≡ Some d = one_right (w.policy a) ranks_offers (seeds a) (λ n. customer_offer w f n a) new (low (f a)) up held.0 ∙ e in
            let here : f a ≡ new = low_some (f a) d e ∙ sym same in
            (subst (IsRightBy Whole) here held.1, ap (λ h. after (decided_by Whole h) new (f a)) e ∙ ap (λ x. after_up x (f a)) same ∙ sym same)
      ]

  pub chosen_by_all : (part : Part) (g : ℕ → Option Entry) (nothing : Bool) → IsReady part w seeds f o a → IsChosen (decided_by part (low (f a))) w seeds a f g nothing → IsChosen part w seeds a f g nothing
  chosen_by_all part g nothing ready chosen =
      let all = decided part chosen.new ready chosen.right in
      record { new = chosen.new; right = all.0; at = chosen.at ∙ all.1; none = chosen.none }

-- an AS that can make the step gives nothing up that the overlay holds
pub gives_up_none : (part : Part) (w : Setting) (seeds : ℕ → Option Seed) (p : PathPool) (t : Table) (o : Overlay) (a : ℕ) (new the : Option Entry) →
    ((held : Option Entry) → IsRightGiven (w.policy a) (seeds a) (λ n. offer w (routing_of p t o) n a) held → held ≡ the) →
    IsRightGiven (w.policy a) (seeds a) (λ n. offers_of part w (routing_of p t o) a n) new → IsReady part w seeds (routing_of p t o) o a → GivesUpNone p t o a new
gives_up_none Up w seeds p t o a entry the one chosen ready = inl ready
gives_up_none Whole w seeds p t o a entry the one chosen ready = gives_none p t o a entry (λ changed. elim (ready.1 changed) [ inl none ↦ inl none | inr is ↦ inr (one entry chosen ∙ sym (one (routing_of p t o a) is)) ])
