-- Who need not choose anew, by views for which no path was walked.
use Rattle.std.proofs.Common.{◌≡◌, ◌≢◌, inl, inr, ℕ, Bool, true, false, cond, IsTrue, Option, Some, None, option_map, List, ◌∷◌, refl, sym, ◌∙◌, ap, subst}
use Rattle.std.proofs.lemmas.Bool.{cases_Bool}
use Rattle.net_names.specs.declared.routes.Rel.{Rel}
use Rattle.net_names.specs.declared.routes.State.{State}
use Rattle.policy_laws.specs.Policy.{Policy}
use Rattle.as_graph.specs.Topology.{Topology, relation}
use Rattle.stability_laws.specs.Book.{PolicyBook}
use Rattle.stability_laws.specs.World.{setting}
use Rattle.stability_laws.specs.OfferPaths.{OfferPath}
use Rattle.route_choice.specs.declared.table.Table.{Table}
use Rattle.route_choice.specs.declared.overlay.Overlay.{Overlay}
use Rattle.route_choice.specs.Tables.{joined}
use Rattle.dirty_recompute.specs.Resources.{IsBefore}
use Rattle.policy_laws.specs.declared.policy.View.{View}
use Rattle.path_pool.specs.declared.pool.PathPool.{PathPool}
use Rattle.path_pool.specs.Pool.{list_of}
use Rattle.stability_laws.specs.declared.entry.Entry.{Entry}
use Rattle.stability_laws.specs.declared.entry.Seed.{Seed}
use Rattle.stability_laws.specs.Offers.{Setting, Offer, offer, offer_given}
use Rattle.route_choice.specs.declared.held.Held.{Held}
use Rattle.route_choice.specs.Routings.{entry_of, routing_of}
use Rattle.route_choice.specs.Views.{goes_through}
use Rattle.dirty_recompute.specs.Steps.{IsLeft}
use Rattle.dirty_recompute.specs.Spared.{HasRival}

abbrev view_in : Option Offer → Option View
view_in o = option_map (λ (t : Offer). t.view) o

-- the view is of an offer
seen : (o : Option Offer) (v : View) → view_in o ≡ Some v → (q : Offer) × (o ≡ Some q) × (q.view ≡ v)
seen None v e = cc
seen (Some q) v e = (q, refl, (let x : Some q.view ≡ Some v = e in cc))

unseen : (o : Option Offer) → view_in o ≡ None → o ≡ None
unseen None e = refl
unseen (Some q) e = cc

-- without a view there is no offer, whether or not the path goes through the receiver
unseen_by : (o : Option Offer) (through : Bool) (v : Option View) → view_in o ≡ cond through None v → v ≡ None → o ≡ None
unseen_by o true v e none = unseen o e
unseen_by o false v e none = unseen o (e ∙ none)

-- an AS whose view is before another one, and whose path doesn't go through the receiver, is a rival
pub rival_by : (w : Setting) (f : ℕ → Option Entry) (a b m : ℕ) (result : Option View) (v view : View) → m ≢ a → view_in (offer w f m b) ≡ cond (goes_through (f m) b) None result → goes_through (f m) b ≡ false →
    result ≡ Some v → IsTrue ((w.policy b).before v view) → HasRival w f a b view
rival_by w f a b m result v view other is clear some before =
    let (q, made, at) = seen (offer w f m b) v (is ∙ ap (λ t. cond t None result) clear ∙ some) in
    record { rival = m; offer_made = q; other = other; made = made; before = subst (λ x. IsTrue ((w.policy b).before x view)) (sym at) before }

entry_at : (p : PathPool) (o : Option Held) (e : Entry) → option_map (entry_of p) o ≡ Some e → (h : Held) × (o ≡ Some h) × (list_of p h.path.0 ≡ e.path)
entry_at p None e h = cc
entry_at p (Some h) e is = (h, refl, (let x : Some (entry_of p h) ≡ Some e = is in let same : entry_of p h ≡ e = cc in ap (λ (t : Entry). t.path) same))

-- what is held has another path than the old offer
other_path : (p : PathPool) (b : ℕ) (have before : Option Held) (old held : Option Entry) (o : Option Offer) → old ≡ option_map (entry_of p) before → held ≡ option_map (entry_of p) have →
    ((q : Offer) → o ≡ Some q → (e : Entry) × (old ≡ Some e) × (q.entry.path ≡ b ∷ e.path)) →
    ((h k : Held) → have ≡ Some h → before ≡ Some k → list_of p h.path.0 ≢ b ∷ list_of p k.path.0) → (q : Offer) → o ≡ Some q → held ≢ Some q.entry
other_path p b have before old held o is_old is_held path apart q made same =
    let (e, at, goes) = path q made in
    let (k, is_k, k_path) = entry_at p before e (sym is_old ∙ at) in
    let (h, is_h, h_path) = entry_at p have q.entry (sym is_held ∙ same) in
    apart h k is_h is_k (h_path ∙ goes ∙ ap (λ (l : List ℕ). b ∷ l) (sym k_path))

module _ (w : Setting) (seeds : ℕ → Option Seed) (f g : ℕ → Option Entry) (a b : ℕ) (new : Option View)
    (is_new : view_in (offer w g a b) ≡ cond (goes_through (g a) b) None new) (not_held : (o : Offer) → offer w f a b ≡ Some o → f b ≢ Some o.entry) where
  left_gone : new ≡ None → IsLeft w seeds f g a b
  left_gone y = inr (inr (record { not_held = not_held; beaten = inl (unseen_by (offer w g a b) (goes_through (g a) b) new is_new y) }))

  left_beaten : (v : View) → new ≡ Some v → ((n : ℕ) → n ≢ a → f n ≡ g n) → HasRival w g a b v → IsLeft w seeds f g a b
  left_beaten v y others r = inr (inr (record {
    not_held = not_held;
    beaten = elim (cases_Bool (goes_through (g a) b)) [
      | inl t ↦ inl (unseen (offer w g a b) (is_new ∙ ap (λ u. cond u None new) t))
      | inr t ↦ (
          let (n, made, at) = seen (offer w g a b) v (is_new ∙ ap (λ u. cond u None new) t ∙ y) in
          let there : offer w f r.rival b ≡ Some r.offer_made = (λ i. offer_given (w.policy r.rival) (w.policy b) w.state r.rival b (w.relation b r.rival) (others r.rival r.other i)) ∙ r.made in
          inr (r.rival, r.offer_made, n, r.other, there, made, subst (λ x. IsTrue ((w.policy b).before r.offer_made.view x)) (sym at) r.before)
          )
    ];
  }))

-- the receiver of a's offers holds none that a made, over a table with changes in place
module _ {P : Type 0} (meaning : P → Policy) (graph : Topology) (book : PolicyBook P) (state : ℕ → State) (pool : PathPool) (seeds : ℕ → Option Seed) (t : Table) (o : Overlay)
    (a b : ℕ) (rel : Rel) (before now have : Option Held) (new : Option View) (linked : relation graph b a ≡ Some rel) (is_now : now ≡ joined t o a) (is_have : have ≡ joined t o b)
    (is_new : (w : Topology) (f : ℕ → Option Entry) → relation w b a ≡ Some rel → f a ≡ option_map (entry_of pool) now → view_in (offer (setting meaning w book state) f a b) ≡ cond (goes_through (f a) b) None new)
    (path : OfferPath meaning) (itself : (w : Topology) (n : ℕ) → relation w n n ≡ None)
    (apart : (n : ℕ) (h k : Held) → have ≡ Some h → before ≡ Some k → list_of pool h.path.0 ≢ n ∷ list_of pool k.path.0) where
  abbrev here : Setting
  here = setting meaning graph book state

  abbrev held : ℕ → Option Entry
  held = routing_of pool t o

  stands : view_in (offer here held a b) ≡ cond (goes_through (held a) b) None new
  stands = is_new graph held linked (ap (option_map (entry_of pool)) (sym is_now))

  other : b ≢ a
  other e = (let none : relation graph b a ≡ None = ap (λ n. relation graph n a) e ∙ itself graph a in let clash : None ≡ Some rel = sym none ∙ linked in cc)

  not_held : (f : ℕ → Option Entry) → IsBefore pool t o a before f → (r : Offer) → offer here f a b ≡ Some r → f b ≢ Some r.entry
  not_held f is = other_path pool b have before (f a) (f b) (offer here f a b) is.this (is.others b other ∙ ap (option_map (entry_of pool)) (sym is_have)) (path graph book state f a b) (apart b)

  pub gone_left : new ≡ None → (f : ℕ → Option Entry) → IsBefore pool t o a before f → IsLeft here seeds f held a b
  gone_left y f is = left_gone here seeds f held a b new stands (not_held f is) y

  pub beaten_left : (v : View) → new ≡ Some v → HasRival here held a b v → (f : ℕ → Option Entry) → IsBefore pool t o a before f → IsLeft here seeds f held a b
  beaten_left v y rival f is = left_beaten here seeds f held a b new stands (not_held f is) v y is.others rival
