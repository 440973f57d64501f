-- Where a tree begins to grow, where it turns, and what has grown.
use Rattle.std.proofs.Common.{◌≡◌, ◌≢◌, ◌<◌, ◌≤◌, ◌⊎◌, ℕ, inl, inr, Option, Some, None, List, length, option_map, slice_get, slice_index, take, refl, sym, ◌∙◌, ap, subst, arith}
use Rattle.std.proofs.lemmas.Bool.{cases_Bool}
use Rattle.std.proofs.lemmas.List.{take_all}
use Rattle.std.proofs.lemmas.Option.{slice_get_within}
use Rattle.as_graph.specs.Topology.{Topology, has}
use Rattle.net_names.specs.declared.routes.State.{State}
use Rattle.policy_laws.specs.Policy.{Policy}
use Rattle.stability_laws.specs.declared.entry.Seed.{Seed}
use Rattle.stability_laws.specs.Entries.{seed_entry}
use Rattle.three_pass.specs.Progress.{AfterUp, AfterWhole}
use Rattle.three_pass.proofs.InOrder.{all_right, none_yet, turn}
use Rattle.routing_tree.specs.declared.tree.Placed.{Placed}
use Rattle.routing_tree.specs.declared.tree.PlacedSeed.{PlacedSeed}
use Rattle.routing_tree.specs.declared.tree.RoutingTree.{RoutingTree}
use Rattle.routing_tree.specs.Cases.{Case, IsCaseOf, IsDownTo, IsUpTo, setting_of}
use Rattle.routing_tree.specs.Placed.{AreSeedsAt, IsPlaced, own_seed}
use Rattle.routing_tree.specs.Puts.{AreSown, IsSown}
use Rattle.routing_tree.specs.Trees.{HasPlaces, IsGrown, IsHeldAt, IsNode}
use Rattle.routing_tree.proofs.Cases.{ranked}
use Rattle.routing_tree.proofs.Parents.{sown_first}
use Rattle.routing_tree.proofs.Places.{place_of}
use Rattle.routing_tree.proofs.Puts.{all_got}

-- what these are
abbrev pub case_for : Topology → (ℕ → Policy) → (ℕ → State) → (ℕ → Option Seed) → Case
case_for g policy state announced = record { graph = g; policy = policy; state = state; seeds = announced }

module _ {P : Type 0} {meaning : P → Policy} (g : Topology) (policy : ℕ → Policy) (state : ℕ → State) (announced : ℕ → Option Seed) (p : Placed P) (seeds : List PlacedSeed) (placed : IsPlaced meaning g policy p) (at : AreSeedsAt g state announced p.ases.now seeds) where
  -- a seed at a place is that of its AS alone
  seed_at : (k : ℕ) (i : ℕ) (x : PlacedSeed) → slice_get seeds i ≡ Some x → x.place ≡ k → (announced (slice_index p.ases.now k) ≡ Some (own_seed (slice_index p.ases.now k))) × (x.state ≡ state (slice_index p.ases.now k))
  seed_at k i x got there = subst (λ m. (announced (slice_index p.ases.now m) ≡ Some (own_seed (slice_index p.ases.now m))) × (x.state ≡ state (slice_index p.ases.now m))) there
      (all_got (λ (s : PlacedSeed). (announced (slice_index p.ases.now s.place) ≡ Some (own_seed (slice_index p.ases.now s.place))) × (s.state ≡ state (slice_index p.ases.now s.place))) seeds i x at.each got)

  pub case_of : IsCaseOf meaning (case_for g policy state announced) p
  case_of = record { placed = placed; alone = alone }
    where
      alone : (a : ℕ) (s : Seed) → announced a ≡ Some s → s ≡ own_seed a
      alone a s is = elim (cases_Bool (has g a)) [
        | inl here ↦
            let (k, less, there) = place_of p.ases.now a (placed.order.complete a ∙ here) in
            let (i, x, got, stands) = at.complete k s less (ap announced there ∙ is) in
            let both : Some s ≡ Some (own_seed a) = sym is ∙ ap announced (sym there) ∙ (seed_at k i x got stands).0 ∙ ap (λ b. Some (own_seed b)) there in
            cc
        | inr away ↦ (let z : None ≡ Some s = sym (at.only a away) ∙ is in cc)
      ]

  -- where the seeds were sown the tree can grow
  pub sown_up : (m : ℕ) (t : RoutingTree) → length seeds ≤ m → HasPlaces (length p.ases.now) t → AreSown seeds m t → IsUpTo (case_for g policy state announced) p.ases.now 0 t
  sown_up m t all places sown = record {
    routing = λ a. None;
    so_far = none_yet (setting_of (case_for g policy state announced)) announced (λ a. None) (λ a. refl);
    begins = λ a e z. cc;
    places = places;
    visited = λ k less. absurd (omega (arith, less));
    ahead = λ k from less. by k less (announced (slice_index p.ases.now k)) refl (sown k (omega (arith, less, places.lengths)));
    order = sown_first seeds m (length p.ases.now) t places sown;
  }
    where
      node : (k : ℕ) (s : Seed) → announced (slice_index p.ases.now k) ≡ Some s → (x : IsSown seeds t k) → IsNode state p.ases.now t k (seed_entry s)
      node k s is x =
          let (own, state_is) = seed_at k x.index x.seed x.among x.there in
          let both : Some (own_seed (slice_index p.ases.now k)) ≡ Some s = sym own ∙ is in
          let same : own_seed (slice_index p.ases.now k) ≡ s = cc in
          subst (λ (d : Seed). IsNode state p.ases.now t k (seed_entry d)) same
          (record {
            some = omega arith;
            length_is = x.at.length_is;
            low = x.at.low_is;
            state_is = x.at.state_is ∙ ap Some state_is;
            unmarked = refl;
            parent = inl (x.at.parent_is, refl);
          })

      by : (k : ℕ) → k < length p.ases.now → (s : Option Seed) → announced (slice_index p.ases.now k) ≡ s → IsSown seeds t k ⊎ ((slice_index t.lengths.items k ≡ 0) × ((i : ℕ) (x : PlacedSeed) → i < m → slice_get seeds i ≡ Some x → x.place ≢ k)) →
          IsHeldAt state p.ases.now t k (option_map seed_entry s)
      by k less None is (inl x) = (let own = (seed_at k x.index x.seed x.among x.there).0 in let z : None ≡ Some (own_seed (slice_index p.ases.now k)) = sym is ∙ own in cc)
      by k less None is (inr none) = none.0
      by k less (Some s) is (inl x) = node k s is x
      by k less (Some s) is (inr none) =
          let (i, x, got, stands) = at.complete k s less is in
          absurd (none.1 i x (let under : i < length seeds = slice_get_within seeds i x got in omega (arith, under, all)) got stands)

  -- what has grown
  pub has_grown : (t : RoutingTree) → IsDownTo (case_for g policy state announced) p.ases.now 0 t → IsGrown g policy state announced p.ases.now t
  has_grown t down = record {
    routing = down.routing;
    stable = all_right (setting_of (case_for g policy state announced)) announced down.routing down.so_far;
    tree = down.tree;
    order = down.order;
  }

-- where a tree has grown upwards it can grow downwards
pub turned : {P : Type 0} {meaning : P → Policy} {c : Case} {p : Placed P} → IsCaseOf meaning c p → (t : RoutingTree) → IsUpTo c p.ases.now (length p.ases.now) t → IsDownTo c p.ases.now (length p.ases.now) t
turned {c = c} {p = p} is t up = record {
  routing = up.routing;
  so_far = subst (λ ys. AfterWhole (setting_of c) c.seeds ys up.routing) (sym all) (turn (ranked is) c.seeds up.routing (subst (λ ys. AfterUp (setting_of c) c.seeds ys up.routing) all up.so_far));
  begins = up.begins;
  tree = record { places = up.places; held = up.visited };
  order = up.order;
}
  where
    all : take (length p.ases.now) p.ases.now ≡ p.ases.now
    all = take_all (length p.ases.now) p.ases.now (omega arith)
