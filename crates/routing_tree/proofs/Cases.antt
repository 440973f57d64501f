-- What follows for what a tree is grown for.
use Rattle.std.proofs.Common.{◌≡◌, ◌≢◌, ◌<◌, ℕ, Bool, true, false, ◌&&◌, ◌==◌, inl, inr, Option, Some, None, is_some, [], ◌∷◌, length, slice_get, slice_index, slice_index_or, if◌then◌else◌, refl, sym, ◌∙◌, ap, arith}
use Rattle.std.proofs.lemmas.Bool.{cases_Bool, cases_eq, eq-eqb, eqb-true, ne_eqb, or_cases}
use Rattle.std.proofs.lemmas.Option.{slice_get-get_or}
use Rattle.as_graph.specs.Topology.{ases, relation}
use Rattle.as_graph.proofs.Links.{relation_mutual, relation_self, topology-AreLinks}
use Rattle.as_graph.proofs.Ranks.{ranks_fall}
use Rattle.net_names.specs.Numbers.{last_or, occurs}
use Rattle.net_names.specs.declared.routes.Class.{Class}
use Rattle.net_names.specs.declared.routes.Class.TheVariants as class
use Rattle.net_names.specs.declared.routes.Rel.{Rel}
use Rattle.net_names.specs.declared.routes.Rel.TheVariants.{Customer, Peer, Provider}
use Rattle.policy_laws.specs.Policy.{Policy, is_own_or_customers}
use Rattle.stability_laws.specs.declared.entry.Entry.{Entry}
use Rattle.stability_laws.specs.declared.entry.Seed.{Seed}
use Rattle.stability_laws.specs.Steps.{low, low_by}
use Rattle.route_choice.specs.declared.choice.Part.{Part}
use Rattle.route_choice.specs.Loops.{HasLoopsFrom, HasNoLoops}
use Rattle.route_choice.specs.Naming.{AreNamed}
use Rattle.route_choice.proofs.NoLoops.{no_loops}
use Rattle.three_pass.proofs.ByRank.{IsByRank}
use Rattle.routing_tree.specs.declared.tree.Placed.{Placed}
use Rattle.routing_tree.specs.Cases.{BeginWithHolders, Case, IsCaseOf, setting_of}
use Rattle.routing_tree.specs.Placed.{HandsOnPlainly, own_seed}

-- the routing in which the AS holds this
abbrev pub with_entry : (ℕ → Option Entry) → ℕ → Option Entry → ℕ → Option Entry
with_entry f a h n = if n == a then h else f n

pub with_here : (f : ℕ → Option Entry) (a : ℕ) (h : Option Entry) → with_entry f a h a ≡ h
with_here f a h = ap (λ b. if b then h else f a) (eq-eqb a a refl)

pub with_others : (f : ℕ → Option Entry) (a : ℕ) (h : Option Entry) (n : ℕ) → n ≢ a → with_entry f a h n ≡ f n
with_others f a h n other = ap (λ b. if b then h else f n) (ne_eqb n a other)

-- each path begins with its holder also where the AS holds this
pub begin_more : (f : ℕ → Option Entry) (a : ℕ) (h : Option Entry) → ((e : Entry) → h ≡ Some e → slice_get e.path 0 ≡ Some a) → BeginWithHolders f → BeginWithHolders (with_entry f a h)
begin_more f a h this before n e held = elim (cases_eq n a) [
  | inl same ↦ this e (sym (with_here f a h) ∙ ap (with_entry f a h) (sym same) ∙ held) ∙ ap Some (sym same)
  | inr other ↦ before n e (sym (with_others f a h n other) ∙ held)
]

-- the AS announces the prefix, and the two are one
abbrev pub is_announcer : (ℕ → Option Seed) → ℕ → ℕ → Bool
is_announcer seeds x b = (x == b) && is_some (seeds b)

-- an AS without a seed is no announcer
pub no_announcer : (seeds : ℕ → Option Seed) (a b : ℕ) → seeds a ≡ None → is_announcer seeds a b ≡ false
no_announcer seeds a b none = elim (cases_Bool (a == b)) [
  | inl same ↦ ap (λ t. t && is_some (seeds b)) same ∙ ap (λ o. is_some o) (ap seeds (sym (eqb-true a b same)) ∙ none)
  | inr other ↦ ap (λ t. t && is_some (seeds b)) other
]

-- of Origin and Customer entries the class is an own or a customer's
pub low_class : (e : Entry) → low (Some e) ≡ Some e → is_own_or_customers e.class ≡ true
low_class e same = by e.class refl
  where
    by : (k : Class) → e.class ≡ k → is_own_or_customers e.class ≡ true
    by class.Origin is = ap is_own_or_customers is
    by class.Customer is = ap is_own_or_customers is
    by class.Peer is = (let z : None ≡ Some e = sym (ap (λ k. low_by k e) is) ∙ same in cc)
    by class.Provider is = (let z : None ≡ Some e = sym (ap (λ k. low_by k e) is) ∙ same in cc)

-- whom a policy that hands on plainly hands an own or a customer's route: everybody
pub hands_all : (p : Policy) → HandsOnPlainly p → (e : Entry) (to : Rel) → is_own_or_customers e.class ≡ true → p.exports e.class e.otc to ≡ true
hands_all p plainly e Customer own = plainly.to_customers e.class e.otc
hands_all p plainly e Peer own = plainly.to_others e.class e.otc Peer (λ is. cc) ∙ own
hands_all p plainly e Provider own = plainly.to_others e.class e.otc Provider (λ is. cc) ∙ own

module _ {P : Type 0} {meaning : P → Policy} {c : Case} {p : Placed P} (is : IsCaseOf meaning c p) where
  -- the ASes stand by rank
  pub ranked : IsByRank (setting_of c) p.ases.now
  ranked = record {
    lawful = is.placed.lawful;
    mutual_links = relation_mutual c.graph;
    alone = relation_self c.graph;
    rank = is.placed.rank;
    falls = (ranks_fall (relation c.graph) (ases c.graph) (topology-AreLinks c.graph) is.placed.no_cycle is.placed.rank is.placed.ranks).falls;
    order = is.placed.order;
  }

  -- seeds' paths name their announcers alone
  pub announcers_named : AreNamed (is_announcer c.seeds) c.seeds
  announcers_named a x s at there =
      let alone : s ≡ own_seed a = is.alone a s at in
      let among : occurs x (a ∷ []) ≡ true = sym (ap (λ (t : Seed). occurs x t.path) alone) ∙ there in
      let same : a ≡ x = only among in
      let origin : last_or 0 s.path ≡ a = ap (λ (t : Seed). last_or 0 t.path) alone in
      ap (is_announcer c.seeds x) origin ∙ ap (λ t. t && is_some (c.seeds a)) (eq-eqb x a (sym same)) ∙ ap (λ o. is_some o) at
    where
      only : occurs x (a ∷ []) ≡ true → a ≡ x
      only among = elim (or_cases (a == x) false among) [ inl e ↦ eqb-true a x e | inr z ↦ (let no : false ≡ true = z in cc) ]

  -- so no path that is offered to an AS without a seed goes through it
  pub no_loops_at : (part : Part) (f : ℕ → Option Entry) (a : ℕ) → c.seeds a ≡ None → HasLoopsFrom part (relation c.graph) c.policy f a (is_announcer c.seeds a) → HasNoLoops part (relation c.graph) c.policy f a
  no_loops_at part f a none loops = no_loops part (relation c.graph) c.policy f a (is_announcer c.seeds a) loops (λ n r e linked looked held exported. no_announcer c.seeds a (last_or 0 e.path) none)

  -- at each place stands the policy of its AS
  pub policy_read : (k : ℕ) (x : P) → k < length p.ases.now → length p.policies.now ≡ length p.ases.now → meaning (slice_index_or p.policies.now k x) ≡ c.policy (slice_index p.ases.now k)
  policy_read k x less same = is.placed.policies k (slice_index_or p.policies.now k x) (slice_get-get_or p.policies.now k x (omega (arith, less, same)))
