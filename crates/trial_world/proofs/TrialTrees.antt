-- The routing trees of a trial: at whom packets end by them, and what is counted by them.
use Rattle.std.proofs.Common.{◌≡◌, ◌≢◌, inl, inr, ℕ, suc, ◌-◌, ◌<◌, ◌≤◌, ◌==◌, ◌&&◌, Bool, true, false, is_some, Option, None, Some, List, [], ◌∷◌, length, refl, sym, ap, subst, ◌∙◌, ◌+◌, arith, true≢false}
use Rattle.std.specs.Prelude.{count_by, nat_eq, slice_get, slice_index, option_and_then, if◌then◌else◌}
use Rattle.std.specs.List.{IsDistinct}
use Rattle.std.specs.Option.{option_map_or}
use Rattle.std.proofs.lemmas.Bool.{and_parts, cases_eq, cases_lt, eq-eqb, eqb-true, ne_eqb}
use Rattle.std.proofs.lemmas.Map.Keys.{IsDistinct-from_apart}
use Rattle.std.proofs.lemmas.Option.{get_or_from_slice_get, slice_get-get_or, slice_get_within}
use Rattle.net_names.specs.Coverage.{holds}
use Rattle.net_names.specs.Numbers.{occurs}
use Rattle.net_names.specs.Prefixes.{IsPrefix, PrefixValue}
use Rattle.net_names.specs.declared.routes.State.{State}
use Rattle.as_graph.specs.Topology.{has, relation}
use Rattle.as_places.specs.Places.{place_of}
use Rattle.as_places.proofs.PlaceLemmas.{at_place, has_place}
use Rattle.origin_validation.specs.Judging.{state_of}
use Rattle.policy_kinds.specs.Kinds.{kind_policy}
use Rattle.policy_kinds.specs.declared.kind.Kind.{Kind}
use Rattle.roa_table.specs.Sets.{Payloads}
use Rattle.stability_laws.specs.Book.{PolicyBook, policy_at}
use Rattle.stability_laws.specs.Entries.{seed_entry}
use Rattle.stability_laws.specs.Laws.{PathsGoOn}
use Rattle.stability_laws.specs.Plans.{IsSound, Plan, announced_path, announces, has_prefix, prefixes_of}
use Rattle.stability_laws.specs.Rounds.{AreRounds, seeds_of}
use Rattle.stability_laws.specs.Stable.{IsRightGiven, IsStable}
use Rattle.stability_laws.specs.Offers.{offer}
use Rattle.stability_laws.specs.World.{setting}
use Rattle.stability_laws.specs.declared.entry.Entry.{Entry}
use Rattle.stability_laws.specs.declared.entry.Seed.{Seed}
use Rattle.data_trace.specs.Hops.{next_hop, second_of, sent_by}
use Rattle.data_trace.specs.Traces.{EndsBy, IsTrace}
use Rattle.data_trace.specs.contracts.kinds.EndPartialEq.TheImpl as same_end_test
use Rattle.data_trace.specs.declared.kinds.End.TheVariants as the_end
use Rattle.data_trace.specs.declared.kinds.Hop.{Hop}
use Rattle.data_trace.specs.declared.kinds.Hop.TheVariants.{Here, NoRoute, To}
use Rattle.sweep.specs.declared.trial.Fate.{Fate}
use Rattle.sweep.specs.declared.trial.Fate.TheVariants as fate
use Rattle.sim_core.proofs.Standing.{stands}
use Rattle.routing_tree.specs.Ends.{AreEnds, hop_by}
use Rattle.routing_tree.specs.Placed.{own_seed}
use Rattle.routing_tree.specs.Trees.{IsHeldAt, IsNode, IsTreeOf}
use Rattle.routing_tree.specs.declared.tree.RoutingTree.{RoutingTree}
use Rattle.trial_world.specs.Fixed.{IsFixed, world_of}
use Rattle.trial_world.specs.Sweeps.{end_of}
use Rattle.trial_world.specs.Trees.{AreTreesFor, AreTreesIn, HoldsNoneBefore, SendByFirst, count_by_ends, first_seeds}
use Rattle.trial_world.specs.Trials.{AreEndsIn}
use Rattle.trial_world.specs.declared.fixed.Fixed.{Fixed}
use Rattle.trial_world.specs.declared.trees.LineTrees.{LineTrees}
use Rattle.trial_world.specs.declared.trees.PrefixTree.{PrefixTree}
use Rattle.trial_world.proofs.FirstSeeds.{seed_there, seeds_alike}
use Rattle.trial_world.proofs.NextHops.{no_next}
use Rattle.trial_world.proofs.PartPlans.{listed}
use Rattle.trial_world.proofs.SentBy.{same_prefix, sent_is}
use Rattle.trial_world.proofs.TreeCounts.{count_at, count_loops, count_lost, end_by, placed_end}

-- ---- what a tree tells of an AS

-- where a tree has no length nothing is held
pub none_held : (state : ℕ → State) (ases : List ℕ) (t : RoutingTree) (k : ℕ) (held : Option Entry) → IsHeldAt state ases t k held → slice_index t.lengths.items k ≡ 0 → held ≡ None
none_held state ases t k None is none = refl
none_held state ases t k (Some e) is none = absurd (omega (arith, is.some, is.length_is, none))

-- and where it has one something is
pub some_held : (state : ℕ → State) (ases : List ℕ) (t : RoutingTree) (k : ℕ) (held : Option Entry) → IsHeldAt state ases t k held → 0 < slice_index t.lengths.items k → (e : Entry) × (held ≡ Some e) × IsNode state ases t k e
some_held state ases t k None is some = absurd (omega (arith, is, some))
some_held state ases t k (Some e) is some = (e, refl, is)

-- an AS that holds its own path alone sends nothing on by the tree
pub own_hop : (state : ℕ → State) (ases : List ℕ) (t : RoutingTree) (k : ℕ) (e : Entry) → IsNode state ases t k e → slice_get e.path 1 ≡ None → hop_by ases t k ≡ Here
own_hop state ases t k e node alone = elim node.parent [
  | inl own ↦ ap (λ b. if b then Here else To (slice_index ases (slice_index t.parents.items k))) (eq-eqb (slice_index t.parents.items k) k own.0)
  | inr other ↦ absurd (let no : None ≡ Some (slice_index ases (slice_index t.parents.items k)) = sym alone ∙ other.2 in cc)
]

-- another one sends to the second AS of its path
pub parent_hop : (state : ℕ → State) (ases : List ℕ) (t : RoutingTree) (k : ℕ) (e : Entry) → IsNode state ases t k e → (b : ℕ) → slice_get e.path 1 ≡ Some b → hop_by ases t k ≡ To b
parent_hop state ases t k e node b second = elim node.parent [
  | inl own ↦ absurd (let no : None ≡ Some b = sym own.1 ∙ second in cc)
  | inr other ↦
      let at : Some (slice_index ases (slice_index t.parents.items k)) ≡ Some b = sym other.2 ∙ second in
      let same : slice_index ases (slice_index t.parents.items k) ≡ b = cc in
      ap (λ t'. if t' then Here else To (slice_index ases (slice_index t.parents.items k))) (ne_eqb (slice_index t.parents.items k) k other.0) ∙ ap To same
]

-- ---- where an AS sends

module _ (f : Fixed) (is : IsFixed f) (sound : IsSound f.plan) (go_on : PathsGoOn kind_policy) (book : PolicyBook Kind) (ases : List ℕ) (each_as : (a : ℕ) → occurs a ases ≡ has f.graph.now a)
    (routing : PrefixValue → ℕ → Option Entry) (stable : (p : PrefixValue) → has_prefix f.plan p ≡ true → IsStable (setting kind_policy f.graph.now book (state_of f.states.payloads p)) (first_seeds f.plan p) (routing p)) where
  abbrev whole : Plan
  whole = (world_of f).plan

  abbrev next : ℕ → Hop
  next = next_hop whole routing f.addr

  -- the routings of a line that needs no paths are those of all its rounds
  pub in_rounds : ((before : ℕ) → before < f.round → (p : PrefixValue) (a : ℕ) → seeds_of f.plan (suc before) p (routing p) a ≡ first_seeds f.plan p a) → AreRounds (λ p. setting kind_policy f.graph.now book (state_of f.states.payloads p)) f.plan f.round (λ r. routing)
  in_rounds alike r p less known = subst (λ (s : ℕ → Option Seed). IsStable (setting kind_policy f.graph.now book (state_of f.states.payloads p)) s (routing p)) (λ i a. sym (alike r less p a) i) (stable p known)

  -- the plan of the line announces what the whole plan does
  same_announced : (p : PrefixValue) (a : ℕ) → has_prefix f.plan p ≡ true → announces whole p a ≡ announces f.plan p a
  same_announced p a known = ap is_some (sym (is.plan.announced p a (is.plan.is_part.known p known).0))

  -- where an AS sends by a prefix
  abbrev hop_at : ℕ → PrefixValue → Hop
  hop_at a q = if announces whole q a then Here else option_map_or To (second_of (routing q a)) NoRoute

  module _ (alike : (before : ℕ) → before < f.round → (p : PrefixValue) (a : ℕ) → seeds_of f.plan (suc before) p (routing p) a ≡ first_seeds f.plan p a) (themselves : (p : PrefixValue) (a : ℕ) (path : List ℕ) → announced_path f.plan p a ≡ Some path → path ≡ a ∷ []) where
    -- who announces a prefix holds its own path alone
    own_path : (p : PrefixValue) (a : ℕ) (e : Entry) → has_prefix f.plan p ≡ true → has f.graph.now a ≡ true → announces f.plan p a ≡ true → routing p a ≡ Some e → slice_get e.path 1 ≡ None
    own_path p a e known here announced held =
        let offers = λ (n : ℕ). offer (setting kind_policy f.graph.now book (state_of f.states.payloads p)) (routing p) n a in
        let right : IsRightGiven (kind_policy (policy_at book a)) (Some (own_seed a)) offers (routing p a) =
        subst (λ (s : Option Seed). IsRightGiven (kind_policy (policy_at book a)) s offers (routing p a)) (seed_there f.plan p (themselves p) a announced) ((stable p known).right a here) in
        let same : Some e ≡ Some (seed_entry (own_seed a)) = sym held ∙ right in
        ap (λ (o : Option Entry). option_and_then (λ (x : Entry). slice_get x.path 1) o) same

    -- all others send by the second AS of their path
    hop_is : (p : PrefixValue) (t : RoutingTree) (k : ℕ) (e : Entry) → has_prefix f.plan p ≡ true → has f.graph.now (slice_index ases k) ≡ true → routing p (slice_index ases k) ≡ Some e → IsNode (state_of f.states.payloads p) ases t k e
        → hop_at (slice_index ases k) p ≡ hop_by ases t k
    hop_is p t k e known here held node = by (announces f.plan p a) refl
      where
        a : ℕ
        a = slice_index ases k

        by : (b : Bool) → announces f.plan p a ≡ b → hop_at a p ≡ hop_by ases t k
        by true announced =
            ap (λ b. if b then Here else option_map_or To (second_of (routing p a)) NoRoute) (same_announced p a known ∙ announced)
            ∙ sym (own_hop (state_of f.states.payloads p) ases t k e node (own_path p a e known here announced held))
        by false away =
            let (b, second, inside) = (go_on f.graph.now book (state_of f.states.payloads) f.plan f.round (λ r. routing) sound (in_rounds alike) 0 p is.from known a e held).1 away in
            ap (λ c. if c then Here else option_map_or To (second_of (routing p a)) NoRoute) (same_announced p a known ∙ away)
            ∙ ap (λ (o : Option Entry). option_map_or To (second_of o) NoRoute) held
            ∙ ap (λ o. option_map_or To o NoRoute) second
            ∙ sym (parent_hop (state_of f.states.payloads p) ases t k e node b second)

    module _ (none : (p : PrefixValue) → has_prefix f.plan p ≡ false → (a : ℕ) → routing p a ≡ None) (trees : List PrefixTree) (for : AreTreesFor f ases trees) (are : (i : ℕ) (one : PrefixTree) → slice_get trees i ≡ Some one → IsTreeOf (state_of f.states.payloads one.prefix) ases one.tree (routing one.prefix)) where
      -- a prefix of which something is held is one of the plan
      of_plan : (q : PrefixValue) (a : ℕ) → is_some (routing q a) ≡ true → has_prefix f.plan q ≡ true
      of_plan q a some = by (has_prefix f.plan q) refl
        where
          by : (t : Bool) → has_prefix f.plan q ≡ t → has_prefix f.plan q ≡ true
          by true e = e
          by false e = absurd (true≢false (sym some ∙ ap is_some (none q e a)))

      -- where nothing is held in the first trees, no prefix is longer than that of the next one, of which something is held
      only : (i : ℕ) (one : PrefixTree) → slice_get trees i ≡ Some one → (k : ℕ) → k < length ases → HoldsNoneBefore trees i k
          → (q : PrefixValue) → (holds q f.addr && is_some (routing q (slice_index ases k))) ≡ true → one.prefix.len ≤ q.len → q ≡ one.prefix
      only i one at k less before q passes longer =
          let (over, some) = and_parts (holds q f.addr) (is_some (routing q (slice_index ases k))) passes in
          let (j, x, there, named) = for.whole q (of_plan q (slice_index ases k) some) in
          elim (cases_lt j i) [
            | inl below ↦
                let gone : routing x.prefix (slice_index ases k) ≡ None = none_held (state_of f.states.payloads x.prefix) ases x.tree k (routing x.prefix (slice_index ases k)) ((are j x there).held k less) (before j x below there) in
                absurd (true≢false (sym some ∙ ap (λ (p : PrefixValue). is_some (routing p (slice_index ases k))) (sym named) ∙ ap is_some gone))
            | inr past ↦
                let short : x.prefix.len ≤ one.prefix.len = later i one at j x there past in
                let same : q.len ≡ one.prefix.len = omega (arith, longer, ap (λ (p : PrefixValue). p.len) named, short) in
                same_prefix q one.prefix f.addr (subst (λ (p : PrefixValue). IsPrefix p.family p.addr p.len) named (for.each j x there).sound) (for.each i one at).sound over
                (is.plan.is_part.known one.prefix (for.each i one at).known).0 same
          ]
        where
          later : (i : ℕ) (one : PrefixTree) → slice_get trees i ≡ Some one → (j : ℕ) (x : PrefixTree) → slice_get trees j ≡ Some x → i ≤ j → x.prefix.len ≤ one.prefix.len
          later i one at j x there past = elim (cases_eq i j) [
            | inl e ↦
                let same : Some one ≡ Some x = sym at ∙ ap (slice_get trees) e ∙ there in
                let one_is : one ≡ x = cc in
                omega (arith, ap (λ (t : PrefixTree). t.prefix.len) one_is)
            | inr other ↦ for.falling i j one x (omega (arith, past, other)) at there
          ]

      -- whoever holds something sends by the first tree in which it does
      pub send_by_first : SendByFirst next ases trees
      send_by_first i one at k less some before =
          let p : PrefixValue = one.prefix in
          let a : ℕ = slice_index ases k in
          let (e, held, node) = some_held (state_of f.states.payloads p) ases one.tree k (routing p a) ((are i one at).held k less) some in
          let known : has_prefix f.plan p ≡ true = (for.each i one at).known in
          let (over, in_whole) = is.plan.is_part.known p known in
          let (place, there) = listed whole p in_whole in
          let sent : sent_by whole routing f.addr a ≡ Some p =
          sent_is whole routing f.addr a p (place, slice_get_within (prefixes_of whole) place p there, get_or_from_slice_get (prefixes_of whole) place p p there)
          ((λ j. over j && ap is_some held j)) (λ q listed_q passes longer. only i one at k less before q passes longer) in
          ap (λ (o : Option PrefixValue). option_map_or (hop_at a) o NoRoute) sent ∙ hop_is p one.tree k e known (sym (each_as a) ∙ at_occurs k less) held node
        where
          at_occurs : (k : ℕ) → k < length ases → occurs (slice_index ases k) ases ≡ true
          at_occurs k less = stands (slice_index ases k) k ases (slice_get-get_or ases k 0 less)

-- ---- what is counted

-- a packet from an AS without a next hop goes nowhere
lost_trace : (next : ℕ → Hop) (a : ℕ) → next a ≡ NoRoute → IsTrace next a (a ∷ []) the_end.NoRoute
lost_trace next a none = record {
  way = record {
    starts = refl;
    steps = λ i less. absurd (omega (arith, less));
    distinct = IsDistinct-from_apart nat_eq (a ∷ []) (λ i j d before less. absurd (omega (arith, before, less)));
  };
  ends = subst (λ (h : Hop). EndsBy h a (a ∷ []) the_end.NoRoute) (sym none) refl;
}

module _ (next : ℕ → Hop) (ases ends : List ℕ) (are : AreEnds next ases ends) (lost : (k : ℕ) → k < length ases → slice_index ends k ≡ 0 → next (slice_index ases k) ≡ NoRoute) where
  trace_at : (k : ℕ) → k < length ases → (walk : List ℕ) × IsTrace next (slice_index ases k) walk (end_by ases (slice_index ends k))
  trace_at k less = by (slice_index ends k == 0) refl
    where
      by : (t : Bool) → (slice_index ends k == 0) ≡ t → (walk : List ℕ) × IsTrace next (slice_index ases k) walk (end_by ases (slice_index ends k))
      by true e = (
        slice_index ases k ∷ [],
        subst (λ (b : Bool). IsTrace next (slice_index ases k) (slice_index ases k ∷ []) (if b then the_end.NoRoute else the_end.At (slice_index ases (slice_index ends k - 1)))) (sym e)
            (lost_trace next (slice_index ases k) (lost k less (eqb-true (slice_index ends k) 0 e))),
      )
      by false e = elim (are k less) [
        | inl none ↦ absurd (true≢false (sym (eq-eqb (slice_index ends k) 0 none) ∙ e))
        | inr some ↦ (some.1, subst (λ (b : Bool). IsTrace next (slice_index ases k) some.1 (if b then the_end.NoRoute else the_end.At (slice_index ases (slice_index ends k - 1)))) (sym e) some.2)
      ]

  pub placed_trace : (a : ℕ) → occurs a ases ≡ true → (walk : List ℕ) × IsTrace next a walk (placed_end ases ends a)
  placed_trace a there = by (place_of ases a) refl
    where
      by : (o : Option ℕ) → place_of ases a ≡ o → (walk : List ℕ) × IsTrace next a walk (option_map_or (λ k. end_by ases (slice_index ends k)) o the_end.NoRoute)
      by None e = absurd (true≢false (sym there ∙ sym (has_place ases a) ∙ ap is_some e))
      by (Some k) e =
          let at : slice_get ases k ≡ Some a = at_place ases a k e in
          let (walk, trace) = trace_at k (slice_get_within ases k a at) in
          (walk, subst (λ b. IsTrace next b walk (end_by ases (slice_index ends k))) (get_or_from_slice_get ases k a 0 at) trace)

  -- each end that is known stands at a place
  pub inside : (k : ℕ) → k < length ases → slice_index ends k ≢ 0 → slice_index ends k - 1 < length ases
  inside k less some = elim (are k less) [ inl none ↦ absurd (some none) | inr known ↦ known.0 ]

-- the ends of the trees are counted in the world of the book
pub tree_ends : (f : Fixed) → IsFixed f → (book : PolicyBook Kind) (t : LineTrees) → AreTreesIn f book t → AreEndsIn f.graph.now (world_of f).payloads book (world_of f).plan f.plan f.round f.addr (count_by_ends t)
tree_ends f is book t are =
    let ases : List ℕ = t.order.ases in
    let ends : List ℕ = t.ends.ends.items in
    let next : ℕ → Hop = next_hop (world_of f).plan are.routing f.addr in
    let lost = λ (k : ℕ) (less : k < length ases) (none : slice_index ends k ≡ 0). no_next (world_of f).plan are.routing f.addr (slice_index ases k) (λ p known over. are.unknown k less none p) in
    let low = inside next ases ends are.ends lost in
    let apart = are.line.order.apart in
    record {
      held = λ r. are.routing;
      stable = subst (λ (v : Payloads). AreRounds (λ p. setting kind_policy f.graph.now book (state_of v p)) f.plan f.round (λ r. are.routing)) is.payloads
          (λ r p less known. subst (λ (s : ℕ → Option Seed). IsStable (setting kind_policy f.graph.now book (state_of f.states.payloads p)) s (are.routing p)) (λ i a. sym (seeds_alike f.plan f.round are.line.no_paths r less p (are.routing p) a) i) (are.stable p known));
      none = are.none;
      names = ases;
      listed = are.line.order.complete;
      apart = apart;
      ends = placed_end ases ends;
      traces = λ a here. placed_trace next ases ends are.ends lost a (are.line.order.complete a ∙ here);
      counted = λ x. counted_at ases ends apart are.line.ends low x;
    }
  where
    counted_at : (ases ends : List ℕ) (apart : IsDistinct nat_eq ases) (len : length ends ≡ length ases) (low : (k : ℕ) → k < length ases → slice_index ends k ≢ 0 → slice_index ends k - 1 < length ases) (x : Fate)
        → (elim x [ fate.At a ↦ option_map_or (λ k. count_by (λ e. e == k + 1) ends) (place_of ases a) 0 | fate.NoRoute ↦ count_by (λ e. e == 0) ends | fate.Loop ↦ 0 ]) ≡ count_by (λ a. (same_end_test.ghosts).eq (placed_end ases ends a) (end_of x)) ases
    counted_at ases ends apart len low (fate.At a) = count_at ases ends apart len low a
    counted_at ases ends apart len low fate.NoRoute = count_lost ases ends apart len low
    counted_at ases ends apart len low fate.Loop = count_loops ases ends apart len low

-- a book that gives each AS the same policy has the same trees
pub other_trees : (f : Fixed) (old new : PolicyBook Kind) (t : LineTrees) → ((a : ℕ) → policy_at new a ≡ policy_at old a) → AreTreesIn f old t → AreTreesIn f new t
other_trees f old new t same are = record {
  line = are.line;
  routing = are.routing;
  stable = λ p known. subst (λ (k : ℕ → Kind). IsStable (record { has = has f.graph.now; relation = relation f.graph.now; policy = λ a. kind_policy (k a); state = state_of f.states.payloads p }) (first_seeds f.plan p) (are.routing p)) (λ i a. sym (same a) i) (are.stable p known);
  none = are.none;
  ends = are.ends;
  unknown = are.unknown;
}
