-- Trees that are grown anew are those of the policies of the book.
use Rattle.std.proofs.Common.{◌≡◌, ℕ, ◌<◌, Bool, true, false, is_some, Option, None, Some, List, length, get_or, refl, sym, ap, subst, ◌∙◌, arith, true≢false}
use Rattle.std.specs.Prelude.{All, Vec, slice_get, slice_index, if◌then◌else◌}
use Rattle.std.specs.Global.{Global}
use Rattle.std.proofs.lemmas.Option.{get_or_from_slice_get, slice_get-get_or, slice_get_within}
use Rattle.net_names.specs.Numbers.{occurs}
use Rattle.net_names.specs.Prefixes.{IsPrefix, PrefixValue}
use Rattle.as_graph.specs.Topology.{has, relation}
use Rattle.as_places.specs.Places.{place_of}
use Rattle.as_places.proofs.PlaceLemmas.{at_place, has_place}
use Rattle.origin_validation.specs.Judging.{state_of}
use Rattle.policy_kinds.specs.Kinds.{kind_policy}
use Rattle.policy_kinds.specs.declared.kind.Kind.{Kind}
use Rattle.policy_kinds.specs.declared.kind.Kind.TheVariants.{Plain}
use Rattle.rank_order.specs.Ranks.{IsRankOrder, rank_at}
use Rattle.stability_laws.specs.Book.{PolicyBook, policy_at}
use Rattle.stability_laws.specs.Laws.{OneStableRouting, PathsGoOn, RightFollows}
use Rattle.stability_laws.specs.Plans.{IsSound, has_prefix}
use Rattle.stability_laws.specs.Stable.{IsStable}
use Rattle.stability_laws.specs.World.{setting}
use Rattle.stability_laws.specs.declared.entry.Entry.{Entry}
use Rattle.data_trace.specs.Hops.{next_hop}
use Rattle.data_trace.specs.declared.kinds.Hop.{Hop}
use Rattle.sim_core.proofs.Standing.{stands}
use Rattle.routing_tree.specs.Ends.{AreEnds}
use Rattle.routing_tree.specs.Links.{AreLinksOf}
use Rattle.routing_tree.specs.Placed.{AreSeedsAt, IsPlaced}
use Rattle.routing_tree.specs.Trees.{HasPlaces, IsGrown, IsTreeOf, ParentsComeFirst}
use Rattle.routing_tree.specs.declared.tree.Placed.{Placed}
use Rattle.routing_tree.specs.declared.tree.PlacedSeed.{PlacedSeed}
use Rattle.trial_world.specs.Fixed.{IsFixed, world_of}
use Rattle.trial_world.specs.Trees.{AreEndsBy, AreKindsAt, AreRegrown, AreTreesFor, HoldsNoneBefore, IsRegrown, IsTreeFor, NeedsNoPaths, SendByFirst, first_seeds}
use Rattle.trial_world.specs.declared.fixed.Fixed.{Fixed}
use Rattle.trial_world.specs.declared.trees.PrefixTree.{PrefixTree}
use Rattle.trial_world.proofs.FirstSeeds.{seeds_alike}
use Rattle.trial_world.proofs.KindsByPlace.{listed_book, listed_kind, none_marks}
use Rattle.trial_world.proofs.PlainKinds.{hands_on, lawful_kind}
use Rattle.trial_world.proofs.Routings.{stable_moved}
use Rattle.trial_world.proofs.TreeSteps.{all_from}
use Rattle.trial_world.proofs.TrialTrees.{none_held, send_by_first}

abbrev Seeds : Type 0
Seeds = Vec PlacedSeed Global

module _ (f : Fixed) (is : IsFixed f) (book : PolicyBook Kind) (placed : Placed Kind) (len : length placed.policies.now ≡ length placed.ases.now) (order : IsRankOrder (has f.graph.now) (rank_at f.ranks.now) placed.ases.now)
    (links : AreLinksOf (relation f.graph.now) placed.ases.now placed.links.now) (kinds : AreKindsAt placed.ases.now book placed.policies.now) where
  abbrev ases : List ℕ
  ases = placed.ases.now

  -- the book that has the kinds of the ASes of the graph, and the plain one for all others
  abbrev placed_book : PolicyBook Kind
  placed_book = listed_book ases (policy_at book)

  placed_same : (a : ℕ) → has f.graph.now a ≡ true → policy_at placed_book a ≡ policy_at book a
  placed_same a here = listed_kind ases (policy_at book) a ∙ ap (λ t. if t then policy_at book a else Plain) (order.complete a ∙ here)

  unmarked : (a : ℕ) → occurs a ases ≡ true → (kind_policy (policy_at book a)).marks ≡ false
  unmarked a there = by (place_of ases a) refl
    where
      by : (o : Option ℕ) → place_of ases a ≡ o → (kind_policy (policy_at book a)).marks ≡ false
      by None e = absurd (true≢false (sym there ∙ sym (has_place ases a) ∙ ap is_some e))
      by (Some k) e =
          let at : slice_get ases k ≡ Some a = at_place ases a k e in
          let less : k < length ases = slice_get_within ases k a at in
          let x : Kind = get_or placed.policies.now k Plain in
          let (same, none) = kinds k x less (slice_get-get_or placed.policies.now k Plain (omega (arith, less, len))) in
          ap (λ (y : Kind). (kind_policy y).marks) (sym (same ∙ ap (policy_at book) (get_or_from_slice_get ases k a 0 at))) ∙ none

  pub is_placed : IsPlaced kind_policy f.graph.now (λ a. kind_policy (policy_at placed_book a)) placed
  is_placed = record {
    no_cycle = is.no_cycle;
    rank = rank_at f.ranks.now;
    ranks = is.ranked;
    order = order;
    links = links;
    policies = λ k x at.
        let less : k < length ases = (let within = slice_get_within placed.policies.now k x at in omega (arith, within, len)) in
        let here : has f.graph.now (slice_index ases k) ≡ true = sym (order.complete (slice_index ases k)) ∙ stands (slice_index ases k) k ases (slice_get-get_or ases k 0 less) in
        ap kind_policy ((kinds k x less at).0 ∙ sym (placed_same (slice_index ases k) here));
    lawful = λ a. lawful_kind (policy_at placed_book a);
    plainly = λ a. hands_on (policy_at placed_book a) (none_marks ases (policy_at book) unmarked a);
  }

  module _ (old new : List PrefixTree) (count : length new ≡ length old) (regrown : AreRegrown placed old new) (for : AreTreesFor f ases old) where
    before : (i : ℕ) (one : PrefixTree) → slice_get new i ≡ Some one → (x : PrefixTree) × (slice_get old i ≡ Some x) × IsRegrown placed x one
    before i one at =
        let within : i < length new = slice_get_within new i one at in
        let there : slice_get old i ≡ Some (get_or old i one) = slice_get-get_or old i one (omega (arith, within, count)) in
        (get_or old i one, there, regrown i (get_or old i one) one there at)

    -- the list is one for the plan still
    pub still_for : AreTreesFor f ases new
    still_for = record {
      each = λ i one at.
          let (x, there, grown) = before i one at in
          let was : IsTreeFor f ases x = for.each i x there in
          record {
            known = ap (has_prefix f.plan) grown.prefix ∙ was.known;
            sound = subst (λ (p : PrefixValue). IsPrefix p.family p.addr p.len) (sym grown.prefix) was.sound;
            seeds = record {
              inside = subst (λ (s : Seeds). All (λ s. s.place < length ases) s.items) (sym grown.seeds) was.seeds.inside;
              are = subst (λ (s : PrefixValue × Seeds). AreSeedsAt f.graph.now (state_of f.states.payloads s.0) (first_seeds f.plan s.0) ases s.1.items) (λ i. (sym grown.prefix i, sym grown.seeds i)) was.seeds.are;
            };
            places = grown.places;
          };
      whole = λ p known.
          let (i, x, there, named) = for.whole p known in
          let within : i < length old = slice_get_within old i x there in
          let at : slice_get new i ≡ Some (get_or new i x) = slice_get-get_or new i x (omega (arith, within, count)) in
          (i, get_or new i x, at, (regrown i x (get_or new i x) there at).prefix ∙ named);
      falling = λ i j x y less at there.
          let (v, v_at, v_grown) = before i x at in
          let (w, w_at, w_grown) = before j y there in
          omega (arith, for.falling i j v w less v_at w_at, ap (λ (p : PrefixValue). p.len) v_grown.prefix, ap (λ (p : PrefixValue). p.len) w_grown.prefix);
    }

    -- each tree is grown by these policies
    pub grown_at : (i : ℕ) (one : PrefixTree) → slice_get new i ≡ Some one → IsGrown f.graph.now (λ a. kind_policy (policy_at placed_book a)) (state_of f.states.payloads one.prefix) (first_seeds f.plan one.prefix) ases one.tree
    grown_at i one at =
        let (x, there, grown) = before i one at in
        subst (λ (p : PrefixValue). IsGrown f.graph.now (λ a. kind_policy (policy_at placed_book a)) (state_of f.states.payloads p) (first_seeds f.plan p) ases one.tree) (sym grown.prefix)
        (grown.grown f.graph.now (λ a. kind_policy (policy_at placed_book a)) (state_of f.states.payloads x.prefix) (first_seeds f.plan x.prefix) is_placed (for.each i x there).seeds.are)

    pub ordered_at : All (λ x. ParentsComeFirst x.tree (length ases)) new
    ordered_at = all_from (λ (x : PrefixTree). ParentsComeFirst x.tree (length ases)) new (λ i one at. (grown_at i one at).order)

    pub places_at : All (λ x. HasPlaces (length ases) x.tree) new
    places_at = all_from (λ (x : PrefixTree). HasPlaces (length ases) x.tree) new (λ i one at. (still_for.each i one at).places)

    -- the routing of a prefix of the plan is that of its tree; of others nothing is held
    pub routed : (p : PrefixValue) (t : Bool) → has_prefix f.plan p ≡ t → ℕ → Option Entry
    routed p true e = (let (i, one, at, named) = still_for.whole p e in (grown_at i one at).routing)
    routed p false e = λ a. None

    abbrev routing : PrefixValue → ℕ → Option Entry
    routing p = routed p (has_prefix f.plan p) refl

    routed_stable : (p : PrefixValue) (t : Bool) (e : has_prefix f.plan p ≡ t) → t ≡ true → IsStable (setting kind_policy f.graph.now placed_book (state_of f.states.payloads p)) (first_seeds f.plan p) (routed p t e)
    unfolding routed
    routed_stable p true e known =
        let (i, one, at, named) = still_for.whole p e in
        subst (λ (q : PrefixValue). IsStable (setting kind_policy f.graph.now placed_book (state_of f.states.payloads q)) (first_seeds f.plan q) (grown_at i one at).routing) named (grown_at i one at).stable
    routed_stable p false e known = absurd (true≢false (sym known))

    routed_none : (p : PrefixValue) (t : Bool) (e : has_prefix f.plan p ≡ t) → t ≡ false → (a : ℕ) → routed p t e a ≡ None
    unfolding routed
    routed_none p true e away a = absurd (true≢false away)
    routed_none p false e away a = refl

    module _ (right : RightFollows kind_policy) (one_stable : OneStableRouting kind_policy) where
      stable : (p : PrefixValue) → has_prefix f.plan p ≡ true → IsStable (setting kind_policy f.graph.now book (state_of f.states.payloads p)) (first_seeds f.plan p) (routing p)
      stable p known = stable_moved right f.graph.now f.graph.now placed_book book refl placed_same (λ a here. here) (state_of f.states.payloads p) (first_seeds f.plan p) (routing p)
          (λ a here gone. absurd (true≢false (sym here ∙ gone))) (routed_stable p (has_prefix f.plan p) refl known)

      -- each tree is that of the routing of its prefix
      tree_is : (i : ℕ) (one : PrefixTree) → slice_get new i ≡ Some one → IsTreeOf (state_of f.states.payloads one.prefix) ases one.tree (routing one.prefix)
      tree_is i one at =
          let grown = grown_at i one at in
          let p : PrefixValue = one.prefix in
          let same : (a : ℕ) → grown.routing a ≡ routing p a =
          one_stable f.graph.now placed_book (state_of f.states.payloads p) (first_seeds f.plan p) grown.routing (routing p) is.no_cycle grown.stable (routed_stable p (has_prefix f.plan p) refl (still_for.each i one at).known) in
          subst (IsTreeOf (state_of f.states.payloads p) ases one.tree) (λ i a. same a i) grown.tree

      module _ (sound : IsSound f.plan) (go_on : PathsGoOn kind_policy) (needs : NeedsNoPaths f.plan f.round) where
        pub all_send : SendByFirst (next_hop (world_of f).plan routing f.addr) ases new
        all_send = send_by_first f is sound go_on book ases order.complete routing stable (λ before less p a. seeds_alike f.plan f.round needs before less p (routing p) a) needs.alone
            (λ p away a. routed_none p (has_prefix f.plan p) refl away a) new still_for tree_is

        -- what is made anew is right
        pub renewed : (ends : List ℕ) → length ends ≡ length ases → ((next : ℕ → Hop) → SendByFirst next ases new → AreEnds next ases ends)
            → ((k : ℕ) → k < length ases → slice_index ends k ≡ 0 → HoldsNoneBefore new (length new) k) → AreEndsBy f book ases new ends
        renewed ends count_is are none = record {
          trees_for = still_for;
          count = count_is;
          routing = routing;
          stable = stable;
          none = λ p away a. routed_none p (has_prefix f.plan p) refl away a;
          right = are (next_hop (world_of f).plan routing f.addr) all_send;
          unknown = λ k less lost p. unknown k less (none k less lost) p;
        }
          where
            unknown : (k : ℕ) → k < length ases → HoldsNoneBefore new (length new) k → (p : PrefixValue) → routing p (slice_index ases k) ≡ None
            unknown k less none p = by (has_prefix f.plan p) refl
              where
                by : (t : Bool) → has_prefix f.plan p ≡ t → routing p (slice_index ases k) ≡ None
                by false e = routed_none p (has_prefix f.plan p) refl e (slice_index ases k)
                by true e =
                    let (i, one, at, named) = still_for.whole p e in
                    subst (λ (q : PrefixValue). routing q (slice_index ases k) ≡ None) named
                    (none_held (state_of f.states.payloads one.prefix) ases one.tree k (routing one.prefix (slice_index ases k)) ((tree_is i one at).held k less) (none i one (slice_get_within new i one at) at))
