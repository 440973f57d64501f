-- Deliveries end, in the one stable routing.
use Rattle.std.proofs.Common.{◌≡◌, ◌≢◌, ◌⊎◌, inl, inr, ℕ, suc, ◌*◌, ◌^◌, ◌<◌, ◌≤◌, true, false, Option, None, Some, List, length, option_map, refl, sym, ◌∙◌, ap, subst, arith, mul-le-mul_left, ◌+◌, [], ◌∷◌, ◌++◌, drop, length-append}
use Rattle.std.proofs.Math.Nat.{pow-le-pow_left}
use Rattle.net_names.specs.declared.routes.Rel.{Rel}
use Rattle.net_names.specs.declared.routes.State.{State}
use Rattle.net_names.specs.Links.{converse}
use Rattle.net_names.proofs.Distinct.{apart_from_distinct}
use Rattle.policy_laws.specs.Policy.{Policy}
use Rattle.as_graph.specs.Topology.{Topology, relation, ases, has, as_count}
use Rattle.as_graph.specs.Hierarchy.{HasNoProviderCycle, IsRank}
use Rattle.as_graph.proofs.Chains.{Falls}
use Rattle.as_graph.proofs.Links.{relation_mutual, relation_self, linked_end, topology-AreLinks}
use Rattle.as_graph.proofs.Ranks.{rank_of, rank_of-IsRank, ranks_fall}
use Rattle.as_graph.proofs.RowAses.{length-le-as_count}
use Rattle.stability_laws.specs.declared.entry.Seed.{Seed}
use Rattle.stability_laws.specs.Offers.{Setting}
use Rattle.stability_laws.specs.Stable.{IsStable, IsLawful}
use Rattle.stability_laws.specs.Book.{PolicyBook, policy_at}
use Rattle.stability_laws.specs.World.{setting}
use Rattle.stability_laws.specs.Laws.{IsHeight}
use Rattle.stability_laws.proofs.OneRouting.{one_routing}
use Rattle.message_sim.specs.Messages.{Message, MessageNet, sends, IsQuiet, IsStart}
use Rattle.message_sim.specs.Starts.{first_queue}
use Rattle.message_sim.specs.Delivery.{AreTrueDeliveries, IsDelivery, CanDeliver, IsTurn, IsFair}
use Rattle.message_sim.specs.Agreement.{Agrees}
use Rattle.message_sim.specs.Laws.{IsSettled}
use Rattle.message_sim.specs.Nets.{AreLowestFirst}
use Rattle.message_sim.proofs.Parts.{first_told}
use Rattle.message_sim.proofs.Quiet.{start_agrees, delivery_agrees, deliveries_agree, quiet_stable}
use Rattle.message_sim.proofs.Sums.{once, occurs-once, distinct-once}
use Rattle.message_sim.proofs.Weights.{burden, burden_falls, run_short, burden_bound}
use Rattle.message_sim.proofs.Settling.{OnLinks, are_deliveries, start_on_links, delivery_on_links, run_on_links, goes_on_or_quiet, true_deliveries, one_more}
use Rattle.message_sim.specs.Turns.{AreTurns}
use Rattle.message_sim.proofs.Turning.{free, free_taken, true_turns}
use Rattle.message_sim.proofs.Fair.{settles}

linked_ends : (g : Topology) (a b : ℕ) (r : Rel) → relation g a b ≡ Some r → has g a ≡ true
linked_ends g a b r is = linked_end g b a (converse r) (relation_mutual g a b ∙ ap (option_map converse) is)

below : (g : Topology) (height rank a : ℕ) → IsHeight g height → IsRank (relation g) a rank → has g a ≡ true → rank < height
below g height rank a is r here =
    let (xs, chain, l) = r.longest in
    let most : length xs ≤ height = is.most a xs here chain in
    omega arith

at_most_one : (m : Message) → length (first_queue m) ≤ 1
at_most_one None = omega arith
at_most_one (Some e) = omega arith

module _ {P : Type 0} (meaning : P → Policy) (are_lawful : (p : P) → IsLawful (meaning p)) (g : Topology) (book : PolicyBook P) (state : ℕ → State) (seeds : ℕ → Option Seed) where
  abbrev w : Setting
  w = setting meaning g book state

  lawful : (a : ℕ) → IsLawful (w.policy a)
  lawful a = are_lawful (policy_at book a)

  module _ (height : ℕ) (no_cycle : HasNoProviderCycle (relation g)) (is_height : IsHeight g height) where
    pub run_within : (k : ℕ) (x y : MessageNet) (links : List (ℕ × ℕ)) → Agrees w seeds x → ((n a : ℕ) → length (x.queue n a) ≤ k) → AreTrueDeliveries w seeds links x y → length links ≤ k * as_count g ^ (2 * height)
    run_within k x y links agrees few run =
        let joined = topology-AreLinks g in
        let rank = λ (a : ℕ). rank_of (relation g) (ases g) joined no_cycle a in
        let is = rank_of-IsRank (relation g) (ases g) joined no_cycle in
        let falls = (ranks_fall (relation g) (ases g) joined no_cycle rank is).falls in
        let within = λ (a : ℕ) (here : has g a ≡ true). below g height (rank a) a is_height (is a) here in
        let nodes : List ℕ = once (ases g) in
        let apart = distinct-once (ases g) in
        let listed = λ (a : ℕ). occurs-once a (ases g) in
        let short = run_short w lawful (relation_mutual g) (relation_self g) (linked_ends g) seeds rank falls height within nodes apart listed links x y run agrees in
        let bound = burden_bound w lawful (relation_mutual g) (relation_self g) (linked_ends g) seeds rank falls height within nodes apart listed k x few in
        let all : length nodes ≤ as_count g = length-le-as_count g nodes (apart_from_distinct nodes apart) (λ a in_nodes. sym (listed a) ∙ in_nodes) in
        let more : k * length nodes ^ (2 * height) ≤ k * as_count g ^ (2 * height) = mul-le-mul_left k (pow-le-pow_left all (2 * height)) in
        omega (arith, short, bound, more)

    pub run_settles : (x y : MessageNet) (links : List (ℕ × ℕ)) → ((a : ℕ) → has g a ≡ false → seeds a ≡ None) → IsStart w seeds x → AreTrueDeliveries w seeds links x y
        → (length links ≤ as_count g ^ (2 * height)) × (CanDeliver w seeds y ⊎ IsSettled w seeds y)
    run_settles x y links only start run = (
      short,
      elim (goes_on_or_quiet w seeds (relation_mutual g) lawful (ases g) (topology-AreLinks g) (relation_self g) y (run_on_links w seeds (relation_mutual g) links x y run (start_on_links w seeds (relation_mutual g) x start))) [
        | inl goes_on ↦ inl goes_on
        | inr quiet ↦ inr (record {
          quiet = quiet;
          stable = stable quiet;
          the_one = λ f f_stable. one_routing w lawful (ases g) (topology-AreLinks g) no_cycle seeds f y.choice f_stable (stable quiet);
        })
      ],
    )
      where
        agrees : Agrees w seeds x
        agrees = start_agrees w seeds only x start

        short : length links ≤ as_count g ^ (2 * height)
        short =
            let bound : length links ≤ 1 * as_count g ^ (2 * height) = run_within 1 x y links agrees (λ n a. subst (λ (q : List Message). length q ≤ 1) (sym (first_told (sends w x.choice n a) (x.queue n a) (start.queues n a))) (at_most_one (sends w x.choice n a))) run in
            omega (arith, bound)

        stable : IsQuiet y → IsStable w seeds y.choice
        stable quiet = quiet_stable w seeds (relation_mutual g) y (deliveries_agree w seeds (relation_self g) (linked_ends g) links x y (are_deliveries w seeds links x y run) agrees) quiet

    -- many deliveries, each on the lowest link with a message, leave the net settled
    pub rest_settles : (made most : ℕ) (x y : MessageNet) → ((a : ℕ) → has g a ≡ false → seeds a ≡ None) → IsStart w seeds x → AreLowestFirst w seeds made x y → (made < most → IsQuiet y) → as_count g ^ (2 * height) ≤ most → IsSettled w seeds y
    rest_settles made most x y only start lowest quiet many =
        let (ls, len, run) = true_deliveries w seeds made x y lowest in
        by ls len run (run_settles x y ls only start run).1
      where
        by : (ls : List (ℕ × ℕ)) → length ls ≡ made → AreTrueDeliveries w seeds ls x y → CanDeliver w seeds y ⊎ IsSettled w seeds y → IsSettled w seeds y
        by ls len run (inr settled) = settled
        by ls len run (inl (n, a, z, linked, d)) =
            let short : length (ls ++ (n, a) ∷ []) ≤ as_count g ^ (2 * height) = (run_settles x z (ls ++ (n, a) ∷ []) only start (one_more w seeds ls x y z n a run linked d)).0 in
            let longer : length (ls ++ (n, a) ∷ []) ≡ length ls + 1 = length-append ls ((n, a) ∷ []) in
            let none : y.queue n a ≡ [] = quiet (omega (arith, short, longer, len, many)) n a in
            let some : y.queue n a ≡ z.received n a ∷ drop 1 (y.queue n a) = d.oldest in
            absurd cc

    -- many turns that name no link leave the net settled
    pub turns_settle : (made : ℕ) (ts : List (Option (ℕ × ℕ))) (x y : MessageNet) → ((a : ℕ) → has g a ≡ false → seeds a ≡ None) → IsStart w seeds x → AreTurns w seeds ts x made y → (as_count g ^ (2 * height) ≤ free w seeds ts) ⊎ IsQuiet y → IsSettled w seeds y
    turns_settle made ts x y only start turns enough =
        let (ls, len, run) = true_turns w seeds (relation_mutual g) ts x y made (start_on_links w seeds (relation_mutual g) x start) turns in
        by ls len run (run_settles x y ls only start run).1
      where
        quiet : (n a : ℕ) (z : MessageNet) (ls : List (ℕ × ℕ)) → length ls ≡ made → length ls + 1 ≤ as_count g ^ (2 * height) → IsQuiet y
        quiet n a z ls len short = elim enough [
          | inr none ↦ none
          | inl many ↦ elim (free_taken w seeds ts x y made turns) [ inr none ↦ none | inl few ↦ absurd (omega (arith, many, few, len, short)) ]
        ]

        by : (ls : List (ℕ × ℕ)) → length ls ≡ made → AreTrueDeliveries w seeds ls x y → CanDeliver w seeds y ⊎ IsSettled w seeds y → IsSettled w seeds y
        by ls len run (inr settled) = settled
        by ls len run (inl (n, a, z, linked, d)) =
            let short : length (ls ++ (n, a) ∷ []) ≤ as_count g ^ (2 * height) = (run_settles x z (ls ++ (n, a) ∷ []) only start (one_more w seeds ls x y z n a run linked d)).0 in
            let longer : length (ls ++ (n, a) ∷ []) ≡ length ls + 1 = length-append ls ((n, a) ∷ []) in
            let none : y.queue n a ≡ [] = quiet n a z ls len (omega (arith, short, longer)) n a in
            let some : y.queue n a ≡ z.received n a ∷ drop 1 (y.queue n a) = d.oldest in
            absurd cc

  -- what each delivery from the start keeps
  record Goes (x : MessageNet) : Type 0 where
    agrees : Agrees w seeds x
    on_links : OnLinks w seeds (relation_mutual g) x

  delivery_goes : (x y : MessageNet) (n a : ℕ) → w.relation a n ≢ None → IsDelivery w seeds x n a y → Goes x → Goes y
  delivery_goes x y n a linked d goes = record { agrees = by (w.relation a n) refl; on_links = delivery_on_links w seeds (relation_mutual g) x y n a linked d goes.on_links }
    where
      by : (r : Option Rel) → w.relation a n ≡ r → Agrees w seeds y
      by None is = absurd (linked is)
      by (Some from) is = delivery_agrees w seeds (relation_self g) (linked_ends g) x y n a from is d goes.agrees

  module _ (no_cycle : HasNoProviderCycle (relation g)) where
    abbrev rank : ℕ → ℕ
    rank a = rank_of (relation g) (ases g) (topology-AreLinks g) no_cycle a

    fall : Falls (relation g) rank (length (ases g))
    fall = ranks_fall (relation g) (ases g) (topology-AreLinks g) no_cycle rank (rank_of-IsRank (relation g) (ases g) (topology-AreLinks g) no_cycle)

    abbrev top : ℕ
    top = suc (length (ases g))

    within_top : (a : ℕ) → w.has a ≡ true → rank a < top
    within_top a here = let le : rank a ≤ length (ases g) = fall.within a in omega (arith, le)

    abbrev weighs : MessageNet → ℕ
    weighs x = burden w lawful (relation_mutual g) (relation_self g) (linked_ends g) seeds rank fall.falls top within_top (once (ases g)) (distinct-once (ases g)) (λ a. occurs-once a (ases g)) x

    lighter : (x y : MessageNet) (n a : ℕ) → w.relation a n ≢ None → IsDelivery w seeds x n a y → Goes x → weighs y < weighs x
    lighter x y n a linked d goes = by (w.relation a n) refl
      where
        by : (r : Option Rel) → w.relation a n ≡ r → weighs y < weighs x
        by None is = absurd (linked is)
        by (Some from) is = burden_falls w lawful (relation_mutual g) (relation_self g) (linked_ends g) seeds rank fall.falls top within_top (once (ases g)) (distinct-once (ases g)) (λ a. occurs-once a (ases g)) x y n a from is d goes.agrees

    pub fair_settles : (order : ℕ → ℕ × ℕ) (net : ℕ → MessageNet) → ((a : ℕ) → has g a ≡ false → seeds a ≡ None) → IsFair w order → IsStart w seeds (net 0)
        → ((k : ℕ) → IsTurn w seeds (net k) (order k).0 (order k).1 (net (suc k))) → (k : ℕ) × IsSettled w seeds (net k) × ((j : ℕ) → k ≤ j → net j ≡ net k)
    fair_settles order net only fair start turns =
        let (k, goes, quiet, stays) = settles w seeds order net fair turns Goes delivery_goes weighs lighter
        (λ x goes. goes_on_or_quiet w seeds (relation_mutual g) lawful (ases g) (topology-AreLinks g) (relation_self g) x goes.on_links)
        (record { agrees = start_agrees w seeds only (net 0) start; on_links = start_on_links w seeds (relation_mutual g) (net 0) start }) in
        let stable : IsStable w seeds (net k).choice = quiet_stable w seeds (relation_mutual g) (net k) goes.agrees quiet in
        (k, record { quiet = quiet; stable = stable; the_one = λ f f_stable. one_routing w lawful (ases g) (topology-AreLinks g) no_cycle seeds f (net k).choice f_stable stable }, stays)
