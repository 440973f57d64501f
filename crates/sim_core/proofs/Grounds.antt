-- What an edit leaves of ranks, rounds and watches, and what belongs to the edited world.
use denote.Enum.Bare.{sameb}
use Rattle.std.proofs.Common.{◌≡◌, ◌≢◌, ◌⊎◌, inl, inr, ℕ, suc, ◌-◌, ◌<◌, ◌≤◌, ◌&&◌, ◌||◌, not, Bool, true, false, IsTrue, cond, is_some, Option, None, Some, option_map, List, refl, sym, ap, subst, ◌∙◌, arith, Result, Ok, Err, OnOk}
use Rattle.std.specs.Prelude.{◌↔◌, option_and_then, slice_get}
use Rattle.std.specs.List.{filter, reduce}
use Rattle.std.specs.FinMap as fin
use Rattle.std.specs.Option.{option_map_or}
use Rattle.std.specs.Ordering.{nat_cmp}
use Rattle.std.proofs.lemmas.Bool.{true≢false}
use Rattle.net_names.specs.Addresses.{AddrValue}
use Rattle.net_names.specs.Coverage.{holds}
use Rattle.net_names.specs.Links.{converse}
use Rattle.net_names.specs.Numbers.{last_or, occurs}
use Rattle.net_names.specs.Prefixes.{PrefixValue}
use Rattle.net_names.specs.contracts.routes.Rel.{the_type}
use Rattle.net_names.specs.declared.routes.Rel.{Rel}
use Rattle.net_names.specs.declared.routes.Rel.TheVariants.{Customer}
use Rattle.as_graph.specs.Edits.{LinksAreSound}
use Rattle.as_graph.specs.Hierarchy.{HasNoProviderCycle, RankFits, RanksFit}
use Rattle.as_graph.specs.Topology.{Topology, has, relation}
use Rattle.origin_validation.specs.Judging.{state_of}
use Rattle.path_pool.specs.declared.pool.PathPool.{PathPool}
use Rattle.policy_kinds.specs.Kinds.{kind_policy, label}
use Rattle.policy_kinds.specs.declared.kind.Kind.{Kind}
use Rattle.rank_order.specs.Ranks.{KeptRanks, rank_at}
use Rattle.route_choice.specs.Routings.{entry_of}
use Rattle.route_choice.specs.RoundTables.{round_routing, table_at}
use Rattle.route_choice.specs.Slots.{over}
use Rattle.route_choice.specs.Tables.{held_at}
use Rattle.route_choice.specs.declared.held.Held.{Held}
use Rattle.route_choice.specs.declared.round_tables.RoundTables.{RoundTables}
use Rattle.route_choice.specs.declared.table.Table.{Table}
use Rattle.stability_laws.specs.Book.{policy_at}
use Rattle.stability_laws.specs.Laws.{OneFamily, PathsGoOn, RightByOffers, RightFollows}
use Rattle.stability_laws.specs.OfferPaths.{OfferPath}
use Rattle.stability_laws.specs.Offers.{offer_given}
use Rattle.policy_laws.specs.Policy.{Policy, is_own_or_customers}
use Rattle.net_names.specs.declared.routes.State.{State}
use Rattle.stability_laws.specs.Plans.{IsSound, ListsRising, Plan, announces, has_prefix}
use Rattle.stability_laws.specs.Rounds.{AreRounds, seeds_of}
use Rattle.stability_laws.specs.Stable.{IsRight}
use Rattle.stability_laws.specs.World.{setting}
use Rattle.stability_laws.specs.declared.entry.Entry.{Entry}
use Rattle.stability_laws.specs.declared.seed_plan.edits.SeedEdit.{SeedEdit}
use Rattle.data_trace.specs.Hops.{next_hop, second_of, sent_by}
use Rattle.data_trace.proofs.Inside.{hop_by}
use Rattle.data_trace.proofs.Longest.{longer_of}
use Rattle.data_trace.specs.Watches.{Row}
use Rattle.data_trace.specs.declared.kinds.Hop.TheVariants.{Here, To, NoRoute}
use Rattle.leak_round.specs.Bounds.{AreEnoughFor, IsCounted}
use Rattle.leak_round.specs.Edited.{plan_edited}
use Rattle.leak_round.specs.Overlays.{change_in, held_of}
use Rattle.leak_round.specs.Plans.{IsOpenPlan, IsTold, course, kept_with, plan_after}
use Rattle.leak_round.specs.Rounds.{kept as kept_rounds, plan_of, round_count}
use Rattle.leak_round.specs.Tables.{kept_in, tables_in}
use Rattle.leak_round.specs.declared.plans.RoundsPlan.{RoundsPlan}
use Rattle.leak_round.specs.declared.rounds.Rounds.{Rounds}
use Rattle.sim_core.specs.Families.{Family}
use Rattle.sim_core.specs.Ground.{BelongTo, DiffersAround, Ground, IsRightOn, IsSeedChange, policy_on}
use Rattle.sim_core.specs.Parts.{AreRoundsOf}
use Rattle.sim_core.specs.Renewing.{CanAllFollow}
use Rattle.sim_core.specs.Views.{kept, world_seen}
use Rattle.sim_core.specs.Steps.{AreFewSteps, Counts, IsQuick, IsTouched}
use Rattle.sim_core.specs.World.{topology}
use Rattle.sim_core.specs.declared.parts.Parts.{Parts}
use Rattle.scenario_text.specs.declared.acts.Edit.{Edit}
use Rattle.sim_core.specs.Watching.{AreRoundWatches}
use Rattle.sim_core.specs.declared.watching.RoundWatches.{RoundWatches}
use Rattle.sim_core.proofs.Origins.{ends_announced}
use Rattle.sim_core.proofs.SeedEdits.{edited_prefixes, other_paths}
use Rattle.sim_core.proofs.Standing.{stands}

-- what a kind exports follows from whether it marks
pub same_exports : (k j : Kind) → (kind_policy k).marks ≡ (kind_policy j).marks → (kind_policy k).exports ≡ (kind_policy j).exports
same_exports k j same = λ i held otc to. sameb the_type to Customer || (is_own_or_customers held && not (same i && is_some otc))

-- who has a customer is an AS of the graph
pub seller : LinksAreSound → (g : Topology) (a b : ℕ) (r : Rel) → relation g a b ≡ Some r → has g a ≡ true
seller sound g a b r is = sound.ends g b a (converse r) (sound.alike g a b ∙ ap (option_map converse) is)

-- an offer is the same where the state of its path's last number is
same_state_offer : (p q : Policy) (s t : ℕ → State) (n a : ℕ) (from : Option Rel) (held : Option Entry) → ((e : Entry) → held ≡ Some e → s (last_or 0 e.path) ≡ t (last_or 0 e.path)) → offer_given p q s n a from held ≡ offer_given p q t n a from held
same_state_offer p q s t n a None held same = refl
same_state_offer p q s t n a (Some from) None same = refl
same_state_offer p q s t n a (Some from) (Some e) same = ap (λ state. offer_given p q (λ _. state) n a (Some from) (Some e)) (same e refl)

module _ (old new : Ground) (ranks : KeptRanks) (rounds : Rounds) (watches : List RoundWatches) (ends : List ℕ) (touched : PrefixValue → ℕ → Bool) (belong : BelongTo old ranks rounds watches) (d : DiffersAround old new rounds ends touched) where
  -- who is not touched is no end, or still right
  no_end : (prefix : PrefixValue) (a : ℕ) → IsTrue (has_prefix (plan_of rounds) prefix) → touched prefix a ≡ false → (occurs a ends ≡ false) ⊎ IsRightOn new rounds prefix a
  no_end prefix a known free = by (occurs a ends) refl
    where
      by : (b : Bool) → occurs a ends ≡ b → (occurs a ends ≡ false) ⊎ IsRightOn new rounds prefix a
      by false is = inl is
      by true is = elim (d.at_ends prefix a known is) [ inl there ↦ absurd (true≢false (sym there ∙ free)) | inr right ↦ inr right ]

  -- the ranks fit but at the ends
  pub still_fits : RanksFit → (a : ℕ) → has new.graph a ≡ true → occurs a ends ≡ false → RankFits (relation new.graph) (rank_at ranks) a
  still_fits fit a there other =
      let f = fit old.graph (rank_at ranks) belong.no_cycle belong.ranks_are a in
      subst (λ (g : ℕ → Option Rel). ((b : ℕ) → g b ≡ Some Customer → suc (rank_at ranks b) ≤ rank_at ranks a) × ((rank_at ranks a ≡ 0) ⊎ ((b : ℕ) × (g b ≡ Some Customer) × (rank_at ranks a ≡ suc (rank_at ranks b)))) → RankFits (relation new.graph) (rank_at ranks) a)
      (λ i b. d.links a b other i) (λ p. record { above = p.0; reached = p.1 }) (f.above, f.reached)

  -- who is no AS has rank 0
  pub no_rank : RanksFit → LinksAreSound → (a : ℕ) → has new.graph a ≡ false → occurs a ends ≡ false → rank_at ranks a ≡ 0
  no_rank fit sound a none other = elim (fit old.graph (rank_at ranks) belong.no_cycle belong.ranks_are a).reached [
    | inl zero ↦ zero
    | inr (b, sells, rank) ↦ absurd (true≢false (sym (seller sound old.graph a b Customer sells) ∙ (sym (d.presence a other) ∙ none)))
  ]

  -- who is no AS holds nothing
  pub no_entry : (round : ℕ) (prefix : PrefixValue) (b : ℕ) → 1 ≤ round → round ≤ round_count rounds → IsTrue (has_prefix (plan_of rounds) prefix) → has new.graph b ≡ false → touched prefix b ≡ false → kept_rounds rounds round prefix b ≡ None
  no_entry round prefix b low high known none free =
      let before : suc (round - 1) ≡ round = omega (arith, low) in
      let less : round - 1 < round_count rounds = omega (arith, low, high) in
      subst (λ (r : ℕ). kept_rounds rounds r prefix b ≡ None) before (elim (no_end prefix b known free) [
        | inl other ↦ (belong.rounds_are.stable (round - 1) prefix less known).only_ases b (sym (d.presence b other) ∙ none)
        | inr right ↦ right.none (round - 1) less none
      ])

  -- what is kept is right where nothing is touched, with the states of before
  right_before : RightFollows kind_policy → (before : ℕ) (prefix : PrefixValue) (b : ℕ) → before < round_count rounds → IsTrue (has_prefix (plan_of rounds) prefix) → has new.graph b ≡ true → touched prefix b ≡ false → occurs b ends ≡ false
      → (state : ℕ → State) → ((policy_on new b).reads_state ≡ false) ⊎ ((origin : ℕ) → state origin ≡ state_of old.payloads prefix origin)
      → IsRight (setting kind_policy new.graph new.book state) (seeds_of (plan_of rounds) (suc before) prefix (kept_rounds rounds before prefix)) (kept_rounds rounds (suc before) prefix) b
  right_before law before prefix b less known there free other state states =
      let was = (belong.rounds_are.stable before prefix less known).right b (sym (d.presence b other) ∙ there) in
      let seeds = seeds_of (plan_of rounds) (suc before) prefix (kept_rounds rounds before prefix) in
      let f = kept_rounds rounds (suc before) prefix in
      law old.graph new.graph old.book new.book (state_of old.payloads prefix) state seeds seeds f f b
      (record {
        links = λ n. sym (d.links b n other);
        policy = ap kind_policy (sym (d.policies b other));
        exports = λ n r at. same_exports (policy_at old.book n) (policy_at new.book n) (sym (d.marks prefix b n r known free at));
        marks = λ n r at. sym (d.marks prefix b n r known free at);
        states = elim states [ inl reads ↦ inl reads | inr same ↦ inr (λ origin. sym (same origin)) ];
        entries = λ n r at. refl;
      })
      refl refl was

  -- so it is with those of after, since all paths end with origins
  pub still_right : RightFollows kind_policy → RightByOffers kind_policy → OfferPath kind_policy → PathsGoOn kind_policy → IsSound (plan_of rounds) → (before : ℕ) (prefix : PrefixValue) (b : ℕ) → before < round_count rounds → IsTrue (has_prefix (plan_of rounds) prefix) → has new.graph b ≡ true → touched prefix b ≡ false
      → IsRight (setting kind_policy new.graph new.book (state_of new.payloads prefix)) (seeds_of (plan_of rounds) (suc before) prefix (kept_rounds rounds before prefix)) (kept_rounds rounds (suc before) prefix) b
  still_right law by_offers paths goes sound before prefix b less known there free = elim (no_end prefix b known free) [
    | inr right ↦ right.right before less there
    | inl other ↦ elim (d.states prefix b known free there) [
      | inl reads ↦ right_before law before prefix b less known there free other (state_of new.payloads prefix) (inl reads)
      | inr same ↦ (
          let seeds = seeds_of (plan_of rounds) (suc before) prefix (kept_rounds rounds before prefix) in
          let f = kept_rounds rounds (suc before) prefix in
          by_offers new.graph new.graph new.book new.book (state_of old.payloads prefix) (state_of new.payloads prefix) seeds seeds f f b refl refl refl
          (λ n. same_state_offer (policy_on new n) (policy_on new b) (state_of old.payloads prefix) (state_of new.payloads prefix) n b (relation new.graph b n) (f n)
          (λ e at. sym (same (last_or 0 e.path) (ends_announced paths goes old.graph old.book (λ p. state_of old.payloads p) (plan_of rounds) (round_count rounds) (kept_rounds rounds) sound belong.rounds_are.stable prefix known before less n e at))))
          (right_before law before prefix b less known there free other (state_of old.payloads prefix) (inr (λ origin. refl))))
    ]
  ]

-- ---- seeds after an edit

pub seeds_elsewhere : (plan : Plan) (g : Topology) (ends : List ℕ) (edit : Option SeedEdit) → IsSeedChange plan g ends edit → (a : ℕ) → occurs a ends ≡ false → (p : PrefixValue) → announces (plan_edited edit plan) p a ≡ announces plan p a
seeds_elsewhere plan g ends None is a other p = refl
seeds_elsewhere plan g ends (Some e) is a other p = ap is_some (other_paths plan e a (λ same. true≢false (sym (subst (λ (x : ℕ). occurs x ends ≡ true) (sym same) (is.by_end e refl)) ∙ other)) p)

pub seeds_prefixes : (plan : Plan) (g : Topology) (ends : List ℕ) (edit : Option SeedEdit) → IsSeedChange plan g ends edit → (plan_edited edit plan).prefixes ≡ plan.prefixes
seeds_prefixes plan g ends None is = refl
seeds_prefixes plan g ends (Some e) is = edited_prefixes plan e (is.known e refl)

-- ---- what is told of changes

kept_as_held : (pool : PathPool) (tables : List RoundTables) (round : ℕ) (prefix : PrefixValue) (a : ℕ) → option_map (entry_of pool) (held_of tables round prefix a) ≡ kept_in pool tables round prefix a
kept_as_held pool tables round prefix a = of_round (tables_in tables round)
  where
    of_table : (t : Option Table) → option_map (entry_of pool) (option_and_then (λ x. held_at x a) t) ≡ option_and_then (λ x. option_map (entry_of pool) (held_at x a)) t
    of_table None = refl
    of_table (Some t) = refl

    of_round : (o : Option RoundTables) → option_map (entry_of pool) (option_and_then (λ x. held_at x a) (option_and_then (λ (t : RoundTables). table_at t prefix) o)) ≡ option_and_then (λ (t : RoundTables). round_routing pool t prefix a) o
    of_round None = refl
    of_round (Some t) = of_table (table_at t prefix)

-- who is not told of keeps its entries
pub not_told : (r : Rounds) (p : RoundsPlan) (round a : ℕ) (told : List ℕ) → ListsRising nat_cmp (IsTold p round) told → occurs a told ≡ false → (prefix : PrefixValue) → kept_with r p round prefix a ≡ kept_rounds r round prefix a
not_told r p round a told lists free prefix = by (change_in p.changes.items round prefix a) refl
  where
    by : (c : Option (Option Held)) → change_in p.changes.items round prefix a ≡ c → kept_with r p round prefix a ≡ kept_rounds r round prefix a
    by None is = ap (λ c. option_map (entry_of r.pool) (over c (held_of r.tables.items round prefix a))) is ∙ kept_as_held r.pool r.tables.items round prefix a
    by (Some c) is = absurd (let (place, at) = lists.whole a (inl (prefix, ap is_some is)) in true≢false (sym (stands a place told at) ∙ free))

-- ---- watches

same_hop : (plan other : Plan) (held now : PrefixValue → ℕ → Option Entry) (addr : AddrValue) (a : ℕ) → other.prefixes ≡ plan.prefixes → ((p : PrefixValue) → announces other p a ≡ announces plan p a) → ((p : PrefixValue) → now p a ≡ held p a) → next_hop plan held addr a ≡ next_hop other now addr a
same_hop plan other held now addr a prefixes announced entries =
    by (sent_by plan held addr a)
    ∙ ap (hop_by other now a) (λ i. reduce longer_of (filter (λ p. holds p addr && is_some (sym (entries p) i)) (fin.keys (sym prefixes i))))
  where
    by : (o : Option PrefixValue) → hop_by plan held a o ≡ hop_by other now a o
    by None = refl
    by (Some p) = λ i. cond (sym (announced p) i) Here (option_map_or To (second_of (sym (entries p) i)) NoRoute)

module _ (old new : Ground) (was : Rounds) (plan other : Plan) (count : ℕ) (held now : Family) (changed : ℕ → List ℕ) (ends : List ℕ) (touched : PrefixValue → ℕ → Bool) (d : DiffersAround old new was ends touched) (prefixes : other.prefixes ≡ plan.prefixes) (announced : (a : ℕ) → occurs a ends ≡ false → (p : PrefixValue) → announces other p a ≡ announces plan p a)
    (same : (round a : ℕ) → 1 ≤ round → round ≤ count → occurs a (changed round) ≡ false → (p : PrefixValue) → now round p a ≡ held round p a) where
  -- what is seen of the watches is right where nothing changed
  pub can_follow : (all : List (List (AddrValue × List Row))) → AreRoundWatches old.graph plan held old.book count all → ((before : ℕ) (seen : List (AddrValue × List Row)) → slice_get all before ≡ Some seen → suc before ≤ count) → CanAllFollow new.graph other now new.book changed ends all
  can_follow all are within before seen at place s here =
      let rows = are.each before seen at place s here in
      record {
        hops = λ a r there still apart row.
            (rows.right row.place r row.there).next_hop ∙ ap (next_hop plan (held (suc before)) s.0) row.asn
            ∙ same_hop plan other (held (suc before)) (now (suc before)) s.0 a prefixes (announced a apart) (same (suc before) a (omega arith) (within before seen at) still);
        groups = record {
          presence = λ a apart. rows.listed a ∙ sym (d.presence a apart);
          stub = λ a r apart row.
              subst (λ (f : ℕ → Option Rel). IsTrue r.stub ↔ ((b : ℕ) → f b ≢ Some Customer)) (ap (relation old.graph) row.asn ∙ (λ i b. sym (d.links a b apart) i)) (rows.right row.place r row.there).stub;
          group = λ a r apart row. (rows.right row.place r row.there).group ∙ ap (λ x. label (policy_at old.book x)) row.asn ∙ ap label (sym (d.policies a apart));
        };
      }

-- ---- what belongs to the edited world

-- the rounds are the only stable ones
pub only_rounds : OneFamily kind_policy → (g : Ground) (rounds : Rounds) → HasNoProviderCycle (relation g.graph) → AreRounds (λ p. setting kind_policy g.graph g.book (state_of g.payloads p)) (plan_of rounds) (round_count rounds) (kept_rounds rounds) → AreRoundsOf g.graph g.payloads g.book (plan_of rounds) (round_count rounds) rounds
only_rounds law g rounds none stable = record {
  plan_is = refl;
  count_is = refl;
  stable = stable;
  only = λ other are before prefix less known a. law g.graph g.book (λ p. state_of g.payloads p) (plan_of rounds) (round_count rounds) other (kept_rounds rounds) none are stable before prefix less known a;
}

-- rounds of another plan and with other entries, where these are the same
pub rounds_as : (g : Ground) (plan other : Plan) (count number : ℕ) (held now : Family) → other ≡ plan → number ≡ count → ((round : ℕ) (p : PrefixValue) (a : ℕ) → now round p a ≡ held round p a) → AreRounds (λ p. setting kind_policy g.graph g.book (state_of g.payloads p)) plan count held → AreRounds (λ p. setting kind_policy g.graph g.book (state_of g.payloads p)) other number now
rounds_as g plan other count number held now plans counts entries are =
    subst (λ (t : Plan × (ℕ × Family)). AreRounds (λ p. setting kind_policy g.graph g.book (state_of g.payloads p)) t.0 t.1.0 t.1.1) (λ i. (sym plans i, (sym counts i, λ r p a. sym (entries r p a) i))) are

-- ---- steps

-- a triple that counts for a plan counts for what is kept before it and with it
counted_by : (links : ℕ → ℕ → Option Rel) (mid : Rounds) (p : RoundsPlan) (touched : PrefixValue → ℕ → Bool) → IsOpenPlan mid p → (x : ℕ × (PrefixValue × ℕ)) → IsCounted links (course mid p touched) (round_count mid) x
    → Counts links (plan_of mid) (plan_after mid p) (kept_rounds mid) (kept_with mid p) (λ q a. touched q a ≡ true) (round_count mid) x
counted_by links mid p touched opened x c = record {
  from = c.from;
  to = c.to;
  known = c.known;
  counts = elim c.counts [
    | inl there ↦ inl there
    | inr (inl seeds) ↦ inr (inl seeds)
    | inr (inr (n, r, link, changed)) ↦ inr (inr (n, r, link, opened.differs x.0 x.1.0 n changed))
  ];
}

few_by : (links : ℕ → ℕ → Option Rel) (mid : Rounds) (p : RoundsPlan) (touched : PrefixValue → ℕ → Bool) (first last : ℕ) → IsOpenPlan mid p → AreEnoughFor links (course mid p touched) (round_count mid) first last
    → AreFewSteps links (plan_of mid) (plan_after mid p) (kept_rounds mid) (kept_with mid p) (λ q a. touched q a ≡ true) (round_count mid) first last
few_by links mid p touched first last opened few = record { triples = few.triples; apart = few.apart; counted = λ x stands. counted_by links mid p touched opened x (few.counted x stands); enough = few.enough }

-- what a plan of rounds takes, told of what is kept before and after it
pub plan_quick : (links : ℕ → ℕ → Option Rel) (was mid now : Rounds) (p : RoundsPlan) (touched : PrefixValue → ℕ → Bool) (first last : ℕ) → IsOpenPlan mid p → AreEnoughFor links (course mid p touched) (round_count mid) first last
    → plan_of mid ≡ plan_of was → plan_of now ≡ plan_after mid p → round_count mid ≡ round_count was → ((round : ℕ) (q : PrefixValue) (a : ℕ) → kept_rounds mid round q a ≡ kept_rounds was round q a) → ((round : ℕ) (q : PrefixValue) (a : ℕ) → kept_rounds now round q a ≡ kept_with mid p round q a)
    → AreFewSteps links (plan_of was) (plan_of now) (kept_rounds was) (kept_rounds now) (λ q a. touched q a ≡ true) (round_count was) first last
plan_quick links was mid now p touched first last opened few plans after counts before later =
    subst (λ (t : (Plan × Plan) × ((Family × Family) × ℕ)). AreFewSteps links t.0.0 t.0.1 t.1.0.0 t.1.0.1 (λ q a. touched q a ≡ true) t.1.1 first last)
    (λ i. ((plans i, sym after i), (((λ r q a. before r q a i), (λ r q a. sym (later r q a) i)), counts i))) (few_by links mid p touched first last opened few)

-- steps that are few where these triples count are few where others do
map_count : (links : ℕ → ℕ → Option Rel) (plan after : Plan) (old new : Family) (T U : PrefixValue → ℕ → Type 0) (rounds : ℕ)
    → ((x : ℕ × (PrefixValue × ℕ)) → Counts links plan after old new T rounds x → T x.1.0 x.1.1 → Counts links plan after old new U rounds x) → (x : ℕ × (PrefixValue × ℕ)) → Counts links plan after old new T rounds x → Counts links plan after old new U rounds x
map_count links plan after old new T U rounds other x c = elim c.counts [
  | inl there ↦ other x c there
  | inr (inl seeds) ↦ record { from = c.from; to = c.to; known = c.known; counts = inr (inl seeds) }
  | inr (inr near) ↦ record { from = c.from; to = c.to; known = c.known; counts = inr (inr near) }
]

pub steps_map : (links : ℕ → ℕ → Option Rel) (plan after : Plan) (old new : Family) (T U : PrefixValue → ℕ → Type 0) (rounds first last : ℕ)
    → ((x : ℕ × (PrefixValue × ℕ)) → Counts links plan after old new T rounds x → T x.1.0 x.1.1 → Counts links plan after old new U rounds x) → AreFewSteps links plan after old new T rounds first last → AreFewSteps links plan after old new U rounds first last
steps_map links plan after old new T U rounds first last other few = record { triples = few.triples; apart = few.apart; counted = λ x stands. map_count links plan after old new T U rounds other x (few.counted x stands); enough = few.enough }

-- so are those of an edit that touches no other ASes
pub quick_by : (old : Parts) (now : Rounds) (links other : ℕ → ℕ → Option Rel) (e : Edit) (first last : ℕ) (T : PrefixValue → ℕ → Type 0) → links ≡ other
    → ((x : ℕ × (PrefixValue × ℕ)) → Counts links (plan_of old.rounds) (plan_of now) (kept_rounds old.rounds) (kept_rounds now) T (round_count old.rounds) x → T x.1.0 x.1.1 → Counts links (plan_of old.rounds) (plan_of now) (kept_rounds old.rounds) (kept_rounds now) (IsTouched (world_seen old) e) (round_count old.rounds) x)
    → AreFewSteps links (plan_of old.rounds) (plan_of now) (kept_rounds old.rounds) (kept_rounds now) T (round_count old.rounds) first last → AreFewSteps other (plan_of old.rounds) (plan_of now) (kept_rounds old.rounds) (kept_rounds now) (IsTouched (world_seen old) e) (round_count old.rounds) first last
quick_by old now links other e first last T graph map few =
    coe 0 1 (i. AreFewSteps (graph i) (plan_of old.rounds) (plan_of now) (kept_rounds old.rounds) (kept_rounds now) (IsTouched (world_seen old) e) (round_count old.rounds) first last)
    (steps_map links (plan_of old.rounds) (plan_of now) (kept_rounds old.rounds) (kept_rounds now) T (IsTouched (world_seen old) e) (round_count old.rounds) first last map few)

pub quick_done : (old mid new : Parts) (e : Edit) (T : PrefixValue → ℕ → Type 0) (first last : ℕ) → AreFewSteps (relation mid.graph) (plan_of mid.rounds) (plan_of new.rounds) (kept_rounds mid.rounds) (kept_rounds new.rounds) T (round_count mid.rounds) first last
    → mid.rounds ≡ old.rounds → new.graph ≡ mid.graph → ((p : PrefixValue) (a : ℕ) → T p a → IsTouched (world_seen old) e p a) → IsQuick (world_seen old) (world_seen new) e (kept old).routings (kept new).routings first last
quick_done old mid new e T first last few rounds graph only =
    quick_by old new.rounds (relation mid.graph) (relation (topology (world_seen new))) e first last T (ap relation (sym graph)) (λ x c there. record { from = c.from; to = c.to; known = c.known; counts = inl (only x.1.0 x.1.1 there) })
    (coe 0 1 (i. AreFewSteps (relation mid.graph) (plan_of (rounds i)) (plan_of new.rounds) (kept_rounds (rounds i)) (kept_rounds new.rounds) T (round_count (rounds i)) first last) few)

-- what follows of an answer
pub on_map : {T E P Q : Type 0} (r : Result T E) → (P → Q) → OnOk r P → OnOk r Q
on_map (Ok x) f h = f h
on_map (Err e) f h = tt
