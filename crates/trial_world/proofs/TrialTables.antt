-- The tables of a trial: what they leave right where policies change, and what is counted by them.
use Rattle.std.proofs.Common.{◌≡◌, ◌≢◌, ◌⊎◌, inl, inr, ℕ, zero, suc, ◌<◌, ◌≤◌, ◌||◌, ◌==◌, Bool, true, false, IsTrue, Option, None, Some, option_map, List, [], ◌∷◌, length, map, get_or, refl, sym, ap, subst, ◌∙◌, arith, eqb-true, true≢false}
use Rattle.std.specs.Prelude.{option_and_then}
use Rattle.net_names.specs.Addresses.{AddrValue}
use Rattle.net_names.specs.Links.{converse}
use Rattle.net_names.specs.Numbers.{occurs}
use Rattle.net_names.specs.Prefixes.{PrefixValue}
use Rattle.net_names.specs.declared.routes.Rel.{Rel}
use Rattle.as_graph.specs.Edits.{LinksAreSound}
use Rattle.as_graph.specs.Topology.{Topology, has, relation}
use Rattle.origin_validation.specs.Judging.{state_of}
use Rattle.policy_kinds.specs.Kinds.{kind_policy}
use Rattle.policy_kinds.specs.declared.kind.Kind.{Kind}
use Rattle.policy_kinds.specs.declared.kind.Kind.TheVariants.{Plain}
use Rattle.roa_table.specs.Sets.{Payloads}
use Rattle.route_choice.specs.RoundTables.{round_routing}
use Rattle.route_choice.specs.declared.round_tables.RoundTables.{RoundTables}
use Rattle.stability_laws.specs.Book.{PolicyBook, policy_at}
use Rattle.stability_laws.specs.Laws.{RightFollows}
use Rattle.stability_laws.specs.Plans.{Plan, announces, has_prefix}
use Rattle.stability_laws.specs.Rounds.{AreRounds, seeds_of}
use Rattle.stability_laws.specs.Stable.{IsRight}
use Rattle.stability_laws.specs.World.{setting}
use Rattle.stability_laws.specs.declared.entry.Entry.{Entry}
use Rattle.data_trace.specs.Hops.{next_hop}
use Rattle.data_trace.specs.Views.{addr_of, rows_of}
use Rattle.data_trace.specs.Watches.{AreRows, IsRowOf, Row, count_of}
use Rattle.data_trace.specs.declared.kinds.Hop.{Hop}
use Rattle.data_trace.specs.declared.kinds.Which.TheVariants.{All}
use Rattle.data_trace.specs.declared.watch.Watch.{Watch}
use Rattle.leak_round.specs.Plans.{kept_with, plan_after}
use Rattle.leak_round.specs.Rounds.{is_open, kept, plan_of, round_count}
use Rattle.leak_round.specs.Tables.{tables_in}
use Rattle.leak_round.specs.Touched.{touches}
use Rattle.leak_round.specs.declared.plans.RoundsPlan.{RoundsPlan}
use Rattle.leak_round.specs.declared.rounds.Rounds.{Rounds}
use Rattle.leak_round.specs.declared.touched.Touched.{Touched}
use Rattle.sim_core.specs.Families.{Family}
use Rattle.sim_core.specs.Watching.{end_at}
use Rattle.sim_core.specs.World.{topology}
use Rattle.sim_core.proofs.Announcers.{announcer_there}
use Rattle.sim_core.proofs.Families.{same_next}
use Rattle.sim_core.proofs.Grounds.{rounds_as, same_exports}
use Rattle.sim_core.proofs.Rows.{ends_at}
use Rattle.trial_world.specs.Fixed.{IsFixed, label_in, world_of}
use Rattle.trial_world.specs.Tables.{AreLineRounds, AreLineRows, AreTablesIn, AreTouched, HadKinds, IsTouchedAround, StayTables}
use Rattle.trial_world.specs.Sweeps.{end_of}
use Rattle.trial_world.specs.Trials.{AreEndsIn}
use Rattle.trial_world.specs.declared.fixed.Fixed.{Fixed}
use Rattle.trial_world.specs.declared.tables.LineTables.{LineTables}
use Rattle.trial_world.proofs.PartPlans.{announces_whole}
use Rattle.trial_world.proofs.RowCounts.{by_rows}
use Rattle.trial_world.proofs.Watched.{no_table}

-- ---- what is counted by the tables

-- of a prefix that the plan has not nothing is held
nothing_held : (rounds : Rounds) (round : ℕ) (p : PrefixValue) → has_prefix (plan_of rounds) p ≡ false → (a : ℕ) → kept rounds round p a ≡ None
nothing_held rounds round p away a = by (tables_in rounds.tables.items round) refl
  where
    by : (o : Option RoundTables) → tables_in rounds.tables.items round ≡ o → option_and_then (λ (t : RoundTables). round_routing rounds.pool t p a) o ≡ None
    by None e = refl
    by (Some t) e = no_table rounds.pool t p ((rounds.full round t e).there p ∙ away) a

-- the watch of the tables counts the ends of packets in the world of the book
pub ends_in : (f : Fixed) → IsFixed f → (book : PolicyBook Kind) (t : LineTables) → AreTablesIn f book t → AreEndsIn f.graph.now (world_of f).payloads book (world_of f).plan f.plan f.round f.addr (λ x. count_of (rows_of t.watch) All (end_of x))
ends_in f is book t are =
    let next : ℕ → Hop = next_hop (world_of f).plan (kept t.rounds f.round) f.addr in
    record {
      held = kept t.rounds;
      stable = subst (λ (v : Payloads). AreRounds (λ p. setting kind_policy f.graph.now book (state_of v p)) f.plan f.round (kept t.rounds)) is.payloads are.stable;
      none = λ p away a. nothing_held t.rounds f.round p (ap (λ (x : Plan). has_prefix x p) are.line.plan_is ∙ away) a;
      names = map (λ (r : Row). r.asn) (rows_of t.watch);
      listed = are.rows.listed;
      apart = are.rows.apart;
      ends = end_at (rows_of t.watch);
      traces = ends_at f.graph.now next (label_in f) (rows_of t.watch) are.rows;
      counted = by_rows f.graph.now next (label_in f) (rows_of t.watch) are.rows;
    }

-- ---- tables that stay

-- a book that gives each AS the same policy has the same tables
pub other_book : (f : Fixed) (old new : PolicyBook Kind) (t : LineTables) → ((a : ℕ) → policy_at new a ≡ policy_at old a) → AreTablesIn f old t → AreTablesIn f new t
other_book f old new t same are = record {
  line = are.line;
  stable = subst (λ (k : ℕ → Kind). AreRounds (λ p. record { has = has f.graph.now; relation = relation f.graph.now; policy = λ a. kind_policy (k a); state = state_of f.states.payloads p }) f.plan f.round (kept t.rounds)) (λ i a. sym (same a) i) are.stable;
  addr = are.addr;
  rows = are.rows;
}

-- tables of which the same is seen
pub stay : (f : Fixed) (old : LineTables) (rounds : Rounds) (watch : Watch) → (is_open old.rounds ≡ false → is_open rounds ≡ false) → plan_of rounds ≡ plan_of old.rounds → round_count rounds ≡ round_count old.rounds → ((r : ℕ) (p : PrefixValue) (a : ℕ) → kept rounds r p a ≡ kept old.rounds r p a)
    → rows_of watch ≡ rows_of old.watch → addr_of watch ≡ addr_of old.watch → StayTables f old (record { rounds = rounds; watch = watch })
stay f old rounds watch closed plan count same rows addr = λ book are. record {
  line = record { closed = closed are.line.closed; plan_is = plan ∙ are.line.plan_is; count_is = count ∙ are.line.count_is };
  stable = subst (λ (h : Family). AreRounds (λ p. setting kind_policy f.graph.now book (state_of f.states.payloads p)) f.plan f.round h) (λ i r p a. sym (same r p a) i) are.stable;
  addr = addr ∙ are.addr;
  rows = subst (λ (s : (PrefixValue → ℕ → Option Entry) × List Row). AreLineRows f s.0 s.1) (λ i. ((λ p a. sym (same f.round p a) i), sym rows i)) are.rows;
}

-- ---- what is right where policies change

-- an AS of a list with policies stands at a place of it
listed_at : (cs : List (ℕ × Kind)) (a : ℕ) → occurs a (map (λ (c : ℕ × Kind). c.0) cs) ≡ true → (k : ℕ) × (k < length cs) × ((d : ℕ × Kind) → (get_or cs k d).0 ≡ a)
listed_at [] a h = absurd (true≢false (sym h))
listed_at (c ∷ cs) a h = by (c.0 == a) refl h (listed_at cs a)
  where
    by : (t : Bool) → (c.0 == a) ≡ t → (t || occurs a (map (λ (x : ℕ × Kind). x.0) cs)) ≡ true → (occurs a (map (λ (x : ℕ × Kind). x.0) cs) ≡ true → (k : ℕ) × (k < length cs) × ((d : ℕ × Kind) → (get_or cs k d).0 ≡ a))
        → (k : ℕ) × (k < length (c ∷ cs)) × ((d : ℕ × Kind) → (get_or (c ∷ cs) k d).0 ≡ a)
    by true e g rest = (zero, omega arith, λ d. eqb-true c.0 a e)
    by false e g rest = (let (k, less, at) = rest g in (suc k, omega (arith, less), at))

same_or : (x y : Bool) → (x ≡ y) ⊎ (x ≢ y)
same_or true true = inl refl
same_or true false = inr true≢false
same_or false true = inr (λ e. true≢false (sym e))
same_or false false = inl refl

-- who announces something in the part is an AS of the graph
pub announcer_in : (f : Fixed) → IsFixed f → (p : PrefixValue) (a : ℕ) → IsTrue (announces f.plan p a) → has f.graph.now a ≡ true
announcer_in f is p a h =
    ap (λ (t : Topology). has t a) is.graph
    ∙ announcer_there (topology (world_of f)) (world_of f).plan (world_of f).kinds refl p a (announces_whole f.addr (world_of f).plan f.plan is.plan.is_part p a h)

-- who is no AS of the graph holds nothing
pub nothing_outside : (f : Fixed) (book : PolicyBook Kind) (t : LineTables) → AreTablesIn f book t → (round : ℕ) (p : PrefixValue) (b : ℕ) → 1 ≤ round → round ≤ round_count t.rounds → IsTrue (has_prefix (plan_of t.rounds) p) → has f.graph.now b ≡ false → kept t.rounds round p b ≡ None
nothing_outside f book t are zero p b low high known none = absurd (omega (arith, low))
nothing_outside f book t are (suc before) p b low high known none = (are.stable before p (omega (arith, high, are.line.count_is)) (ap (λ (x : Plan). has_prefix x p) (sym are.line.plan_is) ∙ known)).only_ases b none

module _ (sound : LinksAreSound) (f : Fixed) (old new : PolicyBook Kind) (before : List (ℕ × Kind)) (had : HadKinds old new before) (t : LineTables) (are : AreTablesIn f old t) (touched : Touched) (all : AreTouched f.graph.now f.plan new before touched) where
  -- who is not touched has the policy that it had
  same_kind : (p : PrefixValue) (b : ℕ) → IsTrue (has_prefix f.plan p) → touches touched p b ≡ false → policy_at new b ≡ policy_at old b
  same_kind p b known free = by (occurs b (map (λ (c : ℕ × Kind). c.0) before)) refl
    where
      by : (u : Bool) → occurs b (map (λ (c : ℕ × Kind). c.0) before) ≡ u → policy_at new b ≡ policy_at old b
      by false e = had.others b e
      by true e =
          let (k, less, at) = listed_at before b e in
          let around : IsTouchedAround f.graph.now new (get_or before k (b, Plain)) (touches touched p) = all p known k (b, Plain) less in
          absurd (true≢false (sym (subst (λ x. touches touched p x ≡ true) (at (b, Plain)) around.own) ∙ free))

  -- and none of its neighbours begins or ceases to mark
  same_marks : (p : PrefixValue) (b n : ℕ) (r : Rel) → IsTrue (has_prefix f.plan p) → touches touched p b ≡ false → relation f.graph.now b n ≡ Some r → (kind_policy (policy_at old n)).marks ≡ (kind_policy (policy_at new n)).marks
  same_marks p b n r known free link = by (occurs n (map (λ (c : ℕ × Kind). c.0) before)) refl
    where
      by : (u : Bool) → occurs n (map (λ (c : ℕ × Kind). c.0) before) ≡ u → (kind_policy (policy_at old n)).marks ≡ (kind_policy (policy_at new n)).marks
      by false e = ap (λ (k : Kind). (kind_policy k).marks) (sym (had.others n e))
      by true e =
          let (k, less, at) = listed_at before n e in
          let c : ℕ × Kind = get_or before k (n, Plain) in
          let here : c.0 ≡ n = at (n, Plain) in
          let around : IsTouchedAround f.graph.now new c (touches touched p) = all p known k (n, Plain) less in
          let was : c.1 ≡ policy_at old n = had.had k (n, Plain) less ∙ ap (policy_at old) here in
          let back : relation f.graph.now c.0 b ≡ Some (converse r) = ap (λ x. relation f.graph.now x b) here ∙ sound.alike f.graph.now b n ∙ ap (option_map converse) link in
          elim (same_or (kind_policy c.1).marks (kind_policy (policy_at new c.0)).marks) [
            | inl same ↦ ap (λ (j : Kind). (kind_policy j).marks) (sym was) ∙ same ∙ ap (λ x. (kind_policy (policy_at new x)).marks) here
            | inr differ ↦ absurd (true≢false (sym (around.neighbours b (converse r) differ back) ∙ free))
          ]

  -- what it holds is right still
  pub still_right : RightFollows kind_policy → (r : ℕ) (p : PrefixValue) (b : ℕ) → r < round_count t.rounds → IsTrue (has_prefix (plan_of t.rounds) p) → has f.graph.now b ≡ true → touches touched p b ≡ false
      → IsRight (setting kind_policy f.graph.now new (state_of f.states.payloads p)) (seeds_of (plan_of t.rounds) (suc r) p (kept t.rounds r p)) (kept t.rounds (suc r) p) b
  still_right law r p b less there here free =
      let known : IsTrue (has_prefix f.plan p) = ap (λ (x : Plan). has_prefix x p) (sym are.line.plan_is) ∙ there in
      let s = state_of f.states.payloads p in
      let h = kept t.rounds (suc r) p in
      let seeds = seeds_of (plan_of t.rounds) (suc r) p (kept t.rounds r p) in
      let was : IsRight (setting kind_policy f.graph.now old s) (seeds_of f.plan (suc r) p (kept t.rounds r p)) h b = (are.stable r p (omega (arith, less, are.line.count_is)) known).right b here in
      law f.graph.now f.graph.now old new s s seeds seeds h h b (record {
        links = λ n. refl;
        policy = ap kind_policy (sym (same_kind p b known free));
        exports = λ n rel link. same_exports (policy_at old n) (policy_at new n) (same_marks p b n rel known free link);
        marks = λ n rel link. same_marks p b n rel known free link;
        states = inr (λ origin. refl);
        entries = λ n rel link. refl;
      }) refl refl (subst (λ (x : Plan). IsRight (setting kind_policy f.graph.now old s) (seeds_of x (suc r) p (kept t.rounds r p)) h b) (sym are.line.plan_is) was)

-- ---- the tables after an edit

-- the rounds with the changes in place are those of the line
pub rounds_now : (f : Fixed) (book : PolicyBook Kind) (was mid now : Rounds) (p : RoundsPlan) → AreLineRounds f was → plan_after mid p ≡ plan_of was → round_count mid ≡ round_count was → ((round : ℕ) (q : PrefixValue) (a : ℕ) → kept now round q a ≡ kept_with mid p round q a)
    → AreRounds (λ q. setting kind_policy f.graph.now book (state_of f.states.payloads q)) (plan_after mid p) (round_count mid) (kept_with mid p) → AreRounds (λ q. setting kind_policy f.graph.now book (state_of f.states.payloads q)) f.plan f.round (kept now)
rounds_now f book was mid now p line after count same stable =
    rounds_as (record { graph = f.graph.now; payloads = f.states.payloads; book = book }) (plan_after mid p) f.plan (round_count mid) f.round (kept_with mid p) (kept now) (sym (after ∙ line.plan_is)) (sym (count ∙ line.count_is)) same stable

-- the next hop that the watch keeps is that of now, where nothing else is held
pub kept_hop : (g : Topology) (plan other : Plan) (held now routing : PrefixValue → ℕ → Option Entry) (addr at : AddrValue) (label : ℕ → ℕ) (rows : List Row) → AreRows g (next_hop plan held addr) label rows → other ≡ plan → ((p : PrefixValue) (b : ℕ) → routing p b ≡ now p b) → at ≡ addr
    → (a : ℕ) (r : Row) → ((p : PrefixValue) → now p a ≡ held p a) → IsRowOf rows a r → r.next ≡ next_hop other routing at a
kept_hop g plan other held now routing addr at label rows are plans each addrs a r same row =
    (are.right row.place r row.there).next_hop ∙ ap (next_hop plan held addr) row.asn ∙ same_next plan held now addr a (λ p known over. sym (same p)) ∙ (λ i. next_hop (sym plans i) (λ p b. sym (each p b) i) (sym addrs i) a)
