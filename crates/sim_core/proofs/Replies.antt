-- What is kept of a world is one, and an accepted query has one answer.
use Rattle.std.proofs.Common.{◌≡◌, ℕ, ◌&&◌, Bool, true, false, IsTrue, Option, None, Some, List, [], ◌∷◌, decimal, Result, Ok, Err, refl, sym, ap, subst, ◌∙◌}
use Rattle.std.specs.Prelude.{IsErrAnd}
use Rattle.std.specs.FinSet as set
use Rattle.net_names.specs.Addresses.{AddrValue}
use Rattle.net_names.specs.Prefixes.{PrefixValue}
use Rattle.as_graph.specs.Topology.{has, relation}
use Rattle.as_graph.proofs.Fitting.{one_rank_at}
use Rattle.scenario_text.specs.declared.acts.Query.{Query}
use Rattle.scenario_text.specs.declared.acts.Query.TheVariants as query
use Rattle.data_trace.specs.Hops.{next_hop}
use Rattle.data_trace.specs.Traces.{IsTrace}
use Rattle.data_trace.specs.contracts.kinds.EndPartialEq.TheImpl as same_end
use Rattle.data_trace.specs.declared.kinds.End.{End}
use Rattle.data_trace.specs.declared.kinds.Hop.{Hop}
use Rattle.data_trace.proofs.Ends.{one_end}
use Rattle.data_trace.proofs.Traces.{one_trace, trace_ends}
use Rattle.stability_laws.specs.Plans.{announcers_of, has_prefix}
use Rattle.reports.specs.Counts.{report_text}
use Rattle.net_names.specs.Texts.{numbers_text}
use Rattle.stability_laws.specs.EntryTexts.{entry_row, row}
use Rattle.reports.specs.Rows.{table}
use Rattle.reports.specs.Traces.{end_word}
use Rattle.reports.specs.declared.group.Group.{Group}
use Rattle.sim_core.specs.Answers.{IsAnswer, IsQueryRefusal, refusal_of, needs}
use Rattle.sim_core.specs.Counting.{how_many, in_group}
use Rattle.sim_core.specs.Kept.{IsKept, Kept}
use Rattle.sim_core.specs.Laws.{AreSameIn}
use Rattle.sim_core.specs.Sims.{IsAnswered, world_seen}
use Rattle.sim_core.specs.World.{World, has_round, topology}
use Rattle.sim_core.specs.declared.errors.QueryError.{QueryError}
use Rattle.sim_core.specs.declared.sim.Sim.{Sim}
use Rattle.sim_core.specs.declared.errors.QueryError.TheVariants.{Memory, NotWatched, UnknownAs, UnknownPrefix, UnknownRound}
use Rattle.sim_core.proofs.Families.{one_family, same_next}
use Rattle.sim_core.proofs.Rows.{many_alike, same_members}
use Rattle.sim_core.proofs.Watches.{round_within}

-- nothing that is asked for is wanting
pub none_wanting : {E : Type 0} (there : Bool) (e : E) (rest : Option E) → needs there e rest ≡ None → (there ≡ true) × (rest ≡ None)
none_wanting true e rest h = (refl, h)
none_wanting false e rest h = cc

-- what is wanting first is so whatever else is asked for
pub wanting : {E : Type 0} (there : Bool) (e x : E) (rest more : Option E) → (rest ≡ Some x → more ≡ Some x) → needs there e rest ≡ Some x → needs there e more ≡ Some x
wanting true e x rest more f h = f h
wanting false e x rest more f h = h

-- where nothing is wanting, nothing is refused
pub no_reason : {E P : Type 0} (x : E) → ◌≡◌ {A = Option E} None (Some x) → P
no_reason x h = cc

-- where one of two things is wanting, they are not both there
pub not_both : {E : Type 0} (one other : Bool) (a b e : E) → needs one a (needs other b None) ≡ Some e → (one && other) ≡ false
not_both true true a b e h = cc
not_both true false a b e h = refl
not_both false other a b e h = refl

-- a reason to refuse a query is a refusal of it
pub query_refused : (w : World) (q : Query) (e : QueryError) → refusal_of w q ≡ Some e → IsQueryRefusal w q e
query_refused w q Memory h = tt
query_refused w q (UnknownRound n) h = h
query_refused w q (UnknownPrefix p) h = h
query_refused w q (UnknownAs a) h = h
query_refused w q (NotWatched x) h = h

-- a query that is refused at the exit of a `?` is not answered
pub not_answered : (sim : Sim) (q : Query) (old new : List ℕ) (e : QueryError) (r : Result (Unit {0}) QueryError) → IsErrAnd r (λ x. x ≡ e) → IsQueryRefusal (world_seen sim) q e → new ≡ old → IsAnswered sim q old new r
not_answered sim q old new e (Ok x) is refusal same = absurd is
not_answered sim q old new e (Err x) is refusal same = record { answered = tt; refused = subst (IsQueryRefusal (world_seen sim) q) (sym is) refusal; err = same }

-- where there is a reason to refuse a query, it is not answered
pub not_answered_for : (sim : Sim) (q : Query) (out : List ℕ) (e : QueryError) (r : Result (Unit {0}) QueryError) → IsErrAnd r (λ x. x ≡ e) → refusal_of (world_seen sim) q ≡ Some e → IsAnswered sim q out out r
not_answered_for sim q out e r is reason = not_answered sim q out out e r is (query_refused (world_seen sim) q e reason) refl

module _ (w : World) (k l : Kept) (x : IsKept w k) (y : IsKept w l) where
  same_entry : (round : ℕ) (p : PrefixValue) → IsTrue (has_round w round) → IsTrue (has_prefix w.plan p) → (a : ℕ) → k.routings round p a ≡ l.routings round p a
  same_entry round p there known a = let within = round_within w.rounds round there in one_family w k.routings l.routings x.routings y.routings round p within.0 within.1 known a

  next_same : (round : ℕ) (addr : AddrValue) → IsTrue (has_round w round) → ◌≡◌ {A = ℕ → Hop} (next_hop w.plan (l.routings round) addr) (next_hop w.plan (k.routings round) addr)
  next_same round addr there = λ i a. same_next w.plan (l.routings round) (k.routings round) addr a (λ p known over. sym (same_entry round p there known a)) i

  same_rank : (n : ℕ) → k.ranks n ≡ l.ranks n
  same_rank n = one_rank_at (relation (topology w)) n (k.ranks n) (l.ranks n) (x.ranks n) (y.ranks n)

  same_end_at : (round : ℕ) (addr : AddrValue) (n : ℕ) → IsTrue (has_round w round) → IsTrue (set.contains w.watched addr) → IsTrue (has (topology w) n) → k.ends round addr n ≡ l.ends round addr n
  same_end_at round addr n there watched known =
      let next : ℕ → Hop = next_hop w.plan (k.routings round) addr in
      let (walk, trace) = x.ends round addr n there watched known in
      let (other, theirs) = y.ends round addr n there watched known in
      let same : IsTrace next n other (l.ends round addr n) = subst (λ (h : ℕ → Hop). IsTrace h n other (l.ends round addr n)) (next_same round addr there) theirs in
      one_end next n (l.ends round addr n) (k.ends round addr n) (trace_ends next n other (l.ends round addr n) same) (trace_ends next n walk (k.ends round addr n) trace)

  pub one_kept : AreSameIn w k l
  one_kept = record { routings = same_entry; ranks = same_rank; ends = same_end_at }

  -- what two keep gives the same answers
  pub one_answer : (q : Query) (s t : List ℕ) → refusal_of w q ≡ None → IsAnswer w k q s → IsAnswer w l q t → s ≡ t
  one_answer (query.Routes round prefix) s t accepted a b =
      let asked = none_wanting (has_round w round) _ _ accepted in
      let known = none_wanting (has_prefix w.plan prefix) _ _ asked.1 in
      a ∙ ((λ i. table (topology w) (λ asn. entry_row asn (same_entry round prefix asked.0 known.0 asn i))) ∙ sym b)
  one_answer (query.Route round prefix asn) s t accepted a b =
      let asked = none_wanting (has_round w round) _ _ accepted in
      let known = none_wanting (has_prefix w.plan prefix) _ _ asked.1 in
      a ∙ (ap (entry_row asn) (same_entry round prefix asked.0 known.0 asn) ∙ sym b)
  one_answer (query.Trace round asn addr) s t accepted a b =
      let asked = none_wanting (has_round w round) _ _ accepted in
      let next : ℕ → Hop = next_hop w.plan (k.routings round) addr in
      let other : IsTrace next asn b.0 b.1 = subst (λ (n : ℕ → Hop). IsTrace n asn b.0 b.1) (next_same round addr asked.0) b.2 in
      let walk : b.0 ≡ a.0 = one_trace next asn a.0 b.0 a.1 b.1 a.2 other in
      let end : b.1 ≡ a.1 = one_end next asn a.1 b.1 (trace_ends next asn a.0 a.1 a.2) (trace_ends next asn b.0 b.1 other) in
      a.3 ∙ sym (b.3 ∙ (λ i. row (end_word (end i) ∷ numbers_text (walk i) ∷ [])))
  one_answer (query.Report round addr) s t accepted a b =
      let asked = none_wanting (has_round w round) _ _ accepted in
      let watched = none_wanting (set.contains w.watched addr) _ _ asked.1 in
      let members : (g : Group) (n : ℕ) → in_group w k g n ≡ in_group w l g n = same_members w k l same_rank in
      let ends : (n : ℕ) → has (topology w) n ≡ true → k.ends round addr n ≡ l.ends round addr n = λ n there. same_end_at round addr n asked.0 watched.0 there in
      let counts : (g : Group) (e : End) → how_many w (λ n. in_group w k g n && (same_end.ghosts).eq (k.ends round addr n) e) ≡ how_many w (λ n. in_group w l g n && (same_end.ghosts).eq (l.ends round addr n) e) =
      λ g e. many_alike w (λ n. in_group w k g n && (same_end.ghosts).eq (k.ends round addr n) e) (λ n. in_group w l g n && (same_end.ghosts).eq (l.ends round addr n) e) (λ n there i. members g n i && (same_end.ghosts).eq (ends n there i) e) in
      a ∙ ((λ i. report_text (λ g. how_many w (λ n. members g n i)) (λ g e. counts g e i) (announcers_of w.plan)) ∙ sym b)
  one_answer query.Ranks s t accepted a b = a ∙ ((λ i. table (topology w) (λ asn. row (decimal asn ∷ decimal (same_rank asn i) ∷ []))) ∙ sym b)
  one_answer (query.Validity prefix asn) s t accepted a b = a ∙ sym b
