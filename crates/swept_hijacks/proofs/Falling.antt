-- Of a world with more droppers no more ASes have packets that are delivered at the hijacker.
use Rattle.std.proofs.Common.{◌≡◌, ℕ, suc, ◌≤◌, Bool, true, false, true≢false, Option, Some, None, is_some, option_map, refl, sym, ◌∙◌, ap, arith}
use Rattle.std.proofs.lemmas.Bool.{eqb-true, eq-eqb}
use Rattle.std.specs.FinMap as fin
use Rattle.std.specs.Ordering.{nat_cmp}
use Rattle.net_names.specs.declared.routes.Rel.{Rel}
use Rattle.net_names.specs.Addresses.{AddrValue}
use Rattle.net_names.specs.Links.{converse}
use Rattle.net_names.specs.Prefixes.{PrefixValue}
use Rattle.as_graph.specs.Topology.{ases, has, relation}
use Rattle.as_graph.proofs.Links.{linked_end, relation_mutual, topology-AreLinks}
use Rattle.policy_kinds.specs.declared.kind.Kind.{Kind}
use Rattle.origin_validation.specs.Judging.{state_of}
use Rattle.stability_laws.specs.declared.entry.Entry.{Entry}
use Rattle.stability_laws.specs.Rounds.{seeds_of}
use Rattle.stability_laws.specs.Stable.{IsRightWith, IsStable}
use Rattle.data_trace.specs.Hops.{CanSendBy, LongestIsSent, next_hop, sent_by}
use Rattle.data_trace.specs.Steps.{Ends}
use Rattle.data_trace.specs.contracts.kinds.EndPartialEq.TheImpl as same_end
use Rattle.data_trace.specs.declared.kinds.End.{End}
use Rattle.data_trace.specs.declared.kinds.End.TheVariants as the_end
use Rattle.data_trace.specs.declared.kinds.Hop.{Hop}
use Rattle.data_trace.specs.declared.kinds.Hop.TheVariants.{NoRoute}
use Rattle.data_trace.proofs.Ends.{ends_lost, one_end}
use Rattle.data_trace.proofs.Inside.{hop_by}
use Rattle.data_trace.proofs.Traces.{trace_ends}
use Rattle.sim_core.specs.World.{World, kind_at, setting_of, topology}
use Rattle.sim_core.proofs.Unnamed.{gone_unnamed, lone_right, unseeded}
use Rattle.sweep.specs.declared.trial.Fate.{Fate}
use Rattle.sweep.specs.declared.trial.Fate.TheVariants as fate
use Rattle.trial_world.specs.Sweeps.{AreNumbers}
use Rattle.hijack_laws.specs.SubPrefix.{AreRoundsFor, is_hijacked}
use Rattle.hijack_laws.proofs.Hijacked.{at, hijacked}
use Rattle.traces_end.proofs.Leading.{listed_prefix}
use Rattle.swept_hijacks.specs.Numbers.{IsHijackedBy, OnlyAdds}
use Rattle.swept_hijacks.proofs.Counted.{fewer_many}

-- ---- more numbers taken for ASes
module _ (t : World) (has_as : ℕ → Bool) (inside : (a : ℕ) → has (topology t) a ≡ true → has_as a ≡ true) where
  unlinked : (a : ℕ) → has (topology t) a ≡ false → (n : ℕ) → relation (topology t) a n ≡ None
  unlinked a gone n = by (relation (topology t) a n) refl
    where
      by : (o : Option Rel) → relation (topology t) a n ≡ o → o ≡ None
      by None e = refl
      by (Some r) e = absurd (true≢false (sym (linked_end (topology t) n a (converse r) (relation_mutual (topology t) a n ∙ ap (option_map converse) e)) ∙ gone))

  grown : (p : PrefixValue) (round : ℕ) (before f : ℕ → Option Entry) → IsStable (setting_of t p) (seeds_of t.plan round p before) f → IsStable (at has_as (relation (topology t)) (kind_at t) (state_of t.payloads) p) (seeds_of t.plan round p before) f
  grown p round before f stable = record { only_ases = λ a away. nothing a away (has (topology t) a) refl; right = λ a there. right_at a (has (topology t) a) refl }
    where
      nothing : (a : ℕ) → has_as a ≡ false → (b : Bool) → has (topology t) a ≡ b → f a ≡ None
      nothing a away true e = absurd (true≢false (sym (inside a e) ∙ away))
      nothing a away false e = stable.only_ases a e

      right_at : (a : ℕ) (b : Bool) → has (topology t) a ≡ b → IsRightWith (at has_as (relation (topology t)) (kind_at t) (state_of t.payloads) p) (seeds_of t.plan round p before) f a (f a)
      right_at a true e = stable.right a e
      right_at a false e =
          lone_right (at has_as (relation (topology t)) (kind_at t) (state_of t.payloads) p) (seeds_of t.plan round p before) f a
          (unseeded t.plan t.kinds a (gone_unnamed (topology t) t.plan t.kinds a refl e) round p before) (unlinked a e) (stable.only_ases a e)

  grown_rounds : (round : ℕ) (addr : AddrValue) (numbers : Fate → ℕ) (n : AreNumbers t round addr numbers) → AreRoundsFor addr (at has_as (relation (topology t)) (kind_at t) (state_of t.payloads)) t.plan round n.held
  grown_rounds round addr numbers n r p less known it = grown p (suc r) (n.held r p) (n.held (suc r) p) (n.stable r p less known it)

delivered : (e : End) (x : ℕ) → (same_end.ghosts).eq e (the_end.At x) ≡ true → e ≡ the_end.At x
delivered (the_end.At y) x is = ap the_end.At (eqb-true y x is)
delivered the_end.NoRoute x is = absurd (true≢false (sym is))
delivered the_end.Loop x is = absurd (true≢false (sym is))

module _ (longest : LongestIsSent) (v : World) (kinds : fin.FinMap nat_cmp Kind) (has_as : ℕ → Bool) (v_in : (a : ℕ) → has (topology v) a ≡ true → has_as a ≡ true) (u_in : (a : ℕ) → has (topology (record v { kinds = kinds })) a ≡ true → has_as a ≡ true)
    (before : ℕ) (addr : AddrValue) (q : PrefixValue) (x : ℕ) (hijacker : IsHijackedBy has_as v (suc before) addr q x) (adds : OnlyAdds (kind_at v) (kind_at (record v { kinds = kinds })))
    (numbers later : Fate → ℕ) (n : AreNumbers v (suc before) addr numbers) (m : AreNumbers (record v { kinds = kinds }) (suc before) addr later) where
  abbrev u : World
  u = record v { kinds = kinds }

  abbrev next : ℕ → Hop
  next = next_hop v.plan (n.held (suc before)) addr

  -- who is no AS has no route
  lost : (a : ℕ) → has (topology v) a ≡ false → next a ≡ NoRoute
  lost a gone = by (sent_by v.plan (n.held (suc before)) addr a) refl
    where
      by : (o : Option PrefixValue) → sent_by v.plan (n.held (suc before)) addr a ≡ o → next a ≡ NoRoute
      by None is = ap (hop_by v.plan (n.held (suc before)) a) is
      by (Some p) is =
          let can : CanSendBy v.plan (n.held (suc before)) addr a p = ((longest v.plan (n.held (suc before)) addr a).0 p is).0 in
          absurd (true≢false (sym can.entry ∙ ap is_some ((n.stable before p (omega arith) (listed_prefix v.plan p can.known) can.holds_it).only_ases a gone)))

  there : (a c : ℕ) → Ends next a (the_end.At c) → (b : Bool) → has (topology v) a ≡ b → has (topology v) a ≡ true
  there a c ends true is = is
  there a c ends false is = absurd (let k : the_end.At c ≡ the_end.NoRoute = one_end next a the_end.NoRoute (the_end.At c) (ends_lost next a (lost a is)) ends in cc)

  came : (a : ℕ) → has (topology u) a ≡ true → (same_end.ghosts).eq (m.ends a) (the_end.At x) ≡ true → (has (topology v) a ≡ true) × ((same_end.ghosts).eq (n.ends a) (the_end.At x) ≡ true)
  came a here is =
      let (walk, trace) = m.traces a here in
      let (c, announced, ends) = hijacked longest has_as (relation (topology v)) (relation_mutual (topology v)) (λ a b r e. v_in b (linked_end (topology v) a b r e)) (ases (topology v)) (topology-AreLinks (topology v))
      (λ xs cycle. hijacker.no_cycle (xs, cycle)) (kind_at v) (kind_at u) adds.else_same adds.added (state_of v.payloads) v.plan hijacker.sound before hijacker.quiet n.held m.held addr q
      (grown_rounds v has_as v_in (suc before) addr numbers n) (grown_rounds u has_as u_in (suc before) addr later m) hijacker.hijack a walk (m.ends a) trace (ap (is_hijacked v.plan q) (delivered (m.ends a) x is) ∙ hijacker.announced) in
      let at_v = there a c ends (has (topology v) a) refl in
      let (way, own) = n.traces a at_v in
      let same : n.ends a ≡ the_end.At x = one_end next a (the_end.At c) (n.ends a) ends (trace_ends next a way (n.ends a) own) ∙ ap the_end.At (hijacker.alone c announced) in
      (at_v, ap (λ e. (same_end.ghosts).eq e (the_end.At x)) same ∙ eq-eqb x x refl)

  pub fall : later (fate.At x) ≤ numbers (fate.At x)
  fall =
      let le = fewer_many v u (λ a. (same_end.ghosts).eq (n.ends a) (the_end.At x)) (λ a. (same_end.ghosts).eq (m.ends a) (the_end.At x)) came in
      omega (arith, le, n.counted (fate.At x), m.counted (fate.At x))
