-- The numbers of ASes with each fate in a world: there is one of each, and what is kept has it.
use Rattle.std.proofs.Common.{◌≡◌, ℕ, zero, suc, ◌<◌, ◌≤◌, ◌&&◌, ◌||◌, Bool, true, false, not, cond, is_some, true≢false, Option, None, List, refl, sym, ap, subst, ◌∙◌, arith}
use Rattle.std.specs.Prelude.{count_by, if◌then◌else◌}
use Rattle.std.specs.FinMap as fin
use Rattle.std.specs.FinSet as set
use Rattle.std.specs.Ordering.{nat_cmp}
use Rattle.std.proofs.lemmas.Bool.{and_parts}
use Rattle.net_names.specs.Addresses.{AddrValue}
use Rattle.net_names.specs.Coverage.{holds}
use Rattle.net_names.specs.Numbers.{occurs}
use Rattle.net_names.specs.Prefixes.{PrefixValue}
use Rattle.as_graph.specs.Hierarchy.{HasNoProviderCycle}
use Rattle.as_graph.specs.Topology.{Topology, has, relation, unmarked}
use Rattle.policy_kinds.specs.Kinds.{kind_policy}
use Rattle.policy_kinds.specs.declared.kind.Kind.{Kind}
use Rattle.policy_kinds.specs.declared.kind.Kind.TheVariants.{Plain}
use Rattle.origin_validation.specs.Judging.{state_of}
use Rattle.stability_laws.specs.Book.{PolicyBook, policy_at}
use Rattle.stability_laws.specs.Laws.{OneStableRouting, RightFollows}
use Rattle.stability_laws.specs.Plans.{IsSound, Plan, announcers_of, has_prefix}
use Rattle.stability_laws.specs.Rounds.{seeds_of}
use Rattle.stability_laws.specs.Stable.{IsStable}
use Rattle.stability_laws.specs.World.{setting}
use Rattle.stability_laws.specs.declared.entry.Entry.{Entry}
use Rattle.stability_laws.specs.declared.entry.Seed.{Seed}
use Rattle.data_trace.specs.Hops.{next_hop}
use Rattle.data_trace.specs.Traces.{IsTrace}
use Rattle.data_trace.specs.contracts.kinds.EndPartialEq.TheImpl as same_end_test
use Rattle.data_trace.specs.declared.kinds.End.TheVariants as the_end
use Rattle.data_trace.specs.declared.kinds.Hop.{Hop}
use Rattle.sweep.specs.declared.trial.Fate.{Fate}
use Rattle.sim_core.specs.Counting.{how_many}
use Rattle.sim_core.specs.Families.{Family}
use Rattle.sim_core.specs.Kept.{IsKept, Kept}
use Rattle.sim_core.specs.Lent.{IsGraphOf}
use Rattle.sim_core.specs.Loaded.{is_other}
use Rattle.sim_core.specs.World.{World, has_round, setting_of, topology}
use Rattle.trial_world.specs.Fixed.{AreLone, IsFixed, IsPlanFor, is_lone, is_named, world_of}
use Rattle.trial_world.specs.Sweeps.{AreNumbers, end_of, with_kinds}
use Rattle.trial_world.specs.Trials.{AreCounted, AreEndsIn, less_gone, plain_in}
use Rattle.trial_world.specs.declared.fixed.Fixed.{Fixed}
use Rattle.trial_world.proofs.NextHops.{lost_end, no_next, same_end}
use Rattle.sim_core.proofs.Families.{same_next}
use Rattle.trial_world.proofs.PartPlans.{unknown}
use Rattle.trial_world.proofs.Routings.{nothing_stable, one_to, seeds_whole, stable_moved}
use Rattle.trial_world.proofs.RowCounts.{number_is}
use Rattle.sim_core.proofs.PolicyEdits.{leakers, named_by, occurs_keys}
use Rattle.sim_core.proofs.Rows.{many_alike}
use Rattle.trial_world.proofs.TrialWorlds.{gone_is, gone_lone, kind_given, no_more}
use Rattle.sim_core.proofs.Watches.{round_within}
use Rattle.sim_core.proofs.Unnamed.{unseeded}

-- the policies of a world as a book
abbrev book_of : World → PolicyBook Kind
book_of w = record { rest = Plain; named = w.kinds; room = set.empty }

-- where there is no provider cycle there is one number of each fate
pub one_number : OneStableRouting kind_policy → (w : World) → HasNoProviderCycle (relation (topology w)) → (round : ℕ) (addr : AddrValue) (m n : Fate → ℕ) → 1 ≤ round → AreNumbers w round addr m → AreNumbers w round addr n → (f : Fate) → m f ≡ n f
one_number law w none zero addr m n some x y f = absurd (omega (arith, some))
one_number law w none (suc before) addr m n some x y f =
    x.counted f
    ∙ many_alike w (λ a. (same_end_test.ghosts).eq (x.ends a) (end_of f)) (λ a. (same_end_test.ghosts).eq (y.ends a) (end_of f)) (λ a there. ap (λ e. (same_end_test.ghosts).eq e (end_of f)) (ends a there))
    ∙ sym (y.counted f)
  where
    held : (p : PrefixValue) → has_prefix w.plan p ≡ true → holds p addr ≡ true → (a : ℕ) → x.held (suc before) p a ≡ y.held (suc before) p a
    held p known over = one_to law (topology w) (book_of w) (state_of w.payloads p) w.plan p (suc before) (λ r. x.held r p) (λ r. y.held r p) none
        (λ b less. x.stable b p less known over) (λ b less. y.stable b p less known over) before (omega arith)

    ends : (a : ℕ) → has (topology w) a ≡ true → x.ends a ≡ y.ends a
    ends a there =
        let (xs, t) = x.traces a there in
        let (ys, u) = y.traces a there in
        same_end (next_hop w.plan (x.held (suc before)) addr) (next_hop w.plan (y.held (suc before)) addr) (λ b. same_next w.plan (x.held (suc before)) (y.held (suc before)) addr b (λ p known over. held p known over b)) a xs ys (x.ends a) (y.ends a) t u

-- what is kept of a world has these numbers
pub kept_numbers : (w : World) (k : Kept) (round : ℕ) (addr : AddrValue) → IsKept w k → has_round w round ≡ true → set.contains w.watched addr ≡ true → AreNumbers w round addr (λ f. how_many w (λ a. (same_end_test.ghosts).eq (k.ends round addr a) (end_of f)))
kept_numbers w k round addr kept there watched = record {
  held = k.routings;
  ends = k.ends round addr;
  stable = λ r p less known over. kept.routings.is r p (let (low, high) = round_within w.rounds round there in omega (arith, less, high)) known;
  traces = λ a here. kept.ends round addr a there watched here;
  counted = λ f. refl;
}

-- who is lone has no seed
lone_unseeded : (g : Topology) (plan : Plan) (a : ℕ) → is_lone g plan a ≡ true → (round : ℕ) (p : PrefixValue) (f : ℕ → Option Entry) → seeds_of plan round p f a ≡ None
lone_unseeded g plan a lone = unseeded plan fin.empty a (named_by plan fin.empty a ∙ ap (λ t. occurs a (announcers_of plan) || (occurs a (leakers plan) || t)) (occurs_keys fin.empty a ∙ ap is_some (fin.get-empty nat_cmp a)) ∙ by (occurs a (announcers_of plan)) (occurs a (leakers plan)) (and_parts (not (has (unmarked g.links) a)) (not (is_named plan a)) lone).1)
  where
    by : (x y : Bool) → not (x || y) ≡ true → (x || (y || false)) ≡ false
    by true y h = absurd (true≢false (sym h))
    by false true h = absurd (true≢false (sym h))
    by false false h = refl

module _ (right : RightFollows kind_policy) (w : World) (g : Topology) (is : IsGraphOf w g) (book : PolicyBook Kind) (addr : AddrValue) (before : ℕ) (part : Plan) (sound : IsSound part) (are : IsPlanFor addr (suc before) w.plan part) (lone : List ℕ) (lone_are : AreLone g w.plan lone) (number : Fate → ℕ) (of : AreEndsIn g w.payloads book w.plan part (suc before) addr number) where
  abbrev v : World
  v = with_kinds w (policy_at book)

  there : (a : ℕ) → has g a ≡ has (topology w) a
  there a = ap (λ (t : Topology). has t a) is

  fewer : (a : ℕ) → has (topology v) a ≡ true → has g a ≡ true
  fewer a h = there a ∙ no_more w (policy_at book) a h

  kinds : (a : ℕ) → has g a ≡ true → policy_at book a ≡ policy_at (book_of v) a
  kinds a h = sym (kind_given w (policy_at book) a ∙ ap (λ t. if t then policy_at book a else Plain) (sym (there a) ∙ h))

  -- what is held of the prefixes of the part; of others nothing
  abbrev held : Family
  held r p = cond (has_prefix part p) (of.held r p) (λ a. None)

  stable_at : (r : ℕ) (p : PrefixValue) → r < suc before → has_prefix w.plan p ≡ true → holds p addr ≡ true → IsStable (setting_of v p) (seeds_of w.plan (suc r) p (held r p)) (held (suc r) p)
  stable_at r p less known over = by (has_prefix part p) refl
    where
      C : Bool → Type 0
      C t = IsStable (setting_of v p) (seeds_of w.plan (suc r) p (cond t (of.held r p) (λ a. None))) (cond t (of.held (suc r) p) (λ a. None))

      by : (t : Bool) → has_prefix part p ≡ t → C (has_prefix part p)
      by true e = subst C (sym e)
          (stable_moved right g (topology v) book (book_of v) (ap (λ (t : Topology). t.links) is) kinds fewer (state_of w.payloads p) (seeds_of w.plan (suc r) p (of.held r p)) (of.held (suc r) p)
          (λ a here gone. lone_unseeded (topology w) w.plan a (gone_lone w (policy_at book) a (sym (there a) ∙ here) gone) (suc r) p (of.held r p))
          (subst (λ (s : ℕ → Option Seed). IsStable (setting kind_policy g book (state_of w.payloads p)) s (of.held (suc r) p)) (λ i a. seeds_whole addr (suc before) w.plan part are r less p over (of.held r p) a i) (of.stable r p less e)))
      by false e = subst C (sym e) (nothing_stable (setting_of v p) w.plan p (suc r) (λ a. sym (are.announced p a over) ∙ unknown part sound p a e))

  same_hop : (a : ℕ) → next_hop w.plan (of.held (suc before)) addr a ≡ next_hop w.plan (held (suc before)) addr a
  same_hop a = same_next w.plan (of.held (suc before)) (held (suc before)) addr a (λ p known over. by p (has_prefix part p) refl)
    where
      by : (p : PrefixValue) (t : Bool) → has_prefix part p ≡ t → of.held (suc before) p a ≡ cond (has_prefix part p) (of.held (suc before) p) (λ b. None) a
      by p true e = sym (ap (λ (t : Bool). cond t (of.held (suc before) p) (λ b. None) a) e)
      by p false e = of.none p e a ∙ sym (ap (λ (t : Bool). cond t (of.held (suc before) p) (λ b. None) a) e)

  trace_at : (a : ℕ) → has g a ≡ true → (walk : List ℕ) × IsTrace (next_hop w.plan (held (suc before)) addr) a walk (of.ends a)
  trace_at a here =
      let (walk, trace) = of.traces a here in
      (walk, subst (λ (next : ℕ → Hop). IsTrace next a walk (of.ends a)) (λ i b. same_hop b i) trace)

  lost : (a : ℕ) → has g a ≡ true → has (topology v) a ≡ false → of.ends a ≡ the_end.NoRoute
  lost a here gone =
      let (walk, trace) = trace_at a here in
      lost_end (next_hop w.plan (held (suc before)) addr) a walk (of.ends a) (no_next w.plan (held (suc before)) addr a (λ p known over. (stable_at before p (omega arith) known over).only_ases a gone)) trace

  gone_are : (a : ℕ) → has g a ≡ true → not (has (topology v) a) ≡ (occurs a lone && not (is_other (a, policy_at book a)))
  gone_are a here =
      gone_is w (policy_at book) a (sym (there a) ∙ here)
      ∙ ap (λ t. t && not (is_other (a, policy_at book a))) (sym (lone_are.are a ∙ ap (λ t. t && is_lone g w.plan a) here ∙ ap (λ (t : Topology). is_lone t w.plan a) is))

  -- the numbers are right in the world of the trial
  pub numbers_by : AreNumbers v (suc before) addr (less_gone number (count_by (λ a. not (is_other (a, policy_at book a))) lone))
  numbers_by = record {
    held = held;
    ends = of.ends;
    stable = stable_at;
    traces = λ a h. trace_at a (fewer a h);
    counted = λ f. number_is g of.names of.listed of.apart of.ends v fewer lost lone lone_are.apart (λ a. not (is_other (a, policy_at book a))) gone_are (λ a h. (and_parts (has g a) (is_lone g w.plan a) (sym (lone_are.are a) ∙ h)).0) f (number f) (of.counted f);
  }

-- so are those of what is made for a line
pub numbers_for : RightFollows kind_policy → (f : Fixed) → IsFixed f → IsSound f.plan → (book : PolicyBook Kind) (number : Fate → ℕ) → AreEndsIn f.graph.now (world_of f).payloads book (world_of f).plan f.plan f.round f.addr number → AreCounted f book (less_gone number (plain_in f.lone.items book))
numbers_for right f is sound book number of = by f.round is.from is.plan of
  where
    by : (round : ℕ) → 1 ≤ round → IsPlanFor f.addr round (world_of f).plan f.plan → AreEndsIn f.graph.now (world_of f).payloads book (world_of f).plan f.plan round f.addr number
        → AreNumbers (with_kinds (world_of f) (policy_at book)) round f.addr (less_gone number (plain_in f.lone.items book))
    by zero some are of = absurd (omega (arith, some))
    by (suc before) some are of = numbers_by right (world_of f) f.graph.now is.graph book f.addr before f.plan sound are f.lone.items is.lone number of
