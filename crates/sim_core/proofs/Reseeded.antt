-- What an edit of an announcement makes of a simulation.
use Rattle.std.proofs.Common.{◌≡◌, ◌≢◌, ◌⊎◌, inl, inr, ◌<◌, ◌≤◌, ◌==◌, ◌||◌, ◌&&◌, nat_lt, ℕ, suc, Bool, true, false, IsTrue, cond, is_some, Option, List, [], ◌∷◌, None, Some, refl, sym, ap, subst, ◌∙◌}
use Rattle.std.proofs.lemmas.Bool.{eq-eqb, eqb-true, or_left, true≢false}
use Rattle.std.specs.Ordering.{eq_by_cmp, nat_cmp}
use Rattle.std.specs.FinMap as fin
use Rattle.std.specs.FinSet as set
use Rattle.net_names.specs.Links.{LinkMap}
use Rattle.net_names.specs.Numbers.{occurs}
use Rattle.net_names.specs.Prefixes.{PrefixValue, prefix_cmp}
use Rattle.as_graph.specs.Edits.{AsesAreKept, LinksAreSound}
use Rattle.net_names.specs.declared.routes.Rel.{Rel}
use Rattle.origin_validation.specs.Judging.{state_of}
use Rattle.policy_kinds.specs.Kinds.{kind_policy}
use Rattle.stability_laws.specs.Laws.{RightFollows}
use Rattle.stability_laws.specs.Rounds.{seed_given, seeds_of}
use Rattle.stability_laws.specs.Stable.{IsRight, IsStable}
use Rattle.stability_laws.specs.World.{setting}
use Rattle.stability_laws.specs.declared.entry.Entry.{Entry}
use Rattle.stability_laws.proofs.KeyLists.{eq_is, eq_same}
use Rattle.net_names.specs.Orders.{announcement_total, exact_announcement, exact_prefix, prefix_total}
use Rattle.as_graph.specs.Hierarchy.{HasNoProviderCycle, IsProviderCycle}
use Rattle.as_graph.specs.Room.{with_room}
use Rattle.as_graph.specs.Topology.{Topology, as_count, has, relation}
use Rattle.stability_laws.specs.Plans.{Plan, announced_path, announcer_of, announcers_of, announces, has_prefix, leaks_in, with_announcement}
use Rattle.stability_laws.specs.SeedEdits.{IsEditOf, IsEditWithin, edit_asn, edit_prefix, edited as edited_plan}
use Rattle.stability_laws.specs.declared.seed_plan.edits.SeedEdit.{SeedEdit}
use Rattle.stability_laws.specs.declared.seed_plan.edits.SeedEdit.TheVariants.{Announce, Withdraw}
use Rattle.leak_round.specs.Edited.{plan_edited}
use Rattle.leak_round.specs.Limits.{IsWithinLimits}
use Rattle.leak_round.specs.Rounds.{kept as kept_rounds, plan_of, round_count}
use Rattle.sim_core.specs.Editing.{IsSeedEdit, IsSmall, edit_of, ground_of}
use Rattle.sim_core.specs.Edits.{IsAllowed, absent, edited, refusal_of_edit}
use Rattle.sim_core.specs.Ground.{BelongTo, DiffersAround, Ground, IsRightOn, IsSeedChange}
use Rattle.sim_core.specs.Marking.{with_mark_if}
use Rattle.sim_core.specs.Views.{world_seen}
use Rattle.sim_core.specs.World.{World, HasCycle, graph_of, named, topology}
use Rattle.sim_core.specs.declared.errors.EditError.TheVariants as refused
use Rattle.sim_core.specs.declared.errors.EditLimit.TheVariants.{Ases}
use Rattle.sim_core.specs.declared.parts.Parts.{Parts}
use Rattle.sim_core.proofs.LinkEdits.{limit_ases}
use Rattle.sim_core.proofs.Announcers.{announcer_there, is_announcer}
use Rattle.sim_core.proofs.Doing.{allowed_by, no_limit}
use Rattle.sim_core.proofs.Grounds.{seller}
use Rattle.sim_core.proofs.PolicyEdits.{Kinds, named_by}
use Rattle.sim_core.proofs.Unnamed.{is_named, gone_unnamed, lone_nothing, lone_right, unannounced, unleaked, unseeded}
use Rattle.sim_core.proofs.SeedEdits.{other_prefixes, edited_leakers, edited_prefixes, edited_within, other_announcers}
use Rattle.sim_core.proofs.SeedMarks.{marks_back, marks_seeded}
use Rattle.sim_core.proofs.Standing.{lone}

-- the world with this plan of seeds
abbrev pub with_plan : World → Plan → World
with_plan w plan = record w { plan = plan }

-- which of an announcement leaves the prefixes, as the prefix is one of them
planned : (w : World) (e : SeedEdit) → IsEditOf w.plan e → with_plan w (edited_plan w.plan e) ≡ edited w (edit_of e)
planned w (Announce prefix path) known = ap (λ (s : set.FinSet prefix_cmp). with_plan w (record w.plan { prefixes = s; announced = fin.insert w.plan.announced (prefix, announcer_of path) path })) (edited_prefixes w.plan (Announce prefix path) known)
planned w (Withdraw prefix a) known = refl

others_there : AsesAreKept → (g : Topology) (a x : ℕ) (t : Bool) → x ≢ a → has (with_mark_if g a t) x ≡ has g x
others_there ases g a x true other = ases.marked g a x ∙ ap (λ b. b || has g x) (unlike (x == a) refl)
  where
    unlike : (b : Bool) → (x == a) ≡ b → (x == a) ≡ false
    unlike false e = e
    unlike true e = absurd (other (eqb-true x a e))
others_there ases g a x false other = ases.other_marks g a x other

-- the mark given back
pub graph_back : (s : Parts) (a : ℕ) (t was : Bool) (mid last : Topology) → was ≡ set.contains (set.from_list {R = nat_cmp} (named (plan_of s.rounds) s.book.named)) a → mid ≡ with_mark_if (with_room s.graph a a) a t → last ≡ with_mark_if mid a was → last ≡ with_room s.graph a a
graph_back s a t was mid last is first second =
    let marks = ap (λ (g : Topology). g.marked) s.named in
    let there : was ≡ set.contains s.graph.marked a = is ∙ sym (ap (λ (m : set.FinSet nat_cmp). set.contains m a) marks) in
    second ∙ ap (λ (g : Topology). with_mark_if g a was) first ∙ (λ i. record { links = s.graph.links; marked = marks_back s.graph.marked a t was there i; room = Some (a, a) })

-- who announces nothing and does not leak has no seed
quiet_seed : (plan : Plan) (round : ℕ) (p : PrefixValue) (f : ℕ → Option Entry) (a : ℕ) → announced_path plan p a ≡ None → leaks_in plan round a ≡ false → seeds_of plan round p f a ≡ None
quiet_seed plan round p f a quiet still = (λ i. seed_given (quiet i) (nat_lt 1 round && still i) (f a)) ∙ none (nat_lt 1 round) (f a)
  where
    none : (t : Bool) (held : Option Entry) → seed_given None (t && false) held ≡ None
    none true held = refl
    none false held = refl

some_none : {X : Type 0} (x : X) → Some x ≡ None → ⊥
some_none x e = cc

-- whoever announces is named
pub announced_named : (plan : Plan) (kinds : Kinds) (p : PrefixValue) (path : List ℕ) (a : ℕ) (old : Plan) (e : SeedEdit) → e ≡ Announce p path → plan ≡ edited_plan old e → a ≡ edit_asn e → is_named plan kinds a ≡ true
announced_named plan kinds p path a old e is plan_is a_is =
    let here : announces plan p a ≡ true =
    ap (λ (q : Plan). announces q p a) (plan_is ∙ ap (edited_plan old) is) ∙ ap (λ x. announces (with_announcement old p path) p x) (a_is ∙ ap edit_asn is)
    ∙ ap is_some (fin.get-insert announcement_total old.announced (p, announcer_of path) path (p, announcer_of path) ∙ ap (λ b. cond b (Some path) (fin.get old.announced (p, announcer_of path))) (eq_same announcement_total exact_announcement (p, announcer_of path) (p, announcer_of path) refl)) in
    named_by plan kinds a ∙ or_left (occurs a (announcers_of plan)) _ (is_announcer plan p a here)

-- a withdrawal that is not refused is of something announced
withdrawn_announced : (w : World) (e : SeedEdit) (a : ℕ) → absent w (edit_of e) ≡ None → a ≡ edit_asn e → ((p : PrefixValue) (path : List ℕ) → e ≡ Announce p path → ⊥) → announces w.plan (edit_prefix e) a ≡ true
withdrawn_announced w (Announce p path) a there a_is other = absurd (other p path refl)
withdrawn_announced w (Withdraw p b) a there a_is other = ap (announces w.plan p) a_is ∙ by (has_prefix w.plan p) (announces w.plan p b) there
  where
    by : (t u : Bool) → cond t (cond u None (Some (refused.AbsentAnnouncement p b))) (Some (refused.UnknownPrefix p)) ≡ None → u ≡ true
    by true true h = refl
    by true false h = cc
    by false u h = cc

module _ (s : Parts) (e : SeedEdit) (plan : Plan) (a : ℕ) (t : Bool) (graph : Topology) (accepted : IsSeedEdit (world_seen s) e) (plan_is : plan ≡ edited_plan (plan_of s.rounds) e) (a_is : a ≡ edit_asn e)
    (t_is : t ≡ set.contains (set.from_list {R = nat_cmp} (named plan s.book.named)) a) (graph_is : graph ≡ with_mark_if (with_room s.graph a a) a t) where
  pub new_limits : IsWithinLimits plan
  new_limits = subst IsWithinLimits (sym plan_is) (edited_within (plan_of s.rounds) e s.small accepted.known accepted.within accepted.few)

  pub new_links : graph.links ≡ s.graph.links
  new_links = ap (λ (g : Topology). g.links) graph_is

  new_marks : graph.marked ≡ set.from_list (named plan s.book.named)
  new_marks =
      ap (λ (g : Topology). g.marked) graph_is
      ∙ marks_seeded (plan_of s.rounds) plan s.book.named a (ap (λ (p : Plan). p.leakers) plan_is ∙ edited_leakers (plan_of s.rounds) e)
      (λ x other. subst (λ (p : Plan). occurs x (announcers_of p) ≡ occurs x (announcers_of (plan_of s.rounds))) (sym plan_is) (other_announcers (plan_of s.rounds) e x (λ same. other (same ∙ sym a_is))))
      s.graph.marked t t_is (ap (λ (g : Topology). g.marked) s.named)

  pub new_named : graph_of graph.links graph.marked ≡ graph_of graph.links (set.from_list (named plan s.book.named))
  new_named = ap (graph_of graph.links) new_marks

  pub new_world : with_plan (world_seen s) plan ≡ edited (world_seen s) (edit_of e)
  new_world = ap (with_plan (world_seen s)) plan_is ∙ planned (world_seen s) e accepted.known

  new_count : as_count graph ≡ as_count (topology (with_plan (world_seen s) plan))
  new_count = λ i. as_count (graph_of (new_links i) (new_marks i))

  pub new_no_cycle : (HasCycle (world_seen s) → ⊥) → HasNoProviderCycle (relation graph)
  new_no_cycle none xs is = none (xs, subst (λ (l : LinkMap). IsProviderCycle (relation (graph_of l graph.marked)) xs) new_links is)

  pub new_allowed : IsSmall s.graph s.vrps → as_count graph ≤ 150000 → (HasCycle (world_seen s) → ⊥) → IsAllowed (world_seen s) (edit_of e)
  new_allowed small few none =
      allowed_by (world_seen s) (with_plan (world_seen s) plan) (edit_of e) new_world accepted.there
      (no_limit (with_plan (world_seen s) plan) small.links new_limits.announcements (subst (λ n. n ≤ 150000) new_count few) small.payloads_in) (λ xs cycle. none (xs, cycle))

  -- there are too many ASes
  pub new_refused : IsSmall s.graph s.vrps → 150000 < as_count graph → refusal_of_edit (world_seen s) (edit_of e) ≡ Some (refused.Limit Ases)
  new_refused small many =
      limit_ases (world_seen s) (edit_of e) accepted.there
      (subst (λ (w : World). fin.len w.links ≤ 1500000) new_world small.links)
      (subst (λ (w : World). fin.len w.plan.announced ≤ 64) new_world new_limits.announcements)
      (subst (λ n. 150000 < n) (new_count ∙ ap (λ w. as_count (topology w)) new_world) many)

  -- what the routings of the edited world rest on
  abbrev pub now : Ground
  now = record { graph = graph; payloads = s.vrps; book = s.book }

  same_links : (x n : ℕ) → relation graph x n ≡ relation s.graph x n
  same_links x n = ap (λ (l : LinkMap). relation (graph_of l graph.marked) x n) new_links

  -- who is no AS has no links
  unlinked : LinksAreSound → (g : Topology) → has g a ≡ false → (n : ℕ) → relation g a n ≡ None
  unlinked sound g gone n = by (relation g a n) refl
    where
      by : (o : Option Rel) → relation g a n ≡ o → o ≡ None
      by None is = refl
      by (Some r) is = absurd (true≢false (sym (seller sound g a n r is) ∙ gone))

  -- what the AS holds is right still where it is in the graph of the edited world, or another prefix is edited
  still_right_on : RightFollows kind_policy → LinksAreSound → BelongTo (ground_of s) s.ranks s.rounds s.watches.items → (prefix : PrefixValue) → IsTrue (has_prefix (plan_of s.rounds) prefix)
      → (t ≡ false → eq_by_cmp prefix_cmp prefix (edit_prefix e) ≡ false) → IsRightOn now s.rounds prefix a
  still_right_on law sound belong prefix known other = record { right = right_here (has s.graph a) refl; none = λ before less gone. nothing_here before less gone (has s.graph a) refl }
    where
      was : (before : ℕ) → before < round_count s.rounds → IsStable (setting kind_policy s.graph s.book (state_of s.vrps prefix)) (seeds_of (plan_of s.rounds) (suc before) prefix (kept_rounds s.rounds before prefix)) (kept_rounds s.rounds (suc before) prefix)
      was before less = belong.rounds_are.stable before prefix less known

      right_here : (b : Bool) → has s.graph a ≡ b → (before : ℕ) → before < round_count s.rounds → has graph a ≡ true → IsRight (setting kind_policy graph s.book (state_of s.vrps prefix)) (seeds_of (plan_of s.rounds) (suc before) prefix (kept_rounds s.rounds before prefix)) (kept_rounds s.rounds (suc before) prefix) a
      right_here true here before less there =
          let f = kept_rounds s.rounds (suc before) prefix in
          let seeds = seeds_of (plan_of s.rounds) (suc before) prefix (kept_rounds s.rounds before prefix) in
          law s.graph graph s.book s.book (state_of s.vrps prefix) (state_of s.vrps prefix) seeds seeds f f a
          (record { links = λ n. sym (same_links a n); policy = refl; exports = λ n r at. refl; marks = λ n r at. refl; states = inr (λ origin. refl); entries = λ n r at. refl }) refl refl ((was before less).right a here)
      right_here false here before less there =
          lone_right (setting kind_policy graph s.book (state_of s.vrps prefix)) (seeds_of (plan_of s.rounds) (suc before) prefix (kept_rounds s.rounds before prefix)) (kept_rounds s.rounds (suc before) prefix) a
          (unseeded (plan_of s.rounds) s.book.named a (gone_unnamed s.graph (plan_of s.rounds) s.book.named a s.named here) (suc before) prefix (kept_rounds s.rounds before prefix))
          (λ n. same_links a n ∙ unlinked sound s.graph here n)
          ((was before less).only_ases a here)

      nothing_here : (before : ℕ) → before < round_count s.rounds → has graph a ≡ false → (b : Bool) → has s.graph a ≡ b → kept_rounds s.rounds (suc before) prefix a ≡ None
      nothing_here before less gone false here = (was before less).only_ases a here
      nothing_here before less gone true here =
          let free = gone_unnamed graph plan s.book.named a new_named gone in
          let out : t ≡ false = t_is ∙ free in
          let quiet : announced_path (plan_of s.rounds) prefix a ≡ None = sym (other_prefixes (plan_of s.rounds) e prefix (other out) a) ∙ (ap (λ (p : Plan). announced_path p prefix a) (sym plan_is) ∙ unannounced plan s.book.named a free prefix) in
          let still : leaks_in (plan_of s.rounds) (suc before) a ≡ false = ap (λ l. fin.contains_key l (suc before, a)) (sym (ap (λ (p : Plan). p.leakers) plan_is ∙ edited_leakers (plan_of s.rounds) e)) ∙ unleaked plan s.book.named a free (suc before) in
          lone_nothing (setting kind_policy s.graph s.book (state_of s.vrps prefix)) (seeds_of (plan_of s.rounds) (suc before) prefix (kept_rounds s.rounds before prefix)) (kept_rounds s.rounds (suc before) prefix) a
          (quiet_seed (plan_of s.rounds) (suc before) prefix (kept_rounds s.rounds before prefix) a quiet still)
          (λ n. sym (same_links a n) ∙ unlinked sound graph gone n)
          ((was before less).right a here)

  -- only the AS differs, and it is touched for the prefix where nothing names it any more
  pub new_differs : AsesAreKept → RightFollows kind_policy → LinksAreSound → BelongTo (ground_of s) s.ranks s.rounds s.watches.items → (touched : PrefixValue → ℕ → Bool) → (t ≡ false → touched (edit_prefix e) a ≡ true)
      → DiffersAround (ground_of s) now s.rounds (a ∷ []) touched
  new_differs ases law sound belong touched touches = record {
    presence = λ x free. ap (λ (g : Topology). has g x) graph_is ∙ others_there ases (with_room s.graph a a) a x t (λ is. true≢false (sym (ap (λ b. b || false) (eq-eqb a x (sym is))) ∙ free));
    links = λ x n free. same_links x n;
    policies = λ x free. refl;
    at_ends = λ prefix x known end. end_at prefix x known (lone a x end) t refl (eq_by_cmp prefix_cmp prefix (edit_prefix e)) refl;
    marks = λ prefix x n r known free at. refl;
    states = λ prefix x known free there. inr (λ origin is. refl);
  }
    where
      end_at : (prefix : PrefixValue) (x : ℕ) → IsTrue (has_prefix (plan_of s.rounds) prefix) → a ≡ x → (u : Bool) → t ≡ u → (b : Bool) → eq_by_cmp prefix_cmp prefix (edit_prefix e) ≡ b → (touched prefix x ≡ true) ⊎ IsRightOn now s.rounds prefix x
      end_at prefix x known same true named b eq = inr (subst (IsRightOn now s.rounds prefix) same (still_right_on law sound belong prefix known (λ out. absurd (true≢false (sym named ∙ out)))))
      end_at prefix x known same false named false eq = inr (subst (IsRightOn now s.rounds prefix) same (still_right_on law sound belong prefix known (λ out. eq)))
      end_at prefix x known same false named true eq = inl (coe 1 0 (i. touched (eq_is prefix_total exact_prefix prefix (edit_prefix e) eq i) (sym same i) ≡ true) (touches named))

  -- whoever announces something is an AS of the graph
  new_there : (p : PrefixValue) (x : ℕ) → IsTrue (announces plan p x) → has graph x ≡ true
  new_there p x h = announcer_there graph plan s.book.named new_named p x h

  pub new_seeds : (edit : Option SeedEdit) → edit ≡ Some e → IsSeedChange (plan_of s.rounds) graph (a ∷ []) edit
  new_seeds edit is = record {
    known = λ d at. subst (IsEditOf (plan_of s.rounds)) (same d at) accepted.known;
    within = λ d at. subst (IsEditWithin 64) (same d at) accepted.within;
    limits = λ d at. subst (λ (x : SeedEdit). IsWithinLimits (edited_plan (plan_of s.rounds) x)) (same d at) (subst IsWithinLimits plan_is new_limits);
    by_end = λ d at. ap (λ b. b || false) (eq-eqb a (edit_asn d) (a_is ∙ ap edit_asn (same d at)));
    announcers = λ p x h. new_there p x (ap (λ (q : Plan). announces q p x) (plan_is ∙ sym (ap (λ o. plan_edited o (plan_of s.rounds)) is)) ∙ h);
  }
    where
      same : (d : SeedEdit) → edit ≡ Some d → e ≡ d
      same d at = (let one : Some e ≡ Some d = sym is ∙ at in cc)

  -- the seed of the AS differs where nothing names it any more
  pub seed_differs : (round : ℕ) (f g : ℕ → Option Entry) (p : PrefixValue) (x : ℕ) → t ≡ false → p ≡ edit_prefix e → x ≡ a → seeds_of plan round p f x ≢ seeds_of (plan_of s.rounds) round p g x
  seed_differs round f g p x out prefix_is asn_is =
      coe 1 0 (i. seeds_of plan round (prefix_is i) f (asn_is i) ≢ seeds_of (plan_of s.rounds) round (prefix_is i) g (asn_is i)) (λ same. some_seed (was_announced out) (sym same ∙ unseeded plan s.book.named a (sym t_is ∙ out) round (edit_prefix e) f))
    where
      some_seed : (announces (plan_of s.rounds) (edit_prefix e) a ≡ true) → seeds_of (plan_of s.rounds) round (edit_prefix e) g a ≡ None → ⊥
      some_seed known none = by (announced_path (plan_of s.rounds) (edit_prefix e) a) refl known
        where
          by : (o : Option _) → announced_path (plan_of s.rounds) (edit_prefix e) a ≡ o → is_some o ≡ true → ⊥
          by None at h = true≢false (sym h)
          by (Some path) at h = some_none _ (sym (ap (λ o. seed_given o (nat_lt 1 round && leaks_in (plan_of s.rounds) round a) (g a)) at) ∙ none)

      was_announced : t ≡ false → announces (plan_of s.rounds) (edit_prefix e) a ≡ true
      was_announced gone = withdrawn_announced (world_seen s) e a accepted.there a_is (λ p path is. true≢false (sym (t_is ∙ announced_named plan s.book.named p path a (plan_of s.rounds) e is plan_is a_is) ∙ gone))
