use Rattle.std.proofs.Common.{◌≡◌, ◌≢◌, ◌≤◌, ◌-◌, ◌∙◌, ◌∷◌, [], ℕ, inl, inr, true, Some, refl, sym, ap, subst, arith}
use Rattle.std.specs.Ordering.{nat_cmp}
use Rattle.std.specs.FinSet as set
use Rattle.net_names.specs.Links.{LinkMap}
use Rattle.as_graph.specs.Hierarchy.{IsRank}
use Rattle.as_graph.specs.Topology.{Topology, as_count, relation}
use Rattle.rank_order.specs.Ranks.{rank_at}
use Rattle.leak_round.specs.Limits.{IsWithinLimits}
use Rattle.leak_round.specs.Rounds.{kept as kept_rounds, plan_of, round_count}
use Rattle.leak_round.specs.Touched.{touches}
use Rattle.roa_table.specs.Sets.{Payloads}
use Rattle.stability_laws.specs.Plans.{Plan}
use Rattle.stability_laws.specs.Rounds.{seeds_of}
use Rattle.stability_laws.specs.SeedEdits.{edited}
use Rattle.sim_core.specs.Editing.{edit_of, ground_of}
use Rattle.sim_core.specs.Edits.{IsEditRefusal}
use Rattle.sim_core.specs.Ground.{BelongTo, DiffersAround}
use Rattle.sim_core.specs.Marking.{with_mark_if}
use Rattle.sim_core.specs.Views.{world_seen}
use Rattle.sim_core.specs.Watching.{HasWatches}
use Rattle.sim_core.specs.World.{graph_of, named}
use Rattle.sim_core.specs.declared.errors.EditError.{EditError}
use Rattle.sim_core.specs.declared.errors.EditError.TheVariants as refused
use Rattle.sim_core.proofs.Doing.{belongs, edit_done, seen_undone}
use Rattle.sim_core.proofs.Grounds.{quick_by}
use Rattle.sim_core.proofs.Outcomes.{edit_refused, edit_unbegun}
use Rattle.sim_core.proofs.PayloadEdits.{vrps_undone}
use Rattle.sim_core.proofs.Reseeded.{graph_back, new_allowed, new_differs, new_limits, new_links, new_named, new_no_cycle, new_refused, new_seeds, new_world, seed_differs}
use Rattle.sim_core.proofs.Watches.{has_watches}
use Rattle.sim_core.proofs.parts.Parts.edit_announcement.Goals as goal

pub returns-in_err-set_mark : goal.returns-in_err-set_mark
returns-in_err-set_mark g c =
    let s = c.args.self.now in
    let e = c.args.edit.now in
    let a = c.asn_of-asn.result in
    let t = c.is_named_after-is.result in
    let refusal = subst (λ (x : EditError). IsEditRefusal (world_seen s) (edit_of e) x) (sym c.in_err-set_mark.ensures.limit)
    (new_refused s e (edited (plan_of c.args.self.now.rounds) c.args.edit.now) a t (with_mark_if c.room_for.new.graph a t) c.requires.accepted refl c.asn_of-asn.ensures c.is_named_after-is.ensures (ap (λ (x : Topology). with_mark_if x a t) c.in_ok-room_for.ensures.ok) c.is_small.ensures c.in_err-set_mark.ensures.many) in
    edit_refused s _ _ c.in_err-set_mark.field-0.0 c.from_residual-in_err-set_mark.result _ _ c.from_residual-in_err-set_mark.ensures.1 refusal
    (vrps_undone s _ (ap (λ (x : Topology). x.links) (c.in_err-set_mark.ensures.err ∙ c.in_ok-room_for.ensures.ok)) refl refl (record { ranks = refl; rounds = refl; watched = refl; watches = refl }))

pub change-requires-clause-no_cycle : goal.change-requires-clause-no_cycle
change-requires-clause-no_cycle g c =
    let a = c.asn_of-asn.result in
    let t = c.is_named_after-is.result in
    let graph = c.in_ok-set_mark.ensures.ok ∙ ap (λ (x : Topology). with_mark_if x a t) c.in_ok-room_for.ensures.ok in
    new_no_cycle c.args.self.now c.args.edit.now (edited (plan_of c.args.self.now.rounds) c.args.edit.now) a t c.set_mark.new.graph c.requires.accepted refl c.asn_of-asn.ensures c.is_named_after-is.ensures graph c.requires.editable.no_cycle

pub change-requires-clause-seeds : goal.change-requires-clause-seeds
change-requires-clause-seeds g c =
    let a = c.asn_of-asn.result in
    let t = c.is_named_after-is.result in
    let graph = c.in_ok-set_mark.ensures.ok ∙ ap (λ (x : Topology). with_mark_if x a t) c.in_ok-room_for.ensures.ok in
    new_seeds c.args.self.now c.args.edit.now (edited (plan_of c.args.self.now.rounds) c.args.edit.now) a t c.set_mark.new.graph c.requires.accepted refl c.asn_of-asn.ensures c.is_named_after-is.ensures graph (Some c.args.edit.now) refl

pub change-requires-clause-from : goal.change-requires-clause-from
change-requires-clause-from g c =
    let s = c.args.self.now in
    let a = c.asn_of-asn.result in
    let t = c.is_named_after-is.result in
    let graph = c.in_ok-set_mark.ensures.ok ∙ ap (λ (x : Topology). with_mark_if x a t) c.in_ok-room_for.ensures.ok in
    let belong = belongs s c.requires.editable.right c.requires.editable.no_cycle in
    let differs = new_differs s c.args.edit.now (edited (plan_of c.args.self.now.rounds) c.args.edit.now) a t c.set_mark.new.graph c.requires.accepted refl c.asn_of-asn.ensures c.is_named_after-is.ensures graph c.ases_are_kept.ensures c.right_follows.ensures c.links_are_sound.ensures belong (touches c.in_ok-touched.touched) c.in_ok-touched.ensures.this in
    (ground_of s, belong, subst (λ (v : Payloads). DiffersAround (ground_of s) (record { graph = c.set_mark.new.graph; payloads = v; book = s.book }) s.rounds (a ∷ []) (touches c.in_ok-touched.touched)) (sym c.of-states.ensures) differs)

pub change-requires-clause-stay : goal.change-requires-clause-stay
change-requires-clause-stay g c =
    let s = c.args.self.now in
    let a = c.asn_of-asn.result in
    let t = c.is_named_after-is.result in
    let graph = c.in_ok-set_mark.ensures.ok ∙ ap (λ (x : Topology). with_mark_if x a t) c.in_ok-room_for.ensures.ok in
    let links = new_links s c.args.edit.now (edited (plan_of s.rounds) c.args.edit.now) a t c.set_mark.new.graph c.requires.accepted refl c.asn_of-asn.ensures c.is_named_after-is.ensures graph in
    λ _ x. subst (λ (l : LinkMap). IsRank (relation (graph_of l c.set_mark.new.graph.marked)) x (rank_at s.ranks x)) (sym links) ((belongs s c.requires.editable.right c.requires.editable.no_cycle).ranks_are x)

pub invariant_of-self-in-Ok-1 : goal.invariant_of-self-in-Ok-1
invariant_of-self-in-Ok-1 g c =
    let s = c.args.self.now in
    let a = c.asn_of-asn.result in
    let t = c.is_named_after-is.result in
    let graph = c.in_ok-set_mark.ensures.ok ∙ ap (λ (x : Topology). with_mark_if x a t) c.in_ok-room_for.ensures.ok in
    let plan : plan_of c.change.new.rounds ≡ (edited (plan_of c.args.self.now.rounds) c.args.edit.now) = c.in-Ok.ensures.plan in
    record {
      named = new_named s c.args.edit.now (edited (plan_of c.args.self.now.rounds) c.args.edit.now) a t c.set_mark.new.graph c.requires.accepted refl c.asn_of-asn.ensures c.is_named_after-is.ensures graph
          ∙ ap (λ (p : Plan). graph_of c.set_mark.new.graph.links (set.from_list {R = nat_cmp} (named p s.book.named))) (sym plan);
      plain = s.plain;
      other = s.other;
      small = subst IsWithinLimits (sym plan) (new_limits s c.args.edit.now (edited (plan_of c.args.self.now.rounds) c.args.edit.now) a t c.set_mark.new.graph c.requires.accepted refl c.asn_of-asn.ensures c.is_named_after-is.ensures graph);
      few = subst (λ (n : ℕ). n ≤ 4) (sym c.change.ensures.count) s.few;
      closed = c.change.ensures.closed;
      reading = s.reading;
      once = s.once;
      watching = subst (λ (n : ℕ). HasWatches n s.watched.items c.change.new.watches.items) (sym c.change.ensures.count) (has_watches (round_count s.rounds) s.watched.items s.watches.items c.change.new.watches.items c.change.ensures.addrs s.watching);
    }

pub set_mark_back-requires-clause-few : goal.set_mark_back-requires-clause-few
set_mark_back-requires-clause-few g c =
    let s = c.args.self.now in
    let a = c.asn_of-asn.result in
    let graph = c.in_ok-set_mark.ensures.ok ∙ ap (λ (x : Topology). with_mark_if x a c.is_named_after-is.result) c.in_ok-room_for.ensures.ok in
    let was = c.is_named-was.ensures in
    subst (λ (x : Topology). as_count x ≤ 150000) (sym (graph_back s a c.is_named_after-is.result c.is_named-was.result c.set_mark.new.graph (with_mark_if c.set_mark.new.graph a c.is_named-was.result) was graph refl)) c.is_small.ensures.ases

pub invariant_of-self-in-Err : goal.invariant_of-self-in-Err
invariant_of-self-in-Err g c =
    let s = c.args.self.now in
    let a = c.asn_of-asn.result in
    let alike = c.in-Err.ensures.err in
    let graph = c.in_ok-set_mark.ensures.ok ∙ ap (λ (x : Topology). with_mark_if x a c.is_named_after-is.result) c.in_ok-room_for.ensures.ok in
    let was = c.is_named-was.ensures in
    let back = graph_back s a c.is_named_after-is.result c.is_named-was.result c.set_mark.new.graph c.set_mark_back.new.graph was graph c.set_mark_back.ensures in
    record {
      named = subst (λ (x : Topology × Plan). graph_of x.0.links x.0.marked ≡ graph_of x.0.links (set.from_list {R = nat_cmp} (named x.1 s.book.named))) (λ i. (sym back i, sym alike.plan i)) s.named;
      plain = s.plain;
      other = s.other;
      small = subst IsWithinLimits (sym alike.plan) s.small;
      few = subst (λ (n : ℕ). n ≤ 4) (sym alike.count) s.few;
      closed = c.change.ensures.closed;
      reading = s.reading;
      once = s.once;
      watching = subst (λ (n : ℕ). HasWatches n s.watched.items c.change.new.watches.items) (sym alike.count) (has_watches (round_count s.rounds) s.watched.items s.watches.items c.change.new.watches.items c.change.ensures.addrs s.watching);
    }

pub returns-in-Ok : goal.returns-in-Ok
returns-in-Ok g c =
    let s = c.args.self.now in
    let e = c.args.edit.now in
    let a = c.asn_of-asn.result in
    let t = c.is_named_after-is.result in
    let now = c.set_mark.new.graph in
    let graph = c.in_ok-set_mark.ensures.ok ∙ ap (λ (x : Topology). with_mark_if x a t) c.in_ok-room_for.ensures.ok in
    let links = new_links s e (edited (plan_of c.args.self.now.rounds) c.args.edit.now) a t now c.requires.accepted refl c.asn_of-asn.ensures c.is_named_after-is.ensures graph in
    let world = new_world s e (edited (plan_of c.args.self.now.rounds) c.args.edit.now) a t now c.requires.accepted refl c.asn_of-asn.ensures c.is_named_after-is.ensures graph in
    let few : as_count now ≤ 150000 = omega (arith, c.as_count-count.ensures.value, c.as_count-count.ensures.few) in
    let allowed = new_allowed s e (edited (plan_of c.args.self.now.rounds) c.args.edit.now) a t now c.requires.accepted refl c.asn_of-asn.ensures c.is_named_after-is.ensures graph c.is_small.ensures few c.requires.editable.no_cycle in
    let plan : plan_of c.change.new.rounds ≡ (edited (plan_of c.args.self.now.rounds) c.args.edit.now) = c.in-Ok.ensures.plan in
    record {
      edited = edit_done s _ (edit_of e) c.in-Ok.changed.routes
          ((λ i. record { links = links i; payloads = s.vrps; kinds = s.book.named; plan = plan i; rounds = c.change.ensures.count i; watched = set.from_list s.watched.items }) ∙ world)
          allowed
          (subst (λ (v : Payloads). BelongTo (record { graph = now; payloads = v; book = s.book }) c.change.new.ranks c.change.new.rounds c.change.new.watches.items) c.of-states.ensures c.in-Ok.ensures.belong)
          c.in-Ok.ensures.changed;
      quick = quick_by s c.change.new.rounds (relation now) (relation now) (edit_of e) c.args.steps.now c.change.new.steps (λ p x. touches c.in_ok-touched.touched p x ≡ true) refl
          (λ x n there.
          let (out, prefix_is, asn_is) = c.in_ok-touched.ensures.only x.1.0 x.1.1 there in
          record {
            from = n.from;
            to = n.to;
            known = n.known;
            counts = inr (inl (subst (λ (q : Plan). seeds_of q x.0 x.1.0 (kept_rounds c.change.new.rounds (x.0 - 1) x.1.0) x.1.1 ≢ seeds_of (plan_of s.rounds) x.0 x.1.0 (kept_rounds s.rounds (x.0 - 1) x.1.0) x.1.1) (sym plan)
                (seed_differs s e (edited (plan_of c.args.self.now.rounds) c.args.edit.now) a t now c.requires.accepted refl c.asn_of-asn.ensures c.is_named_after-is.ensures graph x.0 (kept_rounds c.change.new.rounds (x.0 - 1) x.1.0) (kept_rounds s.rounds (x.0 - 1) x.1.0) x.1.0 x.1.1 out prefix_is asn_is)));
          })
          c.in-Ok.ensures.quick;
    }

pub returns : goal.returns
returns g c =
    let s = c.args.self.now in
    let a = c.asn_of-asn.result in
    let graph = c.in_ok-set_mark.ensures.ok ∙ ap (λ (x : Topology). with_mark_if x a c.is_named_after-is.result) c.in_ok-room_for.ensures.ok in
    let was = c.is_named-was.ensures in
    let back = graph_back s a c.is_named_after-is.result c.is_named-was.result c.set_mark.new.graph c.set_mark_back.new.graph was graph c.set_mark_back.ensures in
    record { edited = (tt, seen_undone s _ (ap (λ (t : Topology). t.links) back) refl refl refl c.in-Err.ensures.err); quick = tt }

pub returns-in_err-touched : goal.returns-in_err-touched
returns-in_err-touched g c = edit_unbegun c.args.self.now _ c.from_residual.result _ _ c.from_residual.ensures.1

pub returns-in_err-room_for : goal.returns-in_err-room_for
returns-in_err-room_for g c =
    let s = c.args.self.now in
    edit_refused s _ _ refused.Memory c.from_residual-in_err-room_for.result _ _ c.from_residual-in_err-room_for.ensures.1 tt (vrps_undone s _ (ap (λ (x : Topology). x.links) c.in_err-room_for.ensures.err) refl refl (record { ranks = refl; rounds = refl; watched = refl; watches = refl }))
