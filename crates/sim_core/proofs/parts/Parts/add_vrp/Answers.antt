use Rattle.std.proofs.Common.{◌≡◌, ◌∙◌, ℕ, true, inl, Err, refl, sym, ap, subst}
use Rattle.as_graph.specs.Topology.{Topology, relation}
use Rattle.net_names.specs.Coverage.{covers}
use Rattle.net_names.specs.Prefixes.{PrefixValue}
use Rattle.policy_kinds.specs.Kinds.{kind_policy}
use Rattle.roa_table.specs.Sets.{Payloads, taken}
use Rattle.stability_laws.specs.Book.{policy_at}
use Rattle.leak_round.specs.Rounds.{kept, plan_of, round_count}
use Rattle.scenario_text.specs.declared.acts.Edit.TheVariants.{VrpAdd}
use Rattle.sim_core.specs.Ground.{BelongTo}
use Rattle.sim_core.specs.Views.{world_seen}
use Rattle.sim_core.specs.World.{topology}
use Rattle.sim_core.proofs.Doing.{belongs, changed_done, seen_undone}
use Rattle.sim_core.proofs.Grounds.{quick_by}
use Rattle.sim_core.proofs.PayloadEdits.{added_again, added_taken, no_changes, no_steps, payload_allowed, reads_kind, too_many_payloads, vrps_undone, with_payloads}
use Rattle.sim_core.proofs.parts.Parts.add_vrp.Goals as goal

pub returns-then-has : goal.returns-then-has
returns-then-has g c =
    let s = c.args.self.now in
    let world = ap (λ (p : Payloads). with_payloads (world_seen s) p) (sym (added_again s.vrps c.args.vrp (sym c.if-has.ensures))) in
    record {
      edited = record { world = world; allowed = payload_allowed s (VrpAdd c.args.vrp) s.vrps world refl c.is_small.ensures c.requires.no_cycle; right = c.requires.right; changed = no_changes (plan_of s.rounds) (round_count s.rounds) (kept s.rounds) };
      quick = no_steps (world_seen s) (world_seen s) (VrpAdd c.args.vrp) (kept s.rounds) (kept s.rounds) c.args.steps.now;
    }

pub returns-in-Err-TooMany : goal.returns-in-Err-TooMany
returns-in-Err-TooMany g c =
    let why = c.in-Err-TooMany.ensures.too_many.0 (ap (λ e. Err e) c.in-Err-TooMany.field-0-is) in
    record {
      edited = (too_many_payloads c.args.self.now c.args.vrp c.is_small.ensures why.0 why.1, vrps_undone c.args.self.now _ refl refl c.in-Err-TooMany.ensures.err (record { ranks = refl; rounds = refl; watched = refl; watches = refl }));
      quick = tt;
    }

pub change_with-requires-clause-from : goal.change_with-requires-clause-from
change_with-requires-clause-from g c =
    let s = c.args.self.now in
    let back : taken c.add.new.self c.args.vrp ≡ s.vrps = ap (λ (p : Payloads). taken p c.args.vrp) c.in-Ok.ensures.ok ∙ added_taken s.vrps c.args.vrp (sym c.if-has.ensures) in
    subst (λ (p : Payloads). BelongTo (record { graph = s.graph; payloads = p; book = s.book }) s.ranks s.rounds s.watches.items) (sym back) (belongs s c.requires.right c.requires.no_cycle)

pub returns-in-Ok-change_with : goal.returns-in-Ok-change_with
returns-in-Ok-change_with g c =
    let s = c.args.self.now in
    let now = c.change_with.new.self in
    let e = VrpAdd c.args.vrp in
    let is = c.in-Ok-change_with.ensures.changed in
    let world = ap (λ (p : Payloads). with_payloads (world_seen s) p) c.in-Ok.ensures.ok in
    record {
      edited = changed_done s _ now e c.in-Ok-change_with.changed.routes world (record { ranks = refl; rounds = refl; watched = refl; watches = refl })
          (payload_allowed s e c.add.new.self world refl c.is_small-2.ensures c.requires.no_cycle) is;
      quick = quick_by s now.rounds (relation s.graph) (relation (topology (world_seen now))) e c.args.steps.now c.change_with.new.steps (λ (p : PrefixValue) (a : ℕ). (covers c.args.vrp.prefix p ≡ true) × ((kind_policy (policy_at s.book a)).reads_state ≡ true)) (ap relation (sym is.graph))
          (λ x n there. record { from = n.from; to = n.to; known = n.known; counts = inl (there.0, reads_kind s x.1.1 there.1) }) c.in-Ok-change_with.ensures.quick;
    }

pub returns-in-Err : goal.returns-in-Err
returns-in-Err g c =
    let s = c.args.self.now in
    let same = c.in-Err.ensures.err in
    let vrps : c.take.new.self ≡ s.vrps = c.take.ensures.gone ∙ (ap (λ (p : Payloads). taken p c.args.vrp) (same.vrps ∙ c.in-Ok.ensures.ok) ∙ added_taken s.vrps c.args.vrp (sym c.if-has.ensures)) in
    record { edited = (tt, seen_undone s _ (ap (λ (t : Topology). t.links) same.graph) vrps same.book same.watched same.alike); quick = tt }
