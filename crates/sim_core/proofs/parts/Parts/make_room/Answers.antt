use Rattle.std.proofs.Common.{◌≡◌, ◌∙◌, ◌||◌, ◌==◌, ℕ, true, IsTrue, refl, sym, ap, subst}
use Rattle.std.proofs.lemmas.Bool.{eq-eqb}
use Rattle.std.specs.FinSet as set
use Rattle.as_graph.specs.Room.{is_room_with}
use Rattle.as_graph.specs.Topology.{Topology}
use Rattle.policy_kinds.specs.declared.kind.Kind.{Kind}
use Rattle.stability_laws.specs.Book.{PolicyBook}
use Rattle.sim_core.proofs.Plans.{has_room}
use Rattle.sim_core.proofs.PayloadEdits.{vrps_undone}
use Rattle.net_names.proofs.Shared.{on_err}
use Rattle.sim_core.proofs.parts.Parts.make_room.Goals as goal

own : (a : ℕ) → ((a == a) || (a == a)) ≡ true
own a = ap (λ t. t || (a == a)) (eq-eqb a a refl)

pub returns-in_err-room-clause-err : goal.returns-in_err-room-clause-err
returns-in_err-room-clause-err c =
    on_err c.from_residual-in_err-room.result (vrps_undone c.args.self.now _ refl (ap (λ (b : PolicyBook Kind). b.named) c.in_err-room.ensures.err) refl (record { ranks = refl; rounds = refl; watched = refl; watches = refl }))

pub returns-clause-ok : goal.returns-clause-ok
returns-clause-ok c = record {
  links = ap (λ (t : Topology). t.links) c.in_ok-room_for.ensures.ok;
  marked = ap (λ (t : Topology). t.marked) c.in_ok-room_for.ensures.ok;
  graph_room = ap (λ (t : Topology). is_room_with t.room c.args.asn) c.in_ok-room_for.ensures.ok ∙ own c.args.asn;
  named = ap (λ (b : PolicyBook Kind). b.named) c.in_ok-room.ensures.ok;
  book_room = subst (λ (b : PolicyBook Kind). IsTrue (set.contains b.room c.args.asn)) (sym c.in_ok-room.ensures.ok) (has_room c.args.self.now.book.room c.args.asn);
  readers = c.list_if_reads.ensures.more;
  vrps = refl;
  rest = record { ranks = refl; rounds = refl; watched = refl; watches = refl };
}

pub returns-in_err-list_if_reads-clause-err : goal.returns-in_err-list_if_reads-clause-err
returns-in_err-list_if_reads-clause-err c = on_err c.from_residual.result (vrps_undone c.args.self.now _ refl refl refl (record { ranks = refl; rounds = refl; watched = refl; watches = refl }))

pub returns-in_err-room_for-clause-err : goal.returns-in_err-room_for-clause-err
returns-in_err-room_for-clause-err c =
    on_err c.from_residual-in_err-room_for.result (vrps_undone c.args.self.now _ (ap (λ (t : Topology). t.links) c.in_err-room_for.ensures.err) (ap (λ (b : PolicyBook Kind). b.named) c.in_ok-room.ensures.ok) refl (record { ranks = refl; rounds = refl; watched = refl; watches = refl }))
