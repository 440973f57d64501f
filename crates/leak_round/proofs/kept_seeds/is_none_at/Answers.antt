use Rattle.std.proofs.Common.{length, refl, sym, ◌∙◌}
use Rattle.std.proofs.lemmas.Bool.{eq-eqb, eqb-true}
use Rattle.std.proofs.lemmas.Option.{slice_get_read}
use Rattle.leak_round.proofs.Unchanged.{no_change}
use Rattle.leak_round.proofs.kept_seeds.is_none_at.Goals as goal

pub returns-then-eq : goal.returns-then-eq
returns-then-eq c = λ yes. record {
  place = c.args.place;
  change = c.in-Some.change.now;
  at = slice_get_read c.args.changes.now (length c.args.changes.now) c.args.place c.in-Some.change.now refl c.in-Some.ensures.lookup.3.0 c.in-Some.ensures.lookup.1;
  of_table = rw (eq-eqb c.in-Some.change.now.round c.args.round c.if-change-round.true, c.if-eq.ensures) refl;
  none = no_change c.in-Some.change.now.overlay (sym c.len.ensures.count ∙ eqb-true c.len.result 0 yes) c.len.ensures.listed;
}
