use Rattle.std.proofs.Common.{Some, None, if◌then◌else◌, refl, sym, ap, subst, arith, ◌∙◌}
use Rattle.std.specs.Prelude.{IsSome}
use Rattle.net_names.specs.Numbers.{occurs}
use Rattle.route_choice.specs.Tables.{change_at}
use Rattle.three_pass.proofs.Ended.{blank_entry}
use Rattle.three_pass.proofs.course.Course.scratch.Goals as goal

pub returns : goal.returns
returns c = record {
  placed = λ a inside. subst IsSome (sym (c.in_ok-overlay.ensures.changes a ∙ ap (λ b. if b then Some None else None) (ap (occurs a) (c.in_ok-places.ensures ∙ c.as_slice.ensures.value) ∙ inside))) refl;
  none = λ a. blank_entry (change_at c.in_ok-overlay.overlay a) (occurs a c.in_ok-places.places.value.ases) (c.in_ok-overlay.ensures.changes a);
  uses = c.in_ok-overlay.ensures.uses;
  room = λ some. omega (arith, c.in_ok-overlay.ensures.room);
}
