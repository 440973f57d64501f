use Rattle.std.proofs.Common.{sym, subst, nat_eq, arith}
use Rattle.std.proofs.lemmas.List.{length-drop, take_all}
use Rattle.std.specs.List.{IsDistinct}
use Rattle.as_places.proofs.Kept.{distinct_drop}
use Rattle.as_places.proofs.places.AsPlaces.of.Goals as goal

pub gather-requires : goal.gather-requires
gather-requires c = subst (IsDistinct nat_eq) (sym (take_all _ _ (omega (arith, length-drop c.rising_front-front.result c.args.ases.now)))) (distinct_drop c.rising_front-front.result c.args.ases.now c.requires)
