use Rattle.std.proofs.Common.{◌∙◌, ap}
use Rattle.net_names.specs.Numbers.{occurs}
use Rattle.as_places.specs.Places.{PlacedAses}
use Rattle.as_places.proofs.Kept.{kept_push}
use Rattle.as_places.proofs.places.AsPlaces.add.Goals as goal

pub invariant_of-self : goal.invariant_of-self
invariant_of-self c =
    kept_push c.self.inside.numbers.items c.self.inside.front c.self.inside.behind.keys c.self.invariant c.args.asn _ _
    (ap (λ (v : PlacedAses). occurs c.args.asn v.ases) c.self.view_is ∙ c.requires.absent)
    c.in-Ok.ensures.items
    c.in-Ok-insert.ensures.keys
