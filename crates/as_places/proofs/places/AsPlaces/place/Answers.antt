use Rattle.std.proofs.Common.{take, is_some, sym, ◌∙◌, ap, arith}
use Rattle.as_places.specs.Places.{PlacedAses, place_of}
use Rattle.as_places.proofs.Kept.{place_in_front, place_behind, place_nowhere, place_missing}
use Rattle.as_places.proofs.PlaceLemmas.{at_place, has_place}
use Rattle.as_places.proofs.places.AsPlaces.place.Goals as goal

pub returns-in-Some-clause-value : goal.returns-in-Some-clause-value
returns-in-Some-clause-value c =
    let told = ap (λ l. place_of (take c.self.inside.front l) c.args.asn) (sym c.deref.ensures.value) ∙ sym c.place_in.ensures ∙ c.in-Some.is in
    sym (ap (λ (v : PlacedAses). place_of v.ases c.args.asn) (sym c.self.view_is)
    ∙ place_in_front c.self.inside.numbers.items c.self.inside.front c.self.inside.behind.keys c.self.invariant c.args.asn c.in-Some.place told)

pub returns-in-Some-clause-found : goal.returns-in-Some-clause-found
returns-in-Some-clause-found c = at_place c.args.self.now.ases c.args.asn c.in-Some.place (sym (returns-in-Some-clause-value c))

pub returns-in-Some-get_index_of-clause-value : goal.returns-in-Some-get_index_of-clause-value
returns-in-Some-get_index_of-clause-value c =
    let told = ap (λ l. place_of (take c.self.inside.front l) c.args.asn) (sym c.deref.ensures.value) ∙ sym c.place_in.ensures ∙ c.in-None.is in
    sym (ap (λ (v : PlacedAses). place_of v.ases c.args.asn) (sym c.self.view_is)
    ∙ place_behind c.self.inside.numbers.items c.self.inside.front c.self.inside.behind.keys c.self.invariant c.args.asn c.in-Some-get_index_of.index told
    (sym c.get_index_of.ensures.index ∙ c.in-Some-get_index_of.is))

pub returns-in-Some-get_index_of-clause-found : goal.returns-in-Some-get_index_of-clause-found
returns-in-Some-get_index_of-clause-found c = at_place c.args.self.now.ases c.args.asn _ (sym (returns-in-Some-get_index_of-clause-value c))

pub returns-in-None-get_index_of-clause-value : goal.returns-in-None-get_index_of-clause-value
returns-in-None-get_index_of-clause-value c =
    let told = ap (λ l. place_of (take c.self.inside.front l) c.args.asn) (sym c.deref.ensures.value) ∙ sym c.place_in.ensures ∙ c.in-None.is in
    sym (ap (λ (v : PlacedAses). place_of v.ases c.args.asn) (sym c.self.view_is)
    ∙ place_nowhere c.self.inside.numbers.items c.self.inside.front c.self.inside.behind.keys c.self.invariant c.args.asn told
    (sym c.get_index_of.ensures.index ∙ c.in-None-get_index_of.is))

pub returns-in-None-get_index_of-clause-none : goal.returns-in-None-get_index_of-clause-none
returns-in-None-get_index_of-clause-none c = sym (has_place c.args.self.now.ases c.args.asn) ∙ ap is_some (sym (returns-in-None-get_index_of-clause-value c))

pub returns-in-None-clause-none : goal.returns-in-None-clause-none
returns-in-None-clause-none c =
    let told = ap (λ l. place_of (take c.self.inside.front l) c.args.asn) (sym c.deref.ensures.value) ∙ sym c.place_in.ensures ∙ c.in-None.is in
    let nowhere =
    ap (λ (v : PlacedAses). place_of v.ases c.args.asn) (sym c.self.view_is)
    ∙ place_missing c.self.inside.numbers.items c.self.inside.front c.self.inside.behind.keys c.self.invariant c.args.asn told
    (omega (arith, c.if-self-len.true, c.len.ensures)) in
    sym (has_place c.args.self.now.ases c.args.asn) ∙ ap is_some nowhere
