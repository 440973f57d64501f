use Rattle.std.proofs.Common.{◌≡◌, ◌++◌, ◌+◌, ◌∷◌, [], ℕ, List, take, sym, ap, ◌∙◌, append_assoc}
use Rattle.std.proofs.lemmas.List.{take_more}
use Rattle.as_graph.specs.declared.neighbour.Neighbour.{Neighbour}
use Rattle.cycle_check.specs.Places.{place_in}
use Rattle.cycle_check.specs.Providers.{provider_places, put_provider}
use Rattle.cycle_check.proofs.Filling.{provider_places-append}
use Rattle.cycle_check.proofs.provider_rows.put_all.Goals as goal

pub loop-at-preserved : goal.loop-at-preserved
loop-at-preserved c =
    let ases = c.args.ases.now in
    let ns = c.args.neighbours.now in
    let i = c.loop-at.at in
    let n = c.index-neighbours-at.result in
    let old = c.args.items.now.items in
    let own : List ℕ = put_provider n.rel (place_in ases n.asn) [] in
    let more : take (i + 1) ns ≡ take i ns ++ n ∷ [] = take_more ns i n c.loop-at-test.true ∙ ap (λ (y : Neighbour). take i ns ++ y ∷ []) (sym c.index-neighbours-at.is) in
    c.in_ok-put.ensures
    ∙ ap (λ (xs : List ℕ). xs ++ own) c.loop-at.invariant
    ∙ append_assoc old (provider_places ases (take i ns)) own
    ∙ ap (λ (xs : List ℕ). old ++ xs) (sym (ap (provider_places ases) more ∙ provider_places-append ases (take i ns) n))
