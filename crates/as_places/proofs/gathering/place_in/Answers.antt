use Rattle.std.proofs.Common.{◌≡◌, ◌≤◌, ◌<◌, ℕ, Ok, Err, inl, inr, List, length, get_or, sym, ap, arith}
use Rattle.std.proofs.lemmas.Bool.{cases_lt, cases_order}
use Rattle.std.proofs.lemmas.List.Kept.{AllPairs-from_increasing}
use Rattle.std.proofs.lemmas.List.Sorted.{searched}
use Rattle.std.specs.List.Sorted.{IsStrictlyIncreasing}
use Rattle.as_places.proofs.PlaceLemmas.{place_is, place_past}
use Rattle.as_places.proofs.gathering.place_in.Goals as goal
use Rattle.net_names.proofs.Shared.{not_falling}

pub returns-in-Ok : goal.returns-in-Ok
returns-in-Ok c =
    let xs = c.args.ases.now in
    let found = searched xs c.args.asn (Ok c.in-Ok.place) c.in-Ok.ensures.position (not_falling xs c.requires) in
    sym (place_is xs c.in-Ok.place c.args.asn found.0 found.1 (λ k less e.
    let rises : get_or xs k 0 < get_or xs c.in-Ok.place 0 = AllPairs-from_increasing xs c.requires k c.in-Ok.place 0 less found.0 in
    absurd (omega (arith, rises, e, found.1))))

pub returns-in-Err : goal.returns-in-Err
returns-in-Err c =
    let xs = c.args.ases.now in
    let missed = searched xs c.args.asn (Err c.in-Err.field-0) c.in-Err.ensures.position (not_falling xs c.requires) in
    sym (place_past xs c.args.asn (λ k less e. elim (cases_lt k c.in-Err.field-0) [
      | inl below ↦ (let h = missed.1 k below in absurd (omega (arith, h, e)))
      | inr above ↦ (let h = missed.2 k above less in absurd (omega (arith, h, e)))
    ]))
