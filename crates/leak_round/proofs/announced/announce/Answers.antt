use Rattle.std.proofs.Common.{◌≡◌, ◌<◌, ℕ, Option, [], ◌∷◌, ◌++◌, List, Some, length, sym, ap, ◌∙◌, arith}
use Rattle.std.specs.Option.{option_map_or}
use Rattle.std.proofs.lemmas.Option.{slice_get_within}
use Rattle.stability_laws.specs.Plans.{announced_path}
use Rattle.leak_round.specs.declared.announced.Announced.{Announced}
use Rattle.leak_round.specs.Announced.{AnnouncesMore}
use Rattle.leak_round.specs.Limits.{announced_length}
use Rattle.leak_round.proofs.Announcing.{announced_more, keeps_announced}
use Rattle.leak_round.proofs.announced.announce.Goals as goal

pub reserve_numbers-requires : goal.reserve_numbers-requires
reserve_numbers-requires c =
    let numbers = c.as_slice-numbers.result.now in
    let is : announced_path c.args.plan.now c.args.prefix c.args.asn ≡ Some numbers = sym c.in-Some.ensures.value ∙ ap (λ l. Some l) (sym c.as_slice-numbers.ensures) in
    let long : announced_length c.args.plan.now c.args.prefix c.args.asn ≡ length numbers = ap (λ (o : Option (List ℕ)). option_map_or (λ (path : List ℕ). length path) o 0) is in
    omega (arith, c.requires.room, long)

pub copy_in-path-requires-clause-some : goal.copy_in-path-requires-clause-some
copy_in-path-requires-clause-some c =
    let numbers = c.as_slice-numbers.result.now in
    let is : announced_path c.args.plan.now c.args.prefix c.args.asn ≡ Some numbers = sym c.in-Some.ensures.value ∙ ap (λ l. Some l) (sym c.as_slice-numbers.ensures) in
    slice_get_within numbers 0 c.args.asn (c.in-Some.ensures.sound.starts c.args.prefix c.args.asn numbers is)

pub returns-clause-more : goal.returns-clause-more
returns-clause-more c =
    let numbers = c.as_slice-numbers.result.now in
    let is : announced_path c.args.plan.now c.args.prefix c.args.asn ≡ Some numbers = sym c.in-Some.ensures.value ∙ ap (λ l. Some l) (sym c.as_slice-numbers.ensures) in
    let some : 0 < length numbers = slice_get_within numbers 0 c.args.asn (c.in-Some.ensures.sound.starts c.args.prefix c.args.asn numbers is) in
    let x : Announced = record { prefix = c.args.prefix; asn = c.args.asn; path = c.copy_in-path.result } in
    let more : AnnouncesMore c.copy_in-path.new.self c.args.plan.now c.args.announced.now.items (c.args.announced.now.items ++ x ∷ []) = record {
      so_far = announced_more c.args.pool.now c.reserve_numbers.new.pool c.copy_in-path.new.self c.args.plan.now c.args.announced.now.items x numbers c.requires.so_far c.reserve_numbers.ensures.kept c.copy_in-path.ensures.made c.copy_in-path.ensures.live some is;
      kept = keeps_announced c.args.announced.now.items x;
    } in
    rw c.in_ok-push.ensures.items more
