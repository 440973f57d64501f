use Rattle.std.proofs.Common.{◌≡◌, ◌∷◌, ◌++◌, [], List, cond, length, ap, ◌∙◌, arith}
use Rattle.leak_round.specs.declared.announced.Announced.{Announced}
use Rattle.leak_round.specs.Announced.{announced_uses}
use Rattle.leak_round.proofs.Announcing.{announced_uses-push}
use Rattle.leak_round.proofs.Editing.{whole_gained}
use Rattle.leak_round.proofs.edited.add_path.Goals as goal

pub reserve_numbers-requires : goal.reserve_numbers-requires
reserve_numbers-requires c = omega (arith, c.requires.room, ap length c.as_slice-numbers.ensures)

pub returns-clause-held : goal.returns-clause-held
returns-clause-held c =
    let xs = c.reserve.new.self.items in
    let x : Announced = record { prefix = c.args.prefix; asn = c.index-numbers-0.result; path = c.copy_in-path.result } in
    let items : c.push.new.self.items ≡ xs ++ x ∷ [] = c.push.ensures.items ∙ ap (λ b. cond b (xs ++ x ∷ []) xs) (c.push.ensures.succeeds (omega (arith, c.in_ok-reserve.ensures.ok))) in
    let same = c.reserve_numbers.ensures.kept in
    let made = c.copy_in-path.ensures.made in
    let held = c.hold_all.ensures in
    let gained = whole_gained c.args.pool.now c.reserve_numbers.new.pool c.copy_in-path.new.self c.copy_in-path.result c.as_slice-numbers.result.now same made in
    record {
      holds = λ k. omega (arith, held.holds k, ap (λ (ys : List Announced). announced_uses ys k) c.as_slice.ensures.value, gained k, ap (λ (ys : List Announced). announced_uses ys k) items, announced_uses-push xs x k);
      keeps = record {
        live = λ k l. held.keeps.live k (made.stays_live k (same.stays_live k l));
        lists = λ k l. held.keeps.lists k (made.stays_live k (same.stays_live k l)) ∙ made.lists k (same.stays_live k l) ∙ same.lists k l;
      };
      cells = omega (arith, held.cells, c.copy_in-path.ensures.live, same.live, ap length c.as_slice-numbers.ensures);
      counts = λ k. omega (arith, held.counts k, made.counts k, same.counts k, c.requires.few, ap length c.as_slice.ensures.value, ap length c.in_ok-reserve.ensures.items);
    }
