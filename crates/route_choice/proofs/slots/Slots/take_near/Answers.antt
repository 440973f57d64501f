use Rattle.std.proofs.Common.{None, unwrap_or, refl, ap, sym, subst, ◌∙◌, ◌++◌, nat_eq, arith}
use Rattle.std.specs.List.{IsDistinct}
use Rattle.std.specs.Prelude.{IsSome}
use Rattle.route_choice.specs.declared.row.Row.{Row}
use Rattle.route_choice.specs.declared.slot.Slot.TheVariants.{Empty}
use Rattle.route_choice.specs.Beside.{beside_entries}
use Rattle.route_choice.specs.Rows.{asns_of, entry_in}
use Rattle.route_choice.specs.Slots.{Slots, slot_at, uses_of, use_of}
use Rattle.route_choice.proofs.RowLemmas.{placed, rows_apart, slot_placed, slot_beside, written_kept, written_this, written_others, written_uses, whole_uses, put_others}
use Rattle.route_choice.proofs.slots.Slots.take_near.Goals as goal

pub place_among-requires-clause-apart : goal.place_among-requires-clause-apart
place_among-requires-clause-apart c = rows_apart c.self.invariant c.as_slice.ensures.value

pub invariant_of-self : goal.invariant_of-self
invariant_of-self c =
    let at = placed c.args.asn c.as_slice.ensures.value c.place_among.ensures.value c.in-Some.is in
    written_kept _ c.args.asn _ _ (beside_entries c.self.inside.beside) Empty at c.index_mut.ensures.value c.self.invariant

pub returns-in-Some-clause-taken : goal.returns-in-Some-clause-taken
returns-in-Some-clause-taken c =
    let at = placed c.args.asn c.as_slice.ensures.value c.place_among.ensures.value c.in-Some.is in
    let there = slot_placed c.self.inside.rows.items (beside_entries c.self.inside.beside) c.args.asn c.in-Some.found c.index.result.now at in
    ap (λ (r : Row). entry_in r.slot) c.index.ensures ∙ sym (ap (λ o. unwrap_or o None) there) ∙ ap (λ (v : Slots). unwrap_or (slot_at v c.args.asn) None) c.self.view_is

pub returns-in-Some-clause-none : goal.returns-in-Some-clause-none
returns-in-Some-clause-none c =
    let at = placed c.args.asn c.as_slice.ensures.value c.place_among.ensures.value c.in-Some.is in
    ap (λ o. unwrap_or o None) (written_this _ c.args.asn _ _ (beside_entries c.self.inside.beside) Empty at c.index_mut.ensures.value)

pub returns-in-Some-clause-others : goal.returns-in-Some-clause-others
returns-in-Some-clause-others c = λ a ne.
    let at = placed c.args.asn c.as_slice.ensures.value c.place_among.ensures.value c.in-Some.is in
    written_others _ c.args.asn _ _ (beside_entries c.self.inside.beside) Empty at c.index_mut.ensures.value a ne ∙ ap (λ (v : Slots). slot_at v a) c.self.view_is

pub returns-in-Some-clause-kept : goal.returns-in-Some-clause-kept
returns-in-Some-clause-kept c = λ there.
    let at = placed c.args.asn c.as_slice.ensures.value c.place_among.ensures.value c.in-Some.is in
    subst IsSome (sym (written_this _ c.args.asn _ _ (beside_entries c.self.inside.beside) Empty at c.index_mut.ensures.value)) refl

pub returns-in-Some-clause-uses : goal.returns-in-Some-clause-uses
returns-in-Some-clause-uses c = λ k.
    let at = placed c.args.asn c.as_slice.ensures.value c.place_among.ensures.value c.in-Some.is in
    let told = written_uses _ c.args.asn _ _ (beside_entries c.self.inside.beside) Empty at c.index_mut.ensures.value c.index.result.now k in
    let read = ap (λ (r : Row). use_of k (entry_in r.slot)) c.index.ensures in
    omega (arith, told, read, ap (λ (v : Slots). uses_of v k) c.self.view_is)

pub invariant_of-self-in-None : goal.invariant_of-self-in-None
invariant_of-self-in-None c =
    let at = placed c.args.asn c.as_slice.ensures.value c.place_among.ensures.value c.in-None.is in
    record { places = c.self.invariant.places; apart = subst (λ l. IsDistinct nat_eq (asns_of c.self.inside.rows.items ++ l)) (sym c.take.ensures.keys) c.self.invariant.apart }

pub returns-in-None-clause-taken : goal.returns-in-None-clause-taken
returns-in-None-clause-taken c =
    let at = placed c.args.asn c.as_slice.ensures.value c.place_among.ensures.value c.in-None.is in
    let there = slot_beside c.self.inside.rows.items (beside_entries c.self.inside.beside) c.args.asn at in
    c.of.ensures ∙ c.take.ensures.taken ∙ ap (λ o. unwrap_or o None) (sym there) ∙ ap (λ (v : Slots). unwrap_or (slot_at v c.args.asn) None) c.self.view_is

pub returns-in-None-clause-none : goal.returns-in-None-clause-none
returns-in-None-clause-none c =
    let at = placed c.args.asn c.as_slice.ensures.value c.place_among.ensures.value c.in-None.is in
    ap (λ o. unwrap_or o None) (slot_beside c.self.inside.rows.items (beside_entries c.take.new.self) c.args.asn at) ∙ c.take.ensures.none

pub returns-in-None-clause-others : goal.returns-in-None-clause-others
returns-in-None-clause-others c = λ a ne.
    put_others c.self.inside.rows.items (beside_entries c.self.inside.beside) (beside_entries c.take.new.self) a (c.take.ensures.others a ne)
    ∙ ap (λ (v : Slots). slot_at v a) c.self.view_is

pub returns-in-None-clause-kept : goal.returns-in-None-clause-kept
returns-in-None-clause-kept c = λ some.
    let at = placed c.args.asn c.as_slice.ensures.value c.place_among.ensures.value c.in-None.is in
    let there = slot_beside c.self.inside.rows.items (beside_entries c.self.inside.beside) c.args.asn at in
    let after = slot_beside c.self.inside.rows.items (beside_entries c.take.new.self) c.args.asn at in
    subst IsSome (sym after) (c.take.ensures.kept (subst IsSome (sym (ap (λ (v : Slots). slot_at v c.args.asn) c.self.view_is) ∙ there) some))

pub returns-in-None-clause-uses : goal.returns-in-None-clause-uses
returns-in-None-clause-uses c = λ k.
    omega (
      arith,
      c.take.ensures.uses k,
      ap (use_of k) c.of.ensures,
      whole_uses c.self.inside.rows.items (beside_entries c.self.inside.beside) k,
      whole_uses c.self.inside.rows.items (beside_entries c.take.new.self) k,
      ap (λ (v : Slots). uses_of v k) c.self.view_is,
    )
