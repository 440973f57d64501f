use Rattle.std.proofs.Common.{Some, None, unwrap_or, is_some, true≢false, nat_eq, inl, inr, ap, sym, ◌∙◌, arith}
use Rattle.std.specs.Map.{lookup}
use Rattle.as_places.specs.Places.{PlacedAses}
use Rattle.route_choice.specs.declared.row.Row.{Row}
use Rattle.route_choice.specs.Rows.{entry_in}
use Rattle.route_choice.specs.Slots.{Slots, keys, slot_at, uses_of, use_of}
use Rattle.route_choice.proofs.RowLemmas.{is_inside}
use Rattle.route_choice.proofs.DenseLemmas.{pair_others, pair_this, row_found, seen_none, slot_keys, slot_kept, slot_others, slot_row, slot_this, slot_uses}
use Rattle.route_choice.proofs.dense.Dense.put.Goals as goal

pub index-requires : goal.index-requires
index-requires c =
    let at = row_found c.self.invariant c.args.asn (ap (λ (p : PlacedAses). p.ases) c.deref.ensures) c.as_slice.ensures.value c.row_near.ensures c.in-Some.is in
    omega (arith, is_inside c.self.inside.rows.items c.args.asn c.in-Some.row at, c.self.inside.rows.ok.0)

pub index_mut-requires : goal.index_mut-requires
index_mut-requires c =
    let at = row_found c.self.invariant c.args.asn (ap (λ (p : PlacedAses). p.ases) c.deref.ensures) c.as_slice.ensures.value c.row_near.ensures c.in-Some.is in
    omega (arith, is_inside c.self.inside.rows.items c.args.asn c.in-Some.row at, c.self.inside.rows.ok.0)

pub invariant_of-self : goal.invariant_of-self
invariant_of-self c =
    let at = row_found c.self.invariant c.args.asn (ap (λ (p : PlacedAses). p.ases) c.deref.ensures) c.as_slice.ensures.value c.row_near.ensures c.in-Some.is in
    slot_kept _ c.args.asn _ _ c.of.result at c.index_mut.ensures.value c.self.invariant

pub returns-in-Some-clause-old : goal.returns-in-Some-clause-old
returns-in-Some-clause-old c =
    let at = row_found c.self.invariant c.args.asn (ap (λ (p : PlacedAses). p.ases) c.deref.ensures) c.as_slice.ensures.value c.row_near.ensures c.in-Some.is in
    let there = slot_row c.self.inside.rows.items c.args.asn c.in-Some.row c.index.result.now at in
    c.entry-old.ensures ∙ ap (λ (r : Row). entry_in r.slot) c.index.ensures ∙ sym (ap (λ o. unwrap_or o None) there) ∙ ap (λ (v : Slots). unwrap_or (slot_at v c.args.asn) None) c.self.view_is

pub returns-in-Some-clause-this : goal.returns-in-Some-clause-this
returns-in-Some-clause-this c =
    let at = row_found c.self.invariant c.args.asn (ap (λ (p : PlacedAses). p.ases) c.deref.ensures) c.as_slice.ensures.value c.row_near.ensures c.in-Some.is in
    slot_this _ c.args.asn _ _ c.of.result at c.index_mut.ensures.value ∙ ap Some c.of.ensures

pub returns-in-Some-clause-others : goal.returns-in-Some-clause-others
returns-in-Some-clause-others c = λ a ne.
    let at = row_found c.self.invariant c.args.asn (ap (λ (p : PlacedAses). p.ases) c.deref.ensures) c.as_slice.ensures.value c.row_near.ensures c.in-Some.is in
    slot_others _ c.args.asn _ _ c.of.result at c.index_mut.ensures.value a ne ∙ ap (λ (v : Slots). slot_at v a) c.self.view_is

pub returns-in-Some-clause-uses : goal.returns-in-Some-clause-uses
returns-in-Some-clause-uses c = λ k.
    let at = row_found c.self.invariant c.args.asn (ap (λ (p : PlacedAses). p.ases) c.deref.ensures) c.as_slice.ensures.value c.row_near.ensures c.in-Some.is in
    let told = slot_uses _ c.args.asn _ _ c.of.result at c.index_mut.ensures.value c.index.result.now k in
    let read = ap (λ (r : Row). use_of k (entry_in r.slot)) c.index.ensures in
    omega (arith, told, ap (use_of k) c.entry-old.ensures, read, ap (use_of k) c.of.ensures, ap (λ (v : Slots). uses_of v k) c.self.view_is)

pub returns-in-Some-clause-kept : goal.returns-in-Some-clause-kept
returns-in-Some-clause-kept c = λ there.
    let at = row_found c.self.invariant c.args.asn (ap (λ (p : PlacedAses). p.ases) c.deref.ensures) c.as_slice.ensures.value c.row_near.ensures c.in-Some.is in
    slot_keys _ c.args.asn _ _ c.of.result at c.index_mut.ensures.value ∙ ap (λ (v : Slots). keys v) c.self.view_is

pub returns-in-Some-clause-new_place : goal.returns-in-Some-clause-new_place
returns-in-Some-clause-new_place c = λ none.
    let at = row_found c.self.invariant c.args.asn (ap (λ (p : PlacedAses). p.ases) c.deref.ensures) c.as_slice.ensures.value c.row_near.ensures c.in-Some.is in
    let there = slot_row c.self.inside.rows.items c.args.asn c.in-Some.row c.index.result.now at in
    absurd (true≢false (sym (ap is_some there) ∙ ap is_some (ap (λ (v : Slots). slot_at v c.args.asn) c.self.view_is ∙ none)))

pub push-requires-clause-absent : goal.push-requires-clause-absent
push-requires-clause-absent c =
    let at = row_found c.self.invariant c.args.asn (ap (λ (p : PlacedAses). p.ases) c.deref.ensures) c.as_slice.ensures.value c.row_near.ensures c.in-None.is in
    seen_none c.self.inside.rows.items c.args.asn c.self.view_is at

pub push-requires-clause-room : goal.push-requires-clause-room
push-requires-clause-room c =
    let at = row_found c.self.invariant c.args.asn (ap (λ (p : PlacedAses). p.ases) c.deref.ensures) c.as_slice.ensures.value c.row_near.ensures c.in-None.is in
    let absent = seen_none c.self.inside.rows.items c.args.asn c.self.view_is at in
    elim c.requires [
      | inl some ↦ absurd (true≢false (sym some ∙ ap is_some absent))
      | inr room ↦ room
    ]

pub returns-in-None-clause-old : goal.returns-in-None-clause-old
returns-in-None-clause-old c =
    let at = row_found c.self.invariant c.args.asn (ap (λ (p : PlacedAses). p.ases) c.deref.ensures) c.as_slice.ensures.value c.row_near.ensures c.in-None.is in
    sym (ap (λ o. unwrap_or o None) (seen_none c.self.inside.rows.items c.args.asn c.self.view_is at))

pub returns-in-None-clause-this : goal.returns-in-None-clause-this
returns-in-None-clause-this c =
    let at = row_found c.self.invariant c.args.asn (ap (λ (p : PlacedAses). p.ases) c.deref.ensures) c.as_slice.ensures.value c.row_near.ensures c.in-None.is in
    ap (lookup (nat_eq c.args.asn)) c.push.ensures.entries ∙ pair_this c.args.self.now.entries c.args.asn c.args.entry (seen_none c.self.inside.rows.items c.args.asn c.self.view_is at)

pub returns-in-None-clause-others : goal.returns-in-None-clause-others
returns-in-None-clause-others c = λ a ne. ap (lookup (nat_eq a)) c.push.ensures.entries ∙ pair_others c.args.self.now.entries c.args.asn c.args.entry a ne

pub returns-in-None-clause-kept : goal.returns-in-None-clause-kept
returns-in-None-clause-kept c = λ some.
    let at = row_found c.self.invariant c.args.asn (ap (λ (p : PlacedAses). p.ases) c.deref.ensures) c.as_slice.ensures.value c.row_near.ensures c.in-None.is in
    absurd (true≢false (sym some ∙ ap is_some (seen_none c.self.inside.rows.items c.args.asn c.self.view_is at)))

pub returns-in-None-clause-kept_spare : goal.returns-in-None-clause-kept_spare
returns-in-None-clause-kept_spare c = λ some.
    let at = row_found c.self.invariant c.args.asn (ap (λ (p : PlacedAses). p.ases) c.deref.ensures) c.as_slice.ensures.value c.row_near.ensures c.in-None.is in
    absurd (true≢false (sym some ∙ ap is_some (seen_none c.self.inside.rows.items c.args.asn c.self.view_is at)))
