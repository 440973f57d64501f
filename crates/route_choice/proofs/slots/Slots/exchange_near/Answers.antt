use Rattle.std.proofs.Common.{◌++◌, ◌∷◌, [], append_assoc, Some, None, unwrap_or, is_some, true≢false, inl, inr, ap, sym, subst, ◌∙◌, arith}
use Rattle.std.specs.Prelude.{IsSome}
use Rattle.route_choice.specs.declared.row.Row.{Row}
use Rattle.route_choice.specs.Rows.{asns_of, entry_in}
use Rattle.route_choice.specs.Slots.{Slots, slot_at, uses_of, keys, use_of}
use Rattle.route_choice.specs.Beside.{beside_entries}
use Rattle.route_choice.proofs.RowLemmas.{placed, rows_apart, slot_placed, slot_beside, written_kept, written_this, written_others, written_uses, written_keys, whole_keys, whole_uses, put_kept, put_others}
use Rattle.route_choice.proofs.slots.Slots.exchange_near.Goals as goal

pub place_among-requires-clause-apart : goal.place_among-requires-clause-apart
place_among-requires-clause-apart c = rows_apart c.self.invariant c.as_slice.ensures.value

pub invariant_of-self : goal.invariant_of-self
invariant_of-self c =
    let at = placed c.args.asn c.as_slice.ensures.value c.place_among.ensures.value c.in-Some.is in
    written_kept _ c.args.asn _ _ (beside_entries c.self.inside.beside) c.of.result at c.index_mut.ensures.value c.self.invariant

pub returns-in-Some-clause-old : goal.returns-in-Some-clause-old
returns-in-Some-clause-old c =
    let at = placed c.args.asn c.as_slice.ensures.value c.place_among.ensures.value c.in-Some.is in
    let there = slot_placed c.self.inside.rows.items (beside_entries c.self.inside.beside) c.args.asn c.in-Some.found c.index.result.now at in
    c.entry-old.ensures ∙ ap (λ (r : Row). entry_in r.slot) c.index.ensures ∙ sym (ap (λ o. unwrap_or o None) there) ∙ ap (λ (v : Slots). unwrap_or (slot_at v c.args.asn) None) c.self.view_is

pub returns-in-Some-clause-this : goal.returns-in-Some-clause-this
returns-in-Some-clause-this c =
    let at = placed c.args.asn c.as_slice.ensures.value c.place_among.ensures.value c.in-Some.is in
    written_this _ c.args.asn _ _ (beside_entries c.self.inside.beside) c.of.result at c.index_mut.ensures.value ∙ ap Some c.of.ensures

pub returns-in-Some-clause-others : goal.returns-in-Some-clause-others
returns-in-Some-clause-others c = λ a ne.
    let at = placed c.args.asn c.as_slice.ensures.value c.place_among.ensures.value c.in-Some.is in
    written_others _ c.args.asn _ _ (beside_entries c.self.inside.beside) c.of.result at c.index_mut.ensures.value a ne ∙ ap (λ (v : Slots). slot_at v a) c.self.view_is

pub returns-in-Some-clause-uses : goal.returns-in-Some-clause-uses
returns-in-Some-clause-uses c = λ k.
    let at = placed c.args.asn c.as_slice.ensures.value c.place_among.ensures.value c.in-Some.is in
    let told = written_uses _ c.args.asn _ _ (beside_entries c.self.inside.beside) c.of.result at c.index_mut.ensures.value c.index.result.now k in
    let read = ap (λ (r : Row). use_of k (entry_in r.slot)) c.index.ensures in
    omega (arith, told, ap (use_of k) c.entry-old.ensures, read, ap (use_of k) c.of.ensures, ap (λ (v : Slots). uses_of v k) c.self.view_is)

pub returns-in-Some-clause-kept : goal.returns-in-Some-clause-kept
returns-in-Some-clause-kept c = λ there.
    let at = placed c.args.asn c.as_slice.ensures.value c.place_among.ensures.value c.in-Some.is in
    written_keys _ c.args.asn _ _ (beside_entries c.self.inside.beside) c.of.result at c.index_mut.ensures.value ∙ ap (λ (v : Slots). keys v) c.self.view_is

pub returns-in-Some-clause-new_place : goal.returns-in-Some-clause-new_place
returns-in-Some-clause-new_place c = λ none.
    let at = placed c.args.asn c.as_slice.ensures.value c.place_among.ensures.value c.in-Some.is in
    let there = slot_placed c.self.inside.rows.items (beside_entries c.self.inside.beside) c.args.asn c.in-Some.found c.index.result.now at in
    absurd (true≢false (sym (ap is_some there) ∙ ap is_some (ap (λ (v : Slots). slot_at v c.args.asn) c.self.view_is ∙ none)))

pub exchange-requires : goal.exchange-requires
exchange-requires c =
    let at = placed c.args.asn c.as_slice.ensures.value c.place_among.ensures.value c.in-None.is in
    let there = slot_beside c.self.inside.rows.items (beside_entries c.self.inside.beside) c.args.asn at in
    let seen = ap (λ (v : Slots). slot_at v c.args.asn) c.self.view_is in
    elim c.requires [
      | inl some ↦ inl (subst IsSome (sym seen ∙ there) some)
      | inr room ↦ inr (omega (arith, room, ap (λ (v : Slots). v.spare) c.self.view_is))
    ]

pub invariant_of-self-in-None : goal.invariant_of-self-in-None
invariant_of-self-in-None c =
    let at = placed c.args.asn c.as_slice.ensures.value c.place_among.ensures.value c.in-None.is in
    put_kept c.self.invariant c.args.asn (beside_entries c.exchange.new.self) at c.exchange.ensures.kept c.exchange.ensures.new_place

pub returns-in-None-clause-old : goal.returns-in-None-clause-old
returns-in-None-clause-old c =
    let at = placed c.args.asn c.as_slice.ensures.value c.place_among.ensures.value c.in-None.is in
    let there = slot_beside c.self.inside.rows.items (beside_entries c.self.inside.beside) c.args.asn at in
    c.exchange.ensures.old ∙ ap (λ o. unwrap_or o None) (sym there) ∙ ap (λ (v : Slots). unwrap_or (slot_at v c.args.asn) None) c.self.view_is

pub returns-in-None-clause-this : goal.returns-in-None-clause-this
returns-in-None-clause-this c =
    let at = placed c.args.asn c.as_slice.ensures.value c.place_among.ensures.value c.in-None.is in
    slot_beside c.self.inside.rows.items (beside_entries c.exchange.new.self) c.args.asn at ∙ c.exchange.ensures.this

pub returns-in-None-clause-others : goal.returns-in-None-clause-others
returns-in-None-clause-others c = λ a ne.
    put_others c.self.inside.rows.items (beside_entries c.self.inside.beside) (beside_entries c.exchange.new.self) a (c.exchange.ensures.others a ne)
    ∙ ap (λ (v : Slots). slot_at v a) c.self.view_is

pub returns-in-None-clause-uses : goal.returns-in-None-clause-uses
returns-in-None-clause-uses c = λ k.
    omega (
      arith,
      c.exchange.ensures.uses k,
      whole_uses c.self.inside.rows.items (beside_entries c.self.inside.beside) k,
      whole_uses c.self.inside.rows.items (beside_entries c.exchange.new.self) k,
      ap (λ (v : Slots). uses_of v k) c.self.view_is,
    )

pub returns-in-None-clause-kept : goal.returns-in-None-clause-kept
returns-in-None-clause-kept c = λ some.
    let at = placed c.args.asn c.as_slice.ensures.value c.place_among.ensures.value c.in-None.is in
    let there = slot_beside c.self.inside.rows.items (beside_entries c.self.inside.beside) c.args.asn at in
    let same = c.exchange.ensures.kept (subst IsSome (sym (ap (λ (v : Slots). slot_at v c.args.asn) c.self.view_is) ∙ there) some) in
    whole_keys c.self.inside.rows.items (beside_entries c.exchange.new.self)
    ∙ ap (λ l. asns_of c.self.inside.rows.items ++ l) same
    ∙ sym (whole_keys c.self.inside.rows.items (beside_entries c.self.inside.beside))
    ∙ ap (λ (v : Slots). keys v) c.self.view_is

pub returns-in-None-clause-kept_spare : goal.returns-in-None-clause-kept_spare
returns-in-None-clause-kept_spare c = λ some.
    let at = placed c.args.asn c.as_slice.ensures.value c.place_among.ensures.value c.in-None.is in
    let there = slot_beside c.self.inside.rows.items (beside_entries c.self.inside.beside) c.args.asn at in
    c.exchange.ensures.kept_spare (subst IsSome (sym (ap (λ (v : Slots). slot_at v c.args.asn) c.self.view_is) ∙ there) some) ∙ ap (λ (v : Slots). v.spare) c.self.view_is

pub returns-in-None-clause-new_place : goal.returns-in-None-clause-new_place
returns-in-None-clause-new_place c = λ none.
    let at = placed c.args.asn c.as_slice.ensures.value c.place_among.ensures.value c.in-None.is in
    let there = slot_beside c.self.inside.rows.items (beside_entries c.self.inside.beside) c.args.asn at in
    let more = c.exchange.ensures.new_place (sym there ∙ ap (λ (v : Slots). slot_at v c.args.asn) c.self.view_is ∙ none) in
    whole_keys c.self.inside.rows.items (beside_entries c.exchange.new.self)
    ∙ ap (λ l. asns_of c.self.inside.rows.items ++ l) more
    ∙ sym (append_assoc (asns_of c.self.inside.rows.items) _ (c.args.asn ∷ []))
    ∙ ap (λ l. l ++ c.args.asn ∷ []) (sym (whole_keys c.self.inside.rows.items (beside_entries c.self.inside.beside)))
    ∙ ap (λ (v : Slots). keys v ++ c.args.asn ∷ []) c.self.view_is
