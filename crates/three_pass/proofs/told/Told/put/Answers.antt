use Rattle.std.proofs.Common.{◌≡◌, inl, inr, ℕ, ◌+◌, ◌++◌, ◌∷◌, [], List, true, length, sym, ◌∙◌, ap, arith}
use Rattle.std.specs.Prelude.{slice_index, slice_set}
use Rattle.std.proofs.lemmas.Bool.{cases_Bool}
use Rattle.std.proofs.lemmas.List.{get_or_read, length-map, length-set, map-append}
use Rattle.three_pass.specs.declared.told.Note.{Note}
use Rattle.three_pass.specs.Notes.{befores, tos, IsChained}
use Rattle.three_pass.proofs.Noted.{noted_kept, noted_new, true_more}
use Rattle.three_pass.proofs.Chains.{chained_more}
use Rattle.three_pass.proofs.told.Told.put.Goals as goal

pub invariant_of-self : goal.invariant_of-self
invariant_of-self c =
    let rows = c.args.self.now.order.now in
    let last = c.args.self.now.last.items in
    let row = c.args.at in
    let old = c.args.self.now.notes.items in
    let new = c.push.new.self.items in
    let x : Note = record { to = c.args.to; from = c.args.from; place = c.args.place; before = c.index-before.result.now } in
    let items : new ≡ old ++ x ∷ [] = c.in-Ok-push.ensures.items in
    let stands : c.stands_at.result ≡ true = elim (cases_Bool c.stands_at.result) [ inl t ↦ t | inr f ↦ (let no = c.if-not-stands_at.false in cc) ] in
    let inside = c.stands_at.ensures.inside stands in
    let len = c.args.self.now.len in
    let ts : tos new ≡ tos old ++ c.args.to ∷ [] = ap tos items ∙ map-append (λ (t : Note). t.to) old (x ∷ []) in
    let before : c.index-before.result.now ≡ slice_index last row = get_or_read last row c.index-before.result.now (omega (arith, inside, len)) c.index-before.ensures 0 in
    let bs : befores new ≡ befores old ++ slice_index last row ∷ [] = ap befores items ∙ map-append (λ (t : Note). t.before) old (x ∷ []) ∙ ap (λ n. befores old ++ n ∷ []) before in
    let count : c.in-Ok.count ≡ length (tos old) + 1 = omega (arith, c.in-Ok.ensures, c.len.ensures, length-map old (λ (t : Note). t.to)) in
    let both : length (befores old) ≡ length (tos old) = length-map old (λ (t : Note). t.before) ∙ sym (length-map old (λ (t : Note). t.to)) in
    let F : ℕ → List ℕ → List ℕ → Type 0 = λ n t b. IsChained rows (slice_set last row n) t b in
    record {
      apart = c.args.self.now.apart;
      len = length-set last row c.in-Ok.count ∙ len;
      chained = λ none. coe 0 1 (j. F (sym count j) (sym ts j) (sym bs j))
          (chained_more rows last (tos old) (befores old) row c.args.to c.args.self.now.apart len both inside (c.stands_at.ensures.there stands) (c.args.self.now.chained none));
    }

pub returns-in-Ok-push-clause-this : goal.returns-in-Ok-push-clause-this
returns-in-Ok-push-clause-this c = λ t.
    let x : Note = record { to = c.args.to; from = c.args.from; place = c.args.place; before = c.index-before.result.now } in
    inr (noted_new c.args.self.now.notes.items c.push.new.self.items x c.in-Ok-push.ensures.items)

pub returns-in-Ok-push-clause-others : goal.returns-in-Ok-push-clause-others
returns-in-Ok-push-clause-others c = λ a b told.
    let x : Note = record { to = c.args.to; from = c.args.from; place = c.args.place; before = c.index-before.result.now } in
    elim told [
      | inl all ↦ inl all
      | inr h ↦ inr (noted_kept c.args.self.now.notes.items c.push.new.self.items x c.in-Ok-push.ensures.items a b h)
    ]

pub returns-in-Ok-push-clause-sound : goal.returns-in-Ok-push-clause-sound
returns-in-Ok-push-clause-sound c = λ w here are.
    let x : Note = record { to = c.args.to; from = c.args.from; place = c.args.place; before = c.index-before.result.now } in
    true_more c.args.self.now.notes.items c.push.new.self.items x c.in-Ok-push.ensures.items w here are
