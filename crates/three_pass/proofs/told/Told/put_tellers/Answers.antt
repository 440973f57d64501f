use Rattle.std.proofs.Common.{◌≡◌, inl, inr, ◌-◌, ◌<◌, ◌++◌, ◌∷◌, [], true, Some, length, get_or, slice_index_or, sym, ◌∙◌, ap, subst, arith}
use Rattle.std.specs.Prelude.{slice_get, slice_index}
use Rattle.std.proofs.lemmas.Bool.{cases_Bool, cases_lt}
use Rattle.std.proofs.lemmas.List.{get_or_read, length-map}
use Rattle.std.proofs.lemmas.Option.{slice_get-get_or, slice_get_within}
use Rattle.net_names.specs.Numbers.{occurs}
use Rattle.as_graph.specs.declared.neighbour.Neighbour.{Neighbour}
use Rattle.as_graph.specs.Neighbours.{asns}
use Rattle.three_pass.specs.declared.told.Note.{Note}
use Rattle.three_pass.specs.Notes.{tos}
use Rattle.three_pass.proofs.Elements.{all_more, occurs_kept, occurs_new}
use Rattle.three_pass.proofs.Noted.{to_at, before_at}
use Rattle.three_pass.proofs.told.Told.put_tellers.Goals as goal

pub notes-init : goal.notes-init
notes-init c =
    let notes = c.args.self.now.notes.items in
    let rows = c.args.self.now.order.now in
    let last = c.args.self.now.last.items in
    let row = c.args.at in
    let chain = c.args.self.now.chained c.if-self.false in
    let stands : c.stands_at.result ≡ true = elim (cases_Bool c.stands_at.result) [ inl t ↦ t | inr f ↦ (let no = c.if-not-stands_at.false in cc) ] in
    let inside = c.stands_at.ensures.inside stands in
    let at : slice_index rows row ≡ c.args.asn = c.stands_at.ensures.there stands in
    let read : c.index-count.result.now ≡ slice_index last row = get_or_read last row c.index-count.result.now (omega (arith, inside, c.args.self.now.len)) c.index-count.ensures 0 in
    let len = length-map notes (λ (t : Note). t.to) in
    record {
      within = omega (arith, chain.within row inside, read, len);
      own = λ some. ap (λ n. get_or (tos notes) (n - 1) 0) read ∙ chain.own row inside (omega (arith, some, read)) ∙ at;
      told = λ j x from there to. absurd (chain.none_after row j inside (omega (arith, from, read)) (omega (arith, slice_get_within notes j x there, len)) (to_at notes j x there ∙ to ∙ sym at));
      others = λ b there. there;
      each = λ w are all. all;
    }

pub notes-smaller : goal.notes-smaller
notes-smaller c =
    let notes = c.args.self.now.notes.items in
    let i = c.notes.count - 1 in
    let note = c.index-note.result.now in
    let inside : i < length notes = omega (arith, c.notes.invariant.within, c.notes-test.true) in
    let read : note ≡ slice_index_or notes i note = c.index-note.ensures in
    let there : slice_get notes i ≡ Some note = slice_get-get_or notes i note inside ∙ ap Some (sym read) in
    let chain = c.args.self.now.chained c.if-self.false in
    omega (arith, chain.earlier i (omega (arith, inside, length-map notes (λ (t : Note). t.to))), before_at notes i note there, c.notes-test.true)

pub notes-preserved : goal.notes-preserved
notes-preserved c =
    let notes = c.args.self.now.notes.items in
    let i = c.notes.count - 1 in
    let note = c.index-note.result.now in
    let test = c.notes-test.true in
    let inside : i < length notes = omega (arith, c.notes.invariant.within, test) in
    let read : note ≡ slice_index_or notes i note = c.index-note.ensures in
    let there : slice_get notes i ≡ Some note = slice_get-get_or notes i note inside ∙ ap Some (sym read) in
    let chain = c.args.self.now.chained c.if-self.false in
    let len = length-map notes (λ (t : Note). t.to) in
    let inside_tos : i < length (tos notes) = omega (arith, inside, len) in
    let to_i = to_at notes i note there in
    let before_i = before_at notes i note there in
    let own : note.to ≡ c.args.asn = sym to_i ∙ c.notes.invariant.own test in
    let less = chain.earlier i inside_tos in
    let old = c.notes.looks.neighbours.items in
    let new = c.push.new.self.neighbours.items in
    let done : c.push.result ≡ true = elim (cases_Bool c.push.result) [ inl t ↦ t | inr f ↦ (let no = c.if-not-push.false in cc) ] in
    let pushed : new ≡ old ++ note.from ∷ [] = c.push.ensures done in
    let kept = occurs_kept (λ (t : Neighbour). t.asn) old new note.from pushed in
    record {
      within = omega (arith, less, before_i, inside);
      own = λ some. ap (λ n. get_or (tos notes) (n - 1) 0) (sym before_i) ∙ chain.same i inside_tos (omega (arith, some, before_i)) ∙ to_i ∙ own;
      told = λ j x from is to. elim (cases_lt j i) [
        | inl before ↦ absurd (chain.none_between i j inside_tos (omega (arith, from, before_i)) before (to_at notes j x is ∙ to ∙ sym own ∙ sym to_i))
        | inr after ↦ elim (cases_lt i j) [
          | inl later ↦ kept x.from.asn (c.notes.invariant.told j x (omega (arith, later, test)) is to)
          | inr no_later ↦
              let same : i ≡ j = omega (arith, after, no_later) in
              let both : Some note ≡ Some x = sym there ∙ ap (slice_get notes) same ∙ is in
              let one : note ≡ x = cc in
              subst (λ (t : Note). occurs t.from.asn (asns new) ≡ true) one (occurs_new (λ (t : Neighbour). t.asn) old new note.from pushed)
        ]
      ];
      others = λ b before. kept b (c.notes.invariant.others b before);
      each = λ w are all. all_more (λ (t : Neighbour). w c.args.asn t.asn ≡ Some t.rel) old new note.from pushed (c.notes.invariant.each w are all)
          (ap (λ n. w n note.from.asn) (sym own) ∙ are i note there);
    }
