use Rattle.std.proofs.Common.{◌≡◌, inl, inr, true, sym, ◌∙◌, arith}
use Rattle.std.specs.Prelude.{slice_index}
use Rattle.std.proofs.lemmas.Bool.{cases_Bool, eqb-true}
use Rattle.std.proofs.lemmas.List.{get_or_read, length-map}
use Rattle.std.proofs.lemmas.Option.{slice_get_within}
use Rattle.three_pass.specs.declared.told.Note.{Note}
use Rattle.three_pass.proofs.Noted.{to_at}
use Rattle.three_pass.proofs.told.Told.is_untold.Goals as goal

pub returns : goal.returns
returns c = λ zero b told. elim told [
  | inl all ↦ (let no = c.if-self.false in cc)
  | inr h ↦
      let notes = c.args.self.now.notes.items in
      let rows = c.args.self.now.order.now in
      let last = c.args.self.now.last.items in
      let row = c.args.place in
      let chain = c.args.self.now.chained c.if-self.false in
      let stands : c.stands_at.result ≡ true = elim (cases_Bool c.stands_at.result) [ inl t ↦ t | inr f ↦ (let no = c.if-not-stands_at.false in cc) ] in
      let inside = c.stands_at.ensures.inside stands in
      let at : slice_index rows row ≡ c.args.asn = c.stands_at.ensures.there stands in
      let read : c.index.result.now ≡ slice_index last row = get_or_read last row c.index.result.now (omega (arith, inside, c.args.self.now.len)) c.index.ensures 0 in
      let none : c.index.result.now ≡ 0 = eqb-true c.index.result.now 0 zero in
      chain.none_after row h.at inside (omega (arith, read, none)) (omega (arith, slice_get_within notes h.at h.note h.there, length-map notes (λ (t : Note). t.to))) (to_at notes h.at h.note h.there ∙ h.to ∙ sym at)
]
