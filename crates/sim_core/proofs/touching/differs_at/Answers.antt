use Rattle.std.proofs.Common.{◌≡◌, ◌∙◌, ◌<◌, ℕ, inl, inr, List, Some, length, sym, ap, subst, arith}
use Rattle.std.specs.Prelude.{slice_get}
use Rattle.std.proofs.lemmas.Option.{slice_get_within}
use Rattle.net_names.specs.Numbers.{last_or}
use Rattle.origin_validation.specs.Judging.{state_of}
use Rattle.roa_table.specs.Sets.{taken}
use Rattle.stability_laws.specs.Plans.{announced_path}
use Rattle.sim_core.proofs.Listed.{place_or}
use Rattle.sim_core.proofs.Renewals.{read_at}
use Rattle.sim_core.proofs.touching.differs_at.Goals as goal

pub loop-asn-preserved : goal.loop-asn-preserved
loop-asn-preserved c place a path less at told =
    let xs = c.announcers-asn-items.result.now in
    let i = c.loop-asn.asn-index in
    let x = c.asn-item.result in
    elim (place_or place i less) [
      | inl earlier ↦ c.loop-asn.invariant place a path earlier at told
      | inr last ↦ (
          let one : Some x ≡ Some a = sym (read_at xs i x c.loop-asn-test.true c.asn-item.is) ∙ (ap (slice_get xs) (sym last) ∙ at) in
          let same : x ≡ a = cc in
          c.differs.ensures (last_or 0 path) (c.origin_of.ensures path (ap (announced_path c.args.plan.now c.args.prefix) same ∙ told)) c.if-differs.false)
    ]

pub returns : goal.returns
returns c none origin is =
    let xs = c.announcers-asn-items.result.now in
    let (place, at) = c.announcer_at-first.ensures.listed.whole is.asn (record { prefix = c.args.prefix; path = is.path; announced = is.announced }) in
    let here : slice_get xs place ≡ Some is.asn = ap (λ (l : List ℕ). slice_get l place) c.announcers-asn-items.ensures ∙ at in
    let within : place < length xs = slice_get_within xs place is.asn here in
    subst (λ (o : ℕ). state_of (taken c.args.vrps.now c.args.vrp) c.args.prefix o ≡ state_of c.args.vrps.now c.args.prefix o) is.last (c.loop-asn.invariant place is.asn is.path (omega (arith, within, c.loop-asn-test.false)) here is.announced)
