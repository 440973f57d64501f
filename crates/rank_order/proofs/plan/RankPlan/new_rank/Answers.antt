use Rattle.std.proofs.Common.{◌≡◌, ℕ, ◌<◌, true, false, cond, Some, None, List, length, get_or, sym, ap, arith, ◌∙◌}
use Rattle.std.proofs.lemmas.Bool.{lt-ltb, false_from_ne_true, ltb-true}
use Rattle.net_names.specs.Numbers.{occurs}
use Rattle.cycle_check.specs.Places.{place_in}
use Rattle.cycle_check.specs.Providers.{rank_by}
use Rattle.rank_order.proofs.Edited.{place_tells}
use Rattle.rank_order.proofs.plan.RankPlan.new_rank.Goals as goal

pub returns-then-place-len : goal.returns-then-place-len
returns-then-place-len c =
    let ases = c.args.self.now.ases.items in
    let ranks = c.args.self.now.ranks.items in
    let slice = c.deref.result.now in
    let asn = c.args.asn in
    let less : place_in slice asn < length slice = omega (arith, c.place_in-place.ensures.place, c.if-place-len.true, c.len.ensures, c.deref.ensures.len) in
    let there : occurs asn ases ≡ true = ap (occurs asn) (sym c.deref.ensures.value) ∙ sym (place_tells slice asn) ∙ lt-ltb (place_in slice asn) (length slice) less in
    ap Some (c.rank_of.ensures ∙ ap (λ (rs : List ℕ). get_or rs c.place_in-place.result 0) c.deref-then-place-len.ensures.value ∙ ap (λ k. get_or ranks k 0) (c.place_in-place.ensures.place ∙ ap (λ (xs : List ℕ). place_in xs asn) c.deref.ensures.value))
    ∙ sym (ap (λ b. cond b (Some (rank_by ases ranks asn)) (cond (occurs asn c.args.self.now.ends.items) (Some 0) None)) there)

pub returns-else-contains : goal.returns-else-contains
returns-else-contains c =
    let ases = c.args.self.now.ases.items in
    let slice = c.deref.result.now in
    let asn = c.args.asn in
    let away : occurs asn ases ≡ false =
    ap (occurs asn) (sym c.deref.ensures.value) ∙ sym (place_tells slice asn)
    ∙ false_from_ne_true _ (λ t. (let less = ltb-true (place_in slice asn) (length slice) t in omega (arith, less, c.place_in-place.ensures.place, c.if-place-len.false, c.len.ensures, c.deref.ensures.len))) in
    let gone : occurs asn c.args.self.now.ends.items ≡ false = ap (occurs asn) (sym c.deref-2.ensures.value) ∙ sym c.contains.ensures.value ∙ c.if-contains.false in
    sym
    (ap (λ b. cond b (Some (rank_by ases c.args.self.now.ranks.items asn)) (cond (occurs asn c.args.self.now.ends.items) (Some 0) None)) away
    ∙ ap (λ b. cond b (Some 0) None) gone)
