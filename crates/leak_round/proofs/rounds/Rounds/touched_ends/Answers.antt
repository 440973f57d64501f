use Rattle.std.proofs.Common.{◌≡◌, inl, inr, ℕ, List, None, Some, length, refl, sym, subst}
use Rattle.std.proofs.lemmas.Option.{slice_get_past, slice_get_read}
use Rattle.std.specs.Prelude.{slice_get, IsTrue}
use Rattle.net_names.specs.Prefixes.{PrefixValue, prefix_cmp}
use Rattle.stability_laws.specs.Plans.{has_prefix, prefixes_of}
use Rattle.stability_laws.proofs.KeyLists.{seen_before_end}
use Rattle.stability_laws.proofs.Listing.{at_next}
use Rattle.leak_round.specs.declared.touched.Touched.{Touched}
use Rattle.leak_round.specs.Rounds.{plan_of}
use Rattle.leak_round.specs.Staying.{IsSettled}
use Rattle.leak_round.specs.Touched.{touches}
use Rattle.leak_round.proofs.Stays.{grow, next_only}
use Rattle.leak_round.proofs.rounds.Rounds.touched_ends.Goals as goal

pub loop-prefix-preserved : goal.loop-prefix-preserved
loop-prefix-preserved g c =
    let xs : List PrefixValue = c.prefixes-prefix-items.result.now in
    let i = c.loop-prefix.prefix-index in
    let q : PrefixValue = c.prefix-item.result in
    let old : Touched = c.loop-prefix.touched in
    let mid : Touched = c.touch_end.new.touched in
    let new : Touched = c.touch_end-in-loop-prefix.new.touched in
    let a = c.args.a in
    let b = c.args.b in
    let there : slice_get xs i ≡ Some q = slice_get_read xs (length xs) i q refl c.loop-prefix-test.true c.prefix-item.is in
    let settled = λ (t : Touched) (x y : ℕ) (p : PrefixValue). IsSettled g.P.RoutePolicy.meaning g.V.OriginStates.state_of c.args.world.now c.args.self.now t p x y in
    record {
      first = at_next xs i q (settled new a b) there
          (grow (touches mid q a) (touches new q a) (c.touch_end-in-loop-prefix.ensures.more q a) c.in_ok-touch_end.ensures.this)
          (λ j p less at. grow (touches old p a) (touches new p a) (λ yes. c.touch_end-in-loop-prefix.ensures.more p a (c.touch_end.ensures.more p a yes)) (c.loop-prefix.invariant.first j p less at));
      second = at_next xs i q (settled new b a) there
          c.in_ok-touch_end-2.ensures.this
          (λ j p less at. grow (touches old p b) (touches new p b) (λ yes. c.touch_end-in-loop-prefix.ensures.more p b (c.touch_end.ensures.more p b yes)) (c.loop-prefix.invariant.second j p less at));
      only = λ p x is. next_only (touches mid p x) (touches new p x)
          (λ was. next_only (touches old p x) (touches mid p x) (c.loop-prefix.invariant.only p x) (λ now free. inl (c.touch_end.ensures.only p x now free)) was)
          (λ now free. inr (c.touch_end-in-loop-prefix.ensures.only p x now free)) is;
    }

pub returns-clause-first : goal.returns-clause-first
returns-clause-first g c = λ prefix known.
    let xs : List PrefixValue = c.prefixes-prefix-items.result.now in
    let end = c.loop-prefix.prefix-index in
    let plan = plan_of c.args.self.now in
    let (place, less, at) = seen_before_end prefix_cmp (λ p. IsTrue (has_prefix plan p)) (prefixes_of plan) c.prefix_at-first.ensures.listed end (subst (λ (ys : List PrefixValue). slice_get ys end ≡ None) c.prefixes-prefix-items.ensures (slice_get_past xs end c.loop-prefix-test.false)) prefix known in
    c.loop-prefix.invariant.first place prefix less (subst (λ (ys : List PrefixValue). slice_get ys place ≡ Some prefix) (sym c.prefixes-prefix-items.ensures) at)

pub returns-clause-second : goal.returns-clause-second
returns-clause-second g c = λ prefix known.
    let xs : List PrefixValue = c.prefixes-prefix-items.result.now in
    let end = c.loop-prefix.prefix-index in
    let plan = plan_of c.args.self.now in
    let (place, less, at) = seen_before_end prefix_cmp (λ p. IsTrue (has_prefix plan p)) (prefixes_of plan) c.prefix_at-first.ensures.listed end (subst (λ (ys : List PrefixValue). slice_get ys end ≡ None) c.prefixes-prefix-items.ensures (slice_get_past xs end c.loop-prefix-test.false)) prefix known in
    c.loop-prefix.invariant.second place prefix less (subst (λ (ys : List PrefixValue). slice_get ys place ≡ Some prefix) (sym c.prefixes-prefix-items.ensures) at)
