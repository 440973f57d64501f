use Rattle.std.proofs.Common.{◌≡◌, ◌+◌, ◌++◌, ◌∷◌, [], Some, None, cond, take, take_all, sym, ap, ◌∙◌}
use Rattle.std.specs.FinMap as map
use Rattle.std.specs.Ordering.{nat_cmp}
use Rattle.std.proofs.lemmas.List.{take_more}
use Rattle.std.proofs.lemmas.Option.{slice_get-get_or}
use Rattle.net_names.specs.Numbers.{occurs}
use Rattle.route_choice.specs.Routings.{seed_of, seeds_of}
use Rattle.route_choice.specs.Tables.{seed_at}
use Rattle.stability_laws.proofs.Listing.{occurs_at}
use Rattle.leak_round.proofs.PathsOut.{all_out, one_more}
use Rattle.leak_round.proofs.seeds_out.seeds_out.Goals as goal

pub loop-asn-init : goal.loop-asn-init
loop-asn-init c = record {
  so_far = λ a. ap (λ m. map.get m a) c.new-seeds.ensures ∙ map.get-empty nat_cmp a;
  short = λ a seed is. (let none : None ≡ Some seed = sym (ap (λ m. map.get m a) c.new-seeds.ensures ∙ map.get-empty nat_cmp a) ∙ is in cc);
}

pub put_out-requires-clause-there : goal.put_out-requires-clause-there
put_out-requires-clause-there c =
    let xs = c.ases-ases.result.now in
    let i = c.loop-asn.asn-index in
    let x = c.asn-item.result in
    sym (c.ases-ases.ensures x) ∙ occurs_at xs i x (slice_get-get_or xs i x c.loop-asn-test.true ∙ ap (λ n. Some n) (sym c.asn-item.is))

pub loop-asn-preserved : goal.loop-asn-preserved
loop-asn-preserved c =
    let xs = c.ases-ases.result.now in
    let i = c.loop-asn.asn-index in
    let x = c.asn-item.result in
    record {
      so_far = one_more (seeds_of c.args.pool.now c.args.ids.now) (map.get c.loop-asn.seeds) (map.get c.put_out.new.seeds) (take i xs) (take (i + 1) xs) x
          (take_more xs i x c.loop-asn-test.true ∙ ap (λ n. take i xs ++ n ∷ []) (sym c.asn-item.is)) c.in_ok-put_out.ensures.this c.in_ok-put_out.ensures.others c.loop-asn.invariant.so_far;
      short = c.in_ok-put_out.ensures.short;
    }

pub returns-clause-seeds : goal.returns-clause-seeds
returns-clause-seeds c = λ a.
    c.loop-asn.invariant.so_far a
    ∙ ap (λ xs. cond (occurs a xs) (seeds_of c.args.pool.now c.args.ids.now a) None) (take_all c.loop-asn.asn-index c.ases-ases.result.now c.loop-asn-test.false)
    ∙ ap (λ b. cond b (seeds_of c.args.pool.now c.args.ids.now a) None) (c.ases-ases.ensures a)
    ∙ all_out (seed_of c.args.pool.now) (seed_at c.args.ids.now a)
