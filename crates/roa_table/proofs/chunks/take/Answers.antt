use Rattle.std.proofs.Common.{◌∙◌, ap, subst, rules, eqb-true, length}
use Rattle.roa_table.specs.Sets.{set_of}
use Rattle.roa_table.specs.Chunks.{IsHome}
use Rattle.roa_table.proofs.Chunking.{rising_here, stands_here, take_order_at, take_set_at, none_taken}
use Rattle.roa_table.proofs.chunks.take.Goals as goal

pub take-found-requires : goal.take-found-requires
take-found-requires c = rising_here c.args.chunks.now.items c.prefix.result c.home-k.result c.index_mut-chunk.result.now c.requires (subst (λ ss. IsHome ss c.prefix.result c.home-k.result) c.as_slice.ensures.value c.home-k.ensures) c.index_mut-chunk.ensures.value

pub returns-then-is_empty-clause-gone : goal.returns-then-is_empty-clause-gone
returns-then-is_empty-clause-gone c = none_taken c.args.chunks.now.items c.args.vrp (eqb-true (length c.args.chunks.now.items) 0 (search rules))

pub remove_empty-requires-clause-order : goal.remove_empty-requires-clause-order
remove_empty-requires-clause-order c = take_order_at c.args.chunks.now.items c.prefix.result c.home-k.result c.index_mut-chunk.result.now c.requires (subst (λ ss. IsHome ss c.prefix.result c.home-k.result) c.as_slice.ensures.value c.home-k.ensures) c.index_mut-chunk.ensures.value c.args.vrp c.prefix.ensures c.take-found.new.self c.take-found.ensures.low c.take-found.ensures.gone

pub returns-clause-gone : goal.returns-clause-gone
returns-clause-gone c = ap set_of c.remove_empty.ensures.same ∙ take_set_at c.args.chunks.now.items c.prefix.result c.home-k.result c.index_mut-chunk.result.now c.requires (subst (λ ss. IsHome ss c.prefix.result c.home-k.result) c.as_slice.ensures.value c.home-k.ensures) c.index_mut-chunk.ensures.value c.args.vrp c.prefix.ensures c.take-found.new.self c.take-found.ensures.low c.take-found.ensures.gone

pub returns-clause-found : goal.returns-clause-found
returns-clause-found c = c.take-found.ensures.found ∙ stands_here c.args.chunks.now.items c.prefix.result c.home-k.result c.index_mut-chunk.result.now c.requires (subst (λ ss. IsHome ss c.prefix.result c.home-k.result) c.as_slice.ensures.value c.home-k.ensures) c.index_mut-chunk.ensures.value c.args.vrp c.prefix.ensures
