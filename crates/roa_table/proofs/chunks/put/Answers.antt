use Rattle.std.proofs.Common.{◌∙◌, ap, subst}
use Rattle.roa_table.specs.Sets.{set_of}
use Rattle.roa_table.specs.Chunks.{IsHome}
use Rattle.roa_table.proofs.Booleans.{on_err}
use Rattle.roa_table.proofs.Chunking.{rising_here, put_order_at, put_set_at, same_order_at, same_all_at}
use Rattle.roa_table.proofs.chunks.put.Goals as goal

pub put-requires : goal.put-requires
put-requires c = rising_here c.args.chunks.now.items c.prefix.result c.home-k.result c.index_mut-chunk.result.now c.requires (subst (λ ss. IsHome ss c.prefix.result c.home-k.result) c.as_slice.ensures.value c.home-k.ensures) c.index_mut-chunk.ensures.value

pub returns-in_err-put-clause-order : goal.returns-in_err-put-clause-order
returns-in_err-put-clause-order c = same_order_at c.args.chunks.now.items c.prefix.result c.home-k.result c.index_mut-chunk.result.now c.requires (subst (λ ss. IsHome ss c.prefix.result c.home-k.result) c.as_slice.ensures.value c.home-k.ensures) c.index_mut-chunk.ensures.value c.put.new.self c.in_err-put.ensures.low c.in_err-put.ensures.err

pub returns-in_err-put-clause-err : goal.returns-in_err-put-clause-err
returns-in_err-put-clause-err c = on_err c.from_residual.result (same_all_at c.args.chunks.now.items c.prefix.result c.home-k.result c.index_mut-chunk.result.now c.requires (subst (λ ss. IsHome ss c.prefix.result c.home-k.result) c.as_slice.ensures.value c.home-k.ensures) c.index_mut-chunk.ensures.value c.put.new.self c.in_err-put.ensures.low c.in_err-put.ensures.err)

pub cut-requires-clause-order : goal.cut-requires-clause-order
cut-requires-clause-order c = put_order_at c.args.chunks.now.items c.prefix.result c.home-k.result c.index_mut-chunk.result.now c.requires (subst (λ ss. IsHome ss c.prefix.result c.home-k.result) c.as_slice.ensures.value c.home-k.ensures) c.index_mut-chunk.ensures.value c.args.vrp c.prefix.ensures c.put.new.self c.in_ok-put.ensures.low c.in_ok-put.ensures.ok

pub returns-then-is_long-clause-ok : goal.returns-then-is_long-clause-ok
returns-then-is_long-clause-ok c = ap set_of c.cut.ensures.same ∙ put_set_at c.args.chunks.now.items c.prefix.result c.home-k.result c.index_mut-chunk.result.now c.requires (subst (λ ss. IsHome ss c.prefix.result c.home-k.result) c.as_slice.ensures.value c.home-k.ensures) c.index_mut-chunk.ensures.value c.args.vrp c.prefix.ensures c.put.new.self c.in_ok-put.ensures.low c.in_ok-put.ensures.ok

pub returns-else-is_long-clause-order : goal.returns-else-is_long-clause-order
returns-else-is_long-clause-order c = put_order_at c.args.chunks.now.items c.prefix.result c.home-k.result c.index_mut-chunk.result.now c.requires (subst (λ ss. IsHome ss c.prefix.result c.home-k.result) c.as_slice.ensures.value c.home-k.ensures) c.index_mut-chunk.ensures.value c.args.vrp c.prefix.ensures c.put.new.self c.in_ok-put.ensures.low c.in_ok-put.ensures.ok

pub returns-else-is_long-clause-ok : goal.returns-else-is_long-clause-ok
returns-else-is_long-clause-ok c = put_set_at c.args.chunks.now.items c.prefix.result c.home-k.result c.index_mut-chunk.result.now c.requires (subst (λ ss. IsHome ss c.prefix.result c.home-k.result) c.as_slice.ensures.value c.home-k.ensures) c.index_mut-chunk.ensures.value c.args.vrp c.prefix.ensures c.put.new.self c.in_ok-put.ensures.low c.in_ok-put.ensures.ok
