use Rattle.data_trace.proofs.Ends.{one_end}
use Rattle.data_trace.proofs.Traces.{HasTrace, trace_exists, one_trace, no_longer, trace_ends}
use Rattle.data_trace.proofs.laws.one_trace.Goals as goal

pub returns : goal.returns
returns c = λ next ases closed a.
    let t : HasTrace next a = trace_exists next ases closed a in
    (t.0, t.1, t.2, (λ ys other u. (one_trace next a t.0 ys t.1 other t.2 u, one_end next a t.1 other (trace_ends next a t.0 t.1 t.2) (trace_ends next a ys other u))), (λ ys w. no_longer next a t.0 ys t.1 t.2 w))
