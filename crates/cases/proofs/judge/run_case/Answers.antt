use Rattle.std.proofs.Common.{◌≡◌, List, ap, map, string_bytes, subst, ◌∙◌}
use Rattle.std.specs.declared.alloc.Global.{Global}
use Rattle.std.specs.declared.string.String.{String}
use Rattle.io_edge.specs.Mem.{MemBytes, MemFiles}
use Rattle.task_reading.specs.declared.types.Status.{Status}
use Rattle.asprop_run.specs.Runs.{IsRun}
use Rattle.cases.specs.Runs.{inputs_of, sink_of, source, stream}
use Rattle.cases.proofs.judge.run_case.Goals as goal

-- a run over the same inputs, words and sinks
run_over : (from over left : MemFiles) (words said : List (String Global)) (status : Status) (out to out_left err at err_left : MemBytes) → from ≡ over → words ≡ said → out ≡ to → err ≡ at
    → IsRun (source from left) (map string_bytes words) status (stream out out_left) (stream err err_left)
    → IsRun (source over left) (map string_bytes said) status (stream to out_left) (stream at err_left)
run_over from over left words said status out to out_left err at err_left p q r s ran =
    subst (λ i. IsRun (source i left) (map string_bytes said) status (stream to out_left) (stream at err_left)) p
    (subst (λ w. IsRun (source from left) (map string_bytes w) status (stream to out_left) (stream at err_left)) q
    (subst (λ o. IsRun (source from left) (map string_bytes words) status (stream o out_left) (stream at err_left)) r
    (subst (λ e. IsRun (source from left) (map string_bytes words) status (stream out out_left) (stream e err_left)) s ran)))

pub returns : goal.returns
returns c =
    let case = c.args.case.now in
    let way = c.args.way in
    let of_out = c.in_ok-out.ensures in
    let of_err = c.in_ok-err.ensures in
    let is_from = c.in_ok-inputs.ensures ∙ ap (λ files. inputs_of files way) c.deref.ensures.value in
    record {
      inputs = c.run.new.inputs;
      out_room = of_out.0;
      err_room = of_err.0;
      out_fits = rw c.deref-2.ensures.value at of_out.1;
      err_fits = rw c.deref-3.ensures.value at of_err.1;
      status = c.run.result;
      number = c.number-status.ensures;
      ran = run_over c.in_ok-inputs.inputs (inputs_of case.files.items way) c.run.new.inputs c.deref-4.result.now case.words.items c.run.result
          c.in_ok-out.out (sink_of of_out.0 way.most way.write) c.run.new.out c.in_ok-err.err (sink_of of_err.0 way.most way.tell) c.run.new.err
          is_from c.deref-4.ensures.value of_out.2 of_err.2 c.run.ensures.ran;
    }
