use Rattle.std.proofs.Common.{◌≡◌, ℕ, ◌<◌, length, take, true}
use Rattle.net_names.specs.Numbers.{occurs}
use Rattle.data_trace.specs.Columns.{name_at}
use Rattle.data_trace.specs.Sources.{HasHop}
use Rattle.data_trace.specs.Detached.{IsDetached}
use Rattle.data_trace.proofs.leaving.detach.Given as goal

abbrev pub invariant-changed : goal.invariant-changed
invariant-changed l = record {
  done : (x : ℕ) → x < length l.ases.ases → occurs (name_at l.ases.ases x) (take l.asn-index l.changed) ≡ true → HasHop l.source l.ases.ases l.columns.hops.items x;
  detached : IsDetached l.source l.ases.ases l.fn.columns l.columns l.fn.lists l.lists;
}
