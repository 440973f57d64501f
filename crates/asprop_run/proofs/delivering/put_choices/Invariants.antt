use Rattle.std.proofs.Common.{◌≡◌, ◌++◌, take, flat_map}
use Rattle.message_sim.specs.Nets.{net_of}
use Rattle.stability_laws.specs.EntryTexts.{entry_row}
use Rattle.asprop_run.proofs.delivering.put_choices.Given as goal

abbrev pub invariant-loop-asn : goal.invariant-loop-asn
invariant-loop-asn l = l.text.items ≡ l.fn.text.items ++ flat_map (λ a. entry_row a ((net_of l.net).choice a)) (take l.asn-index l.ases)
