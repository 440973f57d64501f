use Rattle.std.proofs.Common.{◌≡◌, ◌≤◌, length, map, take, vec_len, vec_capacity}
use Rattle.caida_reader.specs.Entries.{entry_of}
use Rattle.caida_reader.specs.Runs.{link_of, turned}
use Rattle.caida_reader.specs.declared.entry.Entry.{Entry}
use Rattle.caida_reader.proofs.runs.gather_back.Given as goal

abbrev pub invariant-exchanged : goal.invariant-exchanged
invariant-exchanged l = record {
  links : l.links.items ≡ map (λ (e : Entry). link_of (turned (entry_of e))) (take l.entry-index l.exchanged);
  len : vec_len l.links ≡ l.entry-index;
  room : length l.exchanged ≤ vec_capacity l.links;
}
