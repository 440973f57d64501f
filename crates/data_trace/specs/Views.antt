-- What contracts see of a watch.
use Rattle.std.specs.Prelude.{◌≡◌, ℕ, List}
use Rattle.net_names.specs.Addresses.{AddrValue}
use Rattle.data_trace.specs.declared.watch.Watch.{Watch}
use Rattle.data_trace.specs.Watches.{Row}
use Rattle.data_trace.specs.Columns.{rows}

-- the rows of a watch, one for each AS
abbrev pub rows_of : Watch → List Row
rows_of w = rows w.ases.ases w.columns.hops.items w.columns.marks.items w.columns.groups.items

-- the watched address
abbrev pub addr_of : Watch → AddrValue
addr_of w = w.addr

-- how many ASes a graph may have of which the watch can keep all without memory
abbrev pub spare_of : Watch → ℕ
spare_of w = w.spare

-- the two watches have the same ASes, next hops, ends and groups, and the same address
pub record SameColumns (old new : Watch) : Type 0 where
  pub ases : new.ases.ases ≡ old.ases.ases
  pub hops : new.columns.hops.items ≡ old.columns.hops.items
  pub marks : new.columns.marks.items ≡ old.columns.marks.items
  pub groups : new.columns.groups.items ≡ old.columns.groups.items
  pub addr : new.addr ≡ old.addr
