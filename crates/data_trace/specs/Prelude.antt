-- The words of this crate that the clauses of crates above use, to import from one place.
pub use Rattle.data_trace.specs.Hops.{next_hop}
pub use Rattle.data_trace.specs.Traces.{IsTrace}
pub use Rattle.data_trace.specs.Views.{addr_of, rows_of, spare_of}
pub use Rattle.data_trace.specs.Indexes.{IsIndexOf}
