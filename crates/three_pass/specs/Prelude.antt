-- The words of this crate that the clauses of crates above use, to import from one place.
pub use Rattle.three_pass.specs.Courses.{IsCourse}
pub use Rattle.three_pass.specs.Scratches.{IsScratch}
pub use Rattle.three_pass.specs.Ways.{IsWay}
