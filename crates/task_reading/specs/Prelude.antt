-- The words of this crate that the clauses of crates above use, to import from one place.
pub use Rattle.task_reading.specs.Sources.{source_of}
pub use Rattle.task_reading.specs.Words.{HasSize, form_of, form_seen, name_by}
pub use Rattle.task_reading.specs.Jobs.{AreAlike, IsSoundJob, Job, acts_job, counts_job, job_seen, line_job, messages_job, needs_of, tables_job}
