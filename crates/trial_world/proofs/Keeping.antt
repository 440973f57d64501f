-- What is kept of a trial, tables or trees: the ends that it counts, and other books for which it is right.
use Rattle.std.proofs.Common.{◌≡◌, ℕ, Result, Ok, Err}
use Rattle.std.specs.Prelude.{OnErr}
use Rattle.policy_kinds.specs.declared.kind.Kind.{Kind}
use Rattle.stability_laws.specs.Book.{PolicyBook, policy_at}
use Rattle.trial_world.specs.Fixed.{IsFixed, world_of}
use Rattle.trial_world.specs.Trials.{AreEndsIn, AreKeptIn, count_in}
use Rattle.trial_world.specs.declared.fixed.Fixed.{Fixed}
use Rattle.trial_world.specs.declared.kept.Kept.{Kept}
use Rattle.trial_world.specs.declared.kept.Kept.TheVariants as kept
use Rattle.trial_world.proofs.TrialTables.{ends_in, other_book}
use Rattle.trial_world.proofs.TrialTrees.{other_trees, tree_ends}

-- a book that gives each AS the same policy has the same
pub other_kept : (f : Fixed) (old new : PolicyBook Kind) (t : Kept) → ((a : ℕ) → policy_at new a ≡ policy_at old a) → AreKeptIn f old t → AreKeptIn f new t
other_kept f old new (kept.Tables t) same are = other_book f old new t same are
other_kept f old new (kept.Trees t) same are = other_trees f old new t same are

-- the numbers of what is kept are those of the ends of packets
pub kept_ends : (f : Fixed) → IsFixed f → (book : PolicyBook Kind) (t : Kept) → AreKeptIn f book t → AreEndsIn f.graph.now (world_of f).payloads book (world_of f).plan f.plan f.round f.addr (count_in t)
kept_ends f is book (kept.Tables t) are = ends_in f is book t are
kept_ends f is book (kept.Trees t) are = tree_ends f is book t are

-- what holds of a refusal has what follows from it
pub after_err : {T E P Q : Type 0} (r : Result T E) → (P → Q) → OnErr r P → OnErr r Q
after_err (Ok x) more held = tt
after_err (Err e) more held = more held
