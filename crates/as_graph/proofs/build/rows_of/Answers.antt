use Rattle.std.proofs.Common.{ℕ, List, ◌≡◌, Result, Ok, Err, IfOk, IfErr, sym, ◌∙◌, ap, subst}
use Rattle.std.specs.FinMap as map
use Rattle.net_names.specs.Links.{LinkMap}
use Rattle.as_graph.specs.declared.ends.End.{End}
use Rattle.as_graph.specs.declared.error.GraphError.{GraphError}
use Rattle.as_graph.specs.declared.error.GraphError.TheVariants.{Memory, TooManyLinks, TooManyAses}
use Rattle.as_graph.specs.Ends.{lower_ends, higher_ends, ends_at, AreTurned, AreByAs}
use Rattle.as_graph.specs.Gathering.{AreGathered, IsGatherRefusal}
use Rattle.as_graph.specs.Graphs.{Rows, IsBuilt}
use Rattle.as_graph.specs.Refusals.{IsBuildRefusal}
use Rattle.as_graph.proofs.RowsOfLinks.{lower_ends-by_as, rising_rows, built-gathered, as_count-many}
use Rattle.as_graph.proofs.build.rows_of.Goals as goal

pub gather-requires-clause-lower_by_as : goal.gather-requires-clause-lower_by_as
gather-requires-clause-lower_by_as c = subst AreByAs (sym (c.as_slice-2.ensures.value ∙ c.in_ok-lower.ensures.ends)) (lower_ends-by_as c.args.links.now)

pub gather-requires-clause-rising : goal.gather-requires-clause-rising
gather-requires-clause-rising c =
    rising_rows c.args.links.now c.as_slice.result.now c.as_slice-2.result.now c.in_ok-lower.ensures.turned (λ a. ap (ends_at a) c.as_slice.ensures.value ∙ c.in_ok-higher.ensures.ends a) (c.as_slice-2.ensures.value ∙ c.in_ok-lower.ensures.ends)

-- what was gathered of the ends is what the links make
module _ (links : LinkMap) (hs ls : List End) (turned : AreTurned (map.entries links)) (higher : (a : ℕ) → ends_at a hs ≡ ends_at a (higher_ends (map.entries links))) (lower : ls ≡ lower_ends (map.entries links)) where
  on_ok : (r : Result Rows GraphError) → IfOk r (λ m. AreGathered m hs ls) → IfOk r (λ m. IsBuilt m (map.entries links))
  on_ok (Ok m) g = built-gathered links hs ls turned higher lower m g
  on_ok (Err e) g = tt

  on_err : (r : Result Rows GraphError) → IfErr r (IsGatherRefusal hs ls) → IfErr r (IsBuildRefusal links)
  on_err (Ok m) h = tt
  on_err (Err Memory) h = tt
  on_err (Err TooManyLinks) h = h
  on_err (Err TooManyAses) h = as_count-many links hs ls turned higher lower h.0 h.1

pub returns-clause-built : goal.returns-clause-built
returns-clause-built c =
    on_ok c.args.links.now c.as_slice.result.now c.as_slice-2.result.now c.in_ok-lower.ensures.turned (λ a. ap (ends_at a) c.as_slice.ensures.value ∙ c.in_ok-higher.ensures.ends a) (c.as_slice-2.ensures.value ∙ c.in_ok-lower.ensures.ends) c.gather.result c.gather.ensures.gathered

pub returns-clause-refused : goal.returns-clause-refused
returns-clause-refused c =
    on_err c.args.links.now c.as_slice.result.now c.as_slice-2.result.now c.in_ok-lower.ensures.turned (λ a. ap (ends_at a) c.as_slice.ensures.value ∙ c.in_ok-higher.ensures.ends a) (c.as_slice-2.ensures.value ∙ c.in_ok-lower.ensures.ends) c.gather.result c.gather.ensures.refused
