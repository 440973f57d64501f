-- Answers to queries.
use Rattle.std.specs.Prelude.{◌≡◌, ℕ, ◌&&◌, Bool, Option, None, Some, List, [], ◌∷◌, ◌++◌, decimal, if◌then◌else◌}
use Rattle.std.specs.FinSet as set
use Rattle.scenario_text.specs.declared.acts.Query.{Query}
use Rattle.scenario_text.specs.declared.acts.Query.TheVariants.{Routes, Route, Trace, Report, Ranks, Validity}
use Rattle.as_graph.specs.Topology.{has}
use Rattle.roa_table.specs.Cover.{covering}
use Rattle.origin_validation.specs.Judging.{state_of}
use Rattle.data_trace.specs.Hops.{next_hop}
use Rattle.data_trace.specs.Traces.{IsTrace}
use Rattle.data_trace.specs.contracts.kinds.EndPartialEq.TheImpl as same_end
use Rattle.data_trace.specs.declared.kinds.End.{End}
use Rattle.stability_laws.specs.Plans.{announcers_of, has_prefix}
use Rattle.reports.specs.Counts.{report_text}
use Rattle.net_names.specs.Texts.{numbers_text}
use Rattle.stability_laws.specs.EntryTexts.{entry_row, row}
use Rattle.reports.specs.Rows.{table}
use Rattle.reports.specs.Traces.{end_word}
use Rattle.reports.specs.Validity.{validity_text}
use Rattle.sim_core.specs.World.{World, has_round, topology}
use Rattle.sim_core.specs.Kept.{Kept}
use Rattle.sim_core.specs.Counting.{how_many, in_group}
use Rattle.sim_core.specs.declared.errors.QueryError.{QueryError}
use Rattle.sim_core.specs.declared.errors.QueryError.TheVariants.{UnknownRound, UnknownPrefix, UnknownAs, NotWatched, Memory}

-- this refusal, unless what it asks for is there
abbrev pub needs : {E : Type 0} → Bool → E → Option E → Option E
needs there e others = if there then others else Some e

-- the round is refused, or else what the rest refuses
abbrev pub in_round : World → ℕ → Option QueryError → Option QueryError
in_round w n = needs (has_round w n) (UnknownRound n)

-- why a query is refused: the first thing in the order round, prefix, AS, watched address that it names and that the world has not
abbrev pub refusal_of : World → Query → Option QueryError
refusal_of w (Routes n p) = in_round w n (needs (has_prefix w.plan p) (UnknownPrefix p) None)
refusal_of w (Route n p a) = in_round w n
    (needs (has_prefix w.plan p) (UnknownPrefix p) (needs (has (topology w) a) (UnknownAs a) None))
refusal_of w (Trace n a _) = in_round w n (needs (has (topology w) a) (UnknownAs a) None)
refusal_of w (Report n x) = in_round w n (needs (set.contains w.watched x) (NotWatched x) None)
refusal_of w q = None

-- the text is the answer to a query, by what is kept of the world and by its payloads (own format; `(same_end.ghosts).eq` says whether two ends are the same)
abbrev pub IsAnswer : World → Kept → Query → List ℕ → Type 0
IsAnswer w k (Routes n p) t = t ≡ table (topology w) (λ a. entry_row a (k.routings n p a))
IsAnswer w k (Route n p a) t = t ≡ entry_row a (k.routings n p a)
IsAnswer w k (Trace n a addr) t = (walk : List ℕ) × (end : End) × IsTrace (next_hop w.plan (k.routings n) addr) a walk end × (t ≡ row (end_word end ∷ numbers_text walk ∷ []))
IsAnswer w k (Report n addr) t = t ≡ report_text (λ g. how_many w (in_group w k g))
    (λ g e. how_many w (λ a. in_group w k g a && (same_end.ghosts).eq (k.ends n addr a) e)) (announcers_of w.plan)
IsAnswer w k Ranks t = t ≡ table (topology w) (λ a. row (decimal a ∷ decimal (k.ranks a) ∷ []))
IsAnswer w k (Validity p a) t = t ≡ validity_text (state_of w.payloads p a) (covering w.payloads p)

-- the answer to the query was appended
pub record Answers (w : World) (k : Kept) (q : Query) (old new : List ℕ) : Type 0 where
  pub text : List ℕ
  pub answer : IsAnswer w k q text
  pub accepted : refusal_of w q ≡ None
  pub appended : new ≡ old ++ text

-- memory is wanting, or this is the reason to refuse the query
abbrev pub IsQueryRefusal : World → Query → QueryError → Type 0
IsQueryRefusal w q Memory = Unit {0}
IsQueryRefusal w q e = refusal_of w q ≡ Some e
