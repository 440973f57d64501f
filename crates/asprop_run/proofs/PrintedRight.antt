-- What the query for routes prints is a table that is right.
use Rattle.std.proofs.Common.{◌≡◌, ◌≤◌, ◌<◌, ◌+◌, ◌^◌, ℕ, zero, suc, Bool, true, false, Some, Ok, ◌∷◌, ◌++◌, ◌&&◌, slice_get, if◌then◌else◌, nat_le, refl, ap, ap₂, ◌∙◌, arith, le-leb}
use Rattle.std.proofs.lemmas.Option.{slice_get_past}
use Rattle.clap.specs.Walk.{Text}
use Rattle.as_graph.specs.Topology.{has}
use Rattle.net_names.specs.Lines.{kept_from}
use Rattle.net_names.specs.Prefixes.{PrefixValue, IsPrefix}
use Rattle.origin_validation.specs.Judging.{state_of}
use Rattle.policy_kinds.specs.Kinds.{kind_policy}
use Rattle.reports.specs.Rows.{table}
use Rattle.scenario_text.specs.declared.acts.Act.TheVariants as act
use Rattle.scenario_text.specs.declared.acts.Query.TheVariants.{Routes}
use Rattle.sim_core.specs.Kept.{Kept, IsKept}
use Rattle.sim_core.specs.World.{HasCycle, World, topology}
use Rattle.sim_core.proofs.Families.{one_family}
use Rattle.stability_laws.specs.EntryTexts.{entry_row}
use Rattle.stability_laws.specs.Plans.{has_prefix}
use Rattle.stability_laws.specs.declared.entry.Entry.{Entry}
use Rattle.table_check.specs.Laws.{AcceptedAreRounds, PrintedRoundsAreAccepted, rounds_text}
use Rattle.table_check.specs.Printed.{IsAsn, IsPrintable, for_text}
use Rattle.table_check.specs.Reading.{tables_by}
use Rattle.table_check.specs.declared.tables.Tables.{Tables}
use Rattle.asprop_run.specs.Inside.{IsInside}
use Rattle.asprop_run.specs.Laws.{sections}
use Rattle.asprop_run.specs.Replies.{AnswersJob}
use Rattle.asprop_run.proofs.Checked.{kept_where_right}
use Rattle.asprop_run.proofs.OneSettling.{book_of}
use Rattle.asprop_run.proofs.Settled.{routes_rows}
use Rattle.task_reading.specs.Jobs.{line_job, tables_job}

-- sections that are the rows of routings
sections_are : (w : World) (k : Kept) (prefix : PrefixValue) (answers : ℕ → Text) (round count : ℕ)
    → ((r : ℕ) → round ≤ r → r < round + count → answers r ≡ table (topology w) (λ a. entry_row a (k.routings r prefix a)))
    → sections answers prefix round count ≡ rounds_text (topology w) k.routings prefix round count
sections_are w k prefix answers round zero is = refl
sections_are w k prefix answers round (suc count) is =
    ap₂ (λ (s t : Text). for_text round prefix ++ (10 ∷ (s ++ t))) (is round (omega arith) (omega arith))
    (sections_are w k prefix answers (suc round) count (λ r from below. is r (omega (arith, from)) (omega (arith, below))))

-- a round between the first and the last is there
there_by : (round rounds : ℕ) → 1 ≤ round → round ≤ rounds → (nat_le 1 round && nat_le round rounds) ≡ true
there_by round rounds from to = ap₂ (λ a b. a && b) (le-leb 1 round from) (le-leb round rounds to)

pub right_where_printed : AcceptedAreRounds kind_policy → PrintedRoundsAreAccepted kind_policy → (w : World) (k : Kept) (prefix : PrefixValue) (more number : ℕ) (answers : ℕ → Text)
    → (HasCycle w → ⊥) → IsKept w k → has_prefix w.plan prefix ≡ true → more < w.rounds → w.rounds < 10 ^ 9 → IsPrefix prefix.family prefix.addr prefix.len
    → ((a : ℕ) → has (topology w) a ≡ true → IsAsn a) → ((round a : ℕ) (e : Entry) → 1 ≤ round → round ≤ suc more → k.routings round prefix a ≡ Some e → IsPrintable e)
    → ((round : ℕ) → 1 ≤ round → round ≤ suc more → AnswersJob w (line_job false (record { number = number; act = act.Query (Routes round prefix) })) (answers round) false w)
    → (t : Tables) × (tables_by (kept_from 1 (sections answers prefix 1 (suc more))) ≡ Ok t) × IsInside w (tables_job t)
    × ((text : Text) (refused : Bool) (after : World) → AnswersJob w (tables_job t) text refused after → refused ≡ false)
right_where_printed law printed w k prefix more number answers none is known within few is_prefix ases printable told =
    let rows : (r : ℕ) → 1 ≤ r → r < 1 + suc more → answers r ≡ table (topology w) (λ a. entry_row a (k.routings r prefix a)) = λ r from below.
    let up : r ≤ w.rounds = omega (arith, within, below) in
    let x = told r from (omega (arith, below)) in
    x.4 ∙ routes_rows w x.0 x.2 r prefix false w (there_by r w.rounds from up) known x.3
    ∙ (λ i. table (topology w) (λ a. entry_row a (one_family w x.0.routings k.routings x.1.routings is.routings r prefix from up known a i))) in
    let read = printed (topology w) (book_of w) (λ p. state_of w.payloads p) w.plan w.rounds k.routings prefix more (λ cycle is_cycle. none (cycle, is_cycle)) is.routings.is known is_prefix ases
    (λ round a e from to holds. printable round a e from (omega (arith, to)) holds) (omega (arith, within)) (omega (arith, within, few)) in
    let t : Tables = read.0 in
    let inside : IsInside w (tables_job t) =
    ap (λ p. slice_get t.starts (if has_prefix w.plan p then w.rounds else 0)) read.2
    ∙ ap (λ b. slice_get t.starts (if b then w.rounds else 0)) known
    ∙ slice_get_past t.starts w.rounds (omega (arith, read.3, within)) in (
      t,
      ap (λ text. tables_by (kept_from 1 text)) (sections_are w k prefix answers 1 (suc more) rows) ∙ read.1,
      inside,
      λ text refused after answered. (kept_where_right law w k t none is inside refused text answered.1).1 read.4,
    )
