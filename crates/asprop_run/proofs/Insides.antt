-- Where nothing is outside, all jobs have answers.
use Rattle.std.proofs.Common.{◌≡◌, ◌<◌, inl, inr, true, All, List, [], ◌∷◌, None, sym, subst}
use Rattle.std.proofs.lemmas.List.Elements.{All-head, All-tail}
use Rattle.net_names.specs.Prefixes.{PrefixValue}
use Rattle.as_graph.specs.Topology.{as_count}
use Rattle.sim_core.specs.World.{HasCycle, World, topology}
use Rattle.stability_laws.specs.Plans.{has_prefix}
use Rattle.asprop_run.specs.Inside.{AreInside, IsInside}
use Rattle.asprop_run.specs.Task.{outside}
use Rattle.asprop_run.proofs.Named.{acts_named, deliveries_named}
use Rattle.asprop_run.proofs.Sweeps.{passed_by, sweeps_inside}
use Rattle.trial_world.specs.Sweeps.{is_inside}
use Rattle.task_reading.specs.Jobs.{AreAlike, IsOfLines, Job, acts_job, counts_job, line_job, messages_job, sweep_job, tables_job}

line_inside : (w : World) (job : Job) → IsOfLines job → IsInside w job
line_inside w counts_job h = tt
line_inside w (line_job heads line) h = tt
line_inside w (acts_job acts) h = absurd h
line_inside w (messages_job deliveries) h = absurd h
line_inside w (sweep_job line) h = absurd h
line_inside w (tables_job t) h = absurd h

lines_inside : (w : World) (jobs : List Job) → All IsOfLines jobs → AreInside w jobs
lines_inside w [] h = tt
lines_inside w (job ∷ jobs) h = (line_inside w job (All-head IsOfLines job jobs h), λ text refused after answered. lines_inside after jobs (All-tail IsOfLines job jobs h))

-- a job alone, of whose file nothing is outside
alone_inside : (w : World) (job : Job) → (HasCycle w → ⊥) → outside w (job ∷ []) ≡ None → ((p : PrefixValue) → has_prefix w.plan p ≡ true → 0 < as_count (topology w)) → IsInside w job
alone_inside w counts_job uncycled none populated = tt
alone_inside w (line_job heads line) uncycled none populated = tt
alone_inside w (acts_job acts) uncycled none populated = (none, populated acts.prefix (acts_named w acts none).0.1)
alone_inside w (messages_job deliveries) uncycled none populated = (none, populated deliveries.prefix (deliveries_named w deliveries none).0.1)
alone_inside w (sweep_job line) uncycled none populated = ((passed_by (is_inside w line) None line.line none).0, uncycled)
alone_inside w (tables_job t) uncycled none populated = none

-- jobs that are alike, in a world that has what they name, and an AS where it has a prefix
pub all_inside : (w : World) (jobs : List Job) → AreAlike jobs → (HasCycle w → ⊥) → outside w jobs ≡ None → ((p : PrefixValue) → has_prefix w.plan p ≡ true → 0 < as_count (topology w)) → AreInside w jobs
all_inside w jobs (inl lines) uncycled none populated = lines_inside w jobs lines
all_inside w jobs (inr (inl (lines, is))) uncycled none populated =
    subst (AreInside w) (sym is) (sweeps_inside w lines uncycled (subst (λ (l : List Job). outside w l ≡ None) is none))
all_inside w jobs (inr (inr (job, is))) uncycled none populated =
    let nothing : outside w (job ∷ []) ≡ None = subst (λ (l : List Job). outside w l ≡ None) is none in
    subst (AreInside w) (sym is) (alone_inside w job uncycled nothing populated, λ text refused after answered. tt)
