-- What is asked has jobs of one kind, so that all of them have what they name.
use Rattle.std.proofs.Common.{◌≡◌, ◌<◌, inl, inr, ℕ, All, Bool, true, false, List, [], ◌∷◌, map, zero, suc, Option, Some, None, Ok, refl, sym, subst, arith}
use Rattle.net_names.specs.Prefixes.{PrefixValue}
use Rattle.scenario_text.specs.LineValues.{LineValue}
use Rattle.scenario_text.specs.declared.acts.Act.TheVariants.{Query}
use Rattle.scenario_text.specs.declared.acts.Query.TheVariants.{Routes}
use Rattle.topo_gen.specs.Drawn.{drawn_links}
use Rattle.topo_gen.specs.Lines.{drawn_lines}
use Rattle.as_graph.specs.Topology.{as_count}
use Rattle.stability_laws.specs.Plans.{has_prefix}
use Rattle.sim_core.specs.World.{World, topology}
use Rattle.task_reading.specs.Asking.{jobs_in}
use Rattle.task_reading.specs.Jobs.{AreAlike, IsOfLines, Job, acts_job, counts_job, line_job, messages_job, tables_job}
use Rattle.task_reading.specs.Words.{Form, demo_form, file_form, origin_form}
use Rattle.task_reading.specs.declared.asking.Asked.{Asked}
use Rattle.task_reading.specs.declared.types.File.{File}
use Rattle.task_reading.specs.declared.words.FileOption.{FileOption}
use Rattle.task_reading.specs.declared.words.FileOption.TheVariants.{Script, Activations, Messages, Sweep, Check}
use Rattle.asprop_run.specs.Inside.{AreInside}
use Rattle.asprop_run.specs.Task.{HasAnswers, Task, task_of}
use Rattle.asprop_run.proofs.Insides.{all_inside}
use Rattle.asprop_run.proofs.Populated.{has_an_as}
use Rattle.answers_exist.proofs.Asked.{IsAskedBy, asked_for, both_ok, demo, everything, one_origin}

lines_alike : (heads : Bool) (lines : List LineValue) → All IsOfLines (map (line_job heads) lines)
lines_alike heads [] k d less = absurd (omega (arith, less))
lines_alike heads (x ∷ xs) zero d less = tt
lines_alike heads (x ∷ xs) (suc k) d less = lines_alike heads xs k d (omega (arith, less))

counts_alike : (jobs : List Job) → All IsOfLines jobs → All IsOfLines (counts_job ∷ jobs)
counts_alike jobs all zero d less = tt
counts_alike jobs all (suc k) d less = all k d (omega (arith, less))

found_alike : (option : FileOption) (bytes : List ℕ) (jobs : List Job) → jobs_in option bytes ≡ Ok jobs → AreAlike jobs
found_alike Script bytes jobs e = let (lines, read, is) = both_ok _ _ _ jobs e in inl (subst (All IsOfLines) (sym is) (lines_alike true lines))
found_alike Activations bytes jobs e = let (acts, read, is) = both_ok _ _ _ jobs e in inr (inr (acts_job acts, is))
found_alike Messages bytes jobs e = let (d, read, is) = both_ok _ _ _ jobs e in inr (inr (messages_job d, is))
found_alike Sweep bytes jobs e = let (sweeps, read, is) = both_ok _ _ _ jobs e in inr (inl (sweeps, is))
found_alike Check bytes jobs e = let (t, read, is) = both_ok _ _ _ jobs e in inr (inr (tables_job t, is))

ok_alike : (y x : Asked) → y ≡ x → AreAlike y.jobs → AreAlike x.jobs
ok_alike y x e h = subst (λ (z : Asked). AreAlike z.jobs) e h

asked_alike : (form : Option Form) (x : Asked) → IsAskedBy form x → AreAlike x.jobs
asked_alike None x h = absurd h
asked_alike (Some (demo_form n)) x is = ok_alike (demo n) x is (inl (counts_alike _ (lines_alike true (drawn_lines (drawn_links n)))))
asked_alike (Some (origin_form rel origin)) x (relations, links, found, is) = ok_alike (one_origin links origin) x is (inr (inr (line_job false (record { number = 1; act = Query (Routes 1 everything) }), refl)))
asked_alike (Some (file_form rel vrps scenario name option)) x files = found_alike option files.text x.jobs files.jobs

-- of a task with answers all jobs have what they name
pub task_inside : (form : Option Form) (reads : File → Option (List ℕ)) (t : Task) → task_of form reads ≡ Ok t → HasAnswers t → AreInside t.world t.jobs
task_inside form reads t e has =
    let (x, asked, world, jobs) = asked_for form reads t e in
    all_inside t.world t.jobs (subst AreAlike (sym jobs) (asked_alike form x asked)) has.0 has.1
    (subst (λ (w : World). (p : PrefixValue) → has_prefix w.plan p ≡ true → 0 < as_count (topology w)) (sym world) (has_an_as x.links x.vrps x.scenario))
