-- A file of sweeps that is cut behind a line feed is read and answered part by part.
use Rattle.std.proofs.Common.{◌≡◌, ℕ, ◌+◌, ◌≤◌, Bool, true, false, cond, filter, List, [], ◌∷◌, ◌++◌, map, length, Option, Some, None, option_map, Ok, if◌then◌else◌, refl, sym, ap, subst, ◌∙◌, arith}
use Rattle.std.specs.List.{enumerate_from}
use Rattle.std.specs.Result.{result_map_both}
use Rattle.std.specs.Str.Lines.{strip_carriage_return}
use Rattle.std.proofs.lemmas.List.{map-append, length-append, length-map}
use Rattle.clap.specs.Walk.{Text}
use Rattle.net_names.specs.Lines.{kept_from, said_on}
use Rattle.net_names.specs.Texts.{fields}
use Rattle.sweep.specs.Reading.{sweep_of, with_line}
use Rattle.sweep.specs.declared.sweeps.Sweep.{Sweep}
use Rattle.sim_core.specs.World.{World}
use Rattle.trial_world.specs.Sweeps.{IsSweptIn, is_inside}
use Rattle.task_reading.specs.Asking.{jobs_in}
use Rattle.task_reading.specs.Jobs.{Job, acts_job, counts_job, line_job, messages_job, sweep_job, tables_job}
use Rattle.task_reading.specs.declared.types.Cause.TheVariants.{Sweeps}
use Rattle.task_reading.specs.declared.words.FileOption.TheVariants as option
use Rattle.asprop_run.specs.Laws.{SweepsAreIndependent}
use Rattle.asprop_run.specs.Replies.{AnswersJobs}
use Rattle.asprop_run.specs.Task.{outside}
use Rattle.told_laws.specs.SweepFiles.{AreSweeps, SweepFilesAreIndependent, asked_by, unnumbered}
use Rattle.told_laws.proofs.Cutting.{counts, kept_whole, lines_before}
use Rattle.told_laws.proofs.SweepFiles.{all_made, all_taken}
use Rattle.answers_exist.proofs.Asked.{both_ok}

-- ---- numbers of lines

-- what a line asks for, but for its number
abbrev asked : ℕ × List ℕ → Option Sweep
asked line = option_map unnumbered (asked_by line)

same_made : {X : Type 0} (f g : X → Sweep) → ((x : X) → unnumbered (f x) ≡ unnumbered (g x)) → (o : Option X) → option_map unnumbered (option_map f o) ≡ option_map unnumbered (option_map g o)
same_made f g same None = refl
same_made f g same (Some x) = ap (λ (s : Sweep). Some s) (same x)

same_asked : (n m : ℕ) (text : List ℕ) → asked (n, text) ≡ asked (m, text)
unfolding sweep_of
same_asked n m text = same_made _ _ (λ x. refl) _

same_lines : (n m : ℕ) (ls : List (List ℕ)) → map asked (filter counts (enumerate_from n ls)) ≡ map asked (filter counts (enumerate_from m ls))
same_lines n m [] = refl
same_lines n m (l ∷ ls) = by (counts (n, l)) (same_lines (n + 1) (m + 1) ls)
  where
    by : (b : Bool) → map asked (filter counts (enumerate_from (n + 1) ls)) ≡ map asked (filter counts (enumerate_from (m + 1) ls))
        → map asked (cond b ((n, l) ∷ filter counts (enumerate_from (n + 1) ls)) (filter counts (enumerate_from (n + 1) ls))) ≡ map asked (cond b ((m, l) ∷ filter counts (enumerate_from (m + 1) ls)) (filter counts (enumerate_from (m + 1) ls)))
    by true rest = (λ i. same_asked n m l i ∷ rest i)
    by false rest = rest

-- sweeps that differ from others by their numbers alone
record IsOther (os : List (Option Sweep)) (ss : List Sweep) : Type 0 where
  later : List Sweep
  say : os ≡ map Some later
  same : map unnumbered later ≡ map unnumbered ss

others : (os : List (Option Sweep)) (ss : List Sweep) → map (option_map unnumbered) os ≡ map (option_map unnumbered) (map Some ss) → IsOther os ss
others [] [] e = record { later = []; say = refl; same = refl }
others [] (s ∷ ss) e = cc
others (o ∷ os) [] e = cc
others (None ∷ os) (s ∷ ss) e = cc
others (Some x ∷ os) (s ∷ ss) e =
    let head : unnumbered x ≡ unnumbered s = cc in
    let tail : map (option_map unnumbered) os ≡ map (option_map unnumbered) (map Some ss) = cc in
    let rest = others os ss tail in
    record { later = x ∷ rest.later; say = ap (λ t. Some x ∷ t) rest.say; same = (λ i. head i ∷ rest.same i) }

map_twice : (ls : List (ℕ × List ℕ)) → map (option_map unnumbered) (map asked_by ls) ≡ map asked ls
map_twice [] = refl
map_twice (l ∷ ls) = ap (λ t. asked l ∷ t) (map_twice ls)

-- ---- jobs

sweeps_of : List Job → List Sweep
sweeps_of [] = []
sweeps_of (sweep_job s ∷ jobs) = s ∷ sweeps_of jobs
sweeps_of (counts_job ∷ jobs) = sweeps_of jobs
sweeps_of (line_job heads line ∷ jobs) = sweeps_of jobs
sweeps_of (acts_job acts ∷ jobs) = sweeps_of jobs
sweeps_of (messages_job d ∷ jobs) = sweeps_of jobs
sweeps_of (tables_job t ∷ jobs) = sweeps_of jobs

of_jobs : (ss : List Sweep) → sweeps_of (map sweep_job ss) ≡ ss
unfolding sweeps_of
of_jobs [] = refl
of_jobs (s ∷ ss) = ap (λ t. s ∷ t) (of_jobs ss)

read_sweeps : (text : Text) (ss : List Sweep) → jobs_in option.Sweep text ≡ Ok (map sweep_job ss) → AreSweeps (kept_from 1 text) ss
read_sweeps text ss e =
    let (found, read, is) = both_ok (map sweep_job) Sweeps (said_on with_line [] (kept_from 1 text)) (map sweep_job ss) e in
    let same : found ≡ ss = sym (of_jobs found) ∙ ap sweeps_of (sym is) ∙ of_jobs ss in
    all_taken (kept_from 1 text) ss (read ∙ ap (λ (t : List Sweep). Ok t) same)

-- ---- answers

-- a text of a sweep doesn't have the number of its line
swept_as : (w : World) (s : Sweep) (text : Text) → IsSweptIn w s text → IsSweptIn w (unnumbered s) text
swept_as w s text h = record { runs = h.runs; each = h.each; right = h.right; rows = h.rows }

swept_back : (w : World) (s : Sweep) (text : Text) → IsSweptIn w (unnumbered s) text → IsSweptIn w s text
swept_back w s text h = record { runs = h.runs; each = h.each; right = h.right; rows = h.rows }

moved : (w : World) (xs ys : List Sweep) (text : Text) (refused : Bool) → map unnumbered xs ≡ map unnumbered ys → AnswersJobs w (map sweep_job xs) text refused → AnswersJobs w (map sweep_job ys) text refused
moved w [] [] text refused e h = h
moved w [] (y ∷ ys) text refused e h = cc
moved w (x ∷ xs) [] text refused e h = cc
moved w (x ∷ xs) (y ∷ ys) text refused e h =
    let head : unnumbered x ≡ unnumbered y = cc in
    let tail : map unnumbered xs ≡ map unnumbered ys = cc in
    let one = swept_back w y h.0 (subst (λ (s : Sweep). IsSweptIn w s h.0) head (swept_as w x h.0 h.5.2)) in
    (h.0, h.1, h.2, h.3, h.4, (h.5.0, h.5.1, one), moved h.4 xs ys h.1 h.3 tail h.6, h.7, h.8)

passes : (b : Bool) (o : Option ℕ) (n : ℕ) → (if b then o else Some n) ≡ None → (b ≡ true) × (o ≡ None)
passes true o n h = (refl, h)
passes false o n h = cc

module _ (w : World) where
  inside_split : (xs ys : List Sweep) → outside w (map sweep_job (xs ++ ys)) ≡ None → (outside w (map sweep_job xs) ≡ None) × (outside w (map sweep_job ys) ≡ None)
  inside_split [] ys h = (refl, h)
  inside_split (x ∷ xs) ys h =
      let (one, rest) = passes (is_inside w x) (outside w (map sweep_job (xs ++ ys))) x.line h in
      let both = inside_split xs ys rest in
      (ap (λ b. if b then outside w (map sweep_job xs) else Some x.line) one ∙ both.0, both.1)

  inside_join : (xs ys : List Sweep) → outside w (map sweep_job xs) ≡ None → outside w (map sweep_job ys) ≡ None → outside w (map sweep_job (xs ++ ys)) ≡ None
  inside_join [] ys h g = g
  inside_join (x ∷ xs) ys h g =
      let (one, rest) = passes (is_inside w x) (outside w (map sweep_job xs)) x.line h in
      ap (λ b. if b then outside w (map sweep_job (xs ++ ys)) else Some x.line) one ∙ inside_join xs ys rest g

  inside_moved : (xs ys : List Sweep) → map unnumbered xs ≡ map unnumbered ys → outside w (map sweep_job xs) ≡ None → outside w (map sweep_job ys) ≡ None
  inside_moved [] [] e h = h
  inside_moved [] (y ∷ ys) e h = cc
  inside_moved (x ∷ xs) [] e h = cc
  inside_moved (x ∷ xs) (y ∷ ys) e h =
      let head : unnumbered x ≡ unnumbered y = cc in
      let tail : map unnumbered xs ≡ map unnumbered ys = cc in
      let (one, rest) = passes (is_inside w x) (outside w (map sweep_job xs)) x.line h in
      let same : is_inside w x ≡ is_inside w y = ap (λ (s : Sweep). is_inside w s) head in
      ap (λ b. if b then outside w (map sweep_job ys) else Some y.line) (sym same ∙ one) ∙ inside_moved xs ys tail rest

-- ---- the file

pub joined : SweepsAreIndependent → SweepFilesAreIndependent
joined independent front back first second read_first read_second few =
    let at : ℕ = 1 + lines_before front in
    let a = read_sweeps (front ++ 10 ∷ []) first read_first in
    let b = read_sweeps back second read_second in
    let lines = map strip_carriage_return (fields 10 back) in
    let o = others (map asked_by (kept_from at back)) second (map_twice (kept_from at back) ∙ same_lines at 1 lines ∙ sym (map_twice (kept_from 1 back)) ∙ ap (map (option_map unnumbered)) b.say) in
    let says : map asked_by (kept_from 1 (front ++ 10 ∷ back)) ≡ map Some (first ++ o.later) =
    ap (map asked_by) (kept_whole 1 front back) ∙ map-append asked_by (kept_from 1 (front ++ 10 ∷ [])) (kept_from at back) ∙ (λ i. a.say i ++ o.say i) ∙ sym (map-append (λ (s : Sweep). Some s) first o.later) in
    let long : length o.later ≡ length second = sym (length-map o.later unnumbered) ∙ ap length o.same ∙ length-map second unnumbered in
    let short : length (first ++ o.later) ≤ 1000 = omega (arith, long, few, length-append first o.later) in
    record {
      later = o.later;
      read = ap (result_map_both (map sweep_job) Sweeps) (all_made (kept_from 1 (front ++ 10 ∷ back)) (first ++ o.later) (record { say = says; few = short }));
      same = o.same;
      inside = λ w. (
        λ h. (let both = inside_split w first o.later h in (both.0, inside_moved w o.later second o.same both.1)),
        λ h. inside_join w first o.later h.0 (inside_moved w second o.later (sym o.same) h.1),
      );
      answered = λ w text refused. (
        λ h. (let r = (independent w first o.later text refused).0 h in (r.0, r.1, r.2, moved w o.later second r.1 false o.same r.3, r.4, r.5)),
        λ h. (independent w first o.later text refused).1 (h.0, h.1, h.2, moved w second o.later h.1 false (sym o.same) h.3, h.4, h.5),
      );
    }
