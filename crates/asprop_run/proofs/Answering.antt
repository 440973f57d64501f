-- Answers to jobs, one after the other.
use Rattle.std.proofs.Common.{◌≡◌, ◌<◌, ◌≤◌, ◌+◌, ◌||◌, ℕ, Bool, true, false, All, List, [], ◌∷◌, ◌++◌, length, take, drop, slice_get, Option, Some, Result, Ok, Err, IfOk, OnErr, OnOk, ap, subst, refl, sym, ◌∙◌, append_assoc, append-nil, arith, add-one, drop-cons, length-append, ◌⊎◌, inl, inr, cond}
use Rattle.std.proofs.lemmas.List.{take_more, take_all}
use Rattle.std.proofs.lemmas.Option.{get_or_from_slice_get, slice_get_within}
use Rattle.std.proofs.lemmas.Bool.{true≢false}
use Rattle.std.proofs.lemmas.List.Elements.{All-drop, All-head}
use Rattle.io_edge.specs.Bytes.{Appends, AppendsFront}
use Rattle.io_edge.proofs.Appending.{Appends-nil, Appends-trans}
use Rattle.scenario_text.specs.LineValues.{LineValue}
use Rattle.scenario_text.specs.declared.acts.Act.{Act}
use Rattle.scenario_text.specs.declared.acts.Edit.{Edit}
use Rattle.sim_core.specs.World.{World, kind_at}
use Rattle.sim_core.specs.Kept.{Kept, IsKept}
use Rattle.net_names.specs.declared.numbers.NoMemory.{NoMemory}
use Rattle.sim_core.specs.Edits.{IsEditRefusal, IsReason}
use Rattle.sim_core.specs.declared.errors.EditError.{EditError}
use Rattle.sim_core.specs.declared.errors.EditError.TheVariants as refused
use Rattle.asprop_run.specs.Streams.{Stream}
use Rattle.asprop_run.specs.Inside.{AreInside}
use Rattle.asprop_run.specs.Task.{Task}
use Rattle.asprop_run.specs.Replies.{AnswersJob, AnswersJobs, AppendsReply, IsReply, head}
use Rattle.task_reading.specs.Jobs.{Job, acts_job, counts_job, line_job, messages_job, sweep_job, tables_job}
use Rattle.sweep.specs.Written.{Stops, Writes, WritesFront}
use Rattle.sweep.proofs.Parts.{begun_none}
use Rattle.sweep.proofs.Written.{Appends-front, rose_earlier}
use Rattle.trial_world.specs.Sweeps.{AreNumbers, IsSweptIn, IsBegunIn, with_kinds}
use Rattle.trial_world.specs.Trials.{as_set}
use Rattle.stability_laws.specs.Plans.{announcers_of}
use Rattle.asprop_run.specs.Written.{Answering, Begins, IsPassedOn, Wrote, WroteSome}
use Rattle.sweep.specs.declared.error.RowsError.{RowsError}
use Rattle.sweep.specs.declared.error.RowsError.TheVariants as rows_error
use Rattle.sweep.specs.declared.sweeps.Sweep.{Sweep}
use Rattle.asprop_run.specs.Failures.{unwritten}
use Rattle.asprop_run.specs.declared.types.Failure.TheVariants as failure

-- the task of these jobs in this world
abbrev pub task_in : World → List Job → Task
task_in w jobs = record { world = w; jobs = jobs }

-- a sink that holds the one text before and the other after, and whose faults rose so
abbrev pub sink_of : Option (List ℕ) → Option (List ℕ) → Type 0 → Stream
sink_of old new rose = record { wrote = λ text. Appends old new text; failed = λ text. rose × AppendsFront old new text }

-- What follows is told of the jobs that follow, and so of all. One text was written, and another one is held back behind it.
pub record SoFar (start now : World) (jobs : List Job) (refused : Bool) (old new : Option (List ℕ)) (held : List ℕ) : Type 0 where
  pub text : List ℕ
  pub appends : Appends old new text
  pub told : (more : List Job) (rest : List ℕ) (others : Bool) → AnswersJobs now more rest others → AnswersJobs start (jobs ++ more) ((text ++ held) ++ rest) (refused || others)

pub begun : (w : World) (old : Option (List ℕ)) → SoFar w w [] false old old []
begun w old = record { text = []; appends = Appends-nil old; told = λ more rest others h. h }

or_assoc : (a b c : Bool) → ((a || b) || c) ≡ (a || (b || c))
or_assoc true b c = refl
or_assoc false b c = refl

-- one more job
more_told : (start now after : World) (jobs : List Job) (job : Job) (refused first : Bool) (text front : List ℕ)
    → ((more : List Job) (rest : List ℕ) (others : Bool) → AnswersJobs now more rest others → AnswersJobs start (jobs ++ more) (text ++ rest) (refused || others))
    → AnswersJob now job front first after
    → (more : List Job) (rest : List ℕ) (others : Bool) → AnswersJobs after more rest others → AnswersJobs start ((jobs ++ job ∷ []) ++ more) ((text ++ front) ++ rest) ((refused || first) || others)
more_told start now after jobs job refused first text front told answered more rest others h =
    rw (append_assoc jobs (job ∷ []) more, append_assoc text front rest, or_assoc refused first others)
    (told (job ∷ more) (front ++ rest) (first || others) (front, rest, first, others, after, answered, h, refl, refl))

same_text : (text written now held front : List ℕ) → written ++ now ≡ held ++ front → (text ++ written) ++ now ≡ (text ++ held) ++ front
same_text text written now held front e = append_assoc text written now ∙ ap (λ l. text ++ l) e ∙ sym (append_assoc text held front)

-- one more job, whose answer was passed on
pub one_more : (start now after : World) (jobs : List Job) (job : Job) (refused first : Bool) (old mid new : Option (List ℕ)) (held front left : List ℕ)
    → SoFar start now jobs refused old mid held → AnswersJob now job front first after → IsPassedOn mid new held front left
    → SoFar start after (jobs ++ job ∷ []) (refused || first) old new left
one_more start now after jobs job refused first old mid new held front left so answered passed = record {
  text = so.text ++ passed.written;
  appends = Appends-trans old mid new so.text passed.written so.appends passed.appends;
  told = λ more rest others h.
      subst (λ t. AnswersJobs start ((jobs ++ job ∷ []) ++ more) (t ++ rest) ((refused || first) || others)) (sym (same_text so.text passed.written left held front passed.whole))
      (more_told start now after jobs job refused first (so.text ++ held) front so.told answered more rest others h);
}

or_false : (b : Bool) → (b || false) ≡ b
or_false true = refl
or_false false = refl

-- what is told of the jobs so far
told_so_far : (start now : World) (jobs : List Job) (refused : Bool) (old new : Option (List ℕ)) (held : List ℕ) (so : SoFar start now jobs refused old new held) → AnswersJobs start jobs (so.text ++ held) refused
told_so_far start now jobs refused old new held so = rw (append-nil jobs, append-nil (so.text ++ held), or_false refused) at (so.told [] [] false (refl, refl))

-- nothing follows, and what was held back is written
ended : (start now : World) (jobs : List Job) (refused : Bool) (old mid new : Option (List ℕ)) (held : List ℕ) → SoFar start now jobs refused old mid held → Appends mid new held
    → Wrote start jobs refused (λ text. Appends old new text)
ended start now jobs refused old mid new held so last = (so.text ++ held, told_so_far start now jobs refused old mid held so, Appends-trans old mid new so.text held so.appends last)

-- what holds whatever came of it holds of an error too
pub on_err : {T E P : Type 0} (r : Result T E) → P → OnErr r P
on_err (Ok x) p = tt
on_err (Err e) p = p

-- an answer that is not Ok leaves the other branch
pub unless_ok : {X : Type 0} (b : Bool) (x y : X) → b ≡ false → cond b x y ≡ y
unless_ok true x y e = absurd (true≢false e)
unless_ok false x y e = refl

or_first : (refused first after : Bool) → first ≡ true → after ≡ true → after ≡ (refused || first)
or_first true first after p q = q
or_first false first after p q = q ∙ sym p

or_other : (refused first after : Bool) → first ≡ false → after ≡ refused → after ≡ (refused || first)
or_other true first after p q = q
or_other false first after p q = q ∙ sym p

-- one of the two ways that the program goes on
pub either : (refused first after : Bool) → ((first ≡ true) × (after ≡ true)) ⊎ ((first ≡ false) × (after ≡ refused)) → after ≡ (refused || first)
either refused first after (inl h) = or_first refused first after h.0 h.1
either refused first after (inr h) = or_other refused first after h.0 h.1

-- nothing begins any answer
none_begun : (w : World) (jobs : List Job) → Begins w jobs []
none_begun w [] = refl
none_begun w (counts_job ∷ jobs) = refl
none_begun w (line_job heads line ∷ jobs) = refl
none_begun w (acts_job acts ∷ jobs) = refl
none_begun w (messages_job deliveries ∷ jobs) = refl
none_begun w (sweep_job line ∷ jobs) = begun_none (as_set w) (announcers_of w.plan) (λ kinds. AreNumbers (with_kinds w kinds) line.round line.addr) (kind_at w) line
none_begun w (tables_job t ∷ jobs) = refl

-- the answers to the jobs before one were written, and nothing of that one's
wrote_some : (start : World) (jobs : List Job) (i : ℕ) (refused : Bool) (how : List ℕ → Type 0) (text : List ℕ) → AnswersJobs start (take i jobs) text refused → how text → WroteSome (task_in start jobs) how
wrote_some start jobs i refused how text told is = (i, refused, (text, told, ([], none_begun start (drop i jobs), subst how (sym (append-nil text)) is)))

pub whole : (start now : World) (jobs : List Job) (i : ℕ) (refused : Bool) (old mid new : Option (List ℕ)) (held : List ℕ) → SoFar start now (take i jobs) refused old mid held → Appends mid new held
    → Answering (task_in start jobs) (Err failure.Memory) (sink_of old new (Unit {0}))
whole start now jobs i refused old mid new held so last =
    let w = ended start now (take i jobs) refused old mid new held so last in
    wrote_some start jobs i refused (λ text. Appends old new text) w.0 w.1 w.2

pub all : (start now : World) (jobs : List Job) (i : ℕ) (refused : Bool) (old mid new : Option (List ℕ)) (held : List ℕ) → SoFar start now (take i jobs) refused old mid held → Appends mid new held → length jobs ≤ i
    → Answering (task_in start jobs) (Ok refused) (sink_of old new (Unit {0}))
all start now jobs i refused old mid new held so last h =
    subst (λ (l : List Job). Wrote start l refused (λ text. Appends old new text)) (take_all i jobs h) (ended start now (take i jobs) refused old mid new held so last)

-- the jobs up to one and that one
take_next : (jobs : List Job) (i : ℕ) (job : Job) → slice_get jobs i ≡ Some job → take (i + 1) jobs ≡ take i jobs ++ job ∷ []
take_next jobs i job at = take_more jobs i job (slice_get_within jobs i job at) ∙ ap (λ (x : Job). take i jobs ++ x ∷ []) (get_or_from_slice_get jobs i job job at)

-- the jobs from one on are that one and the rest
pub drop_next : (jobs : List Job) (i : ℕ) (job : Job) → slice_get jobs i ≡ Some job → drop i jobs ≡ job ∷ drop (i + 1) jobs
drop_next jobs i job at = let within : i < length jobs = slice_get_within jobs i job at in
    rw (add-one, drop-cons jobs i job within, get_or_from_slice_get jobs i job job at) refl

-- what holds of all jobs holds of the one at a place
pub of_all : (P : Job → Type 0) (jobs : List Job) (i : ℕ) (job : Job) → slice_get jobs i ≡ Some job → All P jobs → P job
of_all P jobs i job at all = All-head P job (drop (i + 1) jobs) (subst (All P) (drop_next jobs i job at) (All-drop P i jobs all))

-- the job at a place has an answer, and so have those behind it once it is answered
pub inside_at : (w : World) (jobs : List Job) (i : ℕ) (job : Job) → slice_get jobs i ≡ Some job → AreInside w (drop i jobs) → AreInside w (job ∷ drop (i + 1) jobs)
inside_at w jobs i job at inside = subst (AreInside w) (drop_next jobs i job at) inside

pub next : (start now after : World) (jobs : List Job) (i : ℕ) (job : Job) (refused first : Bool) (old mid new : Option (List ℕ)) (held front left : List ℕ) → slice_get jobs i ≡ Some job
    → SoFar start now (take i jobs) refused old mid held → AnswersJob now job front first after → IsPassedOn mid new held front left
    → SoFar start after (take (i + 1) jobs) (refused || first) old new left
next start now after jobs i job refused first old mid new held front left at so answered passed =
    rw (take_next jobs i job at) (one_more start now after (take i jobs) job refused first old mid new held front left so answered passed)

-- what was held back was written in part
pub held_part : (start now : World) (jobs : List Job) (i : ℕ) (refused : Bool) (old mid new : Option (List ℕ)) (rose : Type 0) (held : List ℕ) → rose
    → SoFar start now (take i jobs) refused old mid held → AppendsFront mid new held → Answering (task_in start jobs) (Err failure.Write) (sink_of old new rose)
held_part start now jobs i refused old mid new rose held r so last =
    wrote_some start jobs i refused (λ text. rose × AppendsFront old new text) (so.text ++ held) (told_so_far start now (take i jobs) refused old mid held so) (r, Appends-front old mid new so.text held so.appends last)

-- what was held back and the answer to one more job were written in part
pub part : (start now after : World) (jobs : List Job) (i : ℕ) (job : Job) (refused first : Bool) (old mid new : Option (List ℕ)) (rose : Type 0) (held front : List ℕ) → rose → slice_get jobs i ≡ Some job
    → SoFar start now (take i jobs) refused old mid held → AnswersJob now job front first after → AppendsFront mid new (held ++ front)
    → Answering (task_in start jobs) (Err failure.Write) (sink_of old new rose)
part start now after jobs i job refused first old mid new rose held front r at so answered last =
    let told : AnswersJobs start (take (i + 1) jobs) ((so.text ++ held) ++ front) (refused || first) =
    rw (take_next jobs i job at)
    (rw (append-nil (take i jobs ++ job ∷ []), append-nil ((so.text ++ held) ++ front), or_false (refused || first)) at
    (more_told start now after (take i jobs) job refused first (so.text ++ held) front so.told answered [] [] false (refl, refl))) in
    wrote_some start jobs (i + 1) (refused || first) (λ text. rose × AppendsFront old new text) ((so.text ++ held) ++ front) told (r, subst (AppendsFront old new) (sym (append_assoc so.text held front)) (Appends-front old mid new so.text (held ++ front) so.appends last))

-- a reply under a head line is an answer
pub answered : (r : Result Bool NoMemory) (heads : Bool) (w after : World) (k : Kept) (line : LineValue) (asks : Act) (begun now : List ℕ) → begun ≡ head heads line.number → line.act ≡ asks → IsKept w k
    → IfOk r (λ refused. AppendsReply w k asks refused begun now after) → IfOk r (λ refused. AnswersJob w (line_job heads line) now refused after)
answered (Ok refused) heads w after k line asks begun now first is_asked is h =
    (k, is, h.text, subst (λ (a : Act). IsReply w k a h.text refused after) (sym is_asked) h.reply, h.appended ∙ ap (λ l. l ++ h.text) first)
answered (Err e) heads w after k line asks begun now first is_asked is h = h

-- a refusal that is none for want of memory has a reason
pub reason_of : (w : World) (e : Edit) (error : EditError) → (error ≡ refused.Memory → ⊥) → IsEditRefusal w e error → IsReason w e error
reason_of w e refused.Memory other h = absurd (other refl)
reason_of w e (refused.AbsentLink lo hi) other h = h
reason_of w e (refused.AbsentVrp vrp) other h = h
reason_of w e (refused.UnknownPrefix prefix) other h = h
reason_of w e (refused.AbsentAnnouncement prefix asn) other h = h
reason_of w e (refused.Limit which) other h = h
reason_of w e (refused.ProviderCycle cycle) other h = h

-- ---- sweeps, of which nothing is held back
begins_on : (w : World) (job : Job) (jobs : List Job) (text : List ℕ) → Begins w (job ∷ []) text → Begins w (job ∷ jobs) text
begins_on w counts_job jobs text h = h
begins_on w (line_job heads line) jobs text h = h
begins_on w (acts_job acts) jobs text h = h
begins_on w (messages_job deliveries) jobs text h = h
begins_on w (sweep_job line) jobs text h = h
begins_on w (tables_job t) jobs text h = h

-- one more, whose answer was written
pub next_written : (w : World) (jobs : List Job) (i : ℕ) (job : Job) (old mid new : Option (List ℕ)) → slice_get jobs i ≡ Some job → SoFar w w (take i jobs) false old mid []
    → Writes (λ text. AnswersJob w job text false w) mid new → SoFar w w (take (i + 1) jobs) false old new []
next_written w jobs i job old mid new at so wrote =
    next w w w jobs i job false false old mid new [] wrote.text [] at so wrote.is (record { written = wrote.text; appends = wrote.appended; whole = append-nil wrote.text })

-- all were written
pub all_written : (w : World) (jobs : List Job) (i : ℕ) (old new : Option (List ℕ)) → SoFar w w (take i jobs) false old new [] → length jobs ≤ i → Answering (task_in w jobs) (Ok false) (sink_of old new (Unit {0}))
all_written w jobs i old new so h = all w w jobs i false old new new [] so (Appends-nil new) h

begun_here : (w : World) (jobs : List Job) (i : ℕ) (job : Job) (text : List ℕ) → slice_get jobs i ≡ Some job → Begins w (job ∷ []) text → Begins w (drop i jobs) text
begun_here w jobs i job text at h = subst (λ (l : List Job). Begins w l text) (sym (drop_next jobs i job at)) (begins_on w job (drop (i + 1) jobs) text h)

-- the rows of one ended early
pub stopped : (w : World) (jobs : List Job) (i : ℕ) (job : Job) (old mid new : Option (List ℕ)) (early rose : Type 0) (e : RowsError) → (early → rose) → slice_get jobs i ≡ Some job → SoFar w w (take i jobs) false old mid []
    → Stops (Begins w (job ∷ [])) mid new early e → Answering (task_in w jobs) (Err (unwritten e)) (sink_of old new rose)
stopped w jobs i job old mid new early rose rows_error.Memory later at so h = (
  i,
  false,
  (
    so.text ++ [],
    told_so_far w w (take i jobs) false old mid [] so,
    (
      h.text,
      begun_here w jobs i job h.text at h.is,
      subst (λ l. Appends old new (l ++ h.text)) (sym (append-nil so.text)) (Appends-trans old mid new so.text h.text so.appends h.appended),
    ),
  ),
)
stopped w jobs i job old mid new early rose rows_error.Write later at so h = (
  i,
  false,
  (
    so.text ++ [],
    told_so_far w w (take i jobs) false old mid [] so,
    (
      h.1.text,
      begun_here w jobs i job h.1.text at h.1.is,
      (later h.0, subst (λ l. AppendsFront old new (l ++ h.1.text)) (sym (append-nil so.text)) (Appends-front old mid new so.text h.1.text so.appends h.1.appended)),
    ),
  ),
)

-- the text of a sweep is its answer
pub swept_answer : (r : Result (Unit {0}) RowsError) (w : World) (job : Job) (line : Sweep) (old new : Option (List ℕ)) → job ≡ sweep_job line → OnOk r (Writes (IsSweptIn w line) old new) → OnOk r (Writes (λ text. AnswersJob w job text false w) old new)
swept_answer (Ok x) w job line old new is h = record { text = h.text; is = subst (λ (j : Job). AnswersJob w j h.text false w) (sym is) (refl, refl, h.is); appended = h.appended }
swept_answer (Err e) w job line old new is h = h
