-- Sweeps, one after the other.
use Rattle.std.proofs.Common.{◌≡◌, ◌↔◌, ◌||◌, ◌+◌, ℕ, Bool, true, false, Option, Some, None, List, [], ◌∷◌, ◌++◌, drop, slice_get, map, refl, sym, ap, ap₂, subst, ◌∙◌, append_assoc, if◌then◌else◌}
use Rattle.clap.specs.Walk.{Text}
use Rattle.sim_core.specs.World.{HasCycle, World}
use Rattle.sweep.specs.declared.sweeps.Sweep.{Sweep}
use Rattle.trial_world.specs.Sweeps.{is_inside}
use Rattle.asprop_run.specs.Inside.{AreInside}
use Rattle.asprop_run.specs.Replies.{AnswersJobs}
use Rattle.asprop_run.specs.Task.{outside}
use Rattle.asprop_run.proofs.Answering.{drop_next}
use Rattle.task_reading.specs.Jobs.{Job, sweep_job}

pub passed_by : (inside : Bool) (more : Option ℕ) (line : ℕ) → (if inside then more else Some line) ≡ None → (inside ≡ true) × (more ≡ None)
passed_by true more line h = (refl, h)
passed_by false more line h = cc

-- sweeps none of which is outside
pub sweeps_inside : (w : World) (lines : List Sweep) → (HasCycle w → ⊥) → outside w (map sweep_job lines) ≡ None → AreInside w (map sweep_job lines)
sweeps_inside w [] none h = tt
sweeps_inside w (line ∷ lines) none h =
    let both = passed_by (is_inside w line) (outside w (map sweep_job lines)) line.line h in (
      (both.0, none),
      λ text refused after answered. subst (λ (v : World). AreInside v (map sweep_job lines)) (sym answered.1) (sweeps_inside w lines none both.1),
    )

none_refused : (w : World) (lines : List Sweep) (text : Text) (refused : Bool) → AnswersJobs w (map sweep_job lines) text refused → refused ≡ false
none_refused w [] text refused h = h.1
none_refused w (line ∷ lines) text refused h =
    h.8 ∙ ap₂ (λ a b. a || b) h.5.0 (none_refused h.4 lines h.1 h.3 h.6)

cut : (w : World) (first second : List Sweep) (text : Text) (refused : Bool) → AnswersJobs w (map sweep_job (first ++ second)) text refused
    → (s t : Text) × AnswersJobs w (map sweep_job first) s false × AnswersJobs w (map sweep_job second) t false × (text ≡ s ++ t) × (refused ≡ false)
cut w [] second text refused h =
    let none = none_refused w second text refused h in
    ([], text, (refl, refl), subst (AnswersJobs w (map sweep_job second) text) none h, refl, none)
cut w (line ∷ first) second text refused h =
    let here = subst (λ (v : World). AnswersJobs v (map sweep_job (first ++ second)) h.1 h.3) h.5.1 h.6 in
    let rest = cut w first second h.1 h.3 here in (
      h.0 ++ rest.0,
      rest.1,
      (h.0, rest.0, false, false, w, (refl, refl, h.5.2), rest.2, refl, refl),
      rest.3,
      h.7 ∙ ap (λ t. h.0 ++ t) rest.4 ∙ sym (append_assoc h.0 rest.0 rest.1),
      none_refused w (line ∷ first ++ second) text refused h,
    )

joined : (w : World) (first second : List Sweep) (s t : Text) → AnswersJobs w (map sweep_job first) s false → AnswersJobs w (map sweep_job second) t false
    → AnswersJobs w (map sweep_job (first ++ second)) (s ++ t) false
joined w [] second s t h g = rw h.0 g
joined w (line ∷ first) second s t h g =
    let others : h.3 ≡ false = none_refused h.4 first h.1 h.3 h.6 in
    let rest = subst (λ (x : World × Bool). AnswersJobs x.0 (map sweep_job first) h.1 x.1) (λ i. (h.5.1 i, others i)) h.6 in
    (h.0, h.1 ++ t, false, false, w, (refl, refl, h.5.2), joined w first second h.1 t rest g, ap (λ l. l ++ t) h.7 ∙ append_assoc h.0 h.1 t, refl)

pub independent : (w : World) (first second : List Sweep) (text : Text) (refused : Bool) → AnswersJobs w (map sweep_job (first ++ second)) text refused
    ↔ ((s t : Text) × AnswersJobs w (map sweep_job first) s false × AnswersJobs w (map sweep_job second) t false × (text ≡ s ++ t) × (refused ≡ false))
independent w first second text refused = (
  cut w first second text refused,
  λ h. subst (λ (x : Text × Bool). AnswersJobs w (map sweep_job (first ++ second)) x.0 x.1) (λ i. (sym h.4 i, sym h.5 i)) (joined w first second h.0 h.1 h.2 h.3),
)

-- what of a list of sweeps is behind one that is inside
pub behind_inside : (w : World) (jobs : List Job) (i : ℕ) (line : Sweep) → slice_get jobs i ≡ Some (sweep_job line) → is_inside w line ≡ true → outside w (drop i jobs) ≡ outside w (drop (i + 1) jobs)
behind_inside w jobs i line at inside =
    ap (outside w) (drop_next jobs i (sweep_job line) at) ∙ ap (λ b. if b then outside w (drop (i + 1) jobs) else Some line.line) inside

pub first_outside_at : (w : World) (jobs : List Job) (i : ℕ) (line : Sweep) → slice_get jobs i ≡ Some (sweep_job line) → is_inside w line ≡ false → outside w (drop i jobs) ≡ Some line.line
first_outside_at w jobs i line at away =
    ap (outside w) (drop_next jobs i (sweep_job line) at) ∙ ap (λ b. if b then outside w (drop (i + 1) jobs) else Some line.line) away
