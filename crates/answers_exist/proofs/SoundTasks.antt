-- The plan of a task's world is sound.
use Rattle.std.proofs.Common.{◌≡◌, ◌≤◌, inl, inr, ℕ, All, List, [], ◌∷◌, length, zero, suc, Option, Some, None, Ok, refl, sym, subst, arith}
use Rattle.net_names.specs.Prefixes.{PrefixValue}
use Rattle.scenario_text.specs.Laws.{AcceptedExactly}
use Rattle.scenario_text.specs.Scenarios.{ScenarioValue, StartsWith}
use Rattle.scenario_text.specs.declared.limits.TheConstants.{MOST_NUMBERS}
use Rattle.scenario_text.specs.declared.scenario.Announcement.{Announcement}
use Rattle.stability_laws.specs.Plans.{IsSound}
use Rattle.sim_core.specs.World.{World}
use Rattle.task_reading.specs.Words.{Form, demo_form, file_form, origin_form}
use Rattle.task_reading.specs.declared.asking.Asked.{Asked}
use Rattle.task_reading.specs.declared.types.File.{File}
use Rattle.asprop_run.specs.Task.{Task, task_of}
use Rattle.kept_traces.specs.Sound.{LoadedPlansAreSound}
use Rattle.answers_exist.proofs.Asked.{IsAskedBy, asked_for, demo, everything, one_origin}

-- each path starts with its announcement's AS, and is short
record AreOwn (xs : List Announcement) : Type 0 where
  own : All (λ a. StartsWith a.asn a.path) xs
  short : All (λ a. length a.path ≤ MOST_NUMBERS) xs

none_own : AreOwn []
none_own = record { own = λ k d less. absurd (omega (arith, less)); short = λ k d less. absurd (omega (arith, less)) }

-- one more that announces its own number alone
one_own : (p : PrefixValue) (a : ℕ) (xs : List Announcement) → AreOwn xs → AreOwn (record { prefix = p; asn = a; path = a ∷ [] } ∷ xs)
one_own p a xs are = record { own = own; short = short }
  where
    own : All (λ a. StartsWith a.asn a.path) (record { prefix = p; asn = a; path = a ∷ [] } ∷ xs)
    own zero d less = refl
    own (suc k) d less = are.own k d (omega (arith, less))

    short : All (λ a. length a.path ≤ MOST_NUMBERS) (record { prefix = p; asn = a; path = a ∷ [] } ∷ xs)
    short zero d less = (let le : 1 ≤ 64 = omega arith in le)
    short (suc k) d less = are.short k d (omega (arith, less))

own_in : (y x : Asked) → y ≡ x → AreOwn y.scenario.announcements → AreOwn x.scenario.announcements
own_in y x e h = subst (λ (z : Asked). AreOwn z.scenario.announcements) e h

module _ (accepted : AcceptedExactly) where
  asked_own : (form : Option Form) (x : Asked) → IsAskedBy form x → AreOwn x.scenario.announcements
  asked_own None x h = absurd h
  asked_own (Some (demo_form n)) x is = own_in (demo n) x is (one_own _ _ _ (one_own _ _ [] none_own))
  asked_own (Some (origin_form rel origin)) x (relations, links, found, is) = own_in (one_origin links origin) x is (one_own everything origin [] none_own)
  asked_own (Some (file_form rel vrps scenario name option)) x files = elim files.scenario [
    | inl same ↦ subst (λ (s : ScenarioValue). AreOwn s.announcements) (sym same) none_own
    | inr (bytes, found) ↦ (let is = ((accepted bytes x.scenario).0 found).1 in record { own = is.own_paths; short = is.short_paths })
  ]

  pub task_sound : LoadedPlansAreSound → (form : Option Form) (reads : File → Option (List ℕ)) (t : Task) → task_of form reads ≡ Ok t → IsSound t.world.plan
  task_sound loaded form reads t e =
      let (x, asked, world, jobs) = asked_for form reads t e in
      let are = asked_own form x asked in
      subst (λ (w : World). IsSound w.plan) (sym world) (loaded x.scenario are.own are.short)
