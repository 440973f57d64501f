-- What a graph that is lent says is what its world says, and so of activations over it.
use Rattle.std.proofs.Common.{◌≡◌, ◌↔◌, ℕ, Bool, true, false, IsTrue, Option, Some, None, List, [], ◌∷◌, ◌&&◌, slice_get, if◌then◌else◌, sym, ap, subst, ◌∙◌}
use Rattle.std.specs.FinMap as fin
use Rattle.std.specs.Ordering.{nat_cmp}
use Rattle.activations.specs.Named.{AreSound, asns_of, first_foreign_in}
use Rattle.activations.specs.declared.acts.Acts.{Acts}
use Rattle.activations.proofs.Sound.{none_foreign, nothing_outside, only_ases}
use Rattle.as_graph.specs.Topology.{Topology, as_count, has}
use Rattle.net_names.specs.Numbers.{occurs}
use Rattle.net_names.specs.Prefixes.{PrefixValue}
use Rattle.origin_validation.specs.Judging.{state_of}
use Rattle.policy_kinds.specs.Kinds.{kind_policy}
use Rattle.policy_kinds.specs.declared.kind.Kind.{Kind}
use Rattle.reports.specs.Rows.{table}
use Rattle.roa_table.specs.Sets.{Payloads}
use Rattle.sim_core.specs.Kept.{Kept}
use Rattle.sim_core.specs.Lent.{IsBookOf, IsGraphOf, LentIsSetting, seeds_kept}
use Rattle.sim_core.specs.World.{World, has_round, setting_of, topology}
use Rattle.stability_laws.specs.Plans.{has_prefix}
use Rattle.stability_laws.specs.AnyOrder.{IsActivated}
use Rattle.stability_laws.specs.Book.{PolicyBook}
use Rattle.stability_laws.specs.Laws.{IsHeight}
use Rattle.stability_laws.specs.Offers.{Setting}
use Rattle.stability_laws.specs.Runs.{HasOnly, IsRunBy}
use Rattle.stability_laws.specs.Stable.{IsStable}
use Rattle.stability_laws.specs.Steps.{IsStepWhole}
use Rattle.stability_laws.specs.World.{setting}
use Rattle.stability_laws.specs.declared.entry.Entry.{Entry}
use Rattle.stability_laws.specs.declared.entry.Seed.{Seed}
use Rattle.asprop_run.specs.Inside.{IsInside}
use Rattle.asprop_run.proofs.Named.{acts_named}
use Rattle.asprop_run.specs.Task.{outside}
use Rattle.task_reading.specs.Jobs.{Job, acts_job}

module _ (w : World) (g : Topology) (is : IsGraphOf w g) where
  pub same_has : has g ≡ has (topology w)
  same_has = λ i. has (is i)

  pub same_count : as_count g ≡ as_count (topology w)
  same_count = λ i. as_count (is i)

  pub same_table : (row : ℕ → List ℕ) → table g row ≡ table (topology w) row
  same_table row = λ i. table (is i) row

  pub same_height : (height : ℕ) → IsHeight g height → IsHeight (topology w) height
  same_height height high = subst (λ t. IsHeight t height) is (record { most = high.most; reached = high.reached })

module _ (w : World) (g : Topology) (is : IsGraphOf w g) (acts : Acts) (sound : AreSound acts) (inside : IsInside w (acts_job acts)) where
  -- all that are named are ASes of the graph
  named : (a : ℕ) → occurs a (asns_of acts.named) ≡ true → has g a ≡ true
  named a h = ap (λ t. t a) (same_has w g is) ∙ none_foreign (has (topology w)) acts.named (sym ((acts_named w acts inside.0).1)) a h

  pub activates_ases : HasOnly (has g) acts.list
  activates_ases = only_ases (has g) acts sound named

  pub holds_at_ases : (a : ℕ) → has g a ≡ false → fin.get acts.held a ≡ None
  holds_at_ases = nothing_outside (has g) acts sound named

-- the setting and the seeds over what is lent are those of the world
pub lent_here : LentIsSetting → (w : World) (k : Kept) (round : ℕ) (prefix : PrefixValue) (g : Topology) (book : PolicyBook Kind) (payloads : Payloads) (seeds : fin.FinMap nat_cmp Seed)
    → IsGraphOf w g → IsBookOf w book → payloads ≡ w.payloads → ((a : ℕ) → fin.get seeds a ≡ seeds_kept w k round prefix a)
    → (setting kind_policy g book (state_of payloads prefix) ≡ setting_of w prefix) × (fin.get seeds ≡ seeds_kept w k round prefix)
lent_here lent w k round prefix g book payloads seeds is_graph is_book same_payloads same_seeds =
    (ap (λ (p : Payloads). setting kind_policy g book (state_of p prefix)) same_payloads ∙ lent w g book is_graph is_book prefix, λ i a. same_seeds a i)

-- what comes of the activations over what is lent is what comes of them in the world
pub settled_in : LentIsSetting → (w : World) (k : Kept) (acts : Acts) (g : Topology) (book : PolicyBook Kind) (payloads : Payloads) (seeds : fin.FinMap nat_cmp Seed) (start new : fin.FinMap nat_cmp Entry) (stable : Bool)
    → IsGraphOf w g → IsBookOf w book → payloads ≡ w.payloads
    → ((a : ℕ) → fin.get seeds a ≡ seeds_kept w k acts.round acts.prefix a) → ((a : ℕ) → fin.get start a ≡ fin.get acts.held a)
    → IsActivated (setting kind_policy g book (state_of payloads acts.prefix)) (fin.get seeds) acts.list (fin.get start) (fin.get new)
    → (IsTrue stable ↔ IsStable (setting kind_policy g book (state_of payloads acts.prefix)) (fin.get seeds) (fin.get new))
    → IsRunBy (IsStepWhole (setting_of w acts.prefix) (seeds_kept w k acts.round acts.prefix)) acts.list (fin.get acts.held) (fin.get new)
    × (IsTrue stable ↔ IsStable (setting_of w acts.prefix) (seeds_kept w k acts.round acts.prefix) (fin.get new))
settled_in lent w k acts g book payloads seeds start new stable is_graph is_book same_payloads same_seeds same_start run settled =
    let here = lent_here lent w k acts.round acts.prefix g book payloads seeds is_graph is_book same_payloads same_seeds in
    let from : fin.get start ≡ fin.get acts.held = λ i a. same_start a i in (
      subst (λ (t : Setting × (ℕ → Option Seed) × (ℕ → Option Entry)). IsActivated t.0 t.1 acts.list t.2 (fin.get new)) (λ i. (here.0 i, here.1 i, from i)) run,
      subst (λ (t : Setting × (ℕ → Option Seed)). IsTrue stable ↔ IsStable t.0 t.1 (fin.get new)) (λ i. (here.0 i, here.1 i)) settled,
    )

-- what is outside follows from the first job alone, where it does whatever the jobs behind it are
pub by_first : (w : World) (jobs : List Job) (job : Job) (line : Option ℕ) → Some job ≡ slice_get jobs 0 → ((rest : List Job) → line ≡ outside w (job ∷ rest)) → line ≡ outside w jobs
by_first w [] job line first is = cc
by_first w (other ∷ jobs) job line first is =
    let same : other ≡ job = (let first : Some job ≡ Some other = first in cc) in
    subst (λ (j : Job). line ≡ outside w (j ∷ jobs)) (sym same) (is jobs)

-- the first job is one of activations whose round and prefix are there: what is outside is the first AS that is none
pub outside_first : (w : World) (jobs : List Job) (acts : Acts) (line : Option ℕ) → Some (acts_job acts) ≡ slice_get jobs 0 → (has_round w acts.round && has_prefix w.plan acts.prefix) ≡ true
    → line ≡ first_foreign_in (has (topology w)) acts.named → line ≡ outside w jobs
outside_first w jobs acts line first there is =
    by_first w jobs (acts_job acts) line first (λ rest. is ∙ ap (λ b. if b then first_foreign_in (has (topology w)) acts.named else Some acts.for_line) (sym there))
