-- Activations have an answer.
use Rattle.std.proofs.Common.{◌≡◌, inl, inr, ℕ, ◌<◌, ◌≤◌, ◌-◌, max, Bool, true, false, true≢false, IsTrue, ◌↔◌, Option, None, List, [], ◌∷◌, refl, sym, ◌∙◌, ap, arith}
use Rattle.std.specs.FinMap as map
use Rattle.std.specs.FinSet as set
use Rattle.std.specs.Ordering.{nat_cmp}
use Rattle.std.proofs.lemmas.Bool.{cases_Bool, or_left, eq-eqb}
use Rattle.net_names.specs.Numbers.{occurs}
use Rattle.as_graph.specs.Topology.{Topology, as_count, ases, has}
use Rattle.policy_kinds.specs.Kinds.{kind_policy}
use Rattle.stability_laws.specs.Laws.{OneAnswer}
use Rattle.stability_laws.specs.Offers.{Setting}
use Rattle.stability_laws.specs.Rounds.{seeds_of}
use Rattle.stability_laws.specs.Runs.{IsRunBy}
use Rattle.stability_laws.specs.Steps.{IsStepWhole}
use Rattle.stability_laws.specs.declared.entry.Entry.{Entry}
use Rattle.stability_laws.specs.declared.entry.Seed.{Seed}
use Rattle.leak_round.specs.Entries.{StandsIn}
use Rattle.activations.specs.declared.acts.Acts.{Acts}
use Rattle.message_sim.specs.Laws.{WorldsHaveHeights}
use Rattle.sim_core.specs.Kept.{IsKept, Kept}
use Rattle.sim_core.specs.World.{HasCycle, World, setting_of, topology}
use Rattle.asprop_run.specs.Settling.{IsActsText}
use Rattle.stability_laws.proofs.Turns.{some_run, some_step}
use Rattle.answers_exist.proofs.Deciding.{Decided, below_bound, bound_of, nothing_above, stable_or_not}
use Rattle.answers_exist.proofs.Listing.{occurs_stands}
use Rattle.answers_exist.proofs.Pieces.{most_pieces}
use Rattle.answers_exist.proofs.Settings.{one_in}

-- who isn't activated holds what it held
run_keeps : (w : Setting) (seeds : ℕ → Option Seed) (xs : List ℕ) (f g : ℕ → Option Entry) (a : ℕ) → (StandsIn a xs → ⊥) → IsRunBy (IsStepWhole w seeds) xs f g → f a ≡ g a
run_keeps w seeds [] f g a out run = ap (λ h. h a) run
run_keeps w seeds (x ∷ xs) f g a out (h, first, rest) = sym (first.others a (λ e. out (inl e))) ∙ run_keeps w seeds xs h g a (λ there. out (inr there)) rest

-- where there are ASes there is one
pub some_as : (g : Topology) → 0 < as_count g → (a : ℕ) × (has g a ≡ true)
some_as g some = by (ases g) refl
  where
    by : (xs : List ℕ) → ases g ≡ xs → (a : ℕ) × (has g a ≡ true)
    by [] is = (let none : as_count g ≡ 0 = ap (λ l. set.len (set.from_list {R = nat_cmp} l)) is ∙ set.len-empty nat_cmp in absurd (omega (arith, some, none)))
    by (x ∷ xs) is = (x, ap (occurs x) is ∙ or_left _ _ (eq-eqb x x refl))

pub no_as : (g : Topology) (a : ℕ) → bound_of (ases g) ≤ a → has g a ≡ false
no_as g a above = elim (cases_Bool (has g a)) [
  | inr out ↦ out
  | inl here ↦ (let less = below_bound (ases g) a (occurs_stands a (ases g) here) in absurd (omega (arith, less, above)))
]

-- whether it holds, as a truth value
pub told : {P : Type 0} → Decided P → (yes : Bool) × (IsTrue yes ↔ P)
told (inl p) = (true, ((λ e. p), (λ q. refl)))
told (inr none) = (false, ((λ e. absurd (true≢false (sym e))), (λ q. absurd (none q))))

module _ (one : OneAnswer kind_policy) (heights : WorldsHaveHeights) (w : World) (none : HasCycle w → ⊥) (k : Kept) (is : IsKept w k) (acts : Acts) (some : 0 < as_count (topology w)) where
  seeds : ℕ → Option Seed
  seeds = seeds_of w.plan acts.round acts.prefix (k.routings (acts.round - 1) acts.prefix)

  ran : (f : ℕ → Option Entry) × IsRunBy (IsStepWhole (setting_of w acts.prefix) seeds) acts.list (map.get acts.held) f
  ran = some_run (IsStepWhole (setting_of w acts.prefix) seeds) (λ g a. let (held, right, only) = one_in one w acts.prefix seeds g a in some_step (setting_of w acts.prefix) seeds g a held right) acts.list (map.get acts.held)

  top : ℕ
  top = max (bound_of (ases (topology w))) (max (bound_of (map.keys acts.held)) (bound_of acts.list))

  nothing_on : (a : ℕ) → top ≤ a → (has (topology w) a ≡ false) × (ran.0 a ≡ None)
  unfolding top
  nothing_on a above = (
    no_as (topology w) a (omega (arith, above)),
    sym (run_keeps (setting_of w acts.prefix) seeds acts.list (map.get acts.held) ran.0 a (λ there. let less = below_bound acts.list a there in absurd (omega (arith, less, above))) ran.1)
        ∙ nothing_above acts.held a (omega (arith, above)),
  )

  pub acts_text : (text : List ℕ) × IsActsText w acts text
  unfolding seeds
  acts_text =
      let (a, here) = some_as (topology w) some in
      let (pieces, most) = most_pieces (has (topology w)) (ases (topology w)) (λ b. refl) a here acts.list in
      let (height, high) = heights (topology w) (λ xs cycle. none (xs, cycle)) in
      let (stable, says) = told (stable_or_not (setting_of w acts.prefix) seeds ran.0 (one_in one w acts.prefix seeds ran.0) top nothing_on) in
      (_, (k, is, ran.0, pieces, height, stable, (ran.1, high, most, says, refl)))
