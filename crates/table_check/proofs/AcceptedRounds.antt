-- Accepted tables are those of the stable routings of the rounds.
use Rattle.std.proofs.Common.{◌≡◌, ℕ, zero, suc, ◌<◌, ◌≤◌, Option, length, refl, sym, subst, arith}
use Rattle.std.specs.Prelude.{IsTrue}
use Rattle.net_names.specs.declared.routes.State.{State}
use Rattle.net_names.specs.Prefixes.{PrefixValue}
use Rattle.policy_laws.specs.Policy.{Policy}
use Rattle.as_graph.specs.Topology.{Topology, relation}
use Rattle.as_graph.specs.Hierarchy.{HasNoProviderCycle}
use Rattle.stability_laws.specs.declared.entry.Entry.{Entry}
use Rattle.stability_laws.specs.declared.entry.Seed.{Seed}
use Rattle.stability_laws.specs.Offers.{Setting}
use Rattle.stability_laws.specs.Stable.{IsStable}
use Rattle.stability_laws.specs.Book.{PolicyBook}
use Rattle.stability_laws.specs.World.{setting}
use Rattle.stability_laws.specs.Plans.{Plan, has_prefix}
use Rattle.stability_laws.specs.Rounds.{AreRounds, Family, seeds_of}
use Rattle.stability_laws.specs.Laws.{OneStableRouting}
use Rattle.table_check.specs.declared.tables.Tables.{Tables}
use Rattle.table_check.specs.Rows.{held_by}
use Rattle.table_check.specs.Checked.{IsAccepted, IsInOrder}
use Rattle.table_check.specs.Laws.{IsTableOf}
use Rattle.table_check.proofs.Leakers.{first_seeds, same_seeds}

module _ {P : Type 0} (meaning : P → Policy) (one : OneStableRouting meaning) (w : Topology) (book : PolicyBook P) (state : PrefixValue → ℕ → State) (plan : Plan) (rounds : ℕ) (g : Family) (t : Tables)
    (acyclic : HasNoProviderCycle (relation w)) (are : AreRounds (λ (p : PrefixValue). setting meaning w book (state p)) plan rounds g) (known : IsTrue (has_prefix plan t.prefix)) (few : length t.starts ≤ rounds) where
  abbrev here : Setting
  here = setting meaning w book (state t.prefix)

  abbrev held : ℕ → ℕ → Option Entry
  held = held_by t.rows

  -- the seeds that follow from the section before
  abbrev seeds : ℕ → ℕ → Option Seed
  seeds before = seeds_of plan (suc before) t.prefix (held before)

  -- the seeds of a round are the same where the routings of the round before are
  seeds_are : (before : ℕ) → ((k : ℕ) → before ≡ suc k → (a : ℕ) → held before a ≡ g before t.prefix a) → (a : ℕ) → seeds before a ≡ seeds_of plan (suc before) t.prefix (g before t.prefix) a
  seeds_are zero h a = first_seeds plan t.prefix (held zero) (g zero t.prefix) a
  seeds_are (suc k) h a = same_seeds plan t.prefix (suc (suc k)) (held (suc k)) (g (suc k) t.prefix) (h k refl) a

  stable_in : (before : ℕ) → ((a : ℕ) → IsInOrder here plan t before a) → IsStable here (seeds before) (held (suc before))
  stable_in before h = record { only_ases = λ a is. (h a).1 is; right = λ a is. (h a).0 is }

  round_is : (before : ℕ) → before < length t.starts → ((a : ℕ) → seeds before a ≡ seeds_of plan (suc before) t.prefix (g before t.prefix) a) → IsStable here (seeds before) (g (suc before) t.prefix)
  round_is before less same = let F : (ℕ → Option Seed) → Type 0 = λ s. IsStable here s (g (suc before) t.prefix) in subst F (λ i a. sym (same a) i) (are before t.prefix (omega arith) known)

  step : IsAccepted here plan t → (before : ℕ) → before < length t.starts → ((k : ℕ) → before ≡ suc k → (a : ℕ) → held before a ≡ g before t.prefix a) → (a : ℕ) → held (suc before) a ≡ g (suc before) t.prefix a
  step ok before less earlier = one w book (state t.prefix) (seeds before) (held (suc before)) (g (suc before) t.prefix) acyclic (stable_in before (λ a. ok before a less)) (round_is before less (seeds_are before earlier))

  pub are_rounds : IsAccepted here plan t → IsTableOf g t
  are_rounds ok zero less = step ok zero less (λ k e. absurd (omega arith))
  are_rounds ok (suc b) less = step ok (suc b) less (λ k e. are_rounds ok b (omega arith))

  pub are_accepted : IsTableOf g t → IsAccepted here plan t
  are_accepted same before a less =
      let F : (ℕ → Option Entry) → Type 0 = λ f. IsStable here (seeds before) f in
      let stable = subst F (λ i b. sym (same before less b) i) (round_is before less (seeds_are before (λ k e b. earlier before less k e b))) in
      ((λ is. stable.right a is), (λ is. stable.only_ases a is))
    where
      earlier : (b : ℕ) → b < length t.starts → (k : ℕ) → b ≡ suc k → (a : ℕ) → held b a ≡ g b t.prefix a
      earlier zero l k e = absurd (omega arith)
      earlier (suc b) l k e = same b (omega arith)
