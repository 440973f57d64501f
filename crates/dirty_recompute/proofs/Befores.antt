-- What was held before a step.
use Rattle.std.proofs.Common.{◌≡◌, ◌≢◌, inl, inr, ℕ, ◌==◌, cond, Option, Some, option_map, refl, sym, ◌∙◌, ap}
use Rattle.std.proofs.lemmas.Bool.{cases_eq, cases_Bool, eqb-true, eq-eqb}
use Rattle.path_pool.specs.declared.pool.PathPool.{PathPool}
use Rattle.path_pool.specs.Pool.{IsLive}
use Rattle.stability_laws.specs.declared.entry.Entry.{Entry}
use Rattle.route_choice.specs.declared.held.Held.{Held}
use Rattle.route_choice.specs.declared.overlay.Overlay.{Overlay}
use Rattle.route_choice.specs.declared.table.Table.{Table}
use Rattle.route_choice.specs.Routings.{entry_of, routing_of}
use Rattle.dirty_recompute.specs.Resources.{IsBefore, as_before}

module _ (pool : PathPool) (table : Table) (overlay : Overlay) (a : ℕ) (before : Option Held) where
  here : as_before pool table overlay a before a ≡ option_map (entry_of pool) before
  here = ap (λ b. cond b (option_map (entry_of pool) before) (routing_of pool table overlay a)) (eq-eqb a a refl)

  away : (n : ℕ) → n ≢ a → as_before pool table overlay a before n ≡ routing_of pool table overlay n
  away n ne = elim (cases_Bool (n == a)) [
    | inl e ↦ absurd (ne (eqb-true n a e))
    | inr e ↦ ap (λ b. cond b (option_map (entry_of pool) before) (routing_of pool table overlay n)) e
  ]

  pub is_as_before : ((h : Held) → before ≡ Some h → IsLive pool h.path.0) → IsBefore pool table overlay a before (as_before pool table overlay a before)
  is_as_before live = record { this = here; others = away; live = live }

  -- only one routing was there before
  pub before_is : (f : ℕ → Option Entry) → IsBefore pool table overlay a before f → as_before pool table overlay a before ≡ f
  before_is f was i n = same n i
    where
      same : (n : ℕ) → as_before pool table overlay a before n ≡ f n
      same n = elim (cases_eq n a) [
        | inl e ↦ ap (as_before pool table overlay a before) e ∙ here ∙ sym was.this ∙ sym (ap f e)
        | inr ne ↦ away n ne ∙ sym (was.others n ne)
      ]
