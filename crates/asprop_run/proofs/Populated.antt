-- A world with a prefix has an AS that announces it.
use Rattle.std.proofs.Common.{◌≡◌, ◌<◌, ◌≤◌, ◌||◌, ◌==◌, ℕ, Bool, true, false, List, [], ◌∷◌, map, Ok, Option, refl, sym, ap, subst, ◌∙◌, arith, length}
use Rattle.std.proofs.lemmas.Bool.{eq-eqb, eqb-true, or_left}
use Rattle.std.specs.Prelude.{nat_eq}
use Rattle.std.specs.List.{IsDistinct}
use Rattle.std.specs.Option.{is_some}
use Rattle.std.specs.FinMap as fin
use Rattle.std.specs.FinSet as set
use Rattle.net_names.specs.Links.{LinkMap}
use Rattle.net_names.specs.Numbers.{occurs}
use Rattle.net_names.specs.Prefixes.{PrefixValue, prefix_cmp}
use Rattle.as_graph.specs.Topology.{as_count, has}
use Rattle.as_graph.proofs.RowAses.{length-le-as_count, occurs-append, occurs-items}
use Rattle.roa_table.specs.Sets.{Payloads}
use Rattle.scenario_text.specs.Scenarios.{ScenarioValue}
use Rattle.scenario_text.specs.declared.scenario.Announcement.{Announcement}
use Rattle.sim_core.specs.Loaded.{names_in, plan_of, world_of}
use Rattle.sim_core.specs.World.{World, named, topology}
use Rattle.sim_core.proofs.Within.{same_names}
use Rattle.stability_laws.specs.Plans.{has_prefix}
use Rattle.task_reading.specs.Files.{Prepares}
use Rattle.task_reading.specs.Sources.{Source}
use Rattle.task_reading.specs.Words.{Form}
use Rattle.task_reading.specs.declared.asking.Asked.{Asked}

module _ (links : LinkMap) (vrps : Payloads) (s : ScenarioValue) where
  -- who is named is an AS
  there : (a : ℕ) → occurs a (names_in s) ≡ true → has (topology (world_of links vrps s)) a ≡ true
  there a h =
      let w = world_of links vrps s in
      let marked : occurs a (set.items (topology w).marked) ≡ true = occurs-items (topology w).marked a ∙ set.contains-from_list_nat (named w.plan w.kinds) a ∙ same_names s a ∙ h in
      occurs-append a (set.items (topology w).marked) _ ∙ or_left _ _ marked

  only : (a x : ℕ) → occurs x (a ∷ []) ≡ true → a ≡ x
  only a x h = by (a == x) refl h
    where
      by : (b : Bool) → (a == x) ≡ b → (b || false) ≡ true → a ≡ x
      by true is h = eqb-true a x is
      by false is h = cc

  alone : (a : ℕ) → IsDistinct nat_eq (a ∷ [])
  unfolding IsDistinct
  alone a = (tt, tt)

  -- where something is announced there is an AS
  announced : (first : Announcement) (more : List Announcement) → s.announcements ≡ first ∷ more → 0 < as_count (topology (world_of links vrps s))
  announced first more is =
      let a = first.asn in
      let named_first : occurs a (names_in s) ≡ true = occurs-append a (map (λ x. x.asn) s.announcements) _ ∙ or_left _ _ (ap (λ l. occurs a (map (λ (x : Announcement). x.asn) l)) is ∙ or_left (a == a) _ (eq-eqb a a refl)) in
      let one : length (a ∷ []) ≤ as_count (topology (world_of links vrps s)) = length-le-as_count (topology (world_of links vrps s)) (a ∷ []) (alone a) (λ x is_a. subst (λ y. has (topology (world_of links vrps s)) y ≡ true) (only a x is_a) (there a named_first)) in
      omega (arith, one)

  -- a prefix of the plan is announced
  pub has_an_as : (p : PrefixValue) → has_prefix (plan_of s) p ≡ true → 0 < as_count (topology (world_of links vrps s))
  has_an_as p h = by s.announcements refl
    where
      by : (l : List Announcement) → s.announcements ≡ l → 0 < as_count (topology (world_of links vrps s))
      by [] is = absurd (let none : false ≡ true = sym (ap is_some (fin.get-empty prefix_cmp p)) ∙ sym (ap (λ l. fin.contains_key (fin.from_entries {R = prefix_cmp} (map (λ (a : Announcement). (a.prefix, tt {0})) l)) p) is) ∙ h in cc)
      by (first ∷ more) is = announced first more is

-- so it is in the world of what was asked for
pub asked_has_an_as : {from : Source} {form : Option Form} {x : Asked} → Prepares from form (Ok x) → (w : World) → w ≡ world_of x.links x.vrps x.scenario
    → (p : PrefixValue) → has_prefix w.plan p ≡ true → 0 < as_count (topology w)
asked_has_an_as {x} h w is p known =
    subst (λ (w : World). 0 < as_count (topology w)) (sym is) (has_an_as x.links x.vrps x.scenario p (subst (λ (w : World). has_prefix w.plan p ≡ true) is known))
