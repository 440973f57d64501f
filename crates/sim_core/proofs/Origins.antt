-- Each path that is held ends with the last number of a path that is announced.
use Rattle.std.proofs.Common.{◌≡◌, ◌&&◌, ◌<◌, ◌≤◌, ℕ, zero, suc, nat_lt, Bool, true, false, IsTrue, Option, None, Some, List, [], ◌∷◌, length, refl, sym, ap, subst, ◌∙◌, arith}
use Rattle.std.specs.Prelude.{slice_get, if◌then◌else◌}
use Rattle.std.proofs.lemmas.Bool.{ltb-true}
use Rattle.net_names.specs.Numbers.{last_or}
use Rattle.net_names.specs.Prefixes.{PrefixValue}
use Rattle.net_names.specs.declared.routes.State.{State}
use Rattle.as_graph.specs.Topology.{Topology, has}
use Rattle.policy_kinds.specs.Kinds.{kind_policy}
use Rattle.policy_kinds.specs.declared.kind.Kind.{Kind}
use Rattle.stability_laws.specs.Book.{PolicyBook, policy_at}
use Rattle.stability_laws.specs.Laws.{PathsGoOn}
use Rattle.stability_laws.specs.OfferPaths.{OfferPath}
use Rattle.stability_laws.specs.Offers.{offer}
use Rattle.stability_laws.specs.Plans.{IsSound, Plan, announced_path, has_prefix, leaks_in}
use Rattle.stability_laws.specs.Rounds.{AreRounds, seed_given, seeds_of}
use Rattle.stability_laws.specs.Stable.{IsRightGiven}
use Rattle.stability_laws.specs.World.{setting}
use Rattle.stability_laws.specs.declared.entry.Entry.{Entry}
use Rattle.stability_laws.specs.declared.entry.Seed.{Seed}
use Rattle.sim_core.specs.Families.{Family}
use Rattle.sim_core.specs.Ground.{IsOrigin}
use Rattle.policy_laws.specs.Policy.{is_own_or_customers}

pub both : (a b : Bool) → (a && b) ≡ true → a ≡ true
both true b h = refl
both false b h = cc

starts_last : (a : ℕ) (path : List ℕ) (b : ℕ) → slice_get path 0 ≡ Some b → last_or 0 (a ∷ path) ≡ last_or 0 path
starts_last a [] b h = cc
starts_last a (x ∷ xs) b h = refl

starts_long : (path : List ℕ) (b : ℕ) → slice_get path 0 ≡ Some b → 1 ≤ length path
starts_long [] b h = cc
starts_long (x ∷ xs) b h = omega arith

pub same_some : {X : Type 0} (x y : X) → Some x ≡ Some y → x ≡ y
same_some x y e = cc

pub leaked_path : (own : Bool) (e : Entry) (s : Seed) → (if own then None else Some (record { path = e.path; otc = e.otc })) ≡ Some s → s.path ≡ e.path
leaked_path true e s h = cc
leaked_path false e s h = ap (λ (t : Seed). t.path) (sym (same_some _ s h))

module _ (paths : OfferPath kind_policy) (goes : PathsGoOn kind_policy) (g : Topology) (book : PolicyBook Kind) (state : PrefixValue → ℕ → State) (plan : Plan) (count : ℕ) (held : Family) (sound : IsSound plan) (are : AreRounds (λ p. setting kind_policy g book (state p)) plan count held) (prefix : PrefixValue) (known : IsTrue (has_prefix plan prefix)) where
  seed_ends : (before a : ℕ) (s : Seed) → ((e : Entry) → held before prefix a ≡ Some e → 1 ≤ before → IsOrigin plan prefix (last_or 0 e.path)) → seeds_of plan (suc before) prefix (held before prefix) a ≡ Some s → IsOrigin plan prefix (last_or 0 s.path)
  seed_ends before a s earlier is = by (announced_path plan prefix a) refl (nat_lt 1 (suc before) && leaks_in plan (suc before) a) refl (held before prefix a) refl is
    where
      by : (o : Option (List ℕ)) → announced_path plan prefix a ≡ o → (t : Bool) → (nat_lt 1 (suc before) && leaks_in plan (suc before) a) ≡ t → (h : Option Entry) → held before prefix a ≡ h → seed_given o t h ≡ Some s → IsOrigin plan prefix (last_or 0 s.path)
      by (Some path) at t leaks h e q = record { asn = a; path = path; announced = at; last = ap (λ (x : Seed). last_or 0 x.path) (same_some _ s q) }
      by None at false leaks h e q = cc
      by None at true leaks None e q = cc
      by None at true leaks (Some x) e q =
          let later : 1 ≤ before = omega (arith, ltb-true 1 (suc before) (both (nat_lt 1 (suc before)) (leaks_in plan (suc before) a) leaks)) in
          subst (λ (l : List ℕ). IsOrigin plan prefix (last_or 0 l)) (sym (leaked_path (is_own_or_customers x.class) x s q)) (earlier x e later)

  in_round : (before : ℕ) → before < count → ((a : ℕ) (e : Entry) → held before prefix a ≡ Some e → 1 ≤ before → IsOrigin plan prefix (last_or 0 e.path)) → (k a : ℕ) (e : Entry) → length e.path ≤ k → held (suc before) prefix a ≡ Some e → IsOrigin plan prefix (last_or 0 e.path)
  in_round before less earlier zero a e short at =
      let start = (goes g book state plan count held sound are before prefix less known a e at).0 in
      let long = starts_long e.path a start in absurd (omega (arith, long, short))
  in_round before less earlier (suc k) a e short at = here (has g a) refl (seeds_of plan (suc before) prefix (held before prefix) a) refl (in_round before less earlier k)
    where
      here : (t : Bool) → has g a ≡ t → (o : Option Seed) → seeds_of plan (suc before) prefix (held before prefix) a ≡ o → ((n : ℕ) (x : Entry) → length x.path ≤ k → held (suc before) prefix n ≡ Some x → IsOrigin plan prefix (last_or 0 x.path)) → IsOrigin plan prefix (last_or 0 e.path)
      here false gone o seeds further = absurd (let no : None ≡ Some e = sym ((are before prefix less known).only_ases a gone) ∙ at in cc)
      here true there (Some s) seeds further =
          let right = coe 0 1 (i. IsRightGiven (kind_policy (policy_at book a)) (seeds i) (λ n. offer (setting kind_policy g book (state prefix)) (held (suc before) prefix) n a) (at i)) ((are before prefix less known).right a there) in
          let same : e.path ≡ s.path = ap (λ (x : Entry). x.path) (same_some e _ right) in
          subst (λ (l : List ℕ). IsOrigin plan prefix (last_or 0 l)) (sym same) (seed_ends before a s (earlier a) seeds)
      here true there None seeds further =
          let right = coe 0 1 (i. IsRightGiven (kind_policy (policy_at book a)) (seeds i) (λ n. offer (setting kind_policy g book (state prefix)) (held (suc before) prefix) n a) (at i)) ((are before prefix less known).right a there) in
          let (n, o, best, is) = right in
          let (x, held_there, path) = paths g book (state prefix) (held (suc before) prefix) n a o best.made in
          let longer : e.path ≡ a ∷ x.path = ap (λ (y : Entry). y.path) is ∙ path in
          let start = (goes g book state plan count held sound are before prefix less known n x held_there).0 in
          let shorter : length x.path ≤ k = omega (arith, short, ap length longer) in
          subst (IsOrigin plan prefix) (sym (ap (last_or 0) longer ∙ starts_last a x.path n start)) (further n x shorter held_there)

  pub ends_announced : (before : ℕ) → before < count → (a : ℕ) (e : Entry) → held (suc before) prefix a ≡ Some e → IsOrigin plan prefix (last_or 0 e.path)
  ends_announced zero less a e at = in_round zero less (λ b x is late. absurd (omega (arith, late))) (length e.path) a e (omega arith) at
  ends_announced (suc before) less a e at = in_round (suc before) less (λ b x is late. ends_announced before (omega (arith, less)) b x is) (length e.path) a e (omega arith) at
