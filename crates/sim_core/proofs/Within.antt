-- The plan of a scenario is within the limits, and its names are the marks of its world.
use Rattle.std.proofs.Common.{◌≡◌, ℕ, suc, ◌+◌, ◌≤◌, Bool, true, false, ◌||◌, cond, List, [], ◌∷◌, ◌++◌, map, filter, flat_map, length, Some, is_some, refl, sym, ap, ◌∙◌, subst, arith}
use Rattle.std.specs.List.{All}
use Rattle.std.specs.Set.{distinct_count, unique_keys, is_member}
use Rattle.std.specs.Cmp.{IsTotalOrder}
use Rattle.std.specs.Ordering.{eq_by_cmp}
use Rattle.std.specs.declared.cmp.Ordering.{Ordering}
use Rattle.std.specs.FinMap as fin
use Rattle.std.specs.FinMap.Entries.{find}
use Rattle.std.proofs.lemmas.Cmp.{nat_cmp_total}
use Rattle.std.proofs.lemmas.List.Elements.{All-head, All-tail}
use Rattle.net_names.specs.Numbers.{occurs}
use Rattle.net_names.specs.Prefixes.{PrefixValue}
use Rattle.net_names.proofs.Pairs.{pairs_total}
use Rattle.as_graph.proofs.RowAses.{occurs-append}
use Rattle.stability_laws.specs.Plans.{announcement_cmp, announcers_of}
use Rattle.net_names.specs.Orders.{prefix_total, announcement_total, exact_announcement}
use Rattle.leak_round.specs.Limits.{IsWithinLimits}
use Rattle.scenario_text.specs.Scenarios.{ScenarioValue, IsScenario}
use Rattle.scenario_text.specs.declared.scenario.Announcement.{Announcement}
use Rattle.sim_core.specs.Loaded.{is_other, names_in, plan_of}
use Rattle.sim_core.proofs.PolicyEdits.{leakers}
use Rattle.sim_core.proofs.Keys.{occurs-from_entries}
use Rattle.sim_core.proofs.Plans.{exact_pair, kinds_of, leaks_from, leaks_in}
use Rattle.net_names.proofs.Shared.{map-map}

-- ---- the limits

abbrev one : {A K : Type 0} → (A → K) → A → K × Unit {0}
one f a = (f a, tt)

module _ {K X : Type 0} {R : K → K → Ordering} (o : IsTotalOrder R) where
  -- a map has no more entries than its list
  len-from_entries : (es : List (K × X)) → fin.len (fin.from_entries {R = R} es) ≤ length es
  len-from_entries [] = rw (fin.len-empty R X) (omega arith)
  len-from_entries (e ∷ es) =
      let more = len-from_entries es in
      rw (fin.len-insert o (fin.from_entries es) e.0 e.1)
      (elim (fin.contains_key (fin.from_entries {R = R} es) e.0) as (λ b. cond b (fin.len (fin.from_entries {R = R} es)) (fin.len (fin.from_entries {R = R} es) + 1) ≤ length (e ∷ es)) [ true ↦ omega (arith, more) | false ↦ omega (arith, more) ])

module _ {K : Type 0} {R : K → K → Ordering} (o : IsTotalOrder R) where
  there : {A : Type 0} (f : A → K) (xs : List A) (k : K) → is_some (find R k (map (one f) xs)) ≡ is_member (eq_by_cmp R) (map f xs) k
  there f [] k = refl
  there f (x ∷ xs) k = elim (eq_by_cmp R k (f x)) as (λ b. is_some (cond b (Some tt) (find R k (map (one f) xs))) ≡ (b || is_member (eq_by_cmp R) (map f xs) k)) [ true ↦ refl | false ↦ there f xs k ]

  -- a set of keys has as many as there are different ones
  len-keys : {A : Type 0} (f : A → K) (xs : List A) → fin.len (fin.from_entries {R = R} (map (one f) xs)) ≡ distinct_count (eq_by_cmp R) (map f xs)
  len-keys f [] = fin.len-empty R (Unit {0})
  len-keys f (x ∷ xs) =
      fin.len-insert o (fin.from_entries (map (one f) xs)) (f x) tt
      ∙ ap (λ b. cond b (fin.len (fin.from_entries {R = R} (map (one f) xs))) (fin.len (fin.from_entries {R = R} (map (one f) xs)) + 1)) (ap is_some (fin.get-from_entries o (map (one f) xs) (f x)) ∙ there f xs (f x))
      ∙ ap (λ n. cond (is_member (eq_by_cmp R) (map f xs) (f x)) n (n + 1)) (len-keys f xs)
      ∙ counted (is_member (eq_by_cmp R) (map f xs) (f x)) (unique_keys (eq_by_cmp R) (map f xs)) (f x)
    where
      counted : (b : Bool) (ks : List K) (k : K) → cond b (length ks) (length ks + 1) ≡ length (cond b ks (k ∷ ks))
      counted true ks k = refl
      counted false ks k = let same : length ks + 1 ≡ suc (length ks) = omega arith in same

-- what is found of a key is an entry of the list
found : {A K X : Type 0} (R : K → K → Ordering) (entry : A → K × X) (P : X → Type 0) (k : K) (x : X) (xs : List A) → All (λ a. P (entry a).1) xs → find R k (map entry xs) ≡ Some x → P x
found R entry P k x [] h is = cc
found R entry P k x (a ∷ xs) h is =
    elim (eq_by_cmp R k (entry a).0) as (λ b. cond b (Some (entry a).1) (find R k (map entry xs)) ≡ Some x → P x) [
      | true ↦ λ e. (let same : (entry a).1 ≡ x = cc in subst P same (All-head (λ a. P (entry a).1) a xs h))
      | false ↦ λ e. found R entry P k x xs (All-tail (λ a. P (entry a).1) a xs h) e
    ] is

length-map : {A B : Type 0} (f : A → B) (xs : List A) → length (map f xs) ≡ length xs
length-map f [] = refl
length-map f (x ∷ xs) = ap suc (length-map f xs)

pub within : (s : ScenarioValue) → IsScenario s → IsWithinLimits (plan_of s)
within s is = record {
  prefixes = let count = len-keys prefix_total (λ (a : Announcement). a.prefix) s.announcements in let keys = length-map (λ (e : PrefixValue × Unit {0}). e.0) (fin.entries (plan_of s).prefixes) in
      let entries = fin.len-entries (plan_of s).prefixes in omega (arith, is.few_prefixes, count, keys, entries);
  announcements = let len = len-from_entries announcement_total (map (λ (a : Announcement). ((a.prefix, a.asn), a.path)) s.announcements) in
      let long = length-map {B = (PrefixValue × ℕ) × List ℕ} (λ (a : Announcement). ((a.prefix, a.asn), a.path)) s.announcements in omega (arith, len, long, is.few_announcements);
  paths = λ prefix a path h. found announcement_cmp (λ (x : Announcement). ((x.prefix, x.asn), x.path)) (λ p. length p ≤ 64) (prefix, a) path s.announcements is.short_paths
      (sym (fin.get-from_entries announcement_total (map (λ (x : Announcement). ((x.prefix, x.asn), x.path)) s.announcements) (prefix, a)) ∙ h);
}

-- ---- the names

map_append : {A B : Type 0} (f : A → B) (xs ys : List A) → map f (xs ++ ys) ≡ map f xs ++ map f ys
map_append f [] ys = refl
map_append f (x ∷ xs) ys = ap (λ zs. f x ∷ zs) (map_append f xs ys)

map_same : (xs : List ℕ) → map (λ x. x) xs ≡ xs
map_same [] = refl
map_same (x ∷ xs) = ap (λ ys. x ∷ ys) (map_same xs)

of_leaks : (round : ℕ) (lists : List (List ℕ)) → map (λ (e : (ℕ × ℕ) × Unit {0}). e.0.1) (leaks_from round lists) ≡ flat_map (λ leakers. leakers) lists
of_leaks round [] = refl
of_leaks round (first ∷ lists) =
    map_append (λ (e : (ℕ × ℕ) × Unit {0}). e.0.1) (leaks_in round first) (leaks_from (round + 1) lists)
    ∙ ap (λ xs. xs ++ map (λ (e : (ℕ × ℕ) × Unit {0}). e.0.1) (leaks_from (round + 1) lists)) (map-map {Y = (ℕ × ℕ) × Unit {0}} (λ a. ((round, a), tt)) (λ (e : (ℕ × ℕ) × Unit {0}). e.0.1) first ∙ map_same first)
    ∙ ap (λ xs. first ++ xs) (of_leaks (round + 1) lists)

announcing : (q : ℕ) (s : ScenarioValue) → occurs q (announcers_of (plan_of s)) ≡ occurs q (map (λ (a : Announcement). a.asn) s.announcements)
announcing q s =
    let entries = map (λ (a : Announcement). ((a.prefix, a.asn), a.path)) s.announcements in
    let keys = fin.keys (plan_of s).announced in
    occurs-from_entries nat_cmp_total fin.nat_cmp-IsAntisymmetric (λ (x : ℕ). x) q (map (λ x. (x.1, tt)) keys)
    ∙ ap (occurs q) (map-map (λ (x : PrefixValue × ℕ). (x.1, tt)) (λ (e : ℕ × Unit {0}). e.0) keys ∙ map-map (λ (e : (PrefixValue × ℕ) × List ℕ). e.0) (λ (x : PrefixValue × ℕ). x.1) (fin.entries (plan_of s).announced))
    ∙ occurs-from_entries announcement_total exact_announcement (λ (x : PrefixValue × ℕ). x.1) q entries
    ∙ ap (occurs q) (map-map (λ (a : Announcement). ((a.prefix, a.asn), a.path)) (λ (e : (PrefixValue × ℕ) × List ℕ). e.0.1) s.announcements)

leaking : (q : ℕ) (s : ScenarioValue) → occurs q (leakers (plan_of s)) ≡ occurs q (flat_map (λ leakers. leakers) s.leaks)
leaking q s =
    ap (occurs q) (map-map (λ (e : (ℕ × ℕ) × Unit {0}). e.0) (λ (l : ℕ × ℕ). l.1) (fin.entries (plan_of s).leakers))
    ∙ occurs-from_entries pairs_total exact_pair (λ (l : ℕ × ℕ). l.1) q (leaks_from 2 s.leaks)
    ∙ ap (occurs q) (of_leaks 2 s.leaks)

naming : (q : ℕ) (s : ScenarioValue) → occurs q (fin.keys (kinds_of s.policies)) ≡ occurs q (map (λ p. p.0) (filter is_other s.policies))
naming q s = occurs-from_entries nat_cmp_total fin.nat_cmp-IsAntisymmetric (λ (x : ℕ). x) q (filter is_other s.policies)

-- the marks of a scenario's world are just the ASes that it names
pub same_names : (s : ScenarioValue) (q : ℕ) → occurs q (announcers_of (plan_of s) ++ (leakers (plan_of s) ++ fin.keys (kinds_of s.policies))) ≡ occurs q (names_in s)
same_names s q =
    occurs-append q (announcers_of (plan_of s)) (leakers (plan_of s) ++ fin.keys (kinds_of s.policies))
    ∙ ap (λ b. occurs q (announcers_of (plan_of s)) || b) (occurs-append q (leakers (plan_of s)) (fin.keys (kinds_of s.policies)))
    ∙ (λ i. announcing q s i || (leaking q s i || naming q s i))
    ∙ sym (occurs-append q (map (λ (a : Announcement). a.asn) s.announcements) (flat_map (λ leakers. leakers) s.leaks ++ map (λ p. p.0) (filter is_other s.policies))
    ∙ ap (λ b. occurs q (map (λ (a : Announcement). a.asn) s.announcements) || b) (occurs-append q (flat_map (λ leakers. leakers) s.leaks) (map (λ p. p.0) (filter is_other s.policies))))
