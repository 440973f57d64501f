-- A scenario stands all tests of four lists, and an accepted text is one of a scenario.
use Rattle.std.proofs.Common.{◌≡◌, ◌≢◌, ℕ, suc, ◌+◌, ◌<◌, false, Bool, List, [], ◌∷◌, length, get_or, take, map, Option, Some, None, Result, Ok, refl, sym, ◌∙◌, ap, subst, arith, nat_lt}
use Rattle.std.specs.Prelude.{ok_or}
use Rattle.std.specs.List.{list_any, AllPairs}
use Rattle.std.specs.declared.cmp.Ordering.{Ordering}
use Rattle.std.specs.Ordering.{nat_cmp, eq_by_cmp}
use Rattle.std.proofs.lemmas.Bool.{le-ltb, false_from_ne_true}
use Rattle.std.proofs.lemmas.List.{get_or-map, get_or-take, get_or_default, length-map, length-take-le}
use Rattle.std.proofs.lemmas.List.Folds.{list_any_none}
use Rattle.std.proofs.lemmas.Map.Lookups.{CmpEqualImpliesEq, exact_unsigned}
use Rattle.std.proofs.lemmas.Map.Views.{tells_apart}
use Rattle.net_names.specs.Addresses.{addr_cmp}
use Rattle.policy_kinds.specs.declared.kind.Kind.{Kind}
use Rattle.scenario_text.specs.declared.faults.ScenarioError.{ScenarioError}
use Rattle.scenario_text.specs.declared.faults.ScenarioError.TheVariants.{NotJson}
use Rattle.scenario_text.specs.declared.places.Member.TheVariants.{Announcements, Policies, Leaks, Watch}
use Rattle.scenario_text.specs.declared.places.Place.{Place}
use Rattle.net_names.specs.Steps.{unless}
use Rattle.scenario_text.specs.Laws.{ReadsAs}
use Rattle.scenario_text.specs.Limits.{within}
use Rattle.scenario_text.specs.Members.{lists_in}
use Rattle.scenario_text.specs.Places.{in_member, item}
use Rattle.scenario_text.specs.Readings.{json_of, scenario_of_bytes}
use Rattle.scenario_text.specs.Scenarios.{ScenarioValue, IsScenario, announcement_name, prefix_count}
use Rattle.net_names.specs.Prefixes.{announcement_cmp}
use Rattle.scenario_text.specs.Twice.{once_in, once}
use Rattle.scenario_text.specs.Walks.{◌>>=◌, each_from, each_at}
use Rattle.net_names.specs.Orders.{exact_announcement, exact_addr}
use Rattle.scenario_text.proofs.Repeats.{once_at, once_in_steps, once_is, once_steps}
use Rattle.scenario_text.proofs.Sound.{first_step, judged, sound}

-- a list is read whose items are all read
reads_all : {A B E : Type 0} (f : ℕ → A → Result B E) (i : ℕ) (xs : List A) → ((k : ℕ) (d : A) → k < length xs → (y : B) × (f (i + k) (get_or xs k d) ≡ Ok y)) → (ys : List B) × (each_from f i xs ≡ Ok ys)
unfolding each_from
reads_all f i [] h = ([], refl)
reads_all f i (x ∷ xs) h =
    let first = h 0 x (omega arith) in
    let at : i + 0 ≡ i = omega arith in
    let rest = reads_all f (suc i) xs (λ k d lt. let next : suc i + k ≡ i + suc k = omega arith in rw next (h (suc k) d (omega arith))) in
    (first.0 ∷ rest.0, rw (rw at at first.1, rest.1) refl)

-- the item is unlike each before it
new_at : {K : Type 0} (cmp : K → K → Ordering) → CmpEqualImpliesEq cmp → (place : Place) (keys : List K) → AllPairs (λ a b. a ≢ b) keys → (k : ℕ) (d : K) → k < length keys → once_at cmp place keys k (get_or keys k d) ≡ Ok tt
new_at cmp exact place keys h k d lt =
    let none : list_any (eq_by_cmp cmp (get_or keys k d)) (take k keys) ≡ false =
    list_any_none (eq_by_cmp cmp (get_or keys k d)) (take k keys) (λ i e li. false_from_ne_true (eq_by_cmp cmp (get_or keys k d) (get_or (take k keys) i e)) (λ tied.
    let inside : i < k = omega (arith, length-take-le k keys) in
    let low : i < length keys = omega arith in
    h i k d inside lt (get_or_default keys i d e low ∙ sym (get_or-take k keys i e inside) ∙ sym (tells_apart exact (get_or keys k d) (get_or (take k keys) i e) tied)))) in
    rw none refl

once_from : {K : Type 0} (cmp : K → K → Ordering) → CmpEqualImpliesEq cmp → (place : Place) (keys : List K) → AllPairs (λ a b. a ≢ b) keys → once_in cmp place keys ≡ Ok tt
once_from cmp exact place keys h = sym (once_in_steps cmp place keys) ∙ (
    let tested = reads_all (once_at cmp place keys) 0 keys (λ k d lt. let at : 0 + k ≡ k = omega arith in (tt, rw at (new_at cmp exact place keys h k d lt))) in
    ap (λ (r : Result (List (Unit {0})) ScenarioError). r >>= λ _. Ok tt) tested.1)

distinct_keys : {A K : Type 0} (f : A → K) (xs : List A) → AllPairs (λ a b. f a ≢ f b) xs → AllPairs (λ a b. a ≢ b) (map f xs)
distinct_keys f [] h i j d lt lj same = absurd (omega arith)
distinct_keys f (x ∷ xs) h i j d lt lj same =
    let long : length (map f xs) ≡ length xs = length-map xs f in
    h i j x lt (omega (arith, long)) (sym (get_or-map f (x ∷ xs) i x d (omega (arith, long))) ∙ same ∙ get_or-map f (x ∷ xs) j x d (omega (arith, long)))

all_passed : (a b : Result (Unit {0}) ScenarioError) (c : Result (List (Unit {0})) ScenarioError) (d : Result (Unit {0}) ScenarioError) (us : List (Unit {0})) → a ≡ Ok tt → b ≡ Ok tt → c ≡ Ok us → d ≡ Ok tt → (a >>= λ _. b >>= λ _. c >>= λ _. d) ≡ Ok tt
all_passed a b c d us first second third fourth = rw (first, second, third) fourth

once_of : (s : ScenarioValue) → IsScenario s → once s ≡ Ok s
once_of s h = once_is s ∙ ap (λ (r : Result (Unit {0}) ScenarioError). r >>= λ _. Ok s) (
    let leaking = reads_all (λ i. once_in nat_cmp (item (in_member Leaks) i)) 0 s.leaks (λ k ns lt. (tt, once_from nat_cmp exact_unsigned (item (in_member Leaks) (0 + k)) (get_or s.leaks k ns) (h.leaking_once k ns lt))) in
    all_passed (once_in announcement_cmp (in_member Announcements) (map announcement_name s.announcements)) (once_in nat_cmp (in_member Policies) (map (λ p. p.0) s.policies))
    (each_at (once_in nat_cmp) (in_member Leaks) s.leaks) (once_in addr_cmp (in_member Watch) s.watch) leaking.0
    (once_from announcement_cmp exact_announcement (in_member Announcements) (map announcement_name s.announcements) (distinct_keys announcement_name s.announcements h.announced_once))
    (once_from nat_cmp exact_unsigned (in_member Policies) (map (λ p. p.0) s.policies) (distinct_keys (λ (p : ℕ × Kind). p.0) s.policies h.ruled_once))
    leaking.1
    (once_from addr_cmp exact_addr (in_member Watch) s.watch h.watched_once))

all_within : (s : ScenarioValue) (a b c d e f : Bool) → a ≡ false → b ≡ false → c ≡ false → d ≡ false → e ≡ false → f ≡ false → judged s a b c d e f ≡ Ok s
all_within s a b c d e f first second third fourth fifth sixth = rw (first, second, third, fourth, fifth, sixth) refl

within_of : (s : ScenarioValue) → IsScenario s → within s ≡ Ok s
unfolding within
within_of s h =
    all_within s (nat_lt 64 (length s.announcements)) (nat_lt 32 (prefix_count s.announcements)) (list_any (λ a. nat_lt 64 (length a.path)) s.announcements)
    (nat_lt 3 (length s.leaks)) (list_any (λ leakers. nat_lt 64 (length leakers)) s.leaks) (nat_lt 16 (length s.watch))
    (le-ltb _ _ h.few_announcements) (le-ltb _ _ h.few_prefixes)
    (list_any_none (λ a. nat_lt 64 (length a.path)) s.announcements (λ k a lt. le-ltb _ _ (h.short_paths k a lt)))
    (le-ltb _ _ h.few_rounds)
    (list_any_none (λ leakers. nat_lt 64 (length leakers)) s.leaks (λ k ns lt. le-ltb _ _ (h.few_leakers k ns lt)))
    (le-ltb _ _ h.few_watched)

some_of : {A E : Type 0} (o : Option A) (e : E) (x : A) → ok_or o e ≡ Ok x → o ≡ Some x
some_of None e x h = absurd (cc)
some_of (Some y) e x h = let same : y ≡ x = cc in rw same refl

-- the last two passes change nothing
kept : {A E : Type 0} (o : Option E) (x y : A) → unless o (Ok x) ≡ Ok y → x ≡ y
kept None x y h = cc
kept (Some e) x y h = absurd (cc)

once_kept : (s t : ScenarioValue) → once s ≡ Ok t → s ≡ t
once_kept s t h = let steps = first_step (once_steps s) (λ _. Ok s) t (sym (once_is s) ∙ h) in cc (steps.2)

within_kept : (s t : ScenarioValue) → within s ≡ Ok t → s ≡ t
unfolding within
within_kept s t h = kept _ s t h

pub said_of : (bytes : List ℕ) (s : ScenarioValue) → scenario_of_bytes bytes ≡ Ok s → ReadsAs bytes s × IsScenario s
unfolding scenario_of_bytes
said_of bytes s h =
    let last = first_step (ok_or (json_of bytes) NotJson >>= lists_in >>= once) within s h in
    let lists = first_step (ok_or (json_of bytes) NotJson >>= lists_in) once last.0 last.1 in
    let value = first_step (ok_or (json_of bytes) NotJson) lists_in lists.0 lists.1 in
    let same : lists.0 ≡ last.0 = once_kept lists.0 last.0 lists.2 in
    let all : lists.0 ≡ s = same ∙ within_kept last.0 s last.2 in
    let once_ok : once lists.0 ≡ Ok lists.0 = lists.2 ∙ ap (λ (t : ScenarioValue). Ok t) (sym same) in
    let within_ok : within lists.0 ≡ Ok s = subst (λ (t : ScenarioValue). within t ≡ Ok s) (sym same) last.2 in (
      record { value = value.0; is_json = some_of (json_of bytes) NotJson value.0 value.1; says = value.2 ∙ ap (λ (t : ScenarioValue). Ok t) all },
      subst IsScenario all (sound value.0 lists.0 s value.2 once_ok within_ok),
    )

pub accepted_if_said : (bytes : List ℕ) (s : ScenarioValue) → ReadsAs bytes s → IsScenario s → scenario_of_bytes bytes ≡ Ok s
unfolding scenario_of_bytes
accepted_if_said bytes s reads h = rw (reads.is_json, reads.says, once_of s h, within_of s h) refl
