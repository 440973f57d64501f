-- A document that stands all tests is a scenario.
use Rattle.std.proofs.Common.{◌≡◌, ◌≢◌, ℕ, zero, suc, ◌+◌, ◌<◌, true, false, Bool, List, [], ◌∷◌, length, get_or, take, map, All, Result, Ok, Err, Some, refl, sym, ◌∙◌, ap, subst, arith, nat_lt, nat_eq}
use Rattle.std.specs.Prelude.{◌&&◌, if◌then◌else◌, ok_or, fold, None, option_map}
use Rattle.std.specs.Bool.{then_some}
use Rattle.std.specs.Option.{option_or}
use Rattle.net_names.specs.Steps.{unless}
use Rattle.std.specs.Cmp.{IsTotalOrder, tied_itself, nat_cmp_total}
use Rattle.std.specs.List.{list_any, starts_with, AllPairs}
use Rattle.std.specs.declared.cmp.Ordering.{Ordering}
use Rattle.std.specs.Ordering.{nat_cmp, eq_by_cmp, is_eq}
use Rattle.std.proofs.lemmas.Bool.{ltb-false, eqb-true}
use Rattle.std.proofs.lemmas.List.{get_or-map, get_or-take, length-map, length-take-le}
use Rattle.std.proofs.lemmas.List.Elements.{All-cons, All-nil}
use Rattle.std.proofs.lemmas.List.Folds.{list_any_at}
use Rattle.net_names.specs.Addresses.{AddrValue, addr_cmp}
use Rattle.net_names.specs.Prefixes.{PrefixValue, announcement_cmp}
use Rattle.net_names.specs.Texts.{prefix_of, addr_of}
use Rattle.policy_kinds.specs.declared.kind.Kind.{Kind}
use Rattle.scenario_text.specs.declared.faults.LimitOf.TheVariants as limits
use Rattle.scenario_text.specs.declared.faults.ScenarioError.{ScenarioError}
use Rattle.scenario_text.specs.declared.faults.ScenarioError.TheVariants.{Value, Limit}
use Rattle.scenario_text.specs.declared.documents.AnnouncementText.{AnnouncementText}
use Rattle.scenario_text.specs.declared.places.Member.TheVariants.{Announcements, Policies, Leaks, Watch}
use Rattle.scenario_text.specs.declared.places.PartOf.TheVariants as parts
use Rattle.scenario_text.specs.declared.places.Place.{Place}
use Rattle.scenario_text.specs.declared.scenario.Announcement.{Announcement}
use Rattle.scenario_text.specs.Documents.{DocumentValue}
use Rattle.scenario_text.specs.Members.{lists_in}
use Rattle.scenario_text.specs.Shapes.{document_of}
use Rattle.scenario_text.specs.Limits.{within}
use Rattle.scenario_text.specs.Places.{in_member, item, in_part}
use Rattle.scenario_text.specs.Scenarios.{ScenarioValue, IsScenario, StartsWith, announcement_name, prefix_count}
use Rattle.scenario_text.specs.Twice.{once_in, once}
use Rattle.scenario_text.specs.Values.{asn_at, announcement_of, policy_of, lists_of}
use Rattle.scenario_text.specs.Walks.{◌>>=◌, each_from, each_at}
use Rattle.net_names.specs.Orders.{announcement_total, addr_total}
use Rattle.serde_json.specs.Data.{Data}
use Rattle.scenario_text.proofs.Members.{lists_in_passes}
use Rattle.scenario_text.proofs.Repeats.{once_at, once_in_steps, once_is, once_steps}

-- what the first of two steps gave, where both gave something
pub first_step : {A B E : Type 0} (r : Result A E) (f : A → Result B E) (y : B) → (r >>= f) ≡ Ok y → (x : A) × (r ≡ Ok x) × (f x ≡ Ok y)
first_step (Ok x) f y e = (x, refl, e)
first_step (Err e) f y h = absurd (cc)

read_at : {A B E : Type 0} (f : ℕ → A → Result B E) (i : ℕ) (xs : List A) (ys : List B) → each_from f i xs ≡ Ok ys → (k : ℕ) (d : A) → k < length xs → (y : B) × (f (i + k) (get_or xs k d) ≡ Ok y)
unfolding each_from
read_at f i [] ys h k d lt = absurd (omega arith)
read_at f i (x ∷ xs) ys h zero d lt =
    let a = first_step (f i x) (λ y. each_from f (suc i) xs >>= λ zs. Ok (y ∷ zs)) ys h in
    let e : i + 0 ≡ i = omega arith in (a.0, rw e a.1)
read_at f i (x ∷ xs) ys h (suc k) d lt =
    let a = first_step (f i x) (λ y. each_from f (suc i) xs >>= λ zs. Ok (y ∷ zs)) ys h in
    let b = first_step (each_from f (suc i) xs) (λ zs. Ok (a.0 ∷ zs)) ys a.2 in
    let e : i + suc k ≡ suc i + k = omega arith in
    rw e (read_at f (suc i) xs b.0 b.1 k d (omega arith))

each_gives : {A B E : Type 0} (P : B → Type 0) (f : ℕ → A → Result B E) → ((j : ℕ) (x : A) (y : B) → f j x ≡ Ok y → P y) → (i : ℕ) (xs : List A) (ys : List B) → each_from f i xs ≡ Ok ys → All P ys
unfolding each_from
each_gives {B = B} P f gives i [] ys h = let e : [] ≡ ys = cc in subst (λ (zs : List B). All P zs) e (All-nil P)
each_gives {B = B} P f gives i (x ∷ xs) ys h =
    let a = first_step (f i x) (λ y. each_from f (suc i) xs >>= λ zs. Ok (y ∷ zs)) ys h in
    let b = first_step (each_from f (suc i) xs) (λ zs. Ok (a.0 ∷ zs)) ys a.2 in
    let e : (a.0 ∷ b.0) ≡ ys = cc (b.2) in
    subst (λ (zs : List B). All P zs) e (All-cons P a.0 b.0 (gives i x a.0 a.1) (each_gives P f gives (suc i) xs b.0 b.1))

-- items that are tested are named once
once_at-Ok : {K : Type 0} (cmp : K → K → Ordering) (place : Place) (keys : List K) (j : ℕ) (key : K) (u : Unit {0}) → once_at cmp place keys j key ≡ Ok u → list_any (eq_by_cmp cmp key) (take j keys) ≡ true → ⊥
once_at-Ok cmp place keys j key u h found = let k = rw found at h in absurd (cc)

pub distinct : {K : Type 0} (cmp : K → K → Ordering) → IsTotalOrder cmp → (place : Place) (keys : List K) → once_in cmp place keys ≡ Ok tt → AllPairs (λ a b. a ≢ b) keys
distinct {K = K} cmp o place keys h i j d lt lj same =
    let a = first_step (each_from (once_at cmp place keys) 0 keys) (λ us. Ok tt) tt (once_in_steps cmp place keys ∙ h) in
    let b = read_at (once_at cmp place keys) 0 keys a.0 a.1 j d lj in
    let e : 0 + j ≡ j = omega arith in
    let test = rw e at b.1 in
    let before : i < length (take j keys) = omega (arith, length-take-le j keys) in
    let tied : eq_by_cmp cmp (get_or keys j d) (get_or (take j keys) i d) ≡ true = rw (get_or-take j keys i d lt, same) (ap is_eq (tied_itself o (get_or keys j d))) in
    once_at-Ok cmp place keys j (get_or keys j d) b.0 test (list_any_at (eq_by_cmp cmp (get_or keys j d)) (take j keys) i d before tied)

distinct-map : {A K : Type 0} (f : A → K) (xs : List A) → AllPairs (λ a b. a ≢ b) (map f xs) → AllPairs (λ a b. f a ≢ f b) xs
distinct-map f xs h i j d lt lj same =
    let li : i < length xs = omega arith in
    let long : length (map f xs) ≡ length xs = length-map xs f in
    h i j (f d) lt (omega (arith, long)) (get_or-map f xs i d (f d) li ∙ same ∙ sym (get_or-map f xs j d (f d) lj))

-- no item that fails a test is in a list none of which passes it
none_at : {A : Type 0} (p : A → Bool) (xs : List A) → list_any p xs ≡ false → All (λ x. p x ≡ false) xs
none_at p xs h k d lt =
    (elim (p (get_or xs k d)) as (λ v. p (get_or xs k d) ≡ v → p (get_or xs k d) ≡ false) [
      | true ↦ λ e. let t : list_any p xs ≡ true = list_any_at p xs k d lt e in absurd (cc)
      | false ↦ λ e. e
    ]) refl

first_true : (a b : Bool) → (a && b) ≡ true → a ≡ true
first_true true b h = refl
first_true false b h = absurd (cc)

pub own_path : (asn : ℕ) (path : List ℕ) → starts_with nat_eq path (asn ∷ []) ≡ true → StartsWith asn path
own_path asn [] h = absurd (cc)
own_path asn (n ∷ ns) h = ap (λ (m : ℕ). Some m) (sym (eqb-true asn n (first_true (nat_eq asn n) _ h)))

own_or_not : (e : ScenarioError) (a b : Announcement) (test : Bool) → (if test then Ok a else Err e) ≡ Ok b → (test ≡ true) × (a ≡ b)
own_or_not e a b true h = (refl, cc)
own_or_not e a b false h = absurd (cc)

-- three steps, and then the test of the path
steps_own : (prefix : Result PrefixValue ScenarioError) (asn : Result ℕ ScenarioError) (path : Result (List ℕ) ScenarioError) (e : ScenarioError) (b : Announcement)
    → (prefix >>= λ p. asn >>= λ n. path >>= λ ns. if starts_with nat_eq ns (n ∷ []) then Ok (record { prefix = p; asn = n; path = ns }) else Err e) ≡ Ok b → StartsWith b.asn b.path
steps_own (Ok p) (Ok n) (Ok ns) e b h =
    let own = own_or_not e (record { prefix = p; asn = n; path = ns }) b (starts_with nat_eq ns (n ∷ [])) h in
    subst (λ (c : Announcement). StartsWith c.asn c.path) own.1 (own_path n ns own.0)
steps_own (Ok p) (Ok n) (Err f) e b h = absurd (cc)
steps_own (Ok p) (Err f) path e b h = absurd (cc)
steps_own (Err f) asn path e b h = absurd (cc)

announcement_own : (p : Place) (a : AnnouncementText) (b : Announcement) → announcement_of p a ≡ Ok b → StartsWith b.asn b.path
unfolding announcement_of
announcement_own p a b h =
    steps_own (ok_or (prefix_of a.prefix) (Value (in_part p parts.Prefix))) (asn_at (in_part p parts.Number) a.number)
    (each_at asn_at (in_part p parts.Path) a.path) (Value (in_part p parts.Path)) b h

first_list : (a : Result (List Announcement) ScenarioError) (p : Result (List (ℕ × Kind)) ScenarioError) (l : Result (List (List ℕ)) ScenarioError) (w : Result (List AddrValue) ScenarioError) (s : ScenarioValue)
    → (a >>= λ announcements. p >>= λ policies. l >>= λ leaks. w >>= λ watch. Ok (record { announcements = announcements; policies = policies; leaks = leaks; watch = watch })) ≡ Ok s → a ≡ Ok s.announcements
first_list (Ok a) (Ok p) (Ok l) (Ok w) s h = cc
first_list (Ok a) (Ok p) (Ok l) (Err e) s h = absurd (cc)
first_list (Ok a) (Ok p) (Err e) w s h = absurd (cc)
first_list (Ok a) (Err e) l w s h = absurd (cc)
first_list (Err e) p l w s h = absurd (cc)

lists_own : (d : DocumentValue) (s : ScenarioValue) → lists_of d ≡ Ok s → All (λ a. StartsWith a.asn a.path) s.announcements
unfolding lists_of
lists_own d s h =
    let read = first_list (each_at announcement_of (in_member Announcements) d.announcements) (each_at policy_of (in_member Policies) d.policies)
    (each_at (each_at asn_at) (in_member Leaks) d.leaks) (each_at (λ p text. ok_or (addr_of text) (Value p)) (in_member Watch) d.watch) s h in
    each_gives (λ a. StartsWith a.asn a.path) (λ i. announcement_of (item (in_member Announcements) i)) (λ i. announcement_own (item (in_member Announcements) i)) 0 d.announcements s.announcements read

-- four tests that all pass
record AllPass (a b : Result (Unit {0}) ScenarioError) (c : Result (List (Unit {0})) ScenarioError) (d : Result (Unit {0}) ScenarioError) : Type 0 where
  first : a ≡ Ok tt
  second : b ≡ Ok tt
  third : (us : List (Unit {0})) × (c ≡ Ok us)
  fourth : d ≡ Ok tt

all_pass : (a b : Result (Unit {0}) ScenarioError) (c : Result (List (Unit {0})) ScenarioError) (d : Result (Unit {0}) ScenarioError) → (a >>= λ _. b >>= λ _. c >>= λ _. d) ≡ Ok tt → AllPass a b c d
all_pass (Ok a) (Ok b) (Ok us) d h = record { first = refl; second = refl; third = (us, refl); fourth = h }
all_pass (Ok a) (Ok b) (Err e) d h = absurd (cc)
all_pass (Ok a) (Err e) c d h = absurd (cc)
all_pass (Err e) b c d h = absurd (cc)

-- what six limits give, each of which is passed or not
abbrev pub judged : ScenarioValue → (a b c d e f : Bool) → Result ScenarioValue ScenarioError
judged s a b c d e f = unless (option_map Limit (fold option_or None (then_some a limits.Announcements ∷ then_some b limits.Prefixes ∷ then_some c limits.Path ∷ then_some d limits.Rounds ∷ then_some e limits.Leakers ∷ then_some f limits.Watch ∷ []))) (Ok s)

-- six limits none of which is passed
record NonePassed (a b c d e f : Bool) : Type 0 where
  first : a ≡ false
  second : b ≡ false
  third : c ≡ false
  fourth : d ≡ false
  fifth : e ≡ false
  sixth : f ≡ false

none_passed : (s t : ScenarioValue) (a b c d e f : Bool) → judged s a b c d e f ≡ Ok t → NonePassed a b c d e f
none_passed s t true b c d e f h = absurd (cc)
none_passed s t false true c d e f h = absurd (cc)
none_passed s t false false true d e f h = absurd (cc)
none_passed s t false false false true e f h = absurd (cc)
none_passed s t false false false false true f h = absurd (cc)
none_passed s t false false false false false true h = absurd (cc)
none_passed s t false false false false false false h = record { first = refl; second = refl; third = refl; fourth = refl; fifth = refl; sixth = refl }

pub sound : (d : Data) (s t : ScenarioValue) → lists_in d ≡ Ok s → once s ≡ Ok s → within s ≡ Ok t → IsScenario s
unfolding within
sound d s t read once_ok within_ok =
    let document = first_step (document_of d) lists_of s (sym (lists_in_passes d) ∙ read) in
    let steps = first_step (once_steps s) (λ _. Ok s) s (sym (once_is s) ∙ once_ok) in
    let tests = all_pass (once_in announcement_cmp (in_member Announcements) (map announcement_name s.announcements)) (once_in nat_cmp (in_member Policies) (map (λ p. p.0) s.policies))
    (each_at (once_in nat_cmp) (in_member Leaks) s.leaks) (once_in addr_cmp (in_member Watch) s.watch) steps.1 in
    let limit = none_passed s t (nat_lt 64 (length s.announcements)) (nat_lt 32 (prefix_count s.announcements)) (list_any (λ a. nat_lt 64 (length a.path)) s.announcements)
    (nat_lt 3 (length s.leaks)) (list_any (λ leakers. nat_lt 64 (length leakers)) s.leaks) (nat_lt 16 (length s.watch)) within_ok in
    record {
      announced_once = distinct-map announcement_name s.announcements (distinct announcement_cmp announcement_total (in_member Announcements) (map announcement_name s.announcements) tests.first);
      ruled_once = distinct-map (λ (p : ℕ × Kind). p.0) s.policies (distinct nat_cmp nat_cmp_total (in_member Policies) (map (λ p. p.0) s.policies) tests.second);
      leaking_once = λ k ns lt.
          let one = read_at (λ i. once_in nat_cmp (item (in_member Leaks) i)) 0 s.leaks tests.third.0 tests.third.1 k ns lt in
          distinct nat_cmp nat_cmp_total (item (in_member Leaks) (0 + k)) (get_or s.leaks k ns) one.1;
      watched_once = distinct addr_cmp addr_total (in_member Watch) s.watch tests.fourth;
      few_announcements = ltb-false _ _ limit.first;
      few_prefixes = ltb-false _ _ limit.second;
      short_paths = λ k a lt. ltb-false _ _ (none_at (λ b. nat_lt 64 (length b.path)) s.announcements limit.third k a lt);
      few_rounds = ltb-false _ _ limit.fourth;
      few_leakers = λ k ns lt. ltb-false _ _ (none_at (λ ms. nat_lt 64 (length ms)) s.leaks limit.fifth k ns lt);
      few_watched = ltb-false _ _ limit.sixth;
      own_paths = lists_own document.0 s document.2;
    }
