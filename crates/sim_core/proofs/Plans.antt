-- Plans and policies that are made one entry after the other.
use Rattle.std.proofs.Common.{◌≡◌, ◌≢◌, ℕ, suc, ◌+◌, ◌<◌, Bool, true, false, cond, List, [], ◌∷◌, ◌++◌, map, filter, flat_map, take, length, get_or, is_some, ◌||◌, IsTrue, Option, Some, None, refl, sym, ap, ◌∙◌, subst, arith}
use Rattle.std.specs.List.{All, AllPairs, enumerate_from}
use Rattle.std.proofs.Common.{append_assoc, append-nil}
use Rattle.std.proofs.lemmas.List.{get_or-take, length-take, take_more}
use Rattle.std.proofs.lemmas.List.Elements.{All-head, All-tail, All-from_get_or, All-get_or}
use Rattle.std.proofs.lemmas.Cmp.{nat_cmp_total, tied_itself}
use Rattle.std.proofs.lemmas.Map.Lookups.{exact_pairs, exact_unsigned}
use Rattle.std.specs.Cmp.{IsTotalOrder}
use Rattle.std.specs.declared.cmp.Ordering.{Ordering}
use Rattle.std.specs.Ordering.{nat_cmp, eq_by_cmp, is_eq}
use Rattle.std.specs.FinMap as fin
use Rattle.std.specs.FinSet as set
use Rattle.std.specs.FinMap.Entries.{find}
use Rattle.net_names.specs.Links.{pair_cmp}
use Rattle.net_names.specs.Prefixes.{PrefixValue}
use Rattle.net_names.proofs.Pairs.{pairs_total}
use Rattle.policy_kinds.specs.declared.kind.Kind.{Kind}
use Rattle.policy_kinds.specs.declared.kind.Kind.TheVariants.{Plain}
use Rattle.stability_laws.specs.Plans.{Plan, announcement_cmp, announcer_of, announces, with_announcement, with_leaker}
use Rattle.net_names.specs.Orders.{exact_prefix, prefix_total, exact_announcement, announcement_total}
use Rattle.scenario_text.specs.Scenarios.{ScenarioValue, IsScenario, StartsWith, announcement_name}
use Rattle.scenario_text.specs.declared.scenario.Announcement.{Announcement}
use Rattle.sim_core.specs.Loaded.{is_other}
use Rattle.net_names.proofs.Shared.{is_equal}

-- who leaks in which round, as the entries of a set
abbrev pub Leaks : Type 0
Leaks = List ((ℕ × ℕ) × Unit {0})

-- the leakers of a round
abbrev pub leaks_in : ℕ → List ℕ → Leaks
leaks_in round leakers = map (λ a. ((round, a), tt)) leakers

-- the plan in which these paths are announced and these ASes leak in these rounds
abbrev pub planned : List Announcement → Leaks → Plan
planned xs leaks = record {
  prefixes = fin.from_entries (map (λ (a : Announcement). (a.prefix, tt)) xs);
  announced = fin.from_entries (map (λ (a : Announcement). ((a.prefix, a.asn), a.path)) xs);
  leakers = fin.from_entries leaks;
}

-- who leaks where the first list is of this round, and so on
abbrev pub leaks_from : ℕ → List (List ℕ) → Leaks
leaks_from round lists = flat_map (λ l. leaks_in l.0 l.1) (enumerate_from round lists)

-- the ASes that these policies give another one than the plain one
abbrev pub kinds_of : List (ℕ × Kind) → fin.FinMap nat_cmp Kind
kinds_of policies = fin.from_entries (filter is_other policies)

abbrev there : Option (Unit {0})
there = Some tt

-- a key among others that are put in one after the other
module _ {K : Type 0} {R : K → K → Ordering} (o : IsTotalOrder R) (same : fin.IsAntisymmetric R) where
  find_push : (es : List (K × Unit {0})) (k q : K) → find R q (es ++ (k, tt) ∷ []) ≡ cond (eq_by_cmp R q k) (there) (find R q es)
  find_push [] k q = refl
  find_push (e ∷ es) k q = ap (cond (eq_by_cmp R q e.0) (there)) (find_push es k q) ∙ swapped (eq_by_cmp R q e.0) (eq_by_cmp R q k) (find R q es)
    where
      swapped : (a b : Bool) (r : Option (Unit {0})) → cond a (there) (cond b (there) r) ≡ cond b (there) (cond a (there) r)
      swapped true true r = refl
      swapped true false r = refl
      swapped false true r = refl
      swapped false false r = refl

  pub set_push : (es : List (K × Unit {0})) (k : K) → fin.from_entries {R = R} (es ++ (k, tt) ∷ []) ≡ fin.insert (fin.from_entries es) k tt
  set_push es k = fin.same_map o same _ _ (λ q.
      fin.get-from_entries o (es ++ (k, tt) ∷ []) q
      ∙ find_push es k q
      ∙ sym (fin.get-insert o (fin.from_entries es) k tt q ∙ ap (cond (eq_by_cmp R q k) (there)) (fin.get-from_entries o es q)))

-- a key that none of the entries has is not found
module _ {K X : Type 0} {R : K → K → Ordering} (same : fin.IsAntisymmetric R) where
  skipped : (k : K) (e : K × X) (r : Option X) → e.0 ≢ k → r ≡ None → cond (eq_by_cmp R k e.0) (Some e.1) r ≡ None
  skipped k e r other none =
      elim (eq_by_cmp R k e.0) as (λ b. eq_by_cmp R k e.0 ≡ b → cond b (Some e.1) r ≡ None) [
        | true ↦ λ is. absurd (other (sym (same k e.0 (is_equal (R k e.0) is))))
        | false ↦ λ is. none
      ] refl

  pub unfound : {A : Type 0} (entry : A → K × X) (k : K) (xs : List A) → All (λ a. (entry a).0 ≢ k) xs → find R k (map entry xs) ≡ None
  unfound entry k [] h = refl
  unfound entry k (a ∷ xs) h = skipped k (entry a) (find R k (map entry xs)) (All-head (λ b. (entry b).0 ≢ k) a xs h) (unfound entry k xs (All-tail (λ b. (entry b).0 ≢ k) a xs h))

  pub unfound_kept : (test : K × X → Bool) (k : K) (es : List (K × X)) → All (λ e. e.0 ≢ k) es → find R k (filter test es) ≡ None
  unfound_kept test k [] h = refl
  unfound_kept test k (e ∷ es) h =
      elim (test e) as (λ b. find R k (cond b (e ∷ filter test es) (filter test es)) ≡ None) [
        | true ↦ skipped k e (find R k (filter test es)) (All-head (λ d. d.0 ≢ k) e es h) (unfound_kept test k es (All-tail (λ d. d.0 ≢ k) e es h))
        | false ↦ unfound_kept test k es (All-tail (λ d. d.0 ≢ k) e es h)
      ]

-- what differs from each later one differs from those before it
pub earlier_differ : {A : Type 0} (P : A → A → Type 0) (xs : List A) (i : ℕ) (d : A) → i < length xs → AllPairs P xs → All (λ a. P a (get_or xs i d)) (take i xs)
earlier_differ P xs i d inside pairs = All-from_get_or (λ a. P a (get_or xs i d)) (take i xs) d (λ j before.
    let here : j < i = omega (arith, before, length-take i xs) in
    subst (λ a. P a (get_or xs i d)) (sym (get_or-take i xs j d here)) (pairs j i d here inside))

-- one more announcement
starts : (asn : ℕ) (path : List ℕ) → StartsWith asn path → announcer_of path ≡ asn
starts asn [] h = cc
starts asn (a ∷ more) h = cc

map_push : {A B : Type 0} (f : A → B) (xs : List A) (x : A) → map f (xs ++ x ∷ []) ≡ map f xs ++ f x ∷ []
map_push f [] x = refl
map_push f (y ∷ ys) x = ap (λ zs. f y ∷ zs) (map_push f ys x)

pub planned_announcement : (xs : List Announcement) (leaks : Leaks) (x : Announcement) → StartsWith x.asn x.path → All (λ a. announcement_name a ≢ announcement_name x) xs
    → planned (xs ++ x ∷ []) leaks ≡ with_announcement (planned xs leaks) x.prefix x.path
planned_announcement xs leaks x own new =
    let entry : Announcement → (PrefixValue × ℕ) × List ℕ = λ (a : Announcement). ((a.prefix, a.asn), a.path) in
    let prefix : Announcement → PrefixValue × Unit {0} = λ (a : Announcement). (a.prefix, tt) in
    let prefixes = ap (λ es. fin.from_entries es) (map_push prefix xs x) ∙ set_push prefix_total exact_prefix (map prefix xs) x.prefix in
    let announced : fin.from_entries {R = announcement_cmp} (map entry (xs ++ x ∷ [])) ≡ fin.insert (fin.from_entries (map entry xs)) (x.prefix, announcer_of x.path) x.path =
    ap (λ es. fin.from_entries {R = announcement_cmp} es) (map_push entry xs x)
    ∙ fin.from_entries_push announcement_total exact_announcement (map entry xs) (x.prefix, x.asn) x.path (unfound exact_announcement entry (x.prefix, x.asn) xs new)
    ∙ ap (λ a. fin.insert (fin.from_entries (map entry xs)) (x.prefix, a) x.path) (sym (starts x.asn x.path own)) in
    λ i. record { prefixes = prefixes i; announced = announced i; leakers = fin.from_entries leaks }

-- nobody announces it yet
pub unannounced : (xs : List Announcement) (leaks : Leaks) (x : Announcement) → StartsWith x.asn x.path → All (λ a. announcement_name a ≢ announcement_name x) xs → announces (planned xs leaks) x.prefix (announcer_of x.path) ≡ false
unannounced xs leaks x own new =
    ap (λ a. announces (planned xs leaks) x.prefix a) (starts x.asn x.path own)
    ∙ ap is_some (fin.get-from_entries announcement_total (map (λ (a : Announcement). ((a.prefix, a.asn), a.path)) xs) (x.prefix, x.asn) ∙ unfound exact_announcement (λ (a : Announcement). ((a.prefix, a.asn), a.path)) (x.prefix, x.asn) xs new)

pub exact_pair : fin.IsAntisymmetric pair_cmp
exact_pair = exact_pairs nat_cmp nat_cmp exact_unsigned exact_unsigned

-- the plan with these leakers
abbrev pub with_leaks : Plan → Leaks → Plan
with_leaks plan leaks = record plan { leakers = fin.from_entries leaks }

-- one more leaker
one_leaker : (plan : Plan) (leaks : Leaks) (round a : ℕ) → with_leaks plan (leaks ++ ((round, a), tt) ∷ []) ≡ with_leaker (with_leaks plan leaks) round a
one_leaker plan leaks round a = let leakers = set_push pairs_total exact_pair leaks (round, a) in λ i. record plan { leakers = leakers i }

pub one_leaker_more : (plan : Plan) (leaks : Leaks) (leakers : List ℕ) (i round a : ℕ) (old new : Plan) → i < length leakers → a ≡ get_or leakers i a
    → old ≡ with_leaks plan (leaks ++ leaks_in round (take i leakers)) → new ≡ with_leaker old round a → new ≡ with_leaks plan (leaks ++ leaks_in round (take (i + 1) leakers))
one_leaker_more plan leaks leakers i round a old new inside is so made =
    let pair : ℕ → (ℕ × ℕ) × Unit {0} = λ b. ((round, b), tt) in
    let more : leaks ++ map pair (take (i + 1) leakers) ≡ (leaks ++ map pair (take i leakers)) ++ ((round, a), tt) ∷ [] =
    ap (λ ys. leaks ++ map pair ys) (take_more leakers i a inside ∙ ap (λ b. take i leakers ++ b ∷ []) (sym is))
    ∙ ap (λ ys. leaks ++ ys) (map_push pair (take i leakers) a)
    ∙ sym (append_assoc leaks (map pair (take i leakers)) (((round, a), tt) ∷ [])) in
    made ∙ ap (λ (p : Plan). with_leaker p round a) so ∙ sym (one_leaker plan (leaks ++ map pair (take i leakers)) round a) ∙ ap (with_leaks plan) (sym more)

filter_push : {A : Type 0} (test : A → Bool) (xs : List A) (x : A) → filter test (xs ++ x ∷ []) ≡ filter test xs ++ filter test (x ∷ [])
filter_push test [] x = refl
filter_push test (y ∷ ys) x =
    elim (test y) as (λ b. cond b (y ∷ filter test (ys ++ x ∷ [])) (filter test (ys ++ x ∷ [])) ≡ cond b (y ∷ filter test ys) (filter test ys) ++ filter test (x ∷ [])) [
      | true ↦ ap (λ zs. y ∷ zs) (filter_push test ys x)
      | false ↦ filter_push test ys x
    ]

-- a policy that names nobody else
pub named_too : (before : List (ℕ × Kind)) (p : ℕ × Kind) (old new : fin.FinMap nat_cmp Kind) → All (λ q. q.0 ≢ p.0) before → is_other p ≡ true → old ≡ kinds_of before → new ≡ fin.insert old p.0 p.1 → new ≡ kinds_of (before ++ p ∷ [])
named_too before p old new others is so made =
    made ∙ ap (λ (m : fin.FinMap nat_cmp Kind). fin.insert m p.0 p.1) so
    ∙ sym (fin.from_entries_push nat_cmp_total fin.nat_cmp-IsAntisymmetric (filter is_other before) p.0 p.1 (unfound_kept fin.nat_cmp-IsAntisymmetric is_other p.0 before others))
    ∙ ap (λ es. fin.from_entries {R = nat_cmp} es) (sym (filter_push is_other before p ∙ ap (λ b. filter is_other before ++ cond b (p ∷ []) []) is))

-- what is found is the first one or one of the others
plain_first : (a : ℕ) (p : ℕ × Kind) (es : List (ℕ × Kind)) → find nat_cmp a es ≢ Some Plain → (b : Bool) → is_other p ≡ true → cond b (Some p.1) (find nat_cmp a es) ≢ Some Plain
plain_first a p es none true so found =
    let same : p.1 ≡ Plain = cc in
    let other : is_other (p.0, Plain) ≡ true = subst (λ (k : Kind). is_other (p.0, k) ≡ true) same so in
    cc
plain_first a p es none false so found = none found

first_unfound : (a : ℕ) (p : ℕ × Kind) (policies : List (ℕ × Kind)) → find nat_cmp a (filter is_other policies) ≢ Some Plain → (b : Bool) → is_other p ≡ b → find nat_cmp a (cond b (p ∷ filter is_other policies) (filter is_other policies)) ≢ Some Plain
first_unfound a p policies none true so found = plain_first a p (filter is_other policies) none (eq_by_cmp nat_cmp a p.0) so found
first_unfound a p policies none false so found = none found

-- whom the plain policy names is not found
plain_unfound : (a : ℕ) (policies : List (ℕ × Kind)) → find nat_cmp a (filter is_other policies) ≢ Some Plain
plain_unfound a [] is = cc
plain_unfound a (p ∷ policies) is = first_unfound a p policies (plain_unfound a policies) (is_other p) refl is

-- no AS is named with the plain policy
pub kinds_are_other : (policies : List (ℕ × Kind)) (named : fin.FinMap nat_cmp Kind) → named ≡ kinds_of policies → (a : ℕ) → fin.get named a ≢ Some Plain
kinds_are_other policies named is a found =
    plain_unfound a policies (sym (fin.get-from_entries nat_cmp_total (filter is_other policies) a) ∙ ap (λ (m : fin.FinMap nat_cmp Kind). fin.get m a) (sym is) ∙ found)

-- the plain policy names nobody
pub unnamed : (before : List (ℕ × Kind)) (p : ℕ × Kind) → is_other p ≡ false → kinds_of before ≡ kinds_of (before ++ p ∷ [])
unnamed before p is =
    ap (λ es. fin.from_entries {R = nat_cmp} es) (sym (filter_push is_other before p ∙ ap (λ b. filter is_other before ++ cond b (p ∷ []) []) is ∙ append-nil (filter is_other before)))

-- what a scenario's announcement at a place is to those before it
pub announcement_new : (s : ScenarioValue) (i : ℕ) (x : Announcement) → IsScenario s → i < length s.announcements → x ≡ get_or s.announcements i x → All (λ a. announcement_name a ≢ announcement_name x) (take i s.announcements)
announcement_new s i x is inside here =
    subst (λ (y : Announcement). All (λ a. announcement_name a ≢ announcement_name y) (take i s.announcements)) (sym here) (earlier_differ (λ (a b : Announcement). announcement_name a ≢ announcement_name b) s.announcements i x inside is.announced_once)

pub announcement_own : (s : ScenarioValue) (i : ℕ) (x : Announcement) → IsScenario s → i < length s.announcements → x ≡ get_or s.announcements i x → StartsWith x.asn x.path
announcement_own s i x is inside here = subst (λ (y : Announcement). StartsWith y.asn y.path) (sym here) (All-get_or (λ (y : Announcement). StartsWith y.asn y.path) s.announcements i x inside is.own_paths)

-- one more announcement of a scenario
pub announced_more : (s : ScenarioValue) (i : ℕ) (x : Announcement) (path : List ℕ) (old new : Plan) → IsScenario s → i < length s.announcements → x ≡ get_or s.announcements i x → path ≡ x.path
    → old ≡ planned (take i s.announcements) [] → new ≡ with_announcement old x.prefix path → new ≡ planned (take (i + 1) s.announcements) []
announced_more s i x path old new is inside here same so made =
    made ∙ ap (λ (p : Plan). with_announcement p x.prefix path) so ∙ ap (with_announcement (planned (take i s.announcements) []) x.prefix) same
    ∙ sym (planned_announcement (take i s.announcements) [] x (announcement_own s i x is inside here) (announcement_new s i x is inside here))
    ∙ ap (λ xs. planned xs []) (ap (λ y. take i s.announcements ++ y ∷ []) here ∙ sym (take_more s.announcements i x inside))

pub announced_new : (s : ScenarioValue) (i : ℕ) (x : Announcement) (path : List ℕ) (plan : Plan) → IsScenario s → i < length s.announcements → x ≡ get_or s.announcements i x → path ≡ x.path
    → plan ≡ planned (take i s.announcements) [] → announces plan x.prefix (announcer_of path) ≡ false
announced_new s i x path plan is inside here same so =
    rw (so, same) (unannounced (take i s.announcements) [] x (announcement_own s i x is inside here) (announcement_new s i x is inside here))

-- one more policy of a scenario
pub policy_new : (s : ScenarioValue) (i : ℕ) (p : ℕ × Kind) → IsScenario s → i < length s.policies → p ≡ get_or s.policies i p → All (λ q. q.0 ≢ p.0) (take i s.policies)
policy_new s i p is inside here =
    subst (λ (y : ℕ × Kind). All (λ q. q.0 ≢ y.0) (take i s.policies)) (sym here) (earlier_differ (λ (a b : ℕ × Kind). a.0 ≢ b.0) s.policies i p inside is.ruled_once)

or_here : (a b : Bool) → a ≡ true → IsTrue (a || b)
or_here true b h = refl
or_here false b h = cc

-- room for an AS that was made is there
pub has_room : (room : set.FinSet nat_cmp) (a : ℕ) → IsTrue (set.contains (set.insert room a) a)
has_room room a = rw (set.contains-insert nat_cmp_total room a a) (or_here (eq_by_cmp nat_cmp a a) (set.contains room a) (ap is_eq (tied_itself nat_cmp_total a)))

leaks_push : (round : ℕ) (lists : List (List ℕ)) (leakers : List ℕ) → leaks_from round (lists ++ leakers ∷ []) ≡ leaks_from round lists ++ leaks_in (round + length lists) leakers
leaks_push round [] leakers = append-nil (leaks_in round leakers) ∙ ap (λ r. leaks_in r leakers) (let same : round ≡ round + 0 = omega arith in same)
leaks_push round (first ∷ lists) leakers =
    ap (λ ls. leaks_in round first ++ ls) (leaks_push (round + 1) lists leakers)
    ∙ sym (append_assoc (leaks_in round first) (leaks_from (round + 1) lists) (leaks_in (round + 1 + length lists) leakers))
    ∙ ap (λ r. (leaks_in round first ++ leaks_from (round + 1) lists) ++ leaks_in r leakers) (let same : round + 1 + length lists ≡ round + suc (length lists) = omega arith in same)

-- the leakers of one round more
pub leaks_more : (xs : List Announcement) (lists : List (List ℕ)) (i round : ℕ) (leakers : List ℕ) (now : Plan) → i < length lists → leakers ≡ get_or lists i leakers → round ≡ 2 + i
    → now ≡ planned xs (leaks_from 2 (take i lists) ++ leaks_in round leakers) → now ≡ planned xs (leaks_from 2 (take (i + 1) lists))
leaks_more xs lists i round leakers now inside here at is =
    let long : 2 + length (take i lists) ≡ round = omega (arith, length-take i lists, at, inside) in
    is ∙ ap (planned xs) (sym (
    ap (leaks_from 2) (take_more lists i leakers inside ∙ ap (λ l. take i lists ++ l ∷ []) (sym here))
    ∙ leaks_push 2 (take i lists) leakers
    ∙ ap (λ r. leaks_from 2 (take i lists) ++ leaks_in r leakers) long))
