-- The world of a task that files give can be printed.
use Rattle.std.proofs.Common.{◌≡◌, ◌⊎◌, inl, inr, ℕ, ◌==◌, Bool, true, false, cond, is_some, Option, Some, None, Ok, List, [], ◌∷◌, map, filter, flat_map, refl, sym, ap, subst, ◌∙◌, arith}
use Rattle.std.specs.FinMap as fin
use Rattle.std.specs.FinSet as set
use Rattle.std.specs.List.{AllByRecursion}
use Rattle.std.specs.Ordering.{eq_by_cmp}
use Rattle.std.proofs.lemmas.Bool.{eqb-true, or_cases}
use Rattle.as_graph.proofs.RowAses.{end_found, occurs-append, occurs-items}
use Rattle.net_names.specs.Links.{LinkMap}
use Rattle.net_names.specs.Numbers.{occurs}
use Rattle.net_names.specs.Orders.{announcement_total, exact_prefix, prefix_total}
use Rattle.net_names.specs.Prefixes.{PrefixValue, IsPrefix, announcement_cmp, prefix_cmp}
use Rattle.policy_kinds.specs.declared.kind.Kind.{Kind}
use Rattle.roa_table.specs.Sets.{Payloads}
use Rattle.scenario_text.specs.Scenarios.{ScenarioValue, nothing}
use Rattle.scenario_text.specs.declared.scenario.Announcement.{Announcement}
use Rattle.stability_laws.proofs.KeyLists.{eq_is}
use Rattle.sim_core.specs.Loaded.{is_other, names_in, world_of}
use Rattle.sim_core.specs.World.{named, topology}
use Rattle.sim_core.proofs.Within.{same_names}
use Rattle.table_check.specs.Printed.{IsAsn}
use Rattle.scenario_text.specs.Laws.{AcceptedExactly}
use Rattle.scenario_text.specs.Readings.{scenario_of_bytes}
use Rattle.task_reading.specs.Words.{Form, demo_form, file_form, origin_form}
use Rattle.task_reading.specs.declared.asking.Asked.{Asked}
use Rattle.told_laws.specs.Printable.{IsOfFiles, IsPath, IsPrintableWorld, LoadedWorldsArePrintable}
use Rattle.answers_exist.proofs.Asked.{IsAskedBy, asked_for, one_origin}
use Rattle.told_laws.proofs.Fits.{all_append}
use Rattle.told_laws.proofs.GoodFiles.{IsGoodOne, IsGoodPlan, JoinAsns, links_asns, nothing_good, plan_good}

-- ---- lists

occurs_asn : (xs : List ℕ) (a : ℕ) → AllByRecursion IsAsn xs → occurs a xs ≡ true → IsAsn a
occurs_asn [] a all h = cc
occurs_asn (x ∷ xs) a all h = elim (or_cases (x == a) (occurs a xs) h) [
  | inl this ↦ subst IsAsn (eqb-true x a this) all.0
  | inr more ↦ occurs_asn xs a all.1 more
]

announcers : (xs : List Announcement) → AllByRecursion IsGoodOne xs → AllByRecursion IsAsn (map (λ x. x.asn) xs)
announcers [] all = tt
announcers (x ∷ xs) all = (all.0.asn, announcers xs all.1)

leakers : (ls : List (List ℕ)) → AllByRecursion (AllByRecursion IsAsn) ls → AllByRecursion IsAsn (flat_map (λ l. l) ls)
leakers [] all = tt
leakers (l ∷ ls) all = all_append IsAsn l (flat_map (λ l. l) ls) all.0 (leakers ls all.1)

ruled : (ps : List (ℕ × Kind)) → AllByRecursion (λ p. IsAsn p.0) ps → AllByRecursion IsAsn (map (λ p. p.0) (filter is_other ps))
ruled [] all = tt
ruled (p ∷ ps) all = by (is_other p) (ruled ps all.1)
  where
    by : (b : Bool) → AllByRecursion IsAsn (map (λ p. p.0) (filter is_other ps)) → AllByRecursion IsAsn (map (λ (p : ℕ × Kind). p.0) (cond b (p ∷ filter is_other ps) (filter is_other ps)))
    by true rest = (all.0, rest)
    by false rest = rest

names_asns : (s : ScenarioValue) → IsGoodPlan s → AllByRecursion IsAsn (names_in s)
names_asns s good =
    all_append IsAsn (map (λ a. a.asn) s.announcements) _ (announcers s.announcements good.announced)
    (all_append IsAsn (flat_map (λ leakers. leakers) s.leaks) _ (leakers s.leaks good.leaks) (ruled s.policies good.ruled))

-- ---- what is announced

abbrev entry_of : Announcement → (PrefixValue × ℕ) × List ℕ
entry_of x = ((x.prefix, x.asn), x.path)

found_path : (xs : List Announcement) → AllByRecursion IsGoodOne xs → (q : PrefixValue × ℕ) (path : List ℕ) → fin.find announcement_cmp q (map entry_of xs) ≡ Some path → IsPath path
found_path [] all q path e = cc
found_path (x ∷ xs) all q path e = by (eq_by_cmp announcement_cmp q (x.prefix, x.asn)) e (found_path xs all.1 q path)
  where
    by : (b : Bool) → cond b (Some x.path) (fin.find announcement_cmp q (map entry_of xs)) ≡ Some path → (fin.find announcement_cmp q (map entry_of xs) ≡ Some path → IsPath path) → IsPath path
    by true e go = let own : x.path ≡ path = cc in subst IsPath own all.0.path
    by false e go = go e

found_prefix : (xs : List Announcement) → AllByRecursion IsGoodOne xs → (p : PrefixValue) → is_some (fin.find prefix_cmp p (map (λ (x : Announcement). (x.prefix, tt {0})) xs)) ≡ true → IsPrefix p.family p.addr p.len
found_prefix [] all p h = cc
found_prefix (x ∷ xs) all p h = by (eq_by_cmp prefix_cmp p x.prefix) refl h (found_prefix xs all.1 p)
  where
    by : (b : Bool) → eq_by_cmp prefix_cmp p x.prefix ≡ b → is_some (cond b (Some tt) (fin.find prefix_cmp p (map (λ (x : Announcement). (x.prefix, tt {0})) xs))) ≡ true
        → (is_some (fin.find prefix_cmp p (map (λ (x : Announcement). (x.prefix, tt {0})) xs)) ≡ true → IsPrefix p.family p.addr p.len) → IsPrefix p.family p.addr p.len
    by true is h go = subst (λ (q : PrefixValue). IsPrefix q.family q.addr q.len) (sym (eq_is prefix_total exact_prefix p x.prefix is)) all.0.prefix
    by false is h go = go h

-- ---- the world

pub world_printable : (links : LinkMap) (vrps : Payloads) (s : ScenarioValue) → JoinAsns links → IsGoodPlan s → IsPrintableWorld (world_of links vrps s)
world_printable links vrps s joined good = record {
  rounds = good.rounds;
  prefixes = λ p h. found_prefix s.announcements good.announced p (sym (ap is_some (fin.get-from_entries prefix_total (map (λ (x : Announcement). (x.prefix, tt {0})) s.announcements) p)) ∙ h);
  ases = λ a h. elim (or_cases (occurs a (set.items (topology (world_of links vrps s)).marked)) _ (sym (occurs-append a (set.items (topology (world_of links vrps s)).marked) _) ∙ h)) [
    | inl marked ↦ occurs_asn (names_in s) a (names_asns s good) (sym (in_names a) ∙ marked)
    | inr linked ↦ (
        let (q, r, found, which) = end_found (fin.entries links) a linked in
        let both = joined q r (fin.get-entries links q ∙ found) in
        elim which [ inl first ↦ subst IsAsn first both.0 | inr second ↦ subst IsAsn second both.1 ]
        )
  ];
  paths = λ p a path h. found_path s.announcements good.announced (p, a) path (sym (fin.get-from_entries announcement_total (map entry_of s.announcements) (p, a)) ∙ h);
}
  where
    in_names : (a : ℕ) → occurs a (set.items (topology (world_of links vrps s)).marked) ≡ occurs a (names_in s)
    in_names a =
        let w = world_of links vrps s in
        occurs-items (topology w).marked a ∙ set.contains-from_list_nat (named w.plan w.kinds) a ∙ same_names s a

-- one origin announces all addresses
origin_good : (a : ℕ) → IsAsn a → IsGoodPlan (one_origin fin.empty a).scenario
origin_good a is = record {
  announced = (record { prefix = record { fits = omega arith; short = omega arith; clear = refl }; asn = is; path = (omega arith, (is, tt)) }, tt);
  ruled = tt;
  leaks = tt;
  rounds = omega arith;
}

scenario_good : AcceptedExactly → (s : ScenarioValue) → (s ≡ nothing) ⊎ ((bytes : List ℕ) × (scenario_of_bytes bytes ≡ Ok s)) → IsGoodPlan s
scenario_good accepted s (inl none) = subst IsGoodPlan (sym none) nothing_good
scenario_good accepted s (inr (bytes, read)) = plan_good accepted bytes s read

pub loaded_printable : AcceptedExactly → LoadedWorldsArePrintable
loaded_printable accepted form reads t of_files e = let (x, asked, world, jobs) = asked_for form reads t e in subst IsPrintableWorld (sym world) (by form of_files x asked)
  where
    by : (form : Option Form) → IsOfFiles form → (x : Asked) → IsAskedBy form x → IsPrintableWorld (world_of x.links x.vrps x.scenario)
    by None of x asked = absurd asked
    by (Some (demo_form n)) of x asked = absurd of
    by (Some (origin_form rel origin)) of x (relations, links, read, is) =
        subst (λ (y : Asked). IsPrintableWorld (world_of y.links y.vrps y.scenario)) is
        (world_printable links (one_origin links origin).vrps (one_origin links origin).scenario (links_asns relations links read) (origin_good origin of))
    by (Some (file_form rel vrps scenario name option)) of x asked =
        world_printable x.links x.vrps x.scenario (links_asns asked.relations x.links asked.links) (scenario_good accepted x.scenario asked.scenario)
