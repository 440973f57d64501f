-- What acceptance means.
use Rattle.std.specs.Prelude.{◌≡◌, ◌↔◌, ℕ, zero, suc, ◌+◌, ◌^◌, ◌<◌, ◌≤◌, true, IsTrue, Some, List, [], ◌∷◌, ◌++◌, length, map as each, Ok}
use Rattle.std.specs.List.{flat_map}
use Rattle.std.specs.Ordering.{nat_cmp}
use Rattle.std.specs.FinMap as map
use Rattle.net_names.specs.declared.routes.State.{State}
use Rattle.net_names.specs.Lines.{kept_from}
use Rattle.net_names.specs.Prefixes.{PrefixValue, IsPrefix}
use Rattle.policy_laws.specs.Policy.{Policy}
use Rattle.as_graph.specs.Topology.{Topology, ases, has, relation}
use Rattle.as_graph.specs.Hierarchy.{HasNoProviderCycle}
use Rattle.stability_laws.specs.EntryTexts.{entry_row}
use Rattle.stability_laws.specs.declared.entry.Entry.{Entry}
use Rattle.stability_laws.specs.Book.{PolicyBook}
use Rattle.stability_laws.specs.World.{setting}
use Rattle.stability_laws.specs.Plans.{Plan, has_prefix}
use Rattle.stability_laws.specs.Rounds.{AreRounds, Family}
use Rattle.table_check.specs.declared.tables.Tables.{Tables}
use Rattle.table_check.specs.Rows.{held_by}
use Rattle.table_check.specs.declared.verdict.Verdict.{Verdict}
use Rattle.table_check.specs.Checked.{IsAccepted, IsVerdict}
use Rattle.table_check.specs.Reading.{tables_by}
use Rattle.table_check.specs.Printed.{for_text, IsAsn, IsPrintable}

-- each section of the table is the routing of its round
abbrev pub IsTableOf : Family → Tables → Type 0
IsTableOf g t = (before : ℕ) → before < length t.starts → (a : ℕ) → held_by t.rows (suc before) a ≡ g (suc before) t.prefix a

-- in a world without a provider cycle, a table of a prefix is accepted exactly where each section
-- is the one stable routing of its round (Gao and Rexford 2001)
abbrev pub AcceptedAreRounds : {P : Type 0} → (P → Policy) → Type 0
AcceptedAreRounds {P} meaning =
    (w : Topology) (book : PolicyBook P) (state : PrefixValue → ℕ → State) (plan : Plan) (rounds : ℕ) (g : Family) (t : Tables) →
    let here = λ (p : PrefixValue). setting meaning w book (state p) in
    HasNoProviderCycle (relation w) → AreRounds here plan rounds g → IsTrue (has_prefix plan t.prefix) → length t.starts ≤ rounds →
    IsAccepted (here t.prefix) plan t ↔ IsTableOf g t

-- a table: the rows that f makes, one for each AS of the graph, in rising number (own format)
abbrev pub table : Topology → (ℕ → List ℕ) → List ℕ
table w f = flat_map f (map.keys (map.from_entries {R = nat_cmp} (each (λ a. (a, tt {0})) (ases w))))

-- so many rounds from this one on, each printed as a section: its `for` line, and then the table
-- that the query for the routes of the round and the prefix has for its answer (own format)
abbrev pub rounds_text : Topology → Family → PrefixValue → ℕ → ℕ → List ℕ
rounds_text w g prefix round zero = []
rounds_text w g prefix round (suc count) = for_text round prefix ++ (10 ∷ (table w (λ a. entry_row a (g round prefix a)) ++ rounds_text w g prefix (suc round) count))

-- in a world without a provider cycle, the printed tables of the stable routings of the rounds from
-- the first on are read as a table of just these, and it is accepted, where all that the ASes hold
-- in these rounds can be printed (Gao and Rexford 2001)
abbrev pub PrintedRoundsAreAccepted : {P : Type 0} → (P → Policy) → Type 0
PrintedRoundsAreAccepted {P} meaning =
    (w : Topology) (book : PolicyBook P) (state : PrefixValue → ℕ → State) (plan : Plan) (rounds : ℕ) (g : Family) (prefix : PrefixValue) (more : ℕ) →
    let here = λ (p : PrefixValue). setting meaning w book (state p) in
    HasNoProviderCycle (relation w) → AreRounds here plan rounds g → IsTrue (has_prefix plan prefix) → IsPrefix prefix.family prefix.addr prefix.len →
    ((a : ℕ) → has w a ≡ true → IsAsn a) → ((round a : ℕ) (e : Entry) → 1 ≤ round → round ≤ more + 1 → g round prefix a ≡ Some e → IsPrintable e) →
    more + 1 ≤ rounds → more + 1 < 10 ^ 9 →
    (t : Tables) × (tables_by (kept_from 1 (rounds_text w g prefix 1 (suc more))) ≡ Ok t) × (t.prefix ≡ prefix) × (length t.starts ≡ suc more) × IsTableOf g t × IsAccepted (here prefix) plan t

-- a table has one verdict
abbrev pub OneVerdict : {P : Type 0} → (P → Policy) → Type 0
OneVerdict {P} meaning =
    (w : Topology) (book : PolicyBook P) (state : ℕ → State) (plan : Plan) (t : Tables) (v u : Verdict) →
    IsVerdict (setting meaning w book state) plan t v → IsVerdict (setting meaning w book state) plan t u → v ≡ u
