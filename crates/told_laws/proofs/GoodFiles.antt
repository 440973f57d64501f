-- What files of relationships and scenarios say has numbers of ASes, and prefixes.
use Rattle.std.proofs.Common.{◌≡◌, ℕ, suc, ◌+◌, ◌^◌, ◌<◌, ◌≤◌, ◌==◌, ◌&&◌, Bool, true, false, cond, nat_lt, Option, Some, None, List, [], ◌∷◌, ◌++◌, map, length, Result, Ok, Err, if◌then◌else◌, refl, sym, ap, subst, ◌∙◌, arith}
use Rattle.std.specs.Prelude.{ok_or}
use Rattle.std.specs.List.{AllByRecursion, starts_with}
use Rattle.std.specs.Ordering.{eq_by_cmp}
use Rattle.std.specs.Prelude.{◌==◌ as nat_eq}
use Rattle.std.specs.FinMap as fin
use Rattle.std.specs.Str.Lines.{strip_carriage_return}
use Rattle.std.proofs.lemmas.Bool.{ltb-true}
use Rattle.caida_reader.specs.Says.{says}
use Rattle.caida_reader.specs.Value.{links_in, links_of, numbered, said_in}
use Rattle.net_names.specs.Links.{LinkMap, pair_cmp}
use Rattle.net_names.proofs.Pairs.{exact_pair, pairs_total}
use Rattle.net_names.specs.Prefixes.{PrefixValue, IsPrefix}
use Rattle.net_names.specs.Steps.{option_filter, unless}
use Rattle.net_names.specs.Texts.{addr_of, asn_of, fields, is_skipped, numeral, prefix_of, rel_of}
use Rattle.net_names.specs.declared.routes.Rel.{Rel}
use Rattle.policy_kinds.specs.Names.{kind_named}
use Rattle.policy_kinds.specs.declared.kind.Kind.{Kind}
use Rattle.stability_laws.proofs.KeyLists.{eq_is}
use Rattle.scenario_text.specs.Documents.{DocumentValue}
use Rattle.scenario_text.specs.Laws.{AcceptedExactly}
use Rattle.scenario_text.specs.Places.{in_member, in_part, item}
use Rattle.scenario_text.specs.Readings.{scenario_of_bytes}
use Rattle.scenario_text.specs.Scenarios.{ScenarioValue, nothing}
use Rattle.scenario_text.specs.Shapes.{document_of}
use Rattle.scenario_text.specs.Values.{announcement_of, asn_at, lists_of, policy_of}
use Rattle.scenario_text.specs.Walks.{◌>>=◌, each_at, each_from}
use Rattle.scenario_text.specs.declared.faults.ScenarioError.TheVariants.{Value}
use Rattle.scenario_text.specs.declared.places.Member.TheVariants.{Announcements, Policies, Leaks, Watch}
use Rattle.scenario_text.specs.declared.places.PartOf.TheVariants as parts
use Rattle.scenario_text.specs.declared.places.Place.{Place}
use Rattle.scenario_text.specs.declared.scenario.Announcement.{Announcement}
use Rattle.scenario_text.proofs.Members.{lists_in_passes}
use Rattle.table_check.specs.Printed.{IsAsn}
use Rattle.told_laws.specs.Printable.{IsPath}
use Rattle.told_laws.proofs.Fits.{prefix_fits}

-- ---- numbers

tested_asn : (n : ℕ) (b c : Bool) → nat_lt 0 n ≡ b → nat_lt n (2 ^ 32) ≡ c → (b && c) ≡ true → IsAsn n
tested_asn n true true low high e = (let some = ltb-true 0 n low in omega (arith, some), ltb-true n (2 ^ 32) high)
tested_asn n true false low high e = cc
tested_asn n false c low high e = cc

test_asn : (n : ℕ) → (nat_lt 0 n && nat_lt n (2 ^ 32)) ≡ true → IsAsn n
test_asn n e = tested_asn n (nat_lt 0 n) (nat_lt n (2 ^ 32)) refl refl e

pub asn_read : (text : List ℕ) (n : ℕ) → asn_of text ≡ Some n → IsAsn n
unfolding asn_of
asn_read text n h = by (numeral 10 10 text) h
  where
    at : (m : ℕ) (b : Bool) → (nat_lt 0 m && nat_lt m (2 ^ 32)) ≡ b → (if b then Some m else None) ≡ Some n → IsAsn n
    at m true is e = let same : m ≡ n = cc in subst IsAsn same (test_asn m is)
    at m false is e = cc

    by : (o : Option ℕ) → option_filter (λ n. nat_lt 0 n && nat_lt n (2 ^ 32)) o ≡ Some n → IsAsn n
    by None e = cc
    by (Some m) e = at m (nat_lt 0 m && nat_lt m (2 ^ 32)) refl e

asn_placed : (p : Place) (m n : ℕ) → asn_at p m ≡ Ok n → IsAsn n
asn_placed p m n h = at (nat_lt 0 m && nat_lt m (2 ^ 32)) refl h
  where
    at : (b : Bool) → (nat_lt 0 m && nat_lt m (2 ^ 32)) ≡ b → (if b then Ok m else Err (Value p)) ≡ Ok n → IsAsn n
    at true is e = let same : m ≡ n = cc in subst IsAsn same (test_asn m is)
    at false is e = cc

-- ---- links

-- the ends of what a line gives are ASes
HasAsns : {X : Type 0} → List ((ℕ × ℕ) × X) → Type 0
HasAsns es = AllByRecursion (λ e. IsAsn e.0.0 × IsAsn e.0.1) es

module _ (n : ℕ) (line : List ℕ) (kept : is_skipped (strip_carriage_return line) ≡ false) (a b c : List ℕ) (more : List (List ℕ)) (cut : fields 124 (strip_carriage_return line) ≡ a ∷ b ∷ c ∷ more) where
  ends : (m k : ℕ) (r : Rel) → asn_of a ≡ Some m → asn_of b ≡ Some k → rel_of c ≡ Some r → (same less : Bool) → (m == k) ≡ same → nat_lt m k ≡ less → HasAsns (numbered n (says line ∷ []))
  unfolding HasAsns
  ends m k r ea eb ec true less es el = rw (kept, cut, ea, eb, ec, es) tt
  ends m k r ea eb ec false true es el = rw (kept, cut, ea, eb, ec, es, el) ((asn_read a m ea, asn_read b k eb), tt)
  ends m k r ea eb ec false false es el = rw (kept, cut, ea, eb, ec, es, el) ((asn_read b k eb, asn_read a m ea), tt)

  three : (o q : Option ℕ) (r : Option Rel) → asn_of a ≡ o → asn_of b ≡ q → rel_of c ≡ r → HasAsns (numbered n (says line ∷ []))
  unfolding HasAsns
  three None q r ea eb ec = rw (kept, cut, ea) tt
  three (Some m) None r ea eb ec = rw (kept, cut, ea, eb) tt
  three (Some m) (Some k) None ea eb ec = rw (kept, cut, ea, eb, ec) tt
  three (Some m) (Some k) (Some r) ea eb ec = ends m k r ea eb ec (m == k) (nat_lt m k) refl refl

by_fields : (n : ℕ) (line : List ℕ) (fs : List (List ℕ)) → is_skipped (strip_carriage_return line) ≡ false → fields 124 (strip_carriage_return line) ≡ fs → HasAsns (numbered n (says line ∷ []))
unfolding HasAsns
by_fields n line [] kept cut = rw (kept, cut) tt
by_fields n line (a ∷ []) kept cut = rw (kept, cut) tt
by_fields n line (a ∷ b ∷ []) kept cut = rw (kept, cut) tt
by_fields n line (a ∷ b ∷ c ∷ more) kept cut = three n line kept a b c more cut (asn_of a) (asn_of b) (rel_of c) refl refl refl

one_line : (n : ℕ) (line : List ℕ) → HasAsns (numbered n (says line ∷ []))
unfolding HasAsns
one_line n line = by (is_skipped (strip_carriage_return line)) refl
  where
    by : (b : Bool) → is_skipped (strip_carriage_return line) ≡ b → HasAsns (numbered n (says line ∷ []))
    by true e = rw e tt
    by false e = by_fields n line (fields 124 (strip_carriage_return line)) e refl

put_before : {X : Type 0} (xs ys : List ((ℕ × ℕ) × X)) → HasAsns (xs ++ []) → HasAsns ys → HasAsns (xs ++ ys)
unfolding HasAsns
put_before [] ys h g = g
put_before (x ∷ xs) ys h g = (h.0, put_before xs ys h.1 g)

all_lines : (n : ℕ) (lines : List (List ℕ)) → HasAsns (numbered n (map says lines))
unfolding HasAsns
all_lines n [] = tt
all_lines n (l ∷ ls) = put_before _ (numbered (n + 1) (map says ls)) (one_line n l) (all_lines (n + 1) ls)

found_asns : {X : Type 0} (rel_in : X → Rel) (es : List ((ℕ × ℕ) × X)) (q : ℕ × ℕ) (rel : Rel) → HasAsns es → fin.find pair_cmp q (map (λ e. (e.0, rel_in e.1)) es) ≡ Some rel → IsAsn q.0 × IsAsn q.1
unfolding HasAsns
found_asns rel_in [] q rel h e = cc
found_asns {X} rel_in (x ∷ es) q rel h e = by (eq_by_cmp pair_cmp q x.0) refl e (found_asns rel_in es q rel h.1)
  where
    by : (b : Bool) → eq_by_cmp pair_cmp q x.0 ≡ b → cond b (Some (rel_in x.1)) (fin.find pair_cmp q (map (λ (e : (ℕ × ℕ) × X). (e.0, rel_in e.1)) es)) ≡ Some rel
        → (fin.find pair_cmp q (map (λ (e : (ℕ × ℕ) × X). (e.0, rel_in e.1)) es) ≡ Some rel → IsAsn q.0 × IsAsn q.1) → IsAsn q.0 × IsAsn q.1
    by true is e go = subst (λ (t : ℕ × ℕ). IsAsn t.0 × IsAsn t.1) (sym (eq_is pairs_total exact_pair q x.0 is)) h.0
    by false is e go = go e

-- the ends of links are ASes
abbrev pub JoinAsns : LinkMap → Type 0
JoinAsns links = (q : ℕ × ℕ) (rel : Rel) → fin.get links q ≡ Some rel → IsAsn q.0 × IsAsn q.1

unless_ok : {A E : Type 0} (o : Option E) (x y : A) → unless o (Ok x) ≡ Ok y → x ≡ y
unless_ok None x y h = cc
unless_ok (Some e) x y h = cc

pub links_asns : (bytes : List ℕ) (links : LinkMap) → links_of bytes ≡ Ok links → JoinAsns links
links_asns bytes links read q rel at =
    let is = unless_ok _ (links_in (said_in bytes)) links read in
    found_asns _ (numbered 1 (said_in bytes)) q rel (all_lines 1 (fields 10 bytes)) (sym (fin.get-from_entries pairs_total _ q) ∙ ap (λ (m : LinkMap). fin.get m q) is ∙ at)

-- ---- scenarios

-- an announcement's prefix is one, and its AS and path can be printed
pub record IsGoodOne (x : Announcement) : Type 0 where
  pub prefix : IsPrefix x.prefix.family x.prefix.addr x.prefix.len
  pub asn : IsAsn x.asn
  pub path : IsPath x.path

-- all of a scenario can be printed
pub record IsGoodPlan (s : ScenarioValue) : Type 0 where
  pub announced : AllByRecursion IsGoodOne s.announcements
  pub ruled : AllByRecursion (λ p. IsAsn p.0) s.policies
  pub leaks : AllByRecursion (AllByRecursion IsAsn) s.leaks
  pub rounds : length s.leaks + 1 < 10 ^ 9

then_ok : {A B E : Type 0} (r : Result A E) (f : A → Result B E) (y : B) → (r >>= f) ≡ Ok y → (x : A) × (r ≡ Ok x) × (f x ≡ Ok y)
then_ok (Ok x) f y e = (x, refl, e)
then_ok (Err e) f y h = cc

read_ok : {A E : Type 0} (o : Option A) (e : E) (y : A) → ok_or o e ≡ Ok y → o ≡ Some y
read_ok (Some x) e y h = let same : x ≡ y = cc in ap (λ t. Some t) same
read_ok None e y h = cc

each_all : {A B E : Type 0} (P : B → Type 0) (f : ℕ → A → Result B E) → ((j : ℕ) (x : A) (y : B) → f j x ≡ Ok y → P y) → (i : ℕ) (xs : List A) (ys : List B) → each_from f i xs ≡ Ok ys → AllByRecursion P ys
unfolding each_from
each_all {B = B} P f gives i [] ys h = let e : [] ≡ ys = cc in subst (λ (zs : List B). AllByRecursion P zs) e tt
each_all {B = B} P f gives i (x ∷ xs) ys h =
    let a = then_ok (f i x) (λ y. each_from f (suc i) xs >>= λ zs. Ok (y ∷ zs)) ys h in
    let b = then_ok (each_from f (suc i) xs) (λ zs. Ok (a.0 ∷ zs)) ys a.2 in
    let e : (a.0 ∷ b.0) ≡ ys = cc (b.2) in
    subst (λ (zs : List B). AllByRecursion P zs) e (gives i x a.0 a.1, each_all P f gives (suc i) xs b.0 b.1)

path_some : (path : List ℕ) (asn : ℕ) → starts_with nat_eq path (asn ∷ []) ≡ true → 1 ≤ length path
path_some [] asn h = cc
path_some (n ∷ ns) asn h = omega arith

one_good : (p : Place) (a : _) (y : Announcement) → announcement_of p a ≡ Ok y → IsGoodOne y
unfolding announcement_of
one_good p a y h =
    let (prefix, read, h1) = then_ok (ok_or (prefix_of a.prefix) (Value (in_part p parts.Prefix))) _ y h in
    let (asn, number, h2) = then_ok (asn_at (in_part p parts.Number) a.number) _ y h1 in
    let (path, walked, h3) = then_ok (each_at asn_at (in_part p parts.Path) a.path) _ y h2 in
    by prefix asn path (starts_with nat_eq path (asn ∷ [])) refl (prefix_fits a.prefix prefix (read_ok _ _ prefix read)) (asn_placed (in_part p parts.Number) a.number asn number)
    (each_all IsAsn (λ i. asn_at (item (in_part p parts.Path) i)) (λ j x z e. asn_placed (item (in_part p parts.Path) j) x z e) 0 a.path path walked) h3
  where
    by : (prefix : PrefixValue) (asn : ℕ) (path : List ℕ) (b : Bool) → starts_with nat_eq path (asn ∷ []) ≡ b → IsPrefix prefix.family prefix.addr prefix.len → IsAsn asn → AllByRecursion IsAsn path
        → (if b then Ok (record { prefix = prefix; asn = asn; path = path }) else Err (Value (in_part p parts.Path))) ≡ Ok y → IsGoodOne y
    by prefix asn path true is fits n all e =
        let same : record { prefix = prefix; asn = asn; path = path } ≡ y = cc in
        subst IsGoodOne same (record { prefix = fits; asn = n; path = (path_some path asn is, all) })
    by prefix asn path false is fits n all e = cc

rule_good : (p : Place) (x : _) (y : ℕ × Kind) → policy_of p x ≡ Ok y → IsAsn y.0
unfolding policy_of
rule_good p x y h =
    let (asn, number, h1) = then_ok (asn_at (in_part p parts.Number) x.number) _ y h in
    let (kind, _, h2) = then_ok (ok_or (kind_named x.policy) (Value (in_part p parts.Policy))) _ y h1 in
    let same : ◌≡◌ {A = ℕ × Kind} (asn, kind) y = cc in
    subst (λ (t : ℕ × Kind). IsAsn t.0) same (asn_placed (in_part p parts.Number) x.number asn number)

lists_good : (d : DocumentValue) (s : ScenarioValue) → length s.leaks + 1 < 10 ^ 9 → lists_of d ≡ Ok s → IsGoodPlan s
unfolding lists_of
lists_good d s few h =
    let (announced, ha, h1) = then_ok (each_at announcement_of (in_member Announcements) d.announcements) _ s h in
    let (ruled, hr, h2) = then_ok (each_at policy_of (in_member Policies) d.policies) _ s h1 in
    let (leaks, hl, h3) = then_ok (each_at (each_at asn_at) (in_member Leaks) d.leaks) _ s h2 in
    let (watch, _, h4) = then_ok (each_at (λ p text. ok_or (addr_of text) (Value p)) (in_member Watch) d.watch) _ s h3 in
    let same : record { announcements = announced; policies = ruled; leaks = leaks; watch = watch } ≡ s = cc in
    record {
      announced = subst (λ (t : ScenarioValue). AllByRecursion IsGoodOne t.announcements) same (each_all IsGoodOne (λ i. announcement_of (item (in_member Announcements) i)) (λ j x y e. one_good (item (in_member Announcements) j) x y e) 0 d.announcements announced ha);
      ruled = subst (λ (t : ScenarioValue). AllByRecursion (λ (p : ℕ × Kind). IsAsn p.0) t.policies) same (each_all (λ (p : ℕ × Kind). IsAsn p.0) (λ i. policy_of (item (in_member Policies) i)) (λ j x y e. rule_good (item (in_member Policies) j) x y e) 0 d.policies ruled hr);
      leaks = subst (λ (t : ScenarioValue). AllByRecursion (AllByRecursion IsAsn) t.leaks) same (each_all (AllByRecursion IsAsn) (λ i. each_at asn_at (item (in_member Leaks) i))
          (λ j xs ys e. each_all IsAsn (λ i. asn_at (item (item (in_member Leaks) j) i)) (λ m x z f. asn_placed (item (item (in_member Leaks) j) m) x z f) 0 xs ys e) 0 d.leaks leaks hl);
      rounds = few;
    }

pub nothing_good : IsGoodPlan nothing
nothing_good = record { announced = tt; ruled = tt; leaks = tt; rounds = omega arith }

pub plan_good : AcceptedExactly → (bytes : List ℕ) (s : ScenarioValue) → scenario_of_bytes bytes ≡ Ok s → IsGoodPlan s
plan_good accepted bytes s h =
    let (reads, is) = (accepted bytes s).0 h in
    let (d, _, listed) = then_ok (document_of reads.value) lists_of s (sym (lists_in_passes reads.value) ∙ reads.says) in
    let few : length s.leaks ≤ 3 = is.few_rounds in
    lists_good d s (omega (arith, few)) listed
