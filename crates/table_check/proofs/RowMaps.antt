-- Rows as a finite map, whose entries a tree keeps in order.
use Rattle.std.proofs.Common.{◌≡◌, ℕ, ◌+◌, ◌-◌, ◌^◌, ◌<◌, ◌≤◌, Bool, true, false, not, ◌||◌, cond, ◌==◌, List, [], ◌∷◌, ◌++◌, ◌&&◌, length, Option, Some, None, refl, sym, ap, subst, ◌∙◌, arith}
use Rattle.std.specs.Prelude.{option_and_then, IfSome, is_some, map}
use Rattle.std.proofs.lemmas.Bool.{and_parts, eq-eqb, ne_eqb, true≢false}
use Rattle.std.proofs.lemmas.List.{map-append}
use Rattle.std.proofs.lemmas.List.Folds.{list_all-append}
use Rattle.std.specs.Cmp.{eq_by_cmp_equiv, nat_cmp_total, nat_eq_equiv, unsigned_tied}
use Rattle.std.specs.FinMap as fin
use Rattle.std.specs.List.{AllByRecursion, list_all}
use Rattle.std.specs.List.Sorted.{IsStrictlySortedBy}
use Rattle.std.specs.Map.{keys_of, lookup}
use Rattle.std.specs.Option.{option_or}
use Rattle.std.specs.Ordering.{eq_by_cmp, is_eq, nat_cmp, ordering_then}
use Rattle.std.specs.BTreeMap.{is_at}
use Rattle.std.specs.declared.cmp.Ordering.{Ordering}
use Rattle.std.specs.declared.cmp.Ordering.TheVariants.{Less, Equal, Greater}
use Rattle.net_names.specs.Links.{pair_cmp}
use Rattle.net_names.proofs.Pairs.{exact_pair, pairs_total}
use Rattle.stability_laws.proofs.KeyLists.{eq_is}
use Rattle.stability_laws.specs.declared.entry.Entry.{Entry}
use Rattle.table_check.specs.Rows.{RowMap, HasShortRows, HoldsShort, held_by, inside_row}

abbrev pub Row : Type 0
Row = (ℕ × ℕ) × Option Entry

abbrev pub rows_with : List Row → RowMap
rows_with es = fin.from_entries es

-- what the entries have at a round and an AS
abbrev pub row_at : List Row → ℕ × ℕ → Option (Option Entry)
row_at es q = lookup (is_at (pair_cmp q)) es

find_row : (es : List Row) (q : ℕ × ℕ) → fin.find pair_cmp q es ≡ row_at es q
find_row [] q = refl
find_row (e ∷ es) q = ap (cond (is_at (pair_cmp q) e.0) (Some e.1)) (find_row es q)

pub get_row : (es : List Row) (q : ℕ × ℕ) → fin.get (rows_with es) q ≡ row_at es q
get_row es q = fin.get-from_entries pairs_total es q ∙ find_row es q

-- entries that differ at one place make maps that differ there
pub one_put : (es fs : List Row) (s : ℕ × ℕ) (held : Option Entry) → ((q : ℕ × ℕ) → row_at fs q ≡ cond (is_at (pair_cmp s) q) (Some held) (row_at es q)) → rows_with fs ≡ fin.insert (rows_with es) s held
one_put es fs s held h = fin.same_map pairs_total exact_pair _ _ (λ q.
    get_row fs q ∙ h q ∙ ap (λ b. cond b (Some held) (row_at es q)) ((eq_by_cmp_equiv pairs_total).symm s q)
    ∙ sym (fin.get-insert pairs_total (rows_with es) s held q ∙ ap (cond (eq_by_cmp pair_cmp q s) (Some held)) (get_row es q)))

none_some : (e : Entry) (Q : Type 0) → ◌≡◌ {A = Option (Option Entry)} None (Some (Some e)) → Q
none_some e Q h = absurd cc

-- no rows have short paths
pub short_empty : (es : List Row) → es ≡ [] → HasShortRows (rows_with es)
short_empty es is k e h = none_some e (length e.path ≤ 4294967294) (sym (ap (λ xs. fin.get (rows_with xs) k) is ∙ fin.get-empty pair_cmp k) ∙ h)

put_at : (b : Bool) (held : Option Entry) (o : Option (Option Entry)) (e : Entry) → ((x : Entry) → held ≡ Some x → length x.path ≤ 4294967294) → (o ≡ Some (Some e) → length e.path ≤ 4294967294) → cond b (Some held) o ≡ Some (Some e) → length e.path ≤ 4294967294
put_at true held o e fits rest h = let is : held ≡ Some e = cc in fits e is
put_at false held o e fits rest h = rest h

-- one row more with a short path
pub short_insert : (m : RowMap) (s : ℕ × ℕ) (held : Option Entry) → HasShortRows m → ((x : Entry) → held ≡ Some x → length x.path ≤ 4294967294) → HasShortRows (fin.insert m s held)
short_insert m s held short fits k e h = put_at (eq_by_cmp pair_cmp k s) held (fin.get m k) e fits (short k e) (sym (fin.get-insert pairs_total m s held k) ∙ h)

-- ---- what all ASes hold in a round

-- the routing with what a row of the round says
abbrev pub with_entry : ℕ → fin.FinMap nat_cmp Entry → Row → fin.FinMap nat_cmp Entry
with_entry round f row = elim row.1 [ None ↦ f | Some e ↦ cond (row.0.0 == round) (fin.insert f row.0.1 e) f ]

abbrev pub with_entries : ℕ → fin.FinMap nat_cmp Entry → List Row → fin.FinMap nat_cmp Entry
with_entries round f [] = f
with_entries round f (row ∷ rows) = with_entries round (with_entry round f row) rows

pub with_entries-snoc : (round : ℕ) (f : fin.FinMap nat_cmp Entry) (rows : List Row) (row : Row) → with_entries round f (rows ++ row ∷ []) ≡ with_entry round (with_entries round f rows) row
with_entries-snoc round f [] row = refl
with_entries-snoc round f (x ∷ rows) row = with_entries-snoc round (with_entry round f x) rows row

tied_pair : (r s : Ordering) → is_eq (ordering_then r s) ≡ (is_eq r && is_eq s)
tied_pair Less s = refl
tied_pair Equal s = refl
tied_pair Greater s = refl

pub at_pair : (round a : ℕ) (k : ℕ × ℕ) → eq_by_cmp pair_cmp (round, a) k ≡ ((k.0 == round) && eq_by_cmp nat_cmp a k.1)
at_pair round a k = tied_pair (nat_cmp round k.0) (nat_cmp a k.1) ∙ ap (λ b. b && eq_by_cmp nat_cmp a k.1) (unsigned_tied round k.0 ∙ nat_eq_equiv.symm round k.0)

-- what an AS holds with one row more
entry_get : (round a : ℕ) (f : fin.FinMap nat_cmp Entry) (row : Row) → fin.get (with_entry round f row) a ≡ cond (eq_by_cmp pair_cmp (round, a) row.0) (option_or row.1 (fin.get f a)) (fin.get f a)
entry_get round a f (k, None) = by (eq_by_cmp pair_cmp (round, a) k)
  where
    by : (b : Bool) → fin.get f a ≡ cond b (fin.get f a) (fin.get f a)
    by true = refl
    by false = refl
entry_get round a f (k, Some e) = by (k.0 == round) ∙ ap (λ b. cond b (Some e) (fin.get f a)) (sym (at_pair round a k))
  where
    by : (b : Bool) → fin.get (cond b (fin.insert f k.1 e) f) a ≡ cond (b && eq_by_cmp nat_cmp a k.1) (Some e) (fin.get f a)
    by true = fin.get-insert nat_cmp_total f k.1 e a
    by false = refl

-- only equal pairs tie
pub same_pair : (q s : ℕ × ℕ) → eq_by_cmp pair_cmp q s ≡ true → q ≡ s
same_pair = eq_is pairs_total exact_pair

absent : (k : ℕ × ℕ) (es : List Row) → AllByRecursion (λ q. pair_cmp k q ≡ Less) (keys_of es) → row_at es k ≡ None
absent k [] h = refl
absent k (e ∷ es) h = ap (λ r. cond (is_eq r) (Some e.1) (row_at es k)) h.0 ∙ absent k es h.1

-- what a row says of its AS
abbrev pub flat : Option (Option Entry) → Option Entry
flat o = option_and_then (λ held. held) o

entries_get : (round a : ℕ) (es : List Row) (f : fin.FinMap nat_cmp Entry) → IsStrictlySortedBy pair_cmp (keys_of es) → fin.get (with_entries round f es) a ≡ option_or (flat (row_at es (round, a))) (fin.get f a)
unfolding IsStrictlySortedBy
entries_get round a [] f s = refl
entries_get round a (e ∷ es) f s =
    entries_get round a es (with_entry round f e) s.1 ∙ ap (option_or (flat (row_at es (round, a)))) (entry_get round a f e) ∙ by (eq_by_cmp pair_cmp (round, a) e.0) refl
  where
    by : (b : Bool) → eq_by_cmp pair_cmp (round, a) e.0 ≡ b → option_or (flat (row_at es (round, a))) (cond b (option_or e.1 (fin.get f a)) (fin.get f a)) ≡ option_or (flat (cond b (Some e.1) (row_at es (round, a)))) (fin.get f a)
    by true h = ap (λ o. option_or (flat o) (option_or e.1 (fin.get f a))) (ap (row_at es) (same_pair (round, a) e.0 h) ∙ absent e.0 es s.0)
    by false h = refl

-- what the ASes hold in the round by all rows
pub routing_is : (round : ℕ) (es : List Row) → IsStrictlySortedBy pair_cmp (keys_of es) → (a : ℕ) → fin.get (with_entries round fin.empty es) a ≡ held_by (rows_with es) round a
routing_is round es s a = entries_get round a es fin.empty s ∙ ap (option_or (flat (row_at es (round, a)))) (fin.get-empty nat_cmp a) ∙ whole (flat (row_at es (round, a))) ∙ ap flat (sym (get_row es (round, a)))
  where
    whole : (o : Option Entry) → option_or o None ≡ o
    whole None = refl
    whole (Some e) = refl

-- the entry of a row that is put in is short
pub held_short : (held : Option Entry) → IfSome held (λ e. length e.path ≤ 4294967294) → (x : Entry) → held ≡ Some x → length x.path ≤ 4294967294
held_short None h x is = absurd cc
held_short (Some e) h x is = let same : e ≡ x = cc in subst (λ (t : Entry). length t.path ≤ 4294967294) same h

module _ (round : ℕ) (f : fin.FinMap nat_cmp Entry) (k : ℕ × ℕ) (held : Option Entry) where
  pub entry_put : (e : Entry) → Some e ≡ held → k.0 ≡ round → fin.insert f k.1 e ≡ with_entry round f (k, held)
  entry_put e is here = rw (← is, eq-eqb k.0 round here) refl

  pub entry_other : (e : Entry) → Some e ≡ held → (k.0 ≡ round → ⊥) → f ≡ with_entry round f (k, held)
  entry_other e is away = rw (← is, ne_eqb k.0 round away) refl

  pub entry_none : held ≡ None → f ≡ with_entry round f (k, held)
  entry_none is = rw is refl

-- one row more
pub one_more : {A : Type 0} (shows : A → Row) (round : ℕ) (f now next : fin.FinMap nat_cmp Entry) (xs : List A) (x : A)
    → now ≡ with_entries round f (map shows xs) → next ≡ with_entry round now (shows x) → next ≡ with_entries round f (map shows (xs ++ x ∷ []))
one_more shows round f now next xs x so_far step =
    step ∙ ap (λ m. with_entry round m (shows x)) so_far ∙ sym (with_entries-snoc round f (map shows xs) (shows x)) ∙ ap (with_entries round f) (sym (map-append shows xs (x ∷ [])))

-- ---- what is looked for in the rows

pub none_stands : {X : Type 0} (o : Option X) (b : Bool) → is_some o ≡ not b → b ≡ not (is_some o)
none_stands o true e = sym (ap not e)
none_stands o false e = sym (ap not e)

-- what is held by short rows is short
pub holds_short : (rows : RowMap) → HasShortRows rows → HoldsShort rows
holds_short rows h round a e is = by (fin.get rows (round, a)) refl is
  where
    by : (o : Option (Option Entry)) → fin.get rows (round, a) ≡ o → flat o ≡ Some e → length e.path < 2 ^ 32 - 1
    by None at held = absurd cc
    by (Some o) at held = let le = h (round, a) e (at ∙ ap (λ x. Some x) held) in omega (arith, le)

-- what holds of each and of one more
pub all_more : {A : Type 0} (shows : A → Row) (P : Row → Bool) (xs : List A) (x : A) → list_all P (map shows xs) ≡ true → P (shows x) ≡ true → list_all P (map shows (xs ++ x ∷ [])) ≡ true
all_more shows P xs x so_far here = ap (list_all P) (map-append shows xs (x ∷ [])) ∙ list_all-append P (map shows xs) (shows x ∷ []) ∙ (λ i. so_far i && (here i && true))

stranger : (has : ℕ → Bool) (round a : ℕ) (k : ℕ × ℕ) (o : Option Entry) → (round, a) ≡ k → inside_row has round (k, o) ≡ true → has a ≡ false → o ≡ None
stranger has round a k None is inside out = refl
stranger has round a k (Some e) is inside out =
    let there : (not (round == round) || has a) ≡ true = subst (λ (q : ℕ × ℕ). (not (q.0 == round) || has q.1) ≡ true) (sym is) inside in
    let same : (not (round == round) || has a) ≡ has a = ap (λ b. not b || has a) (eq-eqb round round refl) in
    absurd (true≢false (sym there ∙ same ∙ out))

-- where all rows of a round are of ASes of the world, nobody else holds anything
pub nobody_else : (has : ℕ → Bool) (round a : ℕ) (es : List Row) → list_all (inside_row has round) es ≡ true → has a ≡ false → flat (row_at es (round, a)) ≡ None
nobody_else has round a [] all out = refl
nobody_else has round a (e ∷ es) all out =
    let (here, later) = and_parts (inside_row has round e) (list_all (inside_row has round) es) all in
    by here (nobody_else has round a es later out) (eq_by_cmp pair_cmp (round, a) e.0) refl
  where
    by : inside_row has round e ≡ true → flat (row_at es (round, a)) ≡ None → (b : Bool) → eq_by_cmp pair_cmp (round, a) e.0 ≡ b → flat (cond b (Some e.1) (row_at es (round, a))) ≡ None
    by here rest true h = stranger has round a e.0 e.1 (same_pair (round, a) e.0 h) here out
    by here rest false h = rest
