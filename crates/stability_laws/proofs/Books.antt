-- Rows of numbers, each once, as a book of policies.
use Rattle.std.proofs.Common.{rules, ◌≡◌, ℕ, Bool, true, false, cond, ◌==◌, ◌||◌, ◌+◌, ◌≤◌, not, is_some, List, [], ◌∷◌, ◌++◌, map, length, position, get_or, slice_get, Option, Some, None, option_map, Result, Ok, Err, OnOk, OnErr, unwrap_or, refl, sym, ap, subst, ◌∙◌, arith}
use Rattle.std.proofs.lemmas.Bool.{eqb-true, eq-eqb, ne_eqb, true≢false}
use Rattle.std.proofs.lemmas.Grind.{common_steps}
use Rattle.std.proofs.lemmas.List.Quantifiers.{position-Some}
use Rattle.std.proofs.lemmas.Option.{get_or_from_slice_get, slice_get-map}
use Rattle.std.specs.Prelude.{nat_eq}
use Rattle.std.specs.List.{AllByRecursion, IsDistinct, list_any, position_or_len}
use Rattle.std.specs.Ordering.{nat_cmp, eq_by_cmp}
use Rattle.std.specs.Cmp.{nat_cmp_total, unsigned_tied, eq_by_cmp_equiv}
use Rattle.std.specs.Map.{lookup}
use Rattle.std.specs.FinMap as fin
use Rattle.std.specs.FinSet as set
use Rattle.indexmap.specs.IndexMap.{insert_entry}
use Rattle.stability_laws.specs.Book.{PolicyBook, policy_at, with_room, with_policy, without_policy}
use Rattle.stability_laws.specs.Rows.{put_named, named_of, book_of}

tied : (q a : ℕ) → eq_by_cmp nat_cmp q a ≡ true → q ≡ a
tied q a e = eqb-true q a (sym (unsigned_tied q a) ∙ e)

or_same : (b c : Bool) → (b ≡ true → c ≡ true) → (b || c) ≡ c
or_same true c h = sym (h refl)
or_same false c h = refl

module _ {P : Type 0} where
  abbrev pub flat : Option (Option P) → Option P
  flat None = None
  flat (Some o) = o

  abbrev numbers : List (ℕ × Option P) → List ℕ
  numbers = map (λ e. e.0)

  flat_cond : (b : Bool) (o : Option P) (l : Option (Option P)) → flat (cond b (Some o) l) ≡ cond b o (flat l)
  flat_cond true o l = refl
  flat_cond false o l = refl

  one_row : (q k : ℕ) (o : Option P) (rest : List (ℕ × P)) (b : Bool) → (q == k) ≡ b → (b ≡ true → fin.find nat_cmp q rest ≡ None)
      → fin.find nat_cmp q (put_named k o rest) ≡ cond b o (fin.find nat_cmp q rest)
  one_row q k None rest true e h = h refl
  one_row q k None rest false e h = refl
  one_row q k (Some p) rest b e h = ap (λ t. cond t (Some p) (fin.find nat_cmp q rest)) (unsigned_tied q k ∙ e)

  absent : (q : ℕ) (rows : List (ℕ × Option P)) → AllByRecursion (λ y. (q == y) ≡ false) (numbers rows) → fin.find nat_cmp q (named_of rows) ≡ None
  absent q [] h = refl
  absent q (e ∷ es) h = one_row q e.0 e.1 (named_of es) false h.0 (λ t. absurd cc) ∙ absent q es h.1

  named_at : (q : ℕ) (rows : List (ℕ × Option P)) → IsDistinct nat_eq (numbers rows) → fin.find nat_cmp q (named_of rows) ≡ flat (lookup (nat_eq q) rows)
  unfolding IsDistinct
  named_at q [] h = refl
  named_at q (e ∷ es) h =
      let once : (q == e.0) ≡ true → fin.find nat_cmp q (named_of es) ≡ None =
      λ t. absent q es (subst (λ (k : ℕ). AllByRecursion (λ y. (k == y) ≡ false) (numbers es)) (sym (eqb-true q e.0 t)) h.0) in
      one_row q e.0 e.1 (named_of es) (q == e.0) refl once ∙ (ap (cond (q == e.0) e.1) (named_at q es h.1) ∙ sym (flat_cond (q == e.0) e.1 (lookup (nat_eq q) es)))

  -- the policy of a number is that of its row, or else that of the rest
  pub policy_is : (rest : P) (rows : List (ℕ × Option P)) (m : PolicyBook P) → book_of rest rows ≡ m → IsDistinct nat_eq (numbers rows)
      → (q : ℕ) (row : Option (Option P)) → row ≡ lookup (nat_eq q) rows → unwrap_or (flat row) rest ≡ policy_at m q
  policy_is rest rows m v h q row e =
      ap (λ (o : Option P). unwrap_or o rest) (ap flat e ∙ sym (fin.get-from_entries nat_cmp_total (named_of rows) q ∙ named_at q rows h)) ∙ ap (λ (b : PolicyBook P). policy_at b q) v

  far_row : (q : ℕ) (rows : List (ℕ × Option P)) → length (numbers rows) ≤ position_or_len (λ a. q == a) (numbers rows) → lookup (nat_eq q) rows ≡ None
  far_row q [] h = refl
  far_row q (e ∷ es) h = by (q == e.0) refl (far_row q es)
    where
      place : Bool → ℕ
      place b = cond (not b) (1 + position_or_len (λ a. q == a) (numbers es)) 0

      by : (b : Bool) → (q == e.0) ≡ b → (length (numbers es) ≤ position_or_len (λ a. q == a) (numbers es) → lookup (nat_eq q) es ≡ None) → cond b (Some e.1) (lookup (nat_eq q) es) ≡ None
      by true t rest = absurd (omega (arith, h, ap place t))
      by false t rest = rest (omega (arith, h, ap place t))

  -- a number without a place among the rows has no row, so that its policy is that of the rest
  pub policy_of_none : (rest : P) (rows : List (ℕ × Option P)) (m : PolicyBook P) → book_of rest rows ≡ m → IsDistinct nat_eq (numbers rows) → (q : ℕ) → position (λ a. q == a) (numbers rows) ≡ None → rest ≡ policy_at m q
  policy_of_none rest rows m v h q none = policy_is rest rows m v h q None (sym (far_row q rows (grind (arith, common_steps))))

  -- where nobody is named, each has the policy of the rest
  pub policy_of_empty : (rest : P) (rows : List (ℕ × Option P)) (m : PolicyBook P) → book_of rest rows ≡ m → length rows ≡ 0 → (q : ℕ) → rest ≡ policy_at m q
  unfolding IsDistinct
  policy_of_empty rest [] m v e q = policy_of_none rest [] m v (search rules) q refl
  policy_of_empty rest (row ∷ rows) m v e q = absurd (omega (arith, e))

  -- the row at the place of a number is its own
  pub row_is : (rows : List (ℕ × Option P)) (q i k : ℕ) (o : Option P) → position (λ a. q == a) (numbers rows) ≡ Some i → Some (k, o) ≡ slice_get rows i → lookup (nat_eq k) rows ≡ Some o → Some o ≡ lookup (nat_eq q) rows
  row_is rows q i k o at e row =
      let key : get_or (numbers rows) i 0 ≡ k = get_or_from_slice_get (numbers rows) i k 0 (slice_get-map (λ e. e.0) rows i ∙ ap (option_map (λ e. e.0)) (sym e)) in
      let same : q ≡ k = eqb-true q k (ap (λ n. q == n) (sym key) ∙ (position-Some (λ a. q == a) (numbers rows) i 0 at).1) in
      sym (subst (λ n. lookup (nat_eq n) rows ≡ Some o) (sym same) row)

  named_get : (rows : List (ℕ × Option P)) → IsDistinct nat_eq (numbers rows) → (q : ℕ) → fin.get (fin.from_entries {R = nat_cmp} (named_of rows)) q ≡ flat (lookup (nat_eq q) rows)
  named_get rows h q = fin.get-from_entries nat_cmp_total (named_of rows) q ∙ named_at q rows h

  -- rows that differ at one number
  abbrev pub Writes : List (ℕ × Option P) → List (ℕ × Option P) → ℕ → Option P → Type 0
  Writes old new a o = (q : ℕ) → lookup (nat_eq q) new ≡ cond (a == q) (Some o) (lookup (nat_eq q) old)

  module _ (old new : List (ℕ × Option P)) (u : IsDistinct nat_eq (numbers old)) (v : IsDistinct nat_eq (numbers new)) (a : ℕ) where
    seen : (o : Option P) → Writes old new a o → (q : ℕ) → fin.get (fin.from_entries {R = nat_cmp} (named_of new)) q ≡ cond (eq_by_cmp nat_cmp q a) o (fin.get (fin.from_entries {R = nat_cmp} (named_of old)) q)
    seen o w q =
        named_get new v q ∙ (ap flat (w q) ∙ (flat_cond (a == q) o (lookup (nat_eq q) old)
        ∙ (ap (λ (b : Bool). cond b o (flat (lookup (nat_eq q) old))) (sym (unsigned_tied a q) ∙ (eq_by_cmp_equiv nat_cmp_total).symm a q)
        ∙ ap (cond (eq_by_cmp nat_cmp q a) o) (sym (named_get old u q)))))

    pub named_set : (p : P) → Writes old new a (Some p) → fin.from_entries {R = nat_cmp} (named_of new) ≡ fin.insert (fin.from_entries (named_of old)) a p
    named_set p w = fin.same_map nat_cmp_total fin.nat_cmp-IsAntisymmetric _ _ (λ q. seen (Some p) w q ∙ sym (fin.get-insert nat_cmp_total (fin.from_entries (named_of old)) a p q))

    pub named_clear : Writes old new a None → fin.from_entries {R = nat_cmp} (named_of new) ≡ fin.remove (fin.from_entries (named_of old)) a
    named_clear w = fin.same_map nat_cmp_total fin.nat_cmp-IsAntisymmetric _ _ (λ q. seen None w q ∙ sym (fin.get-remove nat_cmp_total (fin.from_entries (named_of old)) a q))

    -- the books of the rows
    pub book_set : (rest p : P) → Writes old new a (Some p) → numbers new ≡ numbers old → book_of rest new ≡ with_policy (book_of rest old) a p
    book_set rest p w k = λ i. record { rest = rest; named = named_set p w i; room = set.from_list (k i) }

    pub book_clear : (rest : P) → Writes old new a None → numbers new ≡ numbers old → book_of rest new ≡ without_policy (book_of rest old) a
    book_clear rest w k = λ i. record { rest = rest; named = named_clear w i; room = set.from_list (k i) }

  kept_at : (b : Bool) (x : Option P) → (b ≡ true → x ≡ None) → cond b None x ≡ x
  kept_at true x h = sym (h refl)
  kept_at false x h = refl

  -- who has no row has no policy to lose
  remove_absent : (rows : List (ℕ × Option P)) → IsDistinct nat_eq (numbers rows) → (a : ℕ) → lookup (nat_eq a) rows ≡ None
      → fin.remove (fin.from_entries {R = nat_cmp} (named_of rows)) a ≡ fin.from_entries (named_of rows)
  remove_absent rows u a none = fin.same_map nat_cmp_total fin.nat_cmp-IsAntisymmetric _ _ (λ q.
      fin.get-remove nat_cmp_total (fin.from_entries (named_of rows)) a q
      ∙ kept_at (eq_by_cmp nat_cmp q a) (fin.get (fin.from_entries (named_of rows)) q)
      (λ t. named_get rows u q ∙ ap flat (subst (λ (k : ℕ). lookup (nat_eq k) rows ≡ None) (sym (tied q a t)) none)))

  pub clear_nothing : (rest : P) (rows : List (ℕ × Option P)) → IsDistinct nat_eq (numbers rows) → (a : ℕ) → lookup (nat_eq a) rows ≡ None → book_of rest rows ≡ without_policy (book_of rest rows) a
  clear_nothing rest rows u a none = λ i. record { rest = rest; named = sym (remove_absent rows u a none) i; room = set.from_list (numbers rows) }

  -- a row without a policy is room
  pub book_room : (rest : P) (old new : List (ℕ × Option P)) → IsDistinct nat_eq (numbers old) → IsDistinct nat_eq (numbers new) → (a : ℕ)
      → Writes old new a None → lookup (nat_eq a) old ≡ None → numbers new ≡ numbers old ++ a ∷ [] → book_of rest new ≡ with_room (book_of rest old) a
  book_room rest old new u v a w none k =
      let e = named_clear old new u v a w ∙ remove_absent old u a none in
      let r = ap (λ (ks : List ℕ). set.from_list {R = nat_cmp} ks) k ∙ set.from_list_push nat_cmp_total set.nat_cmp-IsAntisymmetric (numbers old) a in
      λ i. record { rest = rest; named = e i; room = r i }

  found_any : (q : ℕ) (rows : List (ℕ × Option P)) → is_some (lookup (nat_eq q) rows) ≡ list_any (λ y. nat_eq y q) (numbers rows)
  found_any q [] = refl
  found_any q (e ∷ es) = by (q == e.0) refl (found_any q es)
    where
      by : (b : Bool) → (q == e.0) ≡ b → is_some (lookup (nat_eq q) es) ≡ list_any (λ y. nat_eq y q) (numbers es) → is_some (cond b (Some e.1) (lookup (nat_eq q) es)) ≡ (nat_eq e.0 q || list_any (λ y. nat_eq y q) (numbers es))
      by true t h = let s : nat_eq e.0 q ≡ true = eq-eqb e.0 q (sym (eqb-true q e.0 t)) in rw s refl
      by false t h = let s : nat_eq e.0 q ≡ false = ne_eqb e.0 q (λ (x : e.0 ≡ q). true≢false (sym (eq-eqb q e.0 (sym x)) ∙ t)) in rw s h

  has_room : (rest : P) (rows : List (ℕ × Option P)) (q : ℕ) → set.contains (book_of rest rows).room q ≡ is_some (lookup (nat_eq q) rows)
  has_room rest rows q = set.contains-from_list_nat (numbers rows) q ∙ sym (found_any q rows)

  -- room that is there stays
  pub room_there : (rest : P) (rows : List (ℕ × Option P)) (a : ℕ) → is_some (lookup (nat_eq a) rows) ≡ true → book_of rest rows ≡ with_room (book_of rest rows) a
  room_there rest rows a there =
      let s = set.from_list {R = nat_cmp} (numbers rows) in
      let e : s ≡ set.insert s a = set.same_set nat_cmp_total set.nat_cmp-IsAntisymmetric s (set.insert s a) (λ q.
      sym (set.contains-insert nat_cmp_total s a q
      ∙ or_same (eq_by_cmp nat_cmp q a) (set.contains s q) (λ t. has_room rest rows q ∙ subst (λ (k : ℕ). is_some (lookup (nat_eq k) rows) ≡ true) (sym (tied q a t)) there))) in
      λ i. record { rest = rest; named = fin.from_entries (named_of rows); room = e i }

  keys_there : (rows : List (ℕ × Option P)) (a : ℕ) (o : Option P) → is_some (lookup (nat_eq a) rows) ≡ true → numbers (insert_entry nat_eq rows a o) ≡ numbers rows
  keys_there [] a o h = absurd (true≢false (sym h))
  keys_there (e ∷ es) a o h = by (nat_eq a e.0) (keys_there es a o) h
    where
      by : (b : Bool) → (is_some (lookup (nat_eq a) es) ≡ true → numbers (insert_entry nat_eq es a o) ≡ numbers es) → is_some (cond b (Some e.1) (lookup (nat_eq a) es)) ≡ true
          → numbers (cond b ((e.0, o) ∷ es) (e ∷ insert_entry nat_eq es a o)) ≡ e.0 ∷ numbers es
      by true rest t = refl
      by false rest t = ap (λ (ks : List ℕ). e.0 ∷ ks) (rest t)

  keys_new : (rows : List (ℕ × Option P)) (a : ℕ) (o : Option P) → lookup (nat_eq a) rows ≡ None → numbers (insert_entry nat_eq rows a o) ≡ numbers rows ++ a ∷ []
  keys_new [] a o h = refl
  keys_new (e ∷ es) a o h = by (nat_eq a e.0) (keys_new es a o) h
    where
      by : (b : Bool) → (lookup (nat_eq a) es ≡ None → numbers (insert_entry nat_eq es a o) ≡ numbers es ++ a ∷ []) → cond b (Some e.1) (lookup (nat_eq a) es) ≡ None
          → numbers (cond b ((e.0, o) ∷ es) (e ∷ insert_entry nat_eq es a o)) ≡ e.0 ∷ (numbers es ++ a ∷ [])
      by true rest t = absurd (true≢false (ap is_some t))
      by false rest t = ap (λ (ks : List ℕ). e.0 ∷ ks) (rest t)

  module _ (rest : P) (old new : List (ℕ × Option P)) (m : PolicyBook P) (v : book_of rest old ≡ m) (unique : IsDistinct nat_eq (numbers new)) (a : ℕ) where
    -- the number has a row, which is written
    module _ (o : Option P) (row : is_some (lookup (nat_eq a) old) ≡ true) (e : new ≡ insert_entry nat_eq old a o) (w : Writes old new a o) where
      same_numbers : numbers new ≡ numbers old
      same_numbers = ap (λ (rows : List (ℕ × Option P)). numbers rows) e ∙ keys_there old a o row

      unique_before : IsDistinct nat_eq (numbers old)
      unique_before = subst (λ (ks : List ℕ). IsDistinct nat_eq ks) same_numbers unique

    row_of : set.contains m.room a ≡ true → is_some (lookup (nat_eq a) old) ≡ true
    row_of here = sym (has_room rest old a) ∙ (ap (λ (b : PolicyBook P). set.contains b.room a) v ∙ here)

    pub policy_set : {A E : Type 0} (r : Result A E) (p : P) → set.contains m.room a ≡ true → OnOk r (new ≡ insert_entry nat_eq old a (Some p)) → OnOk r (Writes old new a (Some p)) → OnErr r (lookup (nat_eq a) old ≡ None)
        → book_of rest new ≡ with_policy m a p
    policy_set (Ok x) p here e w none =
        let row = row_of here in
        book_set old new (unique_before (Some p) row e w) unique a rest p w (same_numbers (Some p) row e w) ∙ ap (λ (b : PolicyBook P). with_policy b a p) v
    policy_set (Err x) p here e w none = absurd (true≢false (sym (row_of here) ∙ ap is_some none))

    pub policy_cleared : {A E : Type 0} (r : Result A E) → is_some (lookup (nat_eq a) old) ≡ true → OnOk r (new ≡ insert_entry nat_eq old a None) → OnOk r (Writes old new a None) → OnErr r (lookup (nat_eq a) old ≡ None)
        → book_of rest new ≡ without_policy m a
    policy_cleared (Ok x) row e w none =
        book_clear old new (unique_before None row e w) unique a rest w (same_numbers None row e w) ∙ ap (λ (b : PolicyBook P). without_policy b a) v
    policy_cleared (Err x) row e w none = absurd (true≢false (sym row ∙ ap is_some none))

    pub room_made : IsDistinct nat_eq (numbers old) → lookup (nat_eq a) old ≡ None → new ≡ insert_entry nat_eq old a None → Writes old new a None → book_of rest new ≡ with_room m a
    room_made before none e w =
        book_room rest old new before unique a w none (ap (λ (rows : List (ℕ × Option P)). numbers rows) e ∙ keys_new old a None none) ∙ ap (λ (b : PolicyBook P). with_room b a) v

  module _ (rest : P) (rows : List (ℕ × Option P)) (m : PolicyBook P) (v : book_of rest rows ≡ m) (a : ℕ) where
    pub room_kept : is_some (lookup (nat_eq a) rows) ≡ true → m ≡ with_room m a
    room_kept there = sym v ∙ (room_there rest rows a there ∙ ap (λ (b : PolicyBook P). with_room b a) v)

    pub nothing_cleared : IsDistinct nat_eq (numbers rows) → lookup (nat_eq a) rows ≡ None → m ≡ without_policy m a
    nothing_cleared unique none = sym v ∙ (clear_nothing rest rows unique a none ∙ ap (λ (b : PolicyBook P). without_policy b a) v)

  pub no_lookup : (row : Option (Option P)) → is_some row ≡ false → row ≡ None
  no_lookup None e = refl
  no_lookup (Some o) e = absurd (true≢false e)

-- after room was made for an AS it has room; for callers
pub has_room_after : {P : Type 0} (old new : PolicyBook P) (a : ℕ) → new ≡ with_room old a → set.contains new.room a ≡ true
has_room_after {P} old new a e =
    ap (λ (b : PolicyBook P). set.contains b.room a) e ∙ (set.contains-insert nat_cmp_total old.room a a ∙ ap (λ t. t || set.contains old.room a) (unsigned_tied a a ∙ eq-eqb a a refl))
