-- What lines say one after the other is what they say all at once.
use Rattle.std.proofs.Common.{◌≡◌, ◌⊎◌, inl, inr, ℕ, ◌+◌, ◌<◌, ◌≤◌, Bool, true, false, ◌==◌, ◌||◌, nat_lt, List, [], ◌∷◌, ◌++◌, length, map as each, Option, Some, None, is_some, Result, Ok, Err, refl, sym, ap, subst, ◌∙◌, append_assoc, append-nil, arith}
use Rattle.std.specs.Prelude.{not, bytes_eq, codes, if◌then◌else◌, option_and_then, option_map, unwrap_or}
use Rattle.std.specs.List.{flat_map, join_with_byte, list_any}
use Rattle.std.specs.Option.{option_or}
use Rattle.std.specs.Ordering.{nat_cmp, eq_by_cmp}
use Rattle.std.specs.Cmp.{nat_cmp_total, nat_eq_equiv, unsigned_tied}
use Rattle.std.specs.FinMap as map
use Rattle.std.specs.FinMap.{nat_cmp-IsAntisymmetric}
use Rattle.std.specs.FinMap.Entries.{is_some-find}
use Rattle.std.proofs.lemmas.Bool.{or_parts}
use Rattle.std.proofs.lemmas.Bool.Decides.{nat_tests}
use Rattle.std.proofs.lemmas.Grind.{flat_map-append}
use Rattle.std.proofs.lemmas.List.Folds.{list_any-append}
use Rattle.std.proofs.lemmas.List.{length-append, map-append}
use Rattle.std.proofs.lemmas.Map.Keys.{IsDistinct-push}
use Rattle.net_names.specs.Lines.{said_on}
use Rattle.net_names.specs.Numbers.{IsDistinct, occurs}
use Rattle.net_names.specs.Prefixes.{PrefixValue}
use Rattle.net_names.specs.Steps.{option_filter}
use Rattle.net_names.specs.Texts.{after, asn_of, cut_at, fields}
use Rattle.net_names.proofs.Distinct.{apart_from_distinct, distinct_from_apart}
use Rattle.net_names.proofs.Cuts.{fields_cut, fields_uncut}
use Rattle.net_names.proofs.Shared.{none_from}
use Rattle.net_names.specs.Trials.{◌>>=◌}
use Rattle.scenario_text.proofs.FileLines.{begun}
use Rattle.stability_laws.specs.declared.entry.Entry.{Entry}
use Rattle.activations.specs.declared.acts.Acts.{Acts}
use Rattle.activations.specs.declared.reading.ActsError.{ActsError}
use Rattle.activations.specs.declared.reading.ActsError.TheVariants.{Unreadable, Twice, TooMany, NoFor}
use Rattle.activations.specs.declared.reading.TheConstants.{MOST_ACTIVATIONS}
use Rattle.activations.specs.Files.{act_of, acts_by, hold_of, numbers_in, with_acts, with_hold, with_line}
use Rattle.activations.specs.Laws.{AreSaid, IsFile, said_by}
use Rattle.activations.proofs.Sound.{no_acts}

abbrev Says : Type 0
Says = Option ((ℕ × Entry) ⊎ List ℕ)

-- what a line does to what was said before, by what it says
step : Acts → ℕ → Says → Result Acts ActsError
step acts n None = Err (Unreadable n)
step acts n (Some (inl hold)) = with_hold acts n hold
step acts n (Some (inr ases)) = with_acts acts n ases

with_line-step : (acts : Acts) (l : ℕ × List ℕ) → with_line acts l ≡ step acts l.0 (said_by l.1)
unfolding step
with_line-step acts l = by (option_and_then hold_of (after (codes "hold ") l.1)) (option_and_then act_of (after (codes "act ") l.1))
  where
    by : (h : Option (ℕ × Entry)) (a : Option (List ℕ)) → unwrap_or (option_or (option_map (with_hold acts l.0) h) (option_map (with_acts acts l.0) a)) (Err (Unreadable l.0)) ≡ step acts l.0 (option_or (option_map inl h) (option_map inr a))
    by (Some h) a = refl
    by None (Some a) = refl
    by None None = refl

-- ---- a line of activations has a number

some_field : (text : List ℕ) → (v : List ℕ) × (vs : List (List ℕ)) × (fields 32 text ≡ v ∷ vs)
some_field text = by (cut_at 32 text) refl
  where
    by : (o : Option (List ℕ × List ℕ)) → cut_at 32 text ≡ o → (v : List ℕ) × (vs : List (List ℕ)) × (fields 32 text ≡ v ∷ vs)
    by None c = (text, [], fields_uncut 32 text c)
    by (Some p) c = (p.0, fields 32 p.1, fields_cut 32 text p.0 p.1 c)

none_list : (xs : List ℕ) (Q : Type 0) → None ≡ Some xs → Q
none_list xs Q h = absurd cc

-- numbers without one behind the word `otc`
abbrev plain : Option (List ℕ × Option ℕ) → Option (List ℕ)
plain o = option_map (λ (x : List ℕ × Option ℕ). x.0) (option_filter (λ (x : List ℕ × Option ℕ). not (is_some x.1)) o)

numbered : (x : Option (List ℕ × Option ℕ)) (n : ℕ) (ases : List ℕ) → plain (option_map (λ (y : List ℕ × Option ℕ). (n ∷ y.0, y.1)) x) ≡ Some ases → 0 < length ases
numbered None n ases is = none_list ases (0 < length ases) is
numbered (Some (xs, None)) n ases is = let same : n ∷ xs ≡ ases = cc in subst (λ t. 0 < length t) same (omega arith)
numbered (Some (xs, Some m)) n ases is = none_list ases (0 < length ases) is

behind_otc : (m : Option ℕ) (ases : List ℕ) → plain (option_map (λ (m : ℕ). ([], Some m)) m) ≡ Some ases → 0 < length ases
behind_otc None ases is = none_list ases (0 < length ases) is
behind_otc (Some m) ases is = none_list ases (0 < length ases) is

act_some : (text ases : List ℕ) → act_of text ≡ Some ases → 0 < length ases
unfolding act_of numbers_in
act_some text ases is = let (v, vs, e) = some_field text in by v vs (bytes_eq v (codes "otc")) (asn_of v) (ap (λ ws. plain (numbers_in ws)) (sym e) ∙ is)
  where
    by : (v : List ℕ) (vs : List (List ℕ)) (otc : Bool) (n : Option ℕ)
        → plain (if otc then option_map (λ m. ([], Some m)) (asn_of (join_with_byte 32 vs)) else option_and_then (λ n. option_map (λ (y : List ℕ × Option ℕ). (n ∷ y.0, y.1)) (numbers_in vs)) n) ≡ Some ases → 0 < length ases
    by v vs false (Some n) is = numbered (numbers_in vs) n ases is
    by v vs false None is = none_list ases (0 < length ases) is
    by v vs true n is = behind_otc (asn_of (join_with_byte 32 vs)) ases is

said_some : (text ases : List ℕ) → said_by text ≡ Some (inr ases) → 0 < length ases
said_some text ases is = by (option_and_then hold_of (after (codes "hold ") text)) (after (codes "act ") text) is
  where
    by : (h : Option (ℕ × Entry)) (t : Option (List ℕ)) → option_or (option_map inl h) (option_map inr (option_and_then act_of t)) ≡ Some (inr ases) → 0 < length ases
    by (Some h) t is = absurd cc
    by None None is = absurd cc
    by None (Some t) is = one (act_of t) refl is
      where
        one : (a : Option (List ℕ)) → act_of t ≡ a → ◌≡◌ {A = Says} (option_map inr a) (Some (inr ases)) → 0 < length ases
        one None e is = absurd cc
        one (Some xs) e is = let same : xs ≡ ases = cc in act_some t ases (e ∙ ap (λ y. Some y) same)

-- ---- what a line does

hold_ok : (b c : Bool) (x t : Acts) (n : ℕ) → (if b then Err (Unreadable n) else (if c then Err (Twice n) else Ok x)) ≡ Ok t → (b ≡ false) × (c ≡ false) × (x ≡ t)
hold_ok true c x t n h = absurd cc
hold_ok false true x t n h = absurd cc
hold_ok false false x t n h = (refl, refl, cc)

acts_ok : (b : Bool) (x t : Acts) (n : ℕ) → (if b then Err (TooMany n) else Ok x) ≡ Ok t → (b ≡ false) × (x ≡ t)
acts_ok true x t n h = absurd cc
acts_ok false x t n h = (refl, cc)

-- lines behind the first of this number, which names these: what they say, and that after an activation the list isn't empty
record Open (n : ℕ) (names : ℕ × PrefixValue) (lines : List (ℕ × List ℕ)) (s : Acts) : Type 0 where
  pub said : AreSaid lines s
  pub closed : (said.runs ≡ []) ⊎ (0 < length s.list)
  pub first : s.for_line ≡ n
  pub named : ◌≡◌ {A = ℕ × PrefixValue} (s.round, s.prefix) names

opened : (n : ℕ) (names : ℕ × PrefixValue) → Open n names [] (no_acts n names)
opened n names = record {
  said = record { holds = []; runs = []; say = refl; once = tt; few = omega arith; held = refl; list = refl; named = refl };
  closed = inl refl;
  first = refl;
  named = refl;
}

-- what the lines say with their numbers, and who is named by them
abbrev of_line : ℕ × List ℕ → ℕ × Says
of_line l = (l.0, said_by l.1)

abbrev of_hold : ℕ × (ℕ × Entry) → ℕ × Says
of_hold h = (h.0, Some (inl h.1))

abbrev of_run : ℕ × List ℕ → ℕ × Says
of_run r = (r.0, Some (inr r.1))

abbrev run_named : ℕ × List ℕ → List (ℕ × ℕ)
run_named r = each (λ a. (r.0, a)) r.1

-- an AS that holds nothing is none of those before
module _ (holds : List (ℕ × (ℕ × Entry))) (a : ℕ) (none : is_some (map.get (map.from_entries {R = nat_cmp} (each (λ h. h.1) holds)) a) ≡ false) where
  found_none : is_some (map.find nat_cmp a (each (λ h. h.1) holds)) ≡ false
  found_none = ap is_some (sym (map.get-from_entries nat_cmp_total (each (λ h. h.1) holds) a)) ∙ none

  keys_each : (hs : List (ℕ × (ℕ × Entry))) → each (λ e. e.0) (each (λ h. h.1) hs) ≡ each (λ h. h.1.0) hs
  keys_each [] = refl
  keys_each (h ∷ hs) = ap (λ t. h.1.0 ∷ t) (keys_each hs)

  new_key : occurs a (each (λ h. h.1.0) holds) ≡ false
  new_key =
      (λ i. list_any (λ y. sym (unsigned_tied a y ∙ nat_eq_equiv.symm a y) i) (each (λ h. h.1.0) holds))
      ∙ ap (list_any (eq_by_cmp nat_cmp a)) (sym (keys_each holds))
      ∙ sym (is_some-find nat_cmp a (each (λ h. h.1) holds)) ∙ found_none

distinct_push : (xs : List ℕ) (a : ℕ) → IsDistinct xs → occurs a xs ≡ false → IsDistinct (xs ++ a ∷ [])
distinct_push xs a d new = distinct_from_apart (xs ++ a ∷ []) (IsDistinct-push nat_eq_equiv xs a (apart_from_distinct xs d) ((λ i. list_any (λ y. nat_eq_equiv.symm a y i) xs) ∙ new))

module _ (n : ℕ) (names : ℕ × PrefixValue) (lines : List (ℕ × List ℕ)) (s : Acts) (l : ℕ × List ℕ) (o : Open n names lines s) where
  one_hold : (hold : ℕ × Entry) → said_by l.1 ≡ Some (inl hold) → nat_lt 0 (length s.list) ≡ false → is_some (map.get s.held hold.0) ≡ false
      → Open n names (lines ++ l ∷ []) (record s { held = map.insert s.held hold.0 hold.1; named = s.named ++ (l.0, hold.0) ∷ [] })
  one_hold hold is no_list no_hold =
      let h : ℕ × (ℕ × Entry) = (l.0, hold) in
      let old = o.said in
      let none : old.runs ≡ [] = elim o.closed [ inl e ↦ e | inr some ↦ absurd (let t : 0 < length s.list = some in grind (arith, nat_tests)) ] in
      let free : is_some (map.get (map.from_entries {R = nat_cmp} (each (λ h. h.1) old.holds)) hold.0) ≡ false = ap (λ m. is_some (map.get m hold.0)) (sym old.held) ∙ no_hold in
      record {
        said = record {
          holds = old.holds ++ h ∷ [];
          runs = [];
          say = map-append of_line lines (l ∷ []) ∙ ap (λ t. t ++ of_line l ∷ []) (old.say ∙ ap (λ r. each of_hold old.holds ++ each of_run r) none ∙ append-nil (each of_hold old.holds))
              ∙ ap (λ t. each of_hold old.holds ++ (l.0, t) ∷ []) is ∙ sym (map-append of_hold old.holds (h ∷ [])) ∙ sym (append-nil (each of_hold (old.holds ++ h ∷ [])));
          once = subst IsDistinct (sym (map-append (λ h. h.1.0) old.holds (h ∷ []))) (distinct_push (each (λ h. h.1.0) old.holds) hold.0 old.once (new_key old.holds hold.0 free));
          few = old.few;
          held = ap (λ m. map.insert m hold.0 hold.1) old.held
              ∙ sym (map.from_entries_push nat_cmp_total nat_cmp-IsAntisymmetric (each (λ h. h.1) old.holds) hold.0 hold.1 (none_from _ (found_none old.holds hold.0 free)))
              ∙ ap map.from_entries (sym (map-append (λ h. h.1) old.holds (h ∷ [])));
          list = old.list ∙ ap (flat_map (λ r. r.1)) none;
          named = ap (λ t. t ++ (l.0, hold.0) ∷ []) (old.named ∙ ap (λ r. each (λ h. (h.0, h.1.0)) old.holds ++ flat_map run_named r) none ∙ append-nil (each (λ h. (h.0, h.1.0)) old.holds))
              ∙ sym (map-append (λ h. (h.0, h.1.0)) old.holds (h ∷ [])) ∙ sym (append-nil (each (λ h. (h.0, h.1.0)) (old.holds ++ h ∷ [])));
        };
        closed = inl refl;
        first = o.first;
        named = o.named;
      }

  one_run : (ases : List ℕ) → said_by l.1 ≡ Some (inr ases) → nat_lt MOST_ACTIVATIONS (length s.list + length ases) ≡ false
      → Open n names (lines ++ l ∷ []) (record s { list = s.list ++ ases; named = s.named ++ each (λ a. (l.0, a)) ases })
  one_run ases is few =
      let r : ℕ × List ℕ = (l.0, ases) in
      let old = o.said in
      let long : length (s.list ++ ases) ≡ length s.list + length ases = length-append s.list ases in
      let most : length s.list + length ases ≤ MOST_ACTIVATIONS = grind (arith, nat_tests) in
      record {
        said = record {
          holds = old.holds;
          runs = old.runs ++ r ∷ [];
          say = map-append of_line lines (l ∷ []) ∙ ap (λ t. t ++ of_line l ∷ []) old.say ∙ append_assoc (each of_hold old.holds) (each of_run old.runs) (of_line l ∷ [])
              ∙ ap (λ t. each of_hold old.holds ++ (each of_run old.runs ++ (l.0, t) ∷ [])) is ∙ ap (λ t. each of_hold old.holds ++ t) (sym (map-append of_run old.runs (r ∷ [])));
          once = old.once;
          few = omega arith;
          held = old.held;
          list = ap (λ t. t ++ ases) old.list ∙ ap (λ t. flat_map (λ r. r.1) old.runs ++ t) (sym (append-nil ases)) ∙ sym (flat_map-append (λ r. r.1) old.runs (r ∷ []));
          named = ap (λ t. t ++ run_named r) old.named ∙ append_assoc (each (λ h. (h.0, h.1.0)) old.holds) (flat_map run_named old.runs) (run_named r)
              ∙ ap (λ t. each (λ h. (h.0, h.1.0)) old.holds ++ (flat_map run_named old.runs ++ t)) (sym (append-nil (run_named r)))
              ∙ ap (λ t. each (λ h. (h.0, h.1.0)) old.holds ++ t) (sym (flat_map-append run_named old.runs (r ∷ [])));
        };
        closed = inr (let some : 0 < length ases = said_some l.1 ases is in omega arith);
        first = o.first;
        named = o.named;
      }

  one_line : (t : Acts) (x : Says) → said_by l.1 ≡ x → step s l.0 x ≡ Ok t → Open n names (lines ++ l ∷ []) t
  unfolding step
  one_line t None is ok = absurd cc
  one_line t (Some (inl hold)) is ok =
      let (no_list, no_hold, now) = hold_ok _ _ _ t l.0 ok in subst (Open n names (lines ++ l ∷ [])) now (one_hold hold is no_list no_hold)
  one_line t (Some (inr ases)) is ok =
      let (few, now) = acts_ok _ _ t l.0 ok in subst (Open n names (lines ++ l ∷ [])) now (one_run ases is few)

-- what all lines say
all_said : (n : ℕ) (names : ℕ × PrefixValue) (lines more : List (ℕ × List ℕ)) (s t : Acts) → Open n names lines s → said_on with_line s more ≡ Ok t → Open n names (lines ++ more) t
unfolding said_on
all_said n names lines [] s t o ok = let now : s ≡ t = cc in subst (λ ls. Open n names ls t) (sym (append-nil lines)) (subst (Open n names lines) now o)
all_said n names lines (l ∷ more) s t o ok = by (with_line s l) refl ok (λ u o' ok'. all_said n names (lines ++ l ∷ []) more u t o' ok')
  where
    by : (r : Result Acts ActsError) → with_line s l ≡ r → (r >>= λ u. said_on with_line u more) ≡ Ok t
        → ((u : Acts) → Open n names (lines ++ l ∷ []) u → said_on with_line u more ≡ Ok t → Open n names ((lines ++ l ∷ []) ++ more) t) → Open n names (lines ++ l ∷ more) t
    by (Err e) is ok rest = absurd cc
    by (Ok u) is ok rest = subst (λ ls. Open n names ls t) (append_assoc lines (l ∷ []) more)
        (rest u (one_line n names lines s l o u (said_by l.1) refl (sym (with_line-step s l) ∙ is)) ok)

-- ---- back: what is said is read

apart_before : (xs : List ℕ) (a : ℕ) (ys : List ℕ) → IsDistinct (xs ++ a ∷ ys) → occurs a xs ≡ false
apart_before [] a ys d = refl
apart_before (x ∷ xs) a ys d =
    let later = or_parts (occurs x xs) (occurs x (a ∷ ys)) (sym (list_any-append (λ (y : ℕ). y == x) xs (a ∷ ys)) ∙ d.0) in
    ap (λ b. b || occurs a xs) (nat_eq_equiv.symm x a ∙ (or_parts (a == x) (occurs x ys) later.1).0) ∙ apart_before xs a ys d.1

not_found : (done : List (ℕ × Entry)) (a : ℕ) → occurs a (each (λ e. e.0) done) ≡ false → map.find nat_cmp a done ≡ None
not_found done a apart =
    none_from (map.find nat_cmp a done) (is_some-find nat_cmp a done ∙ (λ i. list_any (λ y. (unsigned_tied a y ∙ nat_eq_equiv.symm a y) i) (each (λ e. e.0) done)) ∙ apart)

taken : (b c : Bool) (u : Acts) (n : ℕ) → b ≡ false → c ≡ false → (if b then Err (Unreadable n) else (if c then Err (Twice n) else Ok u)) ≡ Ok u
taken b c u n no_list no_hold = rw (no_list, no_hold) refl

run_taken : (b : Bool) (u : Acts) (n : ℕ) → b ≡ false → (if b then Err (TooMany n) else Ok u) ≡ Ok u
run_taken b u n few = rw few refl

runs_made : (runs : List (ℕ × List ℕ)) (ls : List (ℕ × List ℕ)) (s : Acts) → each of_line ls ≡ each of_run runs → length s.list + length (flat_map (λ r. r.1) runs) ≤ MOST_ACTIVATIONS
    → said_on with_line s ls ≡ Ok (record s { list = s.list ++ flat_map (λ r. r.1) runs; named = s.named ++ flat_map run_named runs })
unfolding said_on step
runs_made [] [] s e few = λ i. Ok (record s { list = sym (append-nil s.list) i; named = sym (append-nil s.named) i })
runs_made [] (l ∷ ls) s e few = absurd cc
runs_made (r ∷ rs) [] s e few = absurd cc
runs_made (r ∷ rs) (l ∷ ls) s e few =
    let head : of_line l ≡ of_run r = cc in
    let tail : each of_line ls ≡ each of_run rs = cc in
    let u = record s { list = s.list ++ r.1; named = s.named ++ run_named r } in
    let parts : length (r.1 ++ flat_map (λ r. r.1) rs) ≡ length r.1 + length (flat_map (λ r. r.1) rs) = length-append r.1 (flat_map (λ r. r.1) rs) in
    let fits : nat_lt MOST_ACTIVATIONS (length s.list + length r.1) ≡ false = grind (arith, nat_tests) in
    let here : with_line s l ≡ Ok u = with_line-step s l ∙ (λ i. step s (head i).0 (head i).1) ∙ run_taken _ u r.0 fits in
    ap (λ (x : Result Acts ActsError). x >>= λ t. said_on with_line t ls) here
    ∙ runs_made rs ls u tail (omega (arith, length-append s.list r.1))
    ∙ (λ i. Ok (record s { list = append_assoc s.list r.1 (flat_map (λ r. r.1) rs) i; named = append_assoc s.named (run_named r) (flat_map run_named rs) i }))

holds_made : (holds : List (ℕ × (ℕ × Entry))) (runs : List (ℕ × List ℕ)) (ls : List (ℕ × List ℕ)) (s : Acts) (done : List (ℕ × Entry)) → s.held ≡ map.from_entries done → s.list ≡ []
    → each of_line ls ≡ each of_hold holds ++ each of_run runs → IsDistinct (each (λ e. e.0) done ++ each (λ h. h.1.0) holds) → length (flat_map (λ r. r.1) runs) ≤ MOST_ACTIVATIONS
    → said_on with_line s ls ≡ Ok (record s { held = map.from_entries (done ++ each (λ h. h.1) holds); list = flat_map (λ r. r.1) runs; named = s.named ++ (each (λ h. (h.0, h.1.0)) holds ++ flat_map run_named runs) })
unfolding said_on step
holds_made [] runs ls s done held list e once few =
    runs_made runs ls s e (omega (arith, ap length list))
    ∙ (λ i. Ok (record s { held = (held ∙ ap map.from_entries (sym (append-nil done))) i; list = list i ++ flat_map (λ r. r.1) runs; named = s.named ++ flat_map run_named runs }))
holds_made (h ∷ hs) runs [] s done held list e once few = absurd cc
holds_made (h ∷ hs) runs (l ∷ ls) s done held list e once few =
    let head : of_line l ≡ of_hold h = cc in
    let tail : each of_line ls ≡ each of_hold hs ++ each of_run runs = cc in
    let u = record s { held = map.insert s.held h.1.0 h.1.1; named = s.named ++ (h.0, h.1.0) ∷ [] } in
    let none = not_found done h.1.0 (apart_before (each (λ e. e.0) done) h.1.0 (each (λ h. h.1.0) hs) once) in
    let empty : nat_lt 0 (length s.list) ≡ false = ap (λ (t : List ℕ). nat_lt 0 (length t)) list in
    let free : is_some (map.get s.held h.1.0) ≡ false = ap (λ m. is_some (map.get m h.1.0)) held ∙ ap is_some (map.get-from_entries nat_cmp_total done h.1.0 ∙ none) in
    let here : with_line s l ≡ Ok u = with_line-step s l ∙ (λ i. step s (head i).0 (head i).1) ∙ taken _ _ u h.0 empty free in
    let more = map.from_entries_push nat_cmp_total nat_cmp-IsAntisymmetric done h.1.0 h.1.1 none in
    let keys : each (λ e. e.0) (done ++ h.1 ∷ []) ++ each (λ h. h.1.0) hs ≡ each (λ e. e.0) done ++ h.1.0 ∷ each (λ h. h.1.0) hs =
    ap (λ t. t ++ each (λ h. h.1.0) hs) (map-append (λ e. e.0) done (h.1 ∷ [])) ∙ append_assoc (each (λ e. e.0) done) (h.1.0 ∷ []) (each (λ h. h.1.0) hs) in
    ap (λ (x : Result Acts ActsError). x >>= λ t. said_on with_line t ls) here
    ∙ holds_made hs runs ls u (done ++ h.1 ∷ []) (ap (λ m. map.insert m h.1.0 h.1.1) held ∙ sym more) list tail (subst IsDistinct (sym keys) once) few
    ∙ (λ i. Ok (record s { held = map.from_entries (append_assoc done (h.1 ∷ []) (each (λ h. h.1) hs) i); list = flat_map (λ r. r.1) runs; named = append_assoc s.named ((h.0, h.1.0) ∷ []) (each (λ h. (h.0, h.1.0)) hs ++ flat_map run_named runs) i }))

-- ---- the whole file

pub file_said : (lines : List (ℕ × List ℕ)) (acts : Acts) → acts_by lines ≡ Ok acts → IsFile lines acts
unfolding acts_by
file_said lines acts is =
    let b = begun NoFor Unreadable (λ n x. said_on with_line (no_acts n x)) lines acts is in
    let o = all_said b.number b.names [] b.rest (no_acts b.number b.names) acts (opened b.number b.names) b.says_so in
    record { text = b.text; rest = b.rest; lines_are = b.lines_are ∙ ap (λ n. (n, b.text) ∷ b.rest) (sym o.first); names = b.names_are ∙ ap (λ (y : ℕ × PrefixValue). Some y) (sym o.named); said = o.said }

pub said_file : (lines : List (ℕ × List ℕ)) (acts : Acts) → IsFile lines acts → acts_by lines ≡ Ok acts
unfolding acts_by
said_file lines acts f =
    let said = f.said in
    let few : length (flat_map (λ r. r.1) said.runs) ≤ MOST_ACTIVATIONS = subst (λ t. length t ≤ MOST_ACTIVATIONS) said.list said.few in
    rw (f.lines_are, f.names) (holds_made said.holds said.runs f.rest (no_acts acts.for_line (acts.round, acts.prefix)) [] refl refl said.say said.once few
    ∙ (λ i. Ok (record acts { held = sym said.held i; list = sym said.list i; named = sym said.named i })))
