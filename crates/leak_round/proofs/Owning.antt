-- The seeds that announcements make.
use Rattle.std.proofs.Common.{◌≡◌, ◌≢◌, ◌⊎◌, inl, inr, ℕ, zero, suc, ◌<◌, Bool, true, false, cond, Some, None, option_map, List, [], ◌∷◌, ◌++◌, length, get_or, set, refl, sym, ap, subst, ◌∙◌}
use Rattle.std.specs.Prelude.{slice_get, IsTrue}
use Rattle.std.proofs.lemmas.Bool.{cases_eq, cases_order}
use Rattle.std.proofs.lemmas.Option.{slice_get-get_or}
use Rattle.net_names.specs.Numbers.{occurs}
use Rattle.net_names.specs.Prefixes.{PrefixValue, prefix_cmp}
use Rattle.path_pool.specs.declared.pool.PathPool.{PathPool}
use Rattle.stability_laws.specs.Plans.{Plan, announcer_of, has_prefix, prefixes_of}
use Rattle.stability_laws.proofs.KeyLists.{apart_later, keys_listed}
use Rattle.net_names.specs.Orders.{prefix_total, exact_prefix}
use Rattle.route_choice.specs.declared.round_tables.RoundTables.{RoundTables}
use Rattle.route_choice.specs.declared.seeds.SeedIds.{SeedIds}
use Rattle.dirty_recompute.proofs.CrowdLemmas.{set_get, set_keeps}
use Rattle.leak_round.specs.declared.announced.Announced.{Announced}
use Rattle.leak_round.specs.declared.changes.Change.{Change}
use Rattle.leak_round.specs.declared.touched.Touched.{Touched}
use Rattle.leak_round.specs.Announced.{is_of, own_path, own_seed}
use Rattle.leak_round.specs.Differing.{AreWrong, AreWrongIn}
use Rattle.leak_round.specs.Edited.{others_of, EndsWithPath}
use Rattle.leak_round.specs.Leaked.{AreSeedsWith}
use Rattle.leak_round.specs.OwnSeeds.{AreOwn, AreOwnSeeds, AreOthersKept}
use Rattle.leak_round.specs.Touched.{ases_in, touches}
use Rattle.leak_round.proofs.Announcing.{is_of-itself, own_path-push}
use Rattle.leak_round.proofs.Editing.{others_own}

-- what stands in a list with one more at the end, and where
got_at : {X : Type 0} (xs : List X) (x : X) (i : ℕ) (y : X) → slice_get (xs ++ x ∷ []) i ≡ Some y → (slice_get xs i ≡ Some y) ⊎ ((i ≡ length xs) × (x ≡ y))
got_at [] x zero y e = inr (refl, (let same : x ≡ y = cc in same))
got_at [] x (suc i) y e = cc
got_at (z ∷ xs) x zero y e = inl e
got_at (z ∷ xs) x (suc i) y e = elim (got_at xs x i y e) [ inl before ↦ inl before | inr last ↦ inr (ap suc last.0, last.1) ]

-- no seeds are kept yet
pub own_none : (plan : Plan) (xs : List Announced) (own : List SeedIds) → own ≡ [] → AreOwnSeeds plan xs own
own_none plan xs [] empty i p s here got = absurd (let nothing : None ≡ Some s = got in cc)
own_none plan xs (t ∷ own) empty i p s here got = cc

-- the seeds of one prefix more
pub own_more : (plan : Plan) (xs : List Announced) (own : List SeedIds) (prefix : PrefixValue) (seeds : SeedIds) → AreOwnSeeds plan xs own → slice_get (prefixes_of plan) (length own) ≡ Some prefix → AreOwn xs prefix seeds → AreOwnSeeds plan xs (own ++ seeds ∷ [])
own_more plan xs own prefix seeds was at are i p s here got = elim (got_at own seeds i s got) [
  | inl before ↦ was i p s here before
  | inr last ↦
      let both : Some prefix ≡ Some p = sym at ∙ ap (slice_get (prefixes_of plan)) (sym last.0) ∙ here in
      let one : prefix ≡ p = cc in
      coe 0 1 (i. AreOwn xs (one i) (last.1 i)) are
]

-- no prefix stands at two places of the plan
place_apart : (plan : Plan) (i j : ℕ) (p q : PrefixValue) → j ≢ i → slice_get (prefixes_of plan) i ≡ Some p → slice_get (prefixes_of plan) j ≡ Some q → p ≢ q
place_apart plan i j p q ne here there = elim (cases_order i j) [
  | inl same ↦ absurd (ne (sym same))
  | inr (inl less) ↦ apart_later prefix_cmp prefix_total (λ r. IsTrue (has_prefix plan r)) (prefixes_of plan) (keys_listed prefix_total exact_prefix plan.prefixes) i j p q less here there
  | inr (inr more) ↦ λ same. apart_later prefix_cmp prefix_total (λ r. IsTrue (has_prefix plan r)) (prefixes_of plan) (keys_listed prefix_total exact_prefix plan.prefixes) j i q p more there here (sym same)
]

-- other seeds of one prefix
pub own_put : (plan : Plan) (xs ys : List Announced) (own : List SeedIds) (i : ℕ) (prefix : PrefixValue) (seeds : SeedIds) → AreOwnSeeds plan xs own → AreOthersKept (Some prefix) xs ys → AreOwn ys prefix seeds → slice_get (prefixes_of plan) i ≡ Some prefix → i < length own → AreOwnSeeds plan ys (set own i seeds)
own_put plan xs ys own i prefix seeds was others are at less j p s here got = elim (cases_eq j i) [
  | inl e ↦
      let both : Some prefix ≡ Some p = sym at ∙ ap (slice_get (prefixes_of plan)) (sym e) ∙ here in
      let one : prefix ≡ p = cc in
      let put : Some seeds ≡ Some s = sym (set_get own i (get_or own i seeds) seeds (slice_get-get_or own i seeds less)) ∙ ap (slice_get (set own i seeds)) (sym e) ∙ got in
      let same : seeds ≡ s = cc in
      coe 0 1 (k. AreOwn ys (one k) (same k)) are
  | inr ne ↦
      let other : p ≢ prefix = place_apart plan j i p prefix (λ e. ne (sym e)) here at in
      λ a. was j p s here (sym (set_keeps own i j seeds ne) ∙ got) a ∙ ap (option_map own_seed) (sym (others p (λ e. (let same : prefix ≡ p = cc in other (sym same))) a))
]

-- where an announcement of a prefix goes, what is announced of other prefixes stays
pub others_without : (prefix : PrefixValue) (a : ℕ) (xs : List Announced) → AreOthersKept (Some prefix) xs (others_of prefix a xs)
others_without prefix a xs p ne b = others_own prefix a p b (λ x is. apart x is (is_of p b x) refl) xs None
  where
    apart : (x : Announced) → is_of prefix a x ≡ true → (c : Bool) → is_of p b x ≡ c → is_of p b x ≡ false
    apart x is false e = e
    apart x is true e = absurd (ne (ap (λ (q : PrefixValue). Some q) (sym (is_of-itself x prefix a is).0 ∙ (is_of-itself x p b e).0)))

-- and so it is where a path of the prefix is announced then
pub others_instead : (pool : PathPool) (prefix : PrefixValue) (path : List ℕ) (a : ℕ) (xs ys : List Announced) → EndsWithPath pool prefix path (others_of prefix a xs) ys → AreOthersKept (Some prefix) xs ys
others_instead pool prefix path a xs ys last p ne b =
    ap (λ (zs : List Announced). own_path zs p b) last.items ∙ own_path-push (others_of prefix a xs) one p b ∙ by (is_of p b one) refl ∙ others_without prefix a xs p ne b
  where
    one : Announced
    one = record { prefix = prefix; asn = announcer_of path; path = last.id }

    by : (c : Bool) → is_of p b one ≡ c → cond c (Some last.id) (own_path (others_of prefix a xs) p b) ≡ own_path (others_of prefix a xs) p b
    by false e = refl
    by true e = absurd (ne (ap (λ (q : PrefixValue). Some q) (is_of-itself one p b e).0))

-- where the seeds stay only touched ASes may hold something wrong
pub wrong_touched : (plan after : Plan) (xs ys : List Announced) (rounds : List RoundTables) (changes : List Change) (round : ℕ) (prefix : PrefixValue) (touched : Touched) (pool : PathPool) (seeds : SeedIds) (ases : List ℕ) → ases ≡ ases_in touched.pairs.items prefix
    → AreSeedsWith plan xs rounds [] round prefix seeds × AreSeedsWith after ys rounds changes round prefix seeds → AreWrongIn plan after xs ys rounds changes round prefix (touches touched prefix) pool seeds ases
wrong_touched plan after xs ys rounds changes round prefix touched pool seeds ases are put = record {
  was = seeds;
  was_put = put.0;
  put = put.1;
  wrong = record { untouched = λ b out. ap (occurs b) (sym are) ∙ out; same = λ b out. refl; only = λ b there. inl (ap (occurs b) (sym are) ∙ there) };
}

-- where the seeds before and after are known, with the ASes that may hold something wrong
pub wrong_between : (plan after : Plan) (xs ys : List Announced) (rounds : List RoundTables) (changes : List Change) (round : ℕ) (prefix : PrefixValue) (touched : ℕ → Bool) (pool : PathPool) (was seeds : SeedIds) (ases items : List ℕ) → ases ≡ items
    → AreSeedsWith plan xs rounds [] round prefix was × AreSeedsWith after ys rounds changes round prefix seeds → AreWrong touched pool was seeds items → AreWrongIn plan after xs ys rounds changes round prefix touched pool seeds ases
wrong_between plan after xs ys rounds changes round prefix touched pool was seeds ases items are put wrong = record { was = was; was_put = put.0; put = put.1; wrong = subst (AreWrong touched pool was seeds) (sym are) wrong }
