-- What is counted of the ends of packets is what the ASes of a trial's world count.
use Rattle.std.proofs.Common.{◌≡◌, ℕ, ◌+◌, ◌-◌, Bool, true, false, not, ◌&&◌, cond, Some, List, [], ◌∷◌, map, refl, sym, ap, ◌∙◌, arith}
use Rattle.std.specs.Prelude.{count_by, nat_eq, slice_get}
use Rattle.std.specs.List.{IsDistinct}
use Rattle.net_names.specs.Numbers.{occurs}
use Rattle.as_graph.specs.Topology.{Topology, ases, has}
use Rattle.data_trace.specs.Watches.{AreRows, Row, count_of, is_end}
use Rattle.data_trace.specs.contracts.kinds.EndPartialEq.TheImpl as same_end_test
use Rattle.data_trace.specs.declared.kinds.End.{End}
use Rattle.data_trace.specs.declared.kinds.End.TheVariants as the_end
use Rattle.data_trace.specs.declared.kinds.Hop.{Hop}
use Rattle.data_trace.specs.declared.kinds.Which.TheVariants.{All}
use Rattle.sweep.specs.declared.trial.Fate.{Fate}
use Rattle.sweep.specs.declared.trial.Fate.TheVariants as fate
use Rattle.sim_core.specs.Counting.{how_many}
use Rattle.trial_world.specs.Sweeps.{end_of}
use Rattle.sim_core.specs.Watching.{end_at}
use Rattle.trial_world.specs.Trials.{gone_with}
use Rattle.sim_core.specs.World.{World, topology}
use Rattle.trial_world.proofs.NextHops.{same_end}
use Rattle.sim_core.proofs.Rows.{and_false, count_alike, count_named, counted_once, ends_at, is_end_same, one_more, same_many}
use Rattle.sim_core.proofs.Standing.{stands}
use Rattle.sim_core.proofs.Watches.{map_at}

-- ---- counts
-- those that pass one test are those that pass another too and those that don't
split : {X : Type 0} (p q : X → Bool) (xs : List X) → count_by p xs ≡ count_by (λ x. q x && p x) xs + count_by (λ x. not (q x) && p x) xs
split p q [] = refl
split p q (x ∷ xs) =
    let rest : count_by p xs ≡ count_by (λ y. q y && p y) xs + count_by (λ y. not (q y) && p y) xs = split p q xs in
    one_more p x xs ∙ by (p x) (q x) _ _ _ rest ∙ (λ i. sym (one_more (λ y. q y && p y) x xs) i + sym (one_more (λ y. not (q y) && p y) x xs) i)
  where
    by : (s t : Bool) (a b c : ℕ) → a ≡ b + c → cond s 1 0 + a ≡ (cond (t && s) 1 0 + b) + (cond (not t && s) 1 0 + c)
    by true true a b c e = omega (arith, e)
    by true false a b c e = omega (arith, e)
    by false true a b c e = omega (arith, e)
    by false false a b c e = omega (arith, e)

none_pass : {X : Type 0} (xs : List X) → count_by (λ x. false) xs ≡ 0
none_pass [] = refl
none_pass (x ∷ xs) = (let rest = none_pass xs in let more = one_more (λ y. false) x xs in omega (arith, more, rest))

-- as many pass one test among some distinct numbers as another among others, where the same numbers do
same_count : (p q : ℕ → Bool) (xs ys : List ℕ) → IsDistinct nat_eq xs → IsDistinct nat_eq ys → ((a : ℕ) → (p a && occurs a xs) ≡ (q a && occurs a ys)) → count_by p xs ≡ count_by q ys
same_count p q xs ys d e same = sym (counted_once p xs d) ∙ same_many p q xs ys same ∙ counted_once q ys e

-- the ends of rows that are right are counted by the ASes
module _ (g : Topology) (next : ℕ → Hop) (label_of : ℕ → ℕ) (rows : List Row) (are : AreRows g next label_of rows) where
  row_there : (k : ℕ) (r : Row) → slice_get rows k ≡ Some r → has g r.asn ≡ true
  row_there k r at = sym (are.listed r.asn) ∙ stands r.asn k (map (λ s. s.asn) rows) (map_at (λ (s : Row). s.asn) rows k r at)

  pub by_rows : (f : Fate) → count_of rows All (end_of f) ≡ count_by (λ a. (same_end_test.ghosts).eq (end_at rows a) (end_of f)) (map (λ r. r.asn) rows)
  by_rows f =
      count_alike (λ (r : Row). true && is_end r.end (end_of f)) (λ r. (same_end_test.ghosts).eq (end_at rows r.asn) (end_of f)) rows (λ k r at.
      let (walk, trace) = (are.right k r at).trace in
      let (way, ends) = ends_at g next label_of rows are r.asn (row_there k r at) in
      ap (λ e. is_end e (end_of f)) (same_end next next (λ a. refl) r.asn walk way r.end (end_at rows r.asn) trace ends) ∙ is_end_same (end_at rows r.asn) (end_of f))
      ∙ count_named (λ a. (same_end_test.ghosts).eq (end_at rows a) (end_of f)) rows

module _ (g : Topology) (names : List ℕ) (listed : (a : ℕ) → occurs a names ≡ has g a) (distinct : IsDistinct nat_eq names) (ends : ℕ → End) (v : World) (fewer : (a : ℕ) → has (topology v) a ≡ true → has g a ≡ true) (lost : (a : ℕ) → has g a ≡ true → has (topology v) a ≡ false → ends a ≡ the_end.NoRoute)
    (lone : List ℕ) (apart : IsDistinct nat_eq lone) (plain : ℕ → Bool) (gone_are : (a : ℕ) → has g a ≡ true → (not (has (topology v) a)) ≡ (occurs a lone && plain a)) (there : (a : ℕ) → occurs a lone ≡ true → has g a ≡ true) where
  abbrev pub test : Fate → ℕ → Bool
  test f a = (same_end_test.ghosts).eq (ends a) (end_of f)

  in_world : (p : ℕ → Bool) → how_many v p ≡ count_by (λ a. has (topology v) a && p a) names
  in_world p =
      same_many p (λ a. has (topology v) a && p a) (ases (topology v)) names (λ a. by a (has (topology v) a) refl (p a))
      ∙ counted_once (λ a. has (topology v) a && p a) names distinct
    where
      by : (a : ℕ) (t : Bool) → has (topology v) a ≡ t → (s : Bool) → (s && t) ≡ ((t && s) && occurs a names)
      by a true e true = sym (listed a ∙ fewer a e)
      by a true e false = refl
      by a false e s = and_false s

  name_there : (k a : ℕ) → slice_get names k ≡ Some a → has g a ≡ true
  name_there k a at = sym (listed a) ∙ stands a k names at

  -- of those that are gone none is delivered or runs in a loop
  none_gone : (f : Fate) → (same_end_test.ghosts).eq the_end.NoRoute (end_of f) ≡ false → count_by (λ a. not (has (topology v) a) && test f a) names ≡ 0
  none_gone f away = count_alike (λ a. not (has (topology v) a) && test f a) (λ a. false) names (λ k a at. by a (name_there k a at) (has (topology v) a) refl) ∙ none_pass names
    where
      by : (a : ℕ) → has g a ≡ true → (t : Bool) → has (topology v) a ≡ t → (not t && test f a) ≡ false
      by a here true e = refl
      by a here false e = ap (λ x. (same_end_test.ghosts).eq x (end_of f)) (lost a here e) ∙ away

  -- and all have no route
  all_gone : count_by (λ a. not (has (topology v) a) && test fate.NoRoute a) names ≡ count_by plain lone
  all_gone =
      count_alike (λ a. not (has (topology v) a) && test fate.NoRoute a) (λ a. occurs a lone && plain a) names (λ k a at. by a (name_there k a at) (has (topology v) a) refl ∙ gone_are a (name_there k a at))
      ∙ same_count (λ a. occurs a lone && plain a) plain names lone distinct apart (λ a. both a (occurs a lone) refl (plain a))
    where
      by : (a : ℕ) → has g a ≡ true → (t : Bool) → has (topology v) a ≡ t → (not (has (topology v) a) && test fate.NoRoute a) ≡ not (has (topology v) a)
      by a here true e = ap (λ t. not t && test fate.NoRoute a) e ∙ ap not (sym e)
      by a here false e = ap (λ t. not t && test fate.NoRoute a) e ∙ ap (λ x. (same_end_test.ghosts).eq x the_end.NoRoute) (lost a here e) ∙ ap not (sym e)

      both : (a : ℕ) (t : Bool) → occurs a lone ≡ t → (s : Bool) → ((t && s) && occurs a names) ≡ (s && t)
      both a true e true = listed a ∙ there a e
      both a true e false = refl
      both a false e s = sym (and_false s)

  gone_count : (f : Fate) → count_by (λ a. not (has (topology v) a) && test f a) names ≡ gone_with f (count_by plain lone)
  gone_count (fate.At a) = none_gone (fate.At a) refl
  gone_count fate.NoRoute = all_gone
  gone_count fate.Loop = none_gone fate.Loop refl

  -- the number of each fate, less those without a route that are gone
  pub number_is : (f : Fate) (n : ℕ) → n ≡ count_by (test f) names → n - gone_with f (count_by plain lone) ≡ how_many v (test f)
  number_is f n is =
      let whole : n ≡ count_by (λ a. has (topology v) a && test f a) names + count_by (λ a. not (has (topology v) a) && test f a) names =
      is ∙ split (test f) (has (topology v)) names in
      let less : count_by (λ a. not (has (topology v) a) && test f a) names ≡ gone_with f (count_by plain lone) = gone_count f in
      let here : how_many v (test f) ≡ count_by (λ a. has (topology v) a && test f a) names = in_world (test f) in
      omega (arith, whole, less, here)
