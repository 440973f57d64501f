-- How the trees of a line are made, one seed and one prefix after the other.
use Rattle.std.proofs.Common.{◌≡◌, inl, inr, ℕ, zero, suc, ◌+◌, ◌-◌, ◌<◌, ◌≤◌, Bool, true, false, is_some, Option, None, Some, List, [], ◌∷◌, ◌++◌, length, map, get_or, refl, sym, ap, subst, ◌∙◌, arith, true≢false}
use Rattle.std.specs.Prelude.{All, slice_get, slice_index}
use Rattle.std.proofs.lemmas.Option.{get_or_from_slice_get, slice_get-get_or, slice_get_within}
use Rattle.std.specs.List.Sorted.{IsNonDecreasingBy, IsPermutation}
use Rattle.std.proofs.lemmas.List.Sorted.{Contains-permutation}
use Rattle.net_names.specs.Addresses.{width}
use Rattle.net_names.specs.declared.addresses.Family.{Family}
use Rattle.net_names.specs.declared.addresses.Family.TheVariants.{V4, V6}
use Rattle.net_names.specs.Prefixes.{PrefixValue}
use Rattle.as_graph.specs.Topology.{has}
use Rattle.as_places.proofs.PlaceLemmas.{place_at}
use Rattle.origin_validation.specs.Judging.{state_of}
use Rattle.rank_order.specs.Ranks.{IsRankOrder, rank_at}
use Rattle.stability_laws.specs.Plans.{Plan, announced_path, announcers_of, announces, prefixes_of}
use Rattle.stability_laws.proofs.Listing.{at_next}
use Rattle.stability_laws.proofs.PlanListings.{announcers_listed}
use Rattle.routing_tree.specs.Placed.{own_seed}
use Rattle.routing_tree.specs.declared.tree.PlacedSeed.{PlacedSeed}
use Rattle.trial_world.specs.Fixed.{IsFixed}
use Rattle.trial_world.specs.Trees.{AreSeedsFor, AreTreesFor, IsTreeFor, NeedsNoPaths, first_seeds}
use Rattle.trial_world.specs.declared.fixed.Fixed.{Fixed}
use Rattle.trial_world.specs.declared.trees.PrefixTree.{PrefixTree}
use Rattle.trial_world.proofs.FirstSeeds.{seed_announces, seed_away, seed_there}
use Rattle.trial_world.proofs.PartPlans.{listed}
use Rattle.trial_world.proofs.TreeLists.{pushed, pushed_new, pushed_old}
use Rattle.trial_world.proofs.TrialTables.{announcer_in}

-- what holds of each item holds of all
pub all_from : {X : Type 0} (P : X → Type 0) (xs : List X) → ((i : ℕ) (x : X) → slice_get xs i ≡ Some x → P x) → All P xs
all_from P xs each k d less = each k (get_or xs k d) (slice_get-get_or xs k d less)

pub each_of : {X : Type 0} (P : X → Type 0) (xs : List X) → All P xs → (i : ℕ) (x : X) → slice_get xs i ≡ Some x → P x
each_of P xs all i x at = subst P (get_or_from_slice_get xs i x x at) (all i x (slice_get_within xs i x at))

-- the seed is that of an AS that announces the prefix, at its place
pub record IsSeedFor (f : Fixed) (ases : List ℕ) (p : PrefixValue) (s : PlacedSeed) : Type 0 where
  pub inside : s.place < length ases
  pub announced : announces f.plan p (slice_index ases s.place) ≡ true
  pub state : s.state ≡ state_of f.states.payloads p (slice_index ases s.place)

-- an AS with a path announces the prefix
pub with_path : (plan : Plan) (p : PrefixValue) (a : ℕ) (path : List ℕ) → announced_path plan p a ≡ Some path → announces plan p a ≡ true
with_path plan p a path at = ap is_some at

-- who announces the prefix stands in the list of the plan
pub announcer_at : (plan : Plan) (p : PrefixValue) (a : ℕ) → announces plan p a ≡ true → (i : ℕ) × (slice_get (announcers_of plan) i ≡ Some a)
announcer_at plan p a h = by (announced_path plan p a) refl h
  where
    by : (o : Option (List ℕ)) → announced_path plan p a ≡ o → is_some o ≡ true → (i : ℕ) × (slice_get (announcers_of plan) i ≡ Some a)
    by None e t = absurd (true≢false (sym t))
    by (Some path) e t = (announcers_listed plan).whole a (record { prefix = p; path = path; announced = e })

module _ (f : Fixed) (p : PrefixValue) (ases : List ℕ) where
  -- the list of seeds is right as far as it goes
  pub record AreSeedsTo (names : List ℕ) (n : ℕ) (seeds : List PlacedSeed) : Type 0 where
    pub each : (j : ℕ) (s : PlacedSeed) → slice_get seeds j ≡ Some s → IsSeedFor f ases p s
    pub whole : (i a : ℕ) → i < n → slice_get names i ≡ Some a → announces f.plan p a ≡ true → (j : ℕ) × (s : PlacedSeed) × (slice_get seeds j ≡ Some s) × (slice_index ases s.place ≡ a)

  module _ (names : List ℕ) (n : ℕ) (seeds : List PlacedSeed) (are : AreSeedsTo names n seeds) (a : ℕ) (at : slice_get names n ≡ Some a) where
    -- an AS more that announces the prefix
    pub seed_more : (s : PlacedSeed) → s.place < length ases → slice_index ases s.place ≡ a → s.state ≡ state_of f.states.payloads p a → announces f.plan p a ≡ true → AreSeedsTo names (n + 1) (seeds ++ s ∷ [])
    seed_more s inside here state announced = record {
      each = λ j x there. elim (pushed seeds s j x there) [
        | inl old ↦ are.each j x old
        | inr new ↦ subst (IsSeedFor f ases p) new.1 (record {
          inside = inside;
          announced = ap (announces f.plan p) here ∙ announced;
          state = state ∙ ap (state_of f.states.payloads p) (sym here);
        })
      ];
      whole = at_next names n a (λ b. announces f.plan p b ≡ true → (j : ℕ) × (x : PlacedSeed) × (slice_get (seeds ++ s ∷ []) j ≡ Some x) × (slice_index ases x.place ≡ b)) at
          (λ t. (length seeds, s, pushed_new seeds s, here))
          (λ i b less there t. (let (j, x, stands, is) = are.whole i b less there t in (j, x, pushed_old seeds s j x stands, is)));
    }

    -- and one that does not
    pub seed_less : announces f.plan p a ≡ false → AreSeedsTo names (n + 1) seeds
    seed_less away = record {
      each = are.each;
      whole = at_next names n a (λ b. announces f.plan p b ≡ true → (j : ℕ) × (x : PlacedSeed) × (slice_get seeds j ≡ Some x) × (slice_index ases x.place ≡ b)) at
          (λ t. absurd (true≢false (sym t ∙ away)))
          (λ i b less there t. are.whole i b less there t);
    }

  -- where the list is through, the seeds are those of the prefix
  pub seeds_done : IsFixed f → NeedsNoPaths f.plan f.round → IsRankOrder (has f.graph.now) (rank_at f.ranks.now) ases → (n : ℕ) (seeds : List PlacedSeed) → length (announcers_of f.plan) ≤ n → AreSeedsTo (announcers_of f.plan) n seeds → AreSeedsFor f ases p seeds
  seeds_done is needs order n seeds past are = record {
    inside = all_from (λ (s : PlacedSeed). s.place < length ases) seeds (λ i s at. (are.each i s at).inside);
    are = record {
      each = all_from (λ (s : PlacedSeed). (first_seeds f.plan p (slice_index ases s.place) ≡ Some (own_seed (slice_index ases s.place))) × (s.state ≡ state_of f.states.payloads p (slice_index ases s.place))) seeds
          (λ i s at. (seed_there f.plan p (needs.alone p) (slice_index ases s.place) (are.each i s at).announced, (are.each i s at).state));
      complete = λ k s less seeded.
          let a : ℕ = slice_index ases k in
          let announced : announces f.plan p a ≡ true = seed_announces f.plan p a s seeded in
          let (i, there) = announcer_at f.plan p a announced in
          let within : i < length (announcers_of f.plan) = slice_get_within (announcers_of f.plan) i a there in
          let (j, x, at, here) = are.whole i a (omega (arith, within, past)) there announced in
          (j, x, at, one_place x.place k (are.each j x at).inside less here);
      only = λ a away. none a away (announces f.plan p a) refl;
    };
  }
    where
      one_place : (i k : ℕ) → i < length ases → k < length ases → slice_index ases i ≡ slice_index ases k → i ≡ k
      one_place i k low high same =
          let one : Some i ≡ Some k = sym (place_at ases order.apart i (slice_index ases k) low same) ∙ place_at ases order.apart k (slice_index ases k) high refl in
          cc

      none : (a : ℕ) → has f.graph.now a ≡ false → (t : Bool) → announces f.plan p a ≡ t → first_seeds f.plan p a ≡ None
      none a away true e = absurd (true≢false (sym (announcer_in f is p a e) ∙ away))
      none a away false e = seed_away f.plan p a e

-- ---- the prefixes, one after the other

-- an item of a list of images is that of an item of the list
pub image_at : {X Y : Type 0} (g : X → Y) (xs : List X) (i : ℕ) (y : Y) → slice_get (map g xs) i ≡ Some y → (x : X) × (slice_get xs i ≡ Some x) × (g x ≡ y)
image_at g [] i y at = absurd (let no : None ≡ Some y = at in cc)
image_at g (x ∷ xs) zero y at = (x, refl, (let same : Some (g x) ≡ Some y = at in cc))
image_at g (x ∷ xs) (suc i) y at = image_at g xs i y at

pub image_of : {X Y : Type 0} (g : X → Y) (xs : List X) (i : ℕ) (x : X) → slice_get xs i ≡ Some x → slice_get (map g xs) i ≡ Some (g x)
image_of g [] i x at = absurd (let no : None ≡ Some x = at in cc)
image_of g (y ∷ xs) zero x at = (let same : Some y ≡ Some x = at in let is : y ≡ x = cc in ap (λ z. Some (g z)) is)
image_of g (y ∷ xs) (suc i) x at = image_of g xs i x at

pub image_push : {X Y : Type 0} (g : X → Y) (xs : List X) (x : X) → map g (xs ++ x ∷ []) ≡ map g xs ++ g x ∷ []
image_push g [] x = refl
image_push g (y ∷ xs) x = ap (λ zs. g y ∷ zs) (image_push g xs x)

width_fits : (family : Family) → width family ≤ 128
width_fits V4 = omega arith
width_fits V6 = omega arith

-- a tree more
pub tree_more : (f : Fixed) (ases : List ℕ) (trees : List PrefixTree) (one : PrefixTree) → ((i : ℕ) (x : PrefixTree) → slice_get trees i ≡ Some x → IsTreeFor f ases x) → IsTreeFor f ases one → (i : ℕ) (x : PrefixTree) → slice_get (trees ++ one ∷ []) i ≡ Some x → IsTreeFor f ases x
tree_more f ases trees one each this i x at = elim (pushed trees one i x at) [
  | inl old ↦ each i x old
  | inr new ↦ subst (IsTreeFor f ases) new.1 this
]

-- where all prefixes are through, the trees are those of the plan
pub trees_done : (f : Fixed) (ases : List ℕ) (sorted : List PrefixValue) (trees : List PrefixTree) → IsPermutation (prefixes_of f.plan) sorted → IsNonDecreasingBy (λ p. 255 - p.len) sorted
    → ((i : ℕ) (one : PrefixTree) → slice_get trees i ≡ Some one → IsTreeFor f ases one) → map (λ t. t.prefix) trees ≡ sorted → AreTreesFor f ases trees
trees_done f ases sorted trees same falls each are = record {
  each = each;
  whole = λ p known.
      let (place, there) = listed f.plan p known in
      let (k, less, at) = Contains-permutation (prefixes_of f.plan) sorted p same (place, slice_get_within (prefixes_of f.plan) place p there, get_or_from_slice_get (prefixes_of f.plan) place p p there) in
      let stands : slice_get (map (λ (t : PrefixTree). t.prefix) trees) k ≡ Some p = ap (λ xs. slice_get xs k) are ∙ slice_get-get_or sorted k p less ∙ ap Some at in
      let (one, one_at, named) = image_at (λ (t : PrefixTree). t.prefix) trees k p stands in
      (k, one, one_at, named);
  falling = λ i j x y low at there.
      let x_at : slice_get sorted i ≡ Some x.prefix = ap (λ xs. slice_get xs i) (sym are) ∙ image_of (λ (t : PrefixTree). t.prefix) trees i x at in
      let y_at : slice_get sorted j ≡ Some y.prefix = ap (λ xs. slice_get xs j) (sym are) ∙ image_of (λ (t : PrefixTree). t.prefix) trees j y there in
      let within : j < length sorted = slice_get_within sorted j y.prefix y_at in
      let order : 255 - (get_or sorted i x.prefix).len ≤ 255 - (get_or sorted j x.prefix).len = falls i j x.prefix (omega (arith, low)) within in
      let x_is : (get_or sorted i x.prefix).len ≡ x.prefix.len = ap (λ (p : PrefixValue). p.len) (get_or_from_slice_get sorted i x.prefix x.prefix x_at) in
      let y_is : (get_or sorted j x.prefix).len ≡ y.prefix.len = ap (λ (p : PrefixValue). p.len) (get_or_from_slice_get sorted j y.prefix x.prefix y_at) in
      let y_short : y.prefix.len ≤ width y.prefix.family = (each j y there).sound.short in
      let y_fits : width y.prefix.family ≤ 128 = width_fits y.prefix.family in
      omega (arith, order, x_is, y_is, y_short, y_fits);
}
