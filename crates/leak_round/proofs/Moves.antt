-- Entries that get paths in another pool, one by one.
use Rattle.std.proofs.Common.{◌≡◌, ◌≢◌, inl, inr, ℕ, zero, suc, ◌+◌, ◌<◌, ◌≤◌, true, false, Option, Some, None, option_map, unwrap_or, List, [], ◌∷◌, length, refl, sym, ap, subst, ◌∙◌, arith}
use Rattle.std.specs.Prelude.{IsSome, is_some, slice_get}
use Rattle.std.specs.List.Sorted.{IsNonDecreasingBy}
use Rattle.std.proofs.lemmas.Bool.{cases_eq, cases_lt}
use Rattle.std.proofs.lemmas.Option.{slice_get_within, slice_get-map, get_or_from_slice_get}
use Rattle.net_names.specs.Numbers.{occurs, IsDistinct}
use Rattle.path_pool.specs.declared.pool.PathPool.{PathPool}
use Rattle.path_pool.specs.Pool.{IsLive, list_of, holds_of, spare_of}
use Rattle.stability_laws.specs.declared.entry.Entry.{Entry}
use Rattle.stability_laws.proofs.Listing.{at_occurs, occurs_at}
use Rattle.route_choice.specs.declared.held.Held.{Held}
use Rattle.route_choice.specs.declared.held.SeedHeld.{SeedHeld}
use Rattle.route_choice.specs.declared.overlay.Overlay.{Overlay}
use Rattle.route_choice.specs.declared.seeds.SeedIds.{SeedIds}
use Rattle.route_choice.specs.Resources.{AreSeedsLive}
use Rattle.route_choice.specs.Routings.{entry_of, seed_of, seeds_of}
use Rattle.route_choice.specs.Tables.{change_at, overlay_uses, seed_at}
use Rattle.leak_round.specs.declared.holders.Holder.{Holder}
use Rattle.leak_round.specs.Growth.{KeepsPaths, GrowsBy}
use Rattle.leak_round.specs.Moved.{asns_of, AreHolders, ArePassedOn, ComesFrom, HasSource}
use Rattle.leak_round.proofs.Keeping.{keeps_itself, keeps_on, grows_on}

-- what the overlay has of an AS, with its path
abbrev pub held_in : PathPool → Overlay → ℕ → Option Entry
held_in pool made a = option_map (entry_of pool) (unwrap_or (change_at made a) None)

-- the first n of the holders stand in the overlay, and no other AS
pub record AreMoved (f : ℕ → Option Entry) (xs : List Holder) (first pool : PathPool) (made : Overlay) (n : ℕ) : Type 0 where
  pub keeps : KeepsPaths first pool
  pub grows : GrowsBy first pool n
  pub spare : length xs ≤ spare_of pool + n
  pub holds : (k : ℕ) → holds_of pool k ≡ holds_of first k + overlay_uses made k
  pub done : (i : ℕ) (x : Holder) → i < n → slice_get xs i ≡ Some x → held_in pool made x.asn ≡ f x.asn
  pub rest : (a : ℕ) → ((i : ℕ) (x : Holder) → i < n → slice_get xs i ≡ Some x → x.asn ≢ a) → unwrap_or (change_at made a) None ≡ None
  pub places : (a : ℕ) → occurs a (asns_of xs) ≡ true → IsSome (change_at made a)
  pub live : (a : ℕ) (h : Held) → change_at made a ≡ Some (Some h) → IsLive pool h.path.0

-- the place of an AS among the holders
pub holder_of : (xs : List Holder) (a : ℕ) → occurs a (asns_of xs) ≡ true → (i : ℕ) × (x : Holder) × (slice_get xs i ≡ Some x) × (x.asn ≡ a)
holder_of xs a o = let (i, is) = at_occurs (asns_of xs) a o in by xs i is
  where
    by : (ys : List Holder) (i : ℕ) → slice_get (asns_of ys) i ≡ Some a → (j : ℕ) × (x : Holder) × (slice_get ys j ≡ Some x) × (x.asn ≡ a)
    by [] i is = cc
    by (y ∷ ys) zero is = (0, y, refl, (let same : y.asn ≡ a = cc in same))
    by (y ∷ ys) (suc i) is = let (j, x, at, same) = by ys i is in (suc j, x, at, same)

asn_occurs : (xs : List Holder) (i : ℕ) (x : Holder) → slice_get xs i ≡ Some x → occurs x.asn (asns_of xs) ≡ true
asn_occurs xs i x at = occurs_at (asns_of xs) i x.asn (slice_get-map (λ (y : Holder). y.asn) xs i ∙ ap (option_map (λ (y : Holder). y.asn)) at)

-- holders at two places are two ASes
holders_apart : (xs : List Holder) → IsDistinct (asns_of xs) → (i j : ℕ) (x y : Holder) → i < j → slice_get xs i ≡ Some x → slice_get xs j ≡ Some y → x.asn ≢ y.asn
holders_apart [] d i j x y less at at' = cc
holders_apart (z ∷ zs) d i zero x y less at at' = absurd (omega (arith, less))
holders_apart (z ∷ zs) d zero (suc j) x y less at at' = λ same.
    (let here : z ≡ x = cc in
    let o : occurs y.asn (asns_of zs) ≡ true = asn_occurs zs j y at' in
    let t : occurs z.asn (asns_of zs) ≡ true = subst (λ a. occurs a (asns_of zs) ≡ true) (sym same ∙ ap (λ (w : Holder). w.asn) (sym here)) o in
    let f : occurs z.asn (asns_of zs) ≡ false = d.0 in cc)
holders_apart (z ∷ zs) d (suc i) (suc j) x y less at at' = holders_apart zs d.1 i j x y (omega (arith, less)) at at'

some_same : {X : Type 0} (x y : X) → Some x ≡ Some y → x ≡ y
some_same x y e = cc

is_change : (c : Option (Option Held)) (h : Held) → unwrap_or c None ≡ Some h → c ≡ Some (Some h)
is_change None h e = cc
is_change (Some o) h e = ap (λ x. Some x) e

no_change : (c : Option (Option Held)) → IsSome c → unwrap_or c None ≡ None → c ≡ Some None
no_change None h e = cc
no_change (Some o) h e = ap (λ x. Some x) e

module _ (f : ℕ → Option Entry) (xs : List Holder) (holders : AreHolders f xs) (first pool : PathPool) (made : Overlay) (n : ℕ) (so_far : AreMoved f xs first pool made n) where
  module _ (x : Holder) (at : slice_get xs n ≡ Some x) where
    -- the next AS has no entry yet
    pub no_entry : change_at made x.asn ≡ Some None
    no_entry = no_change (change_at made x.asn) (so_far.places x.asn (asn_occurs xs n x at)) (so_far.rest x.asn (λ i y less at'. holders_apart xs holders.apart i n y x less at' at))

    pub holds_some : IsSome (f x.asn)
    holds_some = let (e, is, long) = holders.entries n x at in ap is_some is

    -- what its path comes from is there
    pub has_source : IsNonDecreasingBy (λ (y : Holder). y.length) xs → (seeds : SeedIds) → AreSeedsLive first seeds → ArePassedOn (seeds_of first seeds) f → (e : Entry) → f x.asn ≡ Some e → HasSource pool made (seed_at seeds x.asn) x.asn e.path
    has_source rising seeds seeds_live passed_on e is = by (seed_at seeds x.asn) refl (passed_on x.asn e is)
      where
        earlier : (j : ℕ) (y : Holder) (d : Entry) → slice_get xs j ≡ Some y → f y.asn ≡ Some d → length e.path ≡ suc (length d.path) → j < n
        earlier j y d at' held longer = elim (cases_lt j n) [
          | inl less ↦ less
          | inr more ↦
              let (d', held', long') = holders.entries j y at' in
              let (e', is', long) = holders.entries n x at in
              let one : length d'.path ≡ length d.path = ap (λ (z : Entry). length z.path) (some_same d' d (sym held' ∙ held)) in
              let two : length e'.path ≡ length e.path = ap (λ (z : Entry). length z.path) (some_same e' e (sym is' ∙ is)) in
              let rise = rising n j x more (slice_get_within xs j y at') in
              let here = ap (λ (z : Holder). z.length) (get_or_from_slice_get xs n x x at) in
              let there = ap (λ (z : Holder). z.length) (get_or_from_slice_get xs j y x at') in
              absurd (omega (arith, rise, here, there, one, two, long, long', longer))
        ]

        of_second : (m : ℕ) (d : Entry) (o : Option Held) → unwrap_or (change_at made m) None ≡ o → option_map (entry_of pool) o ≡ Some d → e.path ≡ x.asn ∷ d.path → slice_get d.path 0 ≡ Some m → HasSource pool made None x.asn e.path
        of_second m d None c held path starts = cc
        of_second m d (Some h) c held path starts =
            let change = is_change (change_at made m) h c in
            let list : list_of pool h.path.0 ≡ d.path = ap (λ (z : Entry). z.path) (some_same (entry_of pool h) d held) in
            (m, h, change, so_far.live m h change, path ∙ ap (λ (l : List ℕ). x.asn ∷ l) (sym list), ap (λ (l : List ℕ). slice_get l 0) list ∙ starts)

        by : (s : Option SeedHeld) → seed_at seeds x.asn ≡ s → ComesFrom (option_map (seed_of first) s) f x.asn e.path → HasSource pool made s x.asn e.path
        by (Some s) q from = let l = seeds_live x.asn s q in (so_far.keeps.live s.path.0 l, from ∙ sym (so_far.keeps.lists s.path.0 l))
        by None q (m, d, held, path, starts) =
            let (j, y, at', same) = holder_of xs m (holders.whole m (ap is_some held)) in
            let held' : f y.asn ≡ Some d = ap f same ∙ held in
            let less = earlier j y d at' held' (ap length path) in
            of_second m d (unwrap_or (change_at made m) None) refl (ap (held_in pool made) (sym same) ∙ so_far.done j y less at' ∙ held') path starts

    module _ (next : PathPool) (made' : Overlay) (entry : held_in next made' x.asn ≡ f x.asn) (live : (h : Held) → change_at made' x.asn ≡ Some (Some h) → IsLive next h.path.0) (there : IsSome (change_at made' x.asn))
        (others : (a : ℕ) → a ≢ x.asn → change_at made' a ≡ change_at made a) (holds : (k : ℕ) → holds_of next k + overlay_uses made k ≡ holds_of pool k + overlay_uses made' k) (keeps : KeepsPaths pool next) (grows : GrowsBy pool next 1) (spare : spare_of pool ≤ spare_of next + 1) where
      still : (a : ℕ) → a ≢ x.asn → held_in next made' a ≡ held_in pool made a
      still a ne = ap (λ c. option_map (entry_of next) (unwrap_or c None)) (others a ne) ∙ by (change_at made a) refl
        where
          by : (c : Option (Option Held)) → change_at made a ≡ c → option_map (entry_of next) (unwrap_or c None) ≡ option_map (entry_of pool) (unwrap_or c None)
          by None e = refl
          by (Some None) e = refl
          by (Some (Some h)) e = ap (λ (l : List ℕ). Some (record { class = h.class; path = l; otc = h.otc })) (keeps.lists h.path.0 (so_far.live a h e))

      -- one AS more is moved
      pub moved_next : AreMoved f xs first next made' (n + 1)
      moved_next = record {
        keeps = keeps_on first pool next so_far.keeps keeps;
        grows = grows_on first pool next n 1 (n + 1) so_far.grows grows refl;
        spare = omega (arith, so_far.spare, spare);
        holds = λ k. omega (arith, so_far.holds k, holds k);
        done = λ i y less at'. elim (cases_eq i n) [
          | inl same ↦ (let one : y ≡ x = some_same y x (sym at' ∙ ap (slice_get xs) same ∙ at) in subst (λ (z : Holder). held_in next made' z.asn ≡ f z.asn) (sym one) entry)
          | inr other ↦ (let before : i < n = omega (arith, less, other) in still y.asn (holders_apart xs holders.apart i n y x before at' at) ∙ so_far.done i y before at')
        ];
        rest = λ a none.
            (let ne : a ≢ x.asn = λ same. none n x (omega arith) at (sym same) in
            ap (λ c. unwrap_or c None) (others a ne) ∙ so_far.rest a (λ i y less at'. none i y (omega (arith, less)) at'));
        places = λ a o. elim (cases_eq a x.asn) [
          | inl same ↦ subst (λ b. IsSome (change_at made' b)) (sym same) there
          | inr ne ↦ subst IsSome (sym (others a ne)) (so_far.places a o)
        ];
        live = λ a h e. elim (cases_eq a x.asn) [
          | inl same ↦ live h (ap (change_at made') (sym same) ∙ e)
          | inr ne ↦ keeps.live h.path.0 (so_far.live a h (sym (others a ne) ∙ e))
        ];
      }

  -- all are moved
  pub all_moved : length xs ≤ n → (a : ℕ) → held_in pool made a ≡ f a
  all_moved end a = by (f a) refl
    where
      by : (o : Option Entry) → f a ≡ o → held_in pool made a ≡ o
      by (Some e) is =
          let (i, x, at, same) = holder_of xs a (holders.whole a (ap is_some is)) in
          let within : i < n = (let inside = slice_get_within xs i x at in omega (arith, inside, end)) in
          ap (held_in pool made) (sym same) ∙ so_far.done i x within at ∙ ap f same ∙ is
      by None is = ap (option_map (entry_of pool)) (so_far.rest a (λ i x less at same. (let (e, held, long) = holders.entries i x at in let both : None ≡ Some e = sym is ∙ ap f (sym same) ∙ held in cc)))

-- none is moved yet
pub none_moved : (f : ℕ → Option Entry) (xs : List Holder) (pool : PathPool) (made : Overlay) → length xs ≤ spare_of pool → ((k : ℕ) → overlay_uses made k ≡ 0) → ((a : ℕ) → unwrap_or (change_at made a) None ≡ None) → ((a : ℕ) → occurs a (asns_of xs) ≡ true → IsSome (change_at made a))
    → AreMoved f xs pool pool made 0
none_moved f xs pool made spare unused blank places = record {
  keeps = keeps_itself pool;
  grows = record { cells = omega arith; counts = λ k. omega arith; limit = refl };
  spare = omega (arith, spare);
  holds = λ k. omega (arith, unused k);
  done = λ i x less at. absurd (omega (arith, less));
  rest = λ a none. blank a;
  places = places;
  live = λ a h e. (let both : None ≡ Some h = sym (blank a) ∙ ap (λ c. unwrap_or c None) e in cc);
}
