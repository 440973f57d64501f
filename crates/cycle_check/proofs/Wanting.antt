-- To which neighbours a search goes.
use Rattle.std.proofs.Common.{◌≡◌, ◌≢◌, inl, inr, ℕ, zero, suc, ◌+◌, ◌<◌, ◌≤◌, Bool, true, false, cond, ◌&&◌, ◌||◌, not, ◌==◌, nat_eq, Option, None, Some, option_map, is_some, List, [], ◌∷◌, length, get_or, refl, sym, ◌∙◌, ap, subst, arith, All}
use Rattle.std.proofs.lemmas.Bool.{cases_Bool, cases_eq, or_cases, or_left, or_right, or_parts, eqb-true, eq-eqb, true≢false, false_from_ne_true}
use Rattle.std.proofs.lemmas.List.{length-map}
use Rattle.std.specs.List.{IsDistinct as AreApart}
use Rattle.std.specs.Option.{option_map_or}
use Rattle.std.specs.Map.{keys_of}
use Rattle.std.proofs.lemmas.Map.Keys.{IsDistinct-tail}
use Rattle.net_names.specs.declared.routes.Rel.{Rel}
use Rattle.net_names.specs.declared.routes.Rel.TheVariants.{Customer, Peer, Provider}
use Rattle.net_names.specs.Links.{converse}
use Rattle.net_names.specs.Numbers.{occurs}
use Rattle.as_graph.specs.declared.neighbour.Neighbour.{Neighbour}
use Rattle.as_graph.specs.Topology.{Topology, relation, has, as_count}
use Rattle.as_graph.specs.Edits.{without_link}
use Rattle.as_graph.specs.Neighbours.{asns, AreNeighbours}
use Rattle.as_graph.specs.Rows.{blank}
use Rattle.as_graph.proofs.EditsLemmas.{links_are_sound_lem}
use Rattle.as_graph.proofs.TakenLinks.{links_are_taken_lem}
use Rattle.as_graph.proofs.EditedAses.{ases_are_kept_lem}
use Rattle.as_graph.proofs.RowAses.{length-le-as_count}
use Rattle.cycle_check.specs.Cycles.{without_pair}
use Rattle.cycle_check.specs.Searches.{toward, is_wanted, is_pair, reached_at, from_at, is_reached, gains, gains_wanted, AreReached, GoesOn}
use Rattle.cycle_check.proofs.Reaching.{gains_it, gains_keeps, goes_further}
use Rattle.std.proofs.lemmas.Bool.{and_parts as both_true, and_from as both_same, not-true as not_true}

some_some : (o : Option Rel) (r s : Rel) → o ≡ Some r → o ≡ Some s → r ≡ s
some_some o r s e f = ap (λ (t : Option Rel). option_map_or (λ x. x) t r) (sym e ∙ f)

none_or : (o : Option Rel) (r : Rel) → o ≡ None → o ≡ Some r → ⊥
none_or o r e f = absurd_by (sym e ∙ f)
  where
    absurd_by : None ≡ Some r → ⊥
    absurd_by e = cc

-- the search goes to the neighbour at a place
abbrev pub is_wanted_at : Bool → ℕ → ℕ → ℕ → List Neighbour → ℕ → Bool
is_wanted_at up p c a ns k = is_wanted up (get_or ns k blank).rel && not (is_pair p c a (get_or ns k blank).asn)

module _ (g : Topology) (p c a : ℕ) where
  not_pair : (y : ℕ) → is_pair p c a y ≡ false → ((a ≡ p) × (y ≡ c) → ⊥) × ((a ≡ c) × (y ≡ p) → ⊥)
  not_pair y h =
      let parts = or_parts (a == p && y == c) (a == c && y == p) h in (
        λ e. true≢false (sym (both_same (a == p) (y == c) (eq-eqb a p e.0) (eq-eqb y c e.1)) ∙ parts.0),
        λ e. true≢false (sym (both_same (a == c) (y == p) (eq-eqb a c e.0) (eq-eqb y p e.1)) ∙ parts.1),
      )

  same_there : (y : ℕ) → is_pair p c a y ≡ false → without_pair g p c a y ≡ relation g a y
  same_there y h = let n = not_pair y h in links_are_taken_lem.others g p c a y n.0 n.1

  -- a link that is left is not the pair's
  other_pair : (y : ℕ) (r : Rel) → without_pair g p c a y ≡ Some r → is_pair p c a y ≡ false
  other_pair y r h = false_from_ne_true (is_pair p c a y) (λ e. elim (or_cases (a == p && y == c) (a == c && y == p) e) [
    | inl t ↦ let q = both_true (a == p) (y == c) t in none_or _ r (links_are_taken_lem.at g p c) ((λ i. without_pair g p c (sym (eqb-true a p q.0) i) (sym (eqb-true y c q.1) i)) ∙ h)
    | inr t ↦ let q = both_true (a == c) (y == p) t in none_or _ r (links_are_taken_lem.back g p c) ((λ i. without_pair g p c (sym (eqb-true a c q.0) i) (sym (eqb-true y p q.1) i)) ∙ h)
  ])

  turned : (x y : ℕ) → without_pair g p c y x ≡ option_map converse (without_pair g p c x y)
  turned x y = links_are_sound_lem.alike (without_link g p c) x y

  -- a wanted neighbour is one to which the search goes
  pub wanted_link : (up : Bool) (y : ℕ) (rel : Rel) → relation g a y ≡ Some rel → is_wanted up rel ≡ true → is_pair p c a y ≡ false → toward up (without_pair g p c) y a ≡ Some Customer
  wanted_link true y Provider h w n = turned a y ∙ ap (option_map converse) (same_there y n ∙ h)
  wanted_link true y Customer h w n = cc
  wanted_link true y Peer h w n = cc
  wanted_link false y Customer h w n = same_there y n ∙ h
  wanted_link false y Provider h w n = cc
  wanted_link false y Peer h w n = cc

  abbrev IsWanted : Bool → ℕ → Type 0
  IsWanted up y = (r : Rel) × (relation g a y ≡ Some r) × (is_wanted up r ≡ true) × (is_pair p c a y ≡ false)

  -- and each to which it goes is wanted
  wanted_is : (up : Bool) (y : ℕ) → toward up (without_pair g p c) y a ≡ Some Customer → IsWanted up y
  wanted_is true y h =
      let there : without_pair g p c a y ≡ Some Provider = turned y a ∙ ap (option_map converse) h in
      let n = other_pair y Provider there in
      (Provider, sym (same_there y n) ∙ there, refl, n)
  wanted_is false y h = let n = other_pair y Customer h in (Customer, sym (same_there y n) ∙ h, refl, n)

  place_of : (ns : List Neighbour) (y : ℕ) → occurs y (asns ns) ≡ true → (k : ℕ) × (k < length ns) × ((get_or ns k blank).asn ≡ y)
  place_of [] y h = cc
  place_of (n ∷ ns) y h = elim (or_cases (n.asn == y) (occurs y (asns ns)) h) [
    | inl e ↦ (0, omega arith, eqb-true n.asn y e)
    | inr e ↦ let q = place_of ns y e in (suc q.0, omega (arith, q.1), q.2)
  ]

  -- where all wanted neighbours are reached, all are to which the search goes
  pub all_met : (up : Bool) (ns : List Neighbour) (es : List (ℕ × ℕ)) → AreNeighbours (relation g) a ns →
      ((k : ℕ) → k < length ns → (is_wanted up (get_or ns k blank).rel && not (is_pair p c a (get_or ns k blank).asn)) ≡ true → is_reached es (get_or ns k blank).asn ≡ true) →
      (y : ℕ) → toward up (without_pair g p c) y a ≡ Some Customer → is_reached es y ≡ true
  all_met up ns es are met y h =
      let (r, is, wanted, other) = wanted_is up y h in
      let (k, inside, here) = place_of ns y (are.complete y r is) in
      let rel : (get_or ns k blank).rel ≡ r = some_some (relation g a (get_or ns k blank).asn) (get_or ns k blank).rel r (are.each k blank inside) (ap (relation g a) here ∙ is) in
      ap (is_reached es) (sym here) ∙ met k inside (both_same _ _ (ap (is_wanted up) rel ∙ wanted) (ap (λ t. not (is_pair p c a t)) here ∙ ap not other))

-- one more neighbour is looked at
module _ (g : Topology) (p c : ℕ) (up : Bool) (a from : ℕ) (old es new : List (ℕ × ℕ)) (ns : List Neighbour) (are : AreNeighbours (relation g) a ns) (k : ℕ) (inside : k < length ns) (is : new ≡ gains_wanted up p c a from es (get_or ns k blank)) where
  pub goes_more : GoesOn (toward up (without_pair g p c)) a from old es → GoesOn (toward up (without_pair g p c)) a from old new
  goes_more on = subst (GoesOn (toward up (without_pair g p c)) a from old) (sym is) (elim (cases_Bool (is_wanted up (get_or ns k blank).rel && not (is_pair p c a (get_or ns k blank).asn))) [
    | inl t ↦
        let both = both_true _ _ t in
        subst (λ b. GoesOn (toward up (without_pair g p c)) a from old (cond b (gains es (get_or ns k blank).asn from) es)) (sym t)
        (goes_further (toward up (without_pair g p c)) a from old es (get_or ns k blank).asn on (wanted_link g p c a up (get_or ns k blank).asn (get_or ns k blank).rel (are.each k blank inside) both.0 (not_true _ both.1)))
    | inr f ↦ subst (λ b. GoesOn (toward up (without_pair g p c)) a from old (cond b (gains es (get_or ns k blank).asn from) es)) (sym f) on
  ])

  pub met_more : ((j : ℕ) → j < k → is_wanted_at up p c a ns j ≡ true → is_reached es (get_or ns j blank).asn ≡ true) → (j : ℕ) → j < k + 1 → is_wanted_at up p c a ns j ≡ true → is_reached new (get_or ns j blank).asn ≡ true
  met_more met j l t = ap (λ e. is_reached e (get_or ns j blank).asn) is ∙ elim (cases_eq j k) [
    | inl e ↦
        let here : is_wanted_at up p c a ns k ≡ true = ap (is_wanted_at up p c a ns) (sym e) ∙ t in
        ap (λ b. is_reached (cond b (gains es (get_or ns k blank).asn from) es) (get_or ns j blank).asn) here ∙ ap (λ i. is_reached (gains es (get_or ns k blank).asn from) (get_or ns i blank).asn) e ∙ gains_it es (get_or ns k blank).asn from
    | inr ne ↦ stay (is_wanted_at up p c a ns k) (get_or ns j blank).asn (met j (omega (arith, l, ne)) t)
  ]
    where
      stay : (b : Bool) (y : ℕ) → is_reached es y ≡ true → is_reached (cond b (gains es (get_or ns k blank).asn from) es) y ≡ true
      stay true y h = gains_keeps es (get_or ns k blank).asn from y h
      stay false y h = h

-- ---- how many there are

module _ (g : Topology) (p c : ℕ) where
  has_link : (up : Bool) (x y : ℕ) → toward up (without_pair g p c) x y ≡ Some Customer → has g x ≡ true
  has_link true x y h = ases_are_kept_lem.unlinked g p c x (links_are_sound_lem.ends (without_link g p c) y x (converse Customer) (links_are_sound_lem.alike (without_link g p c) x y ∙ ap (option_map converse) h))
  has_link false x y h = ases_are_kept_lem.unlinked g p c x (links_are_sound_lem.ends (without_link g p c) y x Customer h)

  key_place : (es : List (ℕ × ℕ)) (x : ℕ) → occurs x (keys_of es) ≡ true → (i : ℕ) × (i < length es) × (reached_at es i ≡ x)
  key_place [] x h = cc
  key_place (e ∷ es) x h = elim (or_cases (e.0 == x) (occurs x (keys_of es)) h) [
    | inl is ↦ (0, omega arith, eqb-true e.0 x is)
    | inr more ↦ let q = key_place es x more in (suc q.0, omega (arith, q.1), q.2)
  ]

  -- a search reaches no more than the ASes of the graph and its start
  pub few_reached : (up : Bool) (start : ℕ) (es : List (ℕ × ℕ)) → AreReached (toward up (without_pair g p c)) start es → AreApart nat_eq (keys_of es) → length es ≤ as_count g + 1
  few_reached up start [] r d = omega arith
  few_reached up start (e ∷ es) r d =
      let few : length (keys_of es) ≤ as_count g = length-le-as_count g (keys_of es) (IsDistinct-tail nat_eq e.0 (keys_of es) d) (λ x h.
      let (i, inside, is) = key_place es x h in
      ap (has g) (sym is) ∙ has_link up (reached_at es i) (reached_at (e ∷ es) (from_at (e ∷ es) (suc i))) (r.linked (suc i) (omega arith) (omega (arith, inside)))) in
      let count : length (keys_of es) ≡ length es = length-map es (λ e. e.0) in
      omega (arith, few, count)
