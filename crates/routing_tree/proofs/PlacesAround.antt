-- Places of neighbours, one after the other.
use Rattle.std.proofs.Common.{◌≡◌, ◌≢◌, ◌⊎◌, inl, inr, ℕ, ◌+◌, ◌<◌, ◌++◌, ◌||◌, ◌==◌, true, Some, Option, List, [], ◌∷◌, length, slice_index, refl, sym, ◌∙◌, ap, subst, arith}
use Rattle.std.specs.Prelude.{All, slice_get}
use Rattle.std.proofs.lemmas.Bool.{cases_lt, eq-eqb, or_right}
use Rattle.std.proofs.lemmas.List.Elements.{All-append}
use Rattle.std.proofs.lemmas.Option.{slice_get_within, slice_get-get_or}
use Rattle.std.proofs.lemmas.List.Folds.{list_any-append}
use Rattle.net_names.specs.Numbers.{occurs}
use Rattle.net_names.specs.declared.routes.Rel.{Rel}
use Rattle.net_names.specs.declared.routes.Rel.TheVariants.{Customer, Peer, Provider}
use Rattle.as_graph.specs.declared.neighbour.Neighbour.{Neighbour}
use Rattle.three_pass.proofs.Elements.{all_more}
use Rattle.routing_tree.specs.declared.around.Around.{Around}
use Rattle.routing_tree.specs.declared.links.PlaceLists.{PlaceLists}
use Rattle.routing_tree.specs.declared.links.PlacedLinks.{PlacedLinks}
use Rattle.routing_tree.specs.Links.{AreLinksOf, ArePlacesOf, AreListsOf, HasLists, HasOneMore, IsPut, count_of, list_at, places_of}

same_or_not : (r s : Rel) → (r ≡ s) ⊎ (r ≢ s)
same_or_not Customer Customer = inl refl
same_or_not Customer Peer = inr (λ e. cc)
same_or_not Customer Provider = inr (λ e. cc)
same_or_not Peer Customer = inr (λ e. cc)
same_or_not Peer Peer = inl refl
same_or_not Peer Provider = inr (λ e. cc)
same_or_not Provider Customer = inr (λ e. cc)
same_or_not Provider Peer = inr (λ e. cc)
same_or_not Provider Provider = inl refl

-- the AS of a neighbour has a place, which stands among those of its kind
abbrev pub HasPlaceIn : List ℕ → Around → Neighbour → Type 0
HasPlaceIn ases around x = (j : ℕ) × (j < length ases) × (slice_index ases j ≡ x.asn) × (occurs j (places_of around x.rel) ≡ true)

-- ---- one more place around an AS

put_this : (old new : Around) (rel : Rel) (place : ℕ) → IsPut rel place old new → places_of new rel ≡ places_of old rel ++ place ∷ []
put_this old new Customer place put = put.0
put_this old new Peer place put = put.1
put_this old new Provider place put = put.2

put_others : (old new : Around) (rel : Rel) (place : ℕ) → IsPut rel place old new → (r : Rel) → r ≢ rel → places_of new r ≡ places_of old r
put_others old new Customer place put Customer ne = absurd (ne refl)
put_others old new Customer place put Peer ne = put.1
put_others old new Customer place put Provider ne = put.2
put_others old new Peer place put Customer ne = put.0
put_others old new Peer place put Peer ne = absurd (ne refl)
put_others old new Peer place put Provider ne = put.2
put_others old new Provider place put Customer ne = put.0
put_others old new Provider place put Peer ne = put.1
put_others old new Provider place put Provider ne = absurd (ne refl)

module _ (old new : Around) (rel : Rel) (place : ℕ) (put : IsPut rel place old new) where
  this : places_of new rel ≡ places_of old rel ++ place ∷ []
  this = put_this old new rel place put

  others : (r : Rel) → r ≢ rel → places_of new r ≡ places_of old r
  others = put_others old new rel place put

  split : (j : ℕ) → occurs j (places_of new rel) ≡ (occurs j (places_of old rel) || occurs j (place ∷ []))
  split j = ap (occurs j) this ∙ list_any-append (λ y. y == j) (places_of old rel) (place ∷ [])

  pub place_kept : (r : Rel) (j : ℕ) → occurs j (places_of old r) ≡ true → occurs j (places_of new r) ≡ true
  place_kept r j there = elim (same_or_not r rel) [
    | inl same ↦ ap (λ s. occurs j (places_of new s)) same ∙ split j ∙ ap (λ t. t || occurs j (place ∷ [])) (sym (ap (λ s. occurs j (places_of old s)) same) ∙ there)
    | inr ne ↦ ap (occurs j) (others r ne) ∙ there
  ]

  pub place_new : occurs place (places_of new rel) ≡ true
  place_new = split place ∙ or_right (occurs place (places_of old rel)) _ (ap (λ t. t || occurs place []) (eq-eqb place place refl))

  pub places_more : (P : Rel → ℕ → Type 0) → ((r : Rel) → All (P r) (places_of old r)) → P rel place → (r : Rel) → All (P r) (places_of new r)
  places_more P all here r = elim (same_or_not r rel) [
    | inl same ↦ subst (λ s. All (P s) (places_of new s)) (sym same) (all_more (P rel) (places_of old rel) (places_of new rel) place this (all rel) here)
    | inr ne ↦ subst (All (P r)) (sym (others r ne)) (all r)
  ]

-- ---- one more list

pub lists_more : (relation : ℕ → ℕ → Option Rel) (ases : List ℕ) (r : Rel) (n : ℕ) (old new : PlaceLists) (list : List ℕ) → AreListsOf relation ases r n old → HasOneMore old new list → ArePlacesOf relation ases (slice_index ases n) r list → AreListsOf relation ases r (n + 1) new
lists_more relation ases r n old new list lists more places = record {
  count = more.count ∙ ap (λ m. m + 1) lists.count;
  each = λ k less. elim (cases_lt k n) [
    | inl before ↦ subst (ArePlacesOf relation ases (slice_index ases k) r) (sym (more.others k (omega (arith, before, lists.count)))) (lists.each k before)
    | inr past ↦ (let same : n ≡ k = omega (arith, less, past) in
        let is : list ≡ list_at new n = sym more.this ∙ ap (list_at new) lists.count in
        subst (λ m. ArePlacesOf relation ases (slice_index ases m) r (list_at new m)) same (subst (ArePlacesOf relation ases (slice_index ases n) r) is places))
  ];
  inside = subst (All (λ j. j < length ases)) (sym more.items) (All-append (λ j. j < length ases) old.items.items list lists.inside (λ k d less. (places.each k d less).0));
}

pub no_lists : (relation : ℕ → ℕ → Option Rel) (ases : List ℕ) (r : Rel) (l : PlaceLists) → count_of l ≡ 0 → All (λ j. j < 0) l.items.items → AreListsOf relation ases r 0 l
no_lists relation ases r l count none = record {
  count = count;
  each = λ k less. absurd (omega (arith, less));
  inside = λ k d less. absurd (omega (arith, none k d less));
}

-- nothing stands in an empty list
pub none_there : (P : ℕ → Type 0) (xs : List ℕ) → xs ≡ [] → All P xs
none_there P xs empty k d less = absurd (omega (arith, less, ap length empty))

pub stands_at : (ases : List ℕ) (j a : ℕ) → slice_get ases j ≡ Some a → (j < length ases) × (slice_index ases j ≡ a)
stands_at ases j a there =
    let inside = slice_get_within ases j a there in
    let is : Some (slice_index ases j) ≡ Some a = sym (slice_get-get_or ases j 0 inside) ∙ there in
    (inside, cc)

pub cleared : (around : Around) → around.customers.items ≡ [] → around.peers.items ≡ [] → around.providers.items ≡ [] → (r : Rel) → places_of around r ≡ []
cleared around customers peers providers Customer = customers
cleared around customers peers providers Peer = peers
cleared around customers peers providers Provider = providers

module _ (relation : ℕ → ℕ → Option Rel) (ases : List ℕ) (n : ℕ) (l : PlacedLinks) (all : n ≡ length ases) (customers : AreListsOf relation ases Customer n l.customers) (peers : AreListsOf relation ases Peer n l.peers) (providers : AreListsOf relation ases Provider n l.providers) where
  pub all_links : AreLinksOf relation ases l
  all_links = record {
    customer_count = customers.count ∙ all;
    peer_count = peers.count ∙ all;
    provider_count = providers.count ∙ all;
    customers = λ k less. customers.each k (omega (arith, less, all));
    peers = λ k less. peers.each k (omega (arith, less, all));
    providers = λ k less. providers.each k (omega (arith, less, all));
  }

  pub all_lists : HasLists (length ases) l
  all_lists = record {
    customer_count = customers.count ∙ all;
    peer_count = peers.count ∙ all;
    provider_count = providers.count ∙ all;
    customers = customers.inside;
    peers = peers.inside;
    providers = providers.inside;
  }
