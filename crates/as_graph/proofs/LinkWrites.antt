-- What a link that is set or taken away at both its ends changes.
use Rattle.std.proofs.Common.{◌≡◌, ◌≢◌, ◌⊎◌, ◌≤◌, inl, inr, ℕ, true, nat_eq, Option, None, option_map, refl, sym, ◌∙◌, ap, subst, arith}
use Rattle.std.proofs.lemmas.Bool.{cases_eq}
use Rattle.indexmap.specs.IndexMap.{get}
use Rattle.net_names.specs.declared.routes.Rel.{Rel}
use Rattle.net_names.specs.Links.{converse}
use Rattle.as_graph.specs.Rows.{rel_in}
use Rattle.as_graph.specs.Graphs.{Rows, rel_of, is_marked, IsGraph}
use Rattle.as_graph.specs.Writes.{has_room_at, HasRoomFor, IsRoomy, SetsEnd, SetsLink}
use Rattle.as_graph.proofs.Links.{twice}
use Rattle.as_graph.proofs.RowLinks.{items_at}
use Rattle.as_graph.proofs.RowAses.{mark_at}
use Rattle.as_graph.proofs.RowWrites.{room_of}

rel_kept : (m n : Rows) (j k : ℕ) → get nat_eq n j ≡ get nat_eq m j → rel_of n j k ≡ rel_of m j k
rel_kept m n j k e = ap (λ o. rel_in (items_at o) k) e

-- a link that is there joins two ASes
pub linked_apart : (m : Rows) (a b : ℕ) → IsGraph m → rel_of m a b ≢ None → a ≢ b
linked_apart m a b graph some e = some (ap (λ k. rel_of m a k) (sym e) ∙ graph.apart a)

-- both ends are set
module _ (l m n : Rows) (a b : ℕ) (rel : Option Rel) (ne : a ≢ b) (graph : IsGraph l) (one : SetsEnd l m a b rel) (two : SetsEnd m n b a (option_map converse rel)) where
  this : rel_of n a b ≡ rel
  this = rel_kept m n a b (two.rows a ne) ∙ one.this

  others : (j k : ℕ) → ((j ≡ a) × (k ≡ b) → ⊥) → ((j ≡ b) × (k ≡ a) → ⊥) → rel_of n j k ≡ rel_of l j k
  others j k x y = elim (cases_eq j a) [
    | inl ja ↦
        let kb : k ≢ b = λ e. x (ja, e) in
        rel_kept m n j k (two.rows j (λ e. ne (sym ja ∙ e))) ∙ subst (λ i. rel_of m i k ≡ rel_of l i k) (sym ja) (one.others k kb)
    | inr na ↦
        let first : rel_of m j k ≡ rel_of l j k = rel_kept l m j k (one.rows j na) in
        elim (cases_eq j b) [
          | inl jb ↦
              let ka : k ≢ a = λ e. y (jb, e) in
              subst (λ i. rel_of n i k ≡ rel_of m i k) (sym jb) (two.others k ka) ∙ first
          | inr nb ↦ rel_kept m n j k (two.rows j nb) ∙ first
        ]
  ]

  back : rel_of n b a ≡ option_map converse rel
  back = two.this

  turned : (j k : ℕ) → ((j ≡ a) × (k ≡ b) → ⊥) → ((j ≡ b) × (k ≡ a) → ⊥) → rel_of n k j ≡ option_map converse (rel_of n j k)
  turned j k x y = others k j (λ p. y (p.1, p.0)) (λ p. x (p.1, p.0)) ∙ graph.alike j k ∙ sym (ap (option_map converse) (others j k x y))

  alike : (j k : ℕ) → rel_of n k j ≡ option_map converse (rel_of n j k)
  alike j k = elim (cases_eq j a) [
    | inl ja ↦ elim (cases_eq k b) [
      | inl kb ↦ subst (λ x. rel_of n k x ≡ option_map converse (rel_of n x k)) (sym ja) (subst (λ y. rel_of n y a ≡ option_map converse (rel_of n a y)) (sym kb) (back ∙ sym (ap (option_map converse) this)))
      | inr nkb ↦ turned j k (λ p. nkb p.1) (λ p. ne (sym ja ∙ p.0))
    ]
    | inr nja ↦ elim (cases_eq j b) [
      | inl jb ↦ elim (cases_eq k a) [
        | inl ka ↦ subst (λ x. rel_of n k x ≡ option_map converse (rel_of n x k)) (sym jb) (subst (λ y. rel_of n y b ≡ option_map converse (rel_of n b y)) (sym ka) (this ∙ twice rel ∙ sym (ap (option_map converse) back)))
        | inr nka ↦ turned j k (λ p. nja p.0) (λ p. nka p.1)
      ]
      | inr njb ↦ turned j k (λ p. nja p.0) (λ p. njb p.0)
    ]
  ]

  marks : (j : ℕ) → is_marked n j ≡ is_marked l j
  marks j = elim (cases_eq j a) [
    | inl ja ↦ ap mark_at (two.rows j (λ e. ne (sym ja ∙ e))) ∙ subst (λ i. is_marked m i ≡ is_marked l i) (sym ja) one.mark
    | inr na ↦
        let first : is_marked m j ≡ is_marked l j = ap mark_at (one.rows j na) in
        elim (cases_eq j b) [
          | inl jb ↦ subst (λ i. is_marked n i ≡ is_marked m i) (sym jb) two.mark ∙ first
          | inr nb ↦ ap mark_at (two.rows j nb) ∙ first
        ]
  ]

  pub both_ends : SetsLink l n a b rel
  both_ends = record {
    graph = record { unique = two.unique; alike = alike; apart = λ j. others j j (λ p. ne (sym p.0 ∙ p.1)) (λ p. ne (sym p.1 ∙ p.0)) ∙ graph.apart j };
    count = two.count ∙ one.count;
    this = this;
    others = others;
    marks = marks;
    rows = λ j na nb. two.rows j nb ∙ one.rows j na;
  }

-- without the link of a pair, the rows of the pair have room, and all others what they had
module _ (l n : Rows) (a b : ℕ) (sets : SetsLink l n a b None) (first : has_room_at n a ≡ true) (second : has_room_at n b ≡ true) where
  room_left : (x y : ℕ) → HasRoomFor l x y → HasRoomFor n x y
  room_left x y had none = (at x (inl refl), at y (inr refl))
    where
      -- an AS of the pair has room, any other what it had
      before : (z : ℕ) → z ≢ a → z ≢ b → (z ≡ x) ⊎ (z ≡ y) → (has_room_at l x ≡ true) × (has_room_at l y ≡ true)
      before z na nb (inl e) = had (sym (sets.others x y (λ p. na (e ∙ p.0)) (λ p. nb (e ∙ p.0))) ∙ none)
      before z na nb (inr e) = had (sym (sets.others x y (λ p. nb (e ∙ p.1)) (λ p. na (e ∙ p.1))) ∙ none)

      of : (z : ℕ) → z ≢ a → z ≢ b → (z ≡ x) ⊎ (z ≡ y) → has_room_at l z ≡ true
      of z na nb (inl e) = ap (has_room_at l) e ∙ (before z na nb (inl e)).0
      of z na nb (inr e) = ap (has_room_at l) e ∙ (before z na nb (inr e)).1

      at : (z : ℕ) → (z ≡ x) ⊎ (z ≡ y) → has_room_at n z ≡ true
      at z among = elim (cases_eq z a) [
        | inl e ↦ ap (has_room_at n) e ∙ first
        | inr na ↦ elim (cases_eq z b) [
          | inl e ↦ ap (has_room_at n) e ∙ second
          | inr nb ↦ ap room_of (sets.rows z na nb) ∙ of z na nb among
        ]
      ]

  pub roomy-taken : (places old : ℕ) (room : Option (ℕ × ℕ)) → IsRoomy l old room → old ≤ places → IsRoomy n places room
  roomy-taken places old room roomy more = record {
    ordered = (let c = sets.count in let o = roomy.ordered in omega (arith, c, o, more));
    paired = λ x y is. room_left x y (roomy.paired x y is);
  }
