-- Provider cycles of graphs with a link more or less.
use Rattle.std.proofs.Common.{◌≡◌, ◌≢◌, ◌⊎◌, inl, inr, ℕ, List, [], ◌∷◌, Option, Some, None, Result, Ok, Err, IfOk, ◌↔◌, refl, sym, ap, subst, ◌∙◌, get_or}
use Rattle.std.specs.Prelude.{IfNone, IfSome, IsNone}
use Rattle.cycle_check.specs.Cycles.{IsClosedBy, with_provider}
use Rattle.std.proofs.lemmas.Bool.Decides.{eqb_tells}
use Rattle.std.specs.Option.{option_map}
use Rattle.net_names.specs.declared.routes.Rel.{Rel}
use Rattle.net_names.specs.declared.routes.Rel.TheVariants.{Customer, Peer, Provider}
use Rattle.net_names.specs.Links.{converse}
use Rattle.net_names.specs.Numbers.{last_or}
use Rattle.as_graph.specs.Topology.{Topology, relation}
use Rattle.as_graph.specs.Edits.{LinksAreSet, LinksAreSound, LinksAreTaken, with_link, without_link}
use Rattle.as_graph.specs.Hierarchy.{HasNoProviderCycle, IsDescent, IsProviderCycle}
use Rattle.as_graph.proofs.Told.{cycle_told, cycle_from}

abbrev What : Type 0
What = ℕ → ℕ → Option Rel

-- each provider link of the one is one of the other
abbrev pub IsBelow : What → What → Type 0
IsBelow v w = (x y : ℕ) → v x y ≡ Some Customer → w x y ≡ Some Customer

descent_below : (v w : What) → IsBelow v w → (xs : List ℕ) → IsDescent v xs → IsDescent w xs
descent_below v w below [] h = tt
descent_below v w below (a ∷ []) h = tt
descent_below v w below (a ∷ b ∷ rest) h = (below a b h.0, descent_below v w below (b ∷ rest) h.1)

pub cycle_below : (v w : What) → IsBelow v w → (xs : List ℕ) → IsProviderCycle v xs → IsProviderCycle w xs
cycle_below v w below xs c =
    let h = cycle_told v xs c in
    cycle_from w xs (record { two = h.two; distinct = h.distinct; descends = descent_below v w below xs h.descends; closes = below (last_or 0 xs) (get_or xs 0 0) h.closes })

pub none_below : (v w : What) → IsBelow v w → HasNoProviderCycle w → HasNoProviderCycle v
none_below v w below none xs h = none xs (cycle_below v w below xs h)

-- the two are those of the pair, in this order or the other, or not
pub which : (a b x y : ℕ) → ((x ≡ a) × (y ≡ b)) ⊎ (((x ≡ b) × (y ≡ a)) ⊎ (((x ≡ a) × (y ≡ b) → ⊥) × ((x ≡ b) × (y ≡ a) → ⊥)))
which a b x y =
    elim (eqb_tells x a) [
      | inl first ↦ elim (eqb_tells y b) [
        | inl second ↦ inl (first.1, second.1)
        | inr other ↦ back (λ h. other.1 h.1)
      ]
      | inr other ↦ back (λ h. other.1 h.0)
    ]
  where
    back : ((x ≡ a) × (y ≡ b) → ⊥) → ((x ≡ a) × (y ≡ b)) ⊎ (((x ≡ b) × (y ≡ a)) ⊎ (((x ≡ a) × (y ≡ b) → ⊥) × ((x ≡ b) × (y ≡ a) → ⊥)))
    back neither = elim (eqb_tells x b) [
      | inl first ↦ elim (eqb_tells y a) [
        | inl second ↦ inr (inl (first.1, second.1))
        | inr other ↦ inr (inr (neither, λ h. other.1 h.1))
      ]
      | inr other ↦ inr (inr (neither, λ h. other.1 h.0))
    ]

pub none_some : {X : Type 0} (o : Option X) (x : X) → o ≡ None → o ≡ Some x → ⊥
none_some o x e h = (let none : None ≡ Some x = sym e ∙ h in cc)

module _ (sound : LinksAreSound) (setting : LinksAreSet) (taken : LinksAreTaken) where
  -- a link less
  pub without_below : (g : Topology) (a b : ℕ) → IsBelow (relation (without_link g a b)) (relation g)
  without_below g a b x y h = elim (which a b x y) [
    | inl same ↦ absurd (none_some _ Customer (taken.at g a b) (subst (λ (t : ℕ × ℕ). relation (without_link g a b) t.0 t.1 ≡ Some Customer) (λ i. (same.0 i, same.1 i)) h))
    | inr (inl same) ↦ absurd (none_some _ Customer (taken.back g a b) (subst (λ (t : ℕ × ℕ). relation (without_link g a b) t.0 t.1 ≡ Some Customer) (λ i. (same.0 i, same.1 i)) h))
    | inr (inr other) ↦ sym (taken.others g a b x y other.0 other.1) ∙ h
  ]

  -- without the pair's link, the graph with a new one of it has no other links than before
  pub new_below : (g : Topology) (a b p c : ℕ) (r : Rel) → a ≢ b → ((p ≡ a) × (c ≡ b)) ⊎ ((p ≡ b) × (c ≡ a)) → IsBelow (relation (without_link (with_link g a b r) p c)) (relation g)
  new_below g a b p c r apart pair x y h = elim (which p c x y) [
    | inl same ↦ absurd (none_some _ Customer (taken.at (with_link g a b r) p c) (subst (λ (t : ℕ × ℕ). relation (without_link (with_link g a b r) p c) t.0 t.1 ≡ Some Customer) (λ i. (same.0 i, same.1 i)) h))
    | inr (inl same) ↦ absurd (none_some _ Customer (taken.back (with_link g a b r) p c) (subst (λ (t : ℕ × ℕ). relation (without_link (with_link g a b r) p c) t.0 t.1 ≡ Some Customer) (λ i. (same.0 i, same.1 i)) h))
    | inr (inr other) ↦ sym (taken.others (with_link g a b r) p c x y other.0 other.1 ∙ outside x y (elim pair [
      | inl e ↦ (λ (q : (x ≡ a) × (y ≡ b)). other.0 (q.0 ∙ sym e.0, q.1 ∙ sym e.1), λ (q : (x ≡ b) × (y ≡ a)). other.1 (q.0 ∙ sym e.1, q.1 ∙ sym e.0))
      | inr e ↦ (λ (q : (x ≡ a) × (y ≡ b)). other.1 (q.0 ∙ sym e.1, q.1 ∙ sym e.0), λ (q : (x ≡ b) × (y ≡ a)). other.0 (q.0 ∙ sym e.0, q.1 ∙ sym e.1))
    ])) ∙ h
  ]
    where
      outside : (x y : ℕ) → ((x ≡ a) × (y ≡ b) → ⊥) × ((x ≡ b) × (y ≡ a) → ⊥) → relation (with_link g a b r) x y ≡ relation g x y
      outside x y neither = setting.others g a b r x y apart neither.0 neither.1

  -- setting the link that a pair has changes nothing
  pub set_again : (g : Topology) (p c : ℕ) (r : Rel) → p ≢ c → relation g p c ≡ Some r → relation (with_link g p c r) ≡ relation g
  set_again g p c r apart is = λ i x y. same x y i
    where
      there : relation (with_link g p c r) p c ≡ relation g p c
      there = setting.at g p c r apart ∙ sym is

      back : relation (with_link g p c r) c p ≡ relation g c p
      back = sound.alike (with_link g p c r) p c ∙ ap (option_map converse) there ∙ sym (sound.alike g p c)

      same : (x y : ℕ) → relation (with_link g p c r) x y ≡ relation g x y
      same x y = elim (which p c x y) [
        | inl e ↦ subst (λ (t : ℕ × ℕ). relation (with_link g p c r) t.0 t.1 ≡ relation g t.0 t.1) (λ i. (sym e.0 i, sym e.1 i)) there
        | inr (inl e) ↦ subst (λ (t : ℕ × ℕ). relation (with_link g p c r) t.0 t.1 ≡ relation g t.0 t.1) (λ i. (sym e.0 i, sym e.1 i)) back
        | inr (inr other) ↦ setting.others g p c r x y apart other.0 other.1
      ]

  -- peers make no provider cycle
  pub peers_below : (g : Topology) (a b : ℕ) → relation g a b ≡ Some Peer → IsBelow (relation g) (relation (without_link g a b))
  peers_below g a b is x y h = elim (which a b x y) [
    | inl same ↦ absurd (let here : relation g a b ≡ Some Customer = subst (λ (t : ℕ × ℕ). relation g t.0 t.1 ≡ Some Customer) (λ i. (same.0 i, same.1 i)) h in let e : Some Peer ≡ Some Customer = sym is ∙ here in cc)
    | inr (inl same) ↦ absurd (let here : relation g b a ≡ Some Customer = subst (λ (t : ℕ × ℕ). relation g t.0 t.1 ≡ Some Customer) (λ i. (same.0 i, same.1 i)) h in let e : Some Peer ≡ Some Customer = ap (option_map converse) (sym is) ∙ sym (sound.alike g a b) ∙ here in cc)
    | inr (inr other) ↦ taken.others g a b x y other.0 other.1 ∙ h
  ]

  -- who has a provider is a customer
  pub turned : (g : Topology) (a b : ℕ) → relation g a b ≡ Some Provider → relation g b a ≡ Some Customer
  turned g a b is = sound.alike g a b ∙ ap (option_map converse) is

-- ---- the cycle that a link closes

pub closed_cycle : {E : Type 0} (g : Topology) (p c : ℕ) (P : List ℕ → Type 0) → relation (with_link g p c Customer) ≡ relation g → ((xs : List ℕ) → (rest : List ℕ) × (xs ≡ p ∷ c ∷ rest) → P xs) → (r : Result (Option (List ℕ)) E)
    → IfOk r (λ found. IfSome found (IsClosedBy g p c)) → IfOk r (λ found. IfSome found (λ xs. IsProviderCycle (relation g) xs × P xs))
closed_cycle g p c P same begins (Ok None) h = h
closed_cycle g p c P same begins (Ok (Some xs)) h = (subst (λ v. IsProviderCycle v xs) same h.cycle, begins xs h.begins)
closed_cycle g p c P same begins (Err e) h = h

pub closed_none : {E : Type 0} (g : Topology) (p c : ℕ) → relation (with_link g p c Customer) ≡ relation g → (r : Result (Option (List ℕ)) E)
    → IfOk r (λ found. IsNone found ↔ HasNoProviderCycle (with_provider g p c)) → IfOk r (λ found. IfNone found (HasNoProviderCycle (relation g)))
closed_none g p c same (Ok None) h = subst HasNoProviderCycle same (h.0 refl)
closed_none g p c same (Ok (Some xs)) h = tt
closed_none g p c same (Err e) h = h
