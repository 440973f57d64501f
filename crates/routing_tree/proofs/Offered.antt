-- What an AS sees in a tree, and the offers that it gets.
use Rattle.std.proofs.Common.{◌≡◌, ◌≢◌, ◌<◌, ◌+◌, inr, ℕ, Bool, true, false, not, cond, ◌&&◌, ◌==◌, IsTrue, Option, Some, None, is_some, List, [], ◌∷◌, length, slice_get, slice_index, unwrap_or, if◌then◌else◌, refl, sym, ◌∙◌, ap, subst, arith}
use Rattle.std.proofs.lemmas.Bool.{eq-eqb, ne_eqb}
use Rattle.net_names.specs.Links.{converse}
use Rattle.net_names.specs.Numbers.{last_or, occurs}
use Rattle.net_names.specs.declared.routes.Rel.{Rel}
use Rattle.net_names.specs.declared.routes.State.{State}
use Rattle.net_names.specs.declared.routes.State.TheVariants.{NotFound}
use Rattle.policy_laws.specs.Policy.{Policy, is_own_or_customers}
use Rattle.policy_laws.specs.declared.policy.View.{View}
use Rattle.stability_laws.specs.declared.entry.Entry.{Entry}
use Rattle.stability_laws.specs.Entries.{class_of}
use Rattle.stability_laws.specs.Offers.{Offer, marked, offer_given, passed_on, view_of}
use Rattle.stability_laws.specs.Stable.{IsBest}
use Rattle.stability_laws.proofs.Local.{given_when}
use Rattle.routing_tree.specs.declared.choosing.Best.{Best}
use Rattle.routing_tree.specs.declared.tree.RoutingTree.{RoutingTree}
use Rattle.routing_tree.specs.Chosen.{IsChosen, IsFirst, seen_at, state_at}
use Rattle.routing_tree.specs.Puts.{IsPut}
use Rattle.routing_tree.specs.Trees.{IsNode}

-- the view of the AS at a place with a path of this length before it, this state and this number
abbrev view_with : List ℕ → ℕ → Rel → ℕ → State → Option ℕ → View
view_with ases j r l s o = record { rel = r; neighbour = slice_index ases j; length = l + 1; state = s; otc = o }

-- an AS sees of what stands at a place what an offer of it shows
pub node_seen : (marks : Bool) → marks ≡ false → (state : ℕ → State) (ases : List ℕ) (t : RoutingTree) (j : ℕ) (r : Rel) (e : Entry) → IsNode state ases t j e → seen_at ases t r j ≡ Some (view_of marks state (slice_index ases j) r e)
node_seen marks plain state ases t j r e node =
    ap (λ b. if b then None else Some (record { rel = r; neighbour = slice_index ases j; length = slice_index t.lengths.items j + 1; state = state_at t j; otc = None })) held ∙ ap Some same
  where
    held : (slice_index t.lengths.items j == 0) ≡ false
    held = ne_eqb (slice_index t.lengths.items j) 0 (λ none. omega (arith, node.some, node.length_is, none))

    state_is : state_at t j ≡ state (last_or 0 e.path)
    state_is = ap (λ o. unwrap_or o NotFound) node.state_is

    unmarked : marked marks (slice_index ases j) (converse r) e.otc ≡ None
    unmarked = ap (λ m. marked m (slice_index ases j) (converse r) e.otc) plain ∙ ap (marked false (slice_index ases j) (converse r)) node.unmarked

    same : view_with ases j r (slice_index t.lengths.items j) (state_at t j) None ≡ view_with ases j r (length e.path) (state (last_or 0 e.path)) (marked marks (slice_index ases j) (converse r) e.otc)
    same = (λ i. view_with ases j r (node.length_is i) (state_is i) (sym unmarked i))

-- and nothing where nothing stands
pub none_seen : (ases : List ℕ) (t : RoutingTree) (j : ℕ) (r : Rel) → slice_index t.lengths.items j ≡ 0 → seen_at ases t r j ≡ None
none_seen ases t j r none =
    ap (λ b. if b then None else Some (record { rel = r; neighbour = slice_index ases j; length = slice_index t.lengths.items j + 1; state = state_at t j; otc = None })) (eq-eqb (slice_index t.lengths.items j) 0 none)

-- what an offer is made of
pub record IsMadeOf (s p : Policy) (state : ℕ → State) (n a : ℕ) (relation : Option Rel) (held : Option Entry) (o : Offer) : Type 0 where
  pub from : Rel
  pub entry : Entry
  pub linked : relation ≡ Some from
  pub holds : held ≡ Some entry
  pub exported : s.exports entry.class entry.otc (converse from) ≡ true
  pub accepted : p.accepts o.view ≡ true
  pub seen : o.view ≡ view_of s.marks state n from entry
  pub passed : o.entry ≡ passed_on s.marks p.marks n a from entry

first_and_last : (b c d x : Bool) (o q : Offer) → cond (b && (c && (d && x))) (Some o) None ≡ Some q → (b ≡ true) × (x ≡ true)
first_and_last true true true true o q e = (refl, refl)
first_and_last true true true false o q e = cc
first_and_last true true false x o q e = cc
first_and_last true false d x o q e = cc
first_and_last false c d x o q e = cc

pub made_of : (s p : Policy) (state : ℕ → State) (n a : ℕ) (relation : Option Rel) (held : Option Entry) (o : Offer) → offer_given s p state n a relation held ≡ Some o → IsMadeOf s p state n a relation held o
made_of s p state n a None held o made = cc
made_of s p state n a (Some from) None o made = cc
made_of s p state n a (Some from) (Some e) o made =
    let view : o.view ≡ view_of s.marks state n from e = ap (λ (t : Offer). t.view) (sym (given_when _ _ o made)) in
    let both = first_and_last (s.exports e.class e.otc (converse from)) (is_some (slice_get e.path 0)) (not (occurs a e.path)) (p.accepts (view_of s.marks state n from e)) _ o made in
    record { from = from; entry = e; linked = refl; holds = refl; exported = both.0; accepted = ap p.accepts view ∙ both.1; seen = view; passed = ap (λ (t : Offer). t.entry) (sym (given_when _ _ o made)) }

-- the offer of an entry that is exported and accepted, and on whose path the AS doesn't stand
pub offer_is : (s p : Policy) (state : ℕ → State) (n a : ℕ) (r : Rel) (e : Entry) → s.exports e.class e.otc (converse r) ≡ true → 0 < length e.path → occurs a e.path ≡ false → p.accepts (view_of s.marks state n r e) ≡ true →
    offer_given s p state n a (Some r) (Some e) ≡ Some (record { view = view_of s.marks state n r e; entry = passed_on s.marks p.marks n a r e })
offer_is s p state n a r e exported some away accepted =
    ap (λ b. if b then Some (record { view = view_of s.marks state n r e; entry = passed_on s.marks p.marks n a r e }) else None) (λ i. exported i && (begun e.path some i && (not (away i) && accepted i)))
  where
    begun : (xs : List ℕ) → 0 < length xs → is_some (slice_get xs 0) ≡ true
    begun [] less = absurd (omega (arith, less))
    begun (x ∷ xs) less = refl

-- what an AS sees where it looks, and accepts, are the offers that it gets
pub record AreSeen (p : Policy) (ases : List ℕ) (t : RoutingTree) (Looks : Rel → ℕ → Type 0) (offers : ℕ → Option Offer) : Type 0 where
  pub made : (r : Rel) (j : ℕ) (v : View) → Looks r j → seen_at ases t r j ≡ Some v → p.accepts v ≡ true → (o : Offer) × (offers (slice_index ases j) ≡ Some o) × (o.view ≡ v)
  pub found : (n : ℕ) (o : Offer) → offers n ≡ Some o → (r : Rel) × (j : ℕ) × Looks r j × (slice_index ases j ≡ n) × (seen_at ases t r j ≡ Some o.view) × (p.accepts o.view ≡ true)

module _ (p : Policy) (ases : List ℕ) (t : RoutingTree) (Looks : Rel → ℕ → Type 0) (offers : ℕ → Option Offer) (are : AreSeen p ases t Looks offers) where
  -- where nothing is chosen there is no offer,
  pub none_offered : IsChosen p ases t Looks None → (n : ℕ) → offers n ≡ None
  none_offered none n = by (offers n) refl
    where
      by : (x : Option Offer) → offers n ≡ x → offers n ≡ None
      by None is = is
      by (Some o) is = (let (r, j, looks, at, seen, accepted) = are.found n o is in let z : true ≡ false = sym accepted ∙ none r j o.view looks seen in cc)

  -- and what is chosen is the best offer
  pub best_offered : (b : Best) → IsFirst p ases t Looks b → (o : Offer) × IsBest p offers (slice_index ases b.place) o × (o.view ≡ b.view)
  best_offered b is =
      let (o, made, same) = are.made b.view.rel b.place b.view is.looks is.seen is.accepted in (
        o,
        record {
          made = made;
          first = λ n x also other.
              let (r, j, looks, at, seen, accepted) = are.found n x also in
              subst (λ v. IsTrue (p.before v x.view)) (sym same) (is.first r j x.view looks seen accepted (λ e. other (sym at ∙ ap (slice_index ases) e)));
        },
        same,
      )

-- the origin of a path is that of the path with one AS more before it
same_last : (a : ℕ) (xs : List ℕ) → 0 < length xs → last_or 0 (a ∷ xs) ≡ last_or 0 xs
same_last a [] less = absurd (omega (arith, less))
same_last a (x ∷ xs) less = refl

-- what is taken from a place is the entry that is passed on from there
pub node_taken : (state : ℕ → State) (ases : List ℕ) (t u : RoutingTree) (i j : ℕ) (low : Bool) (r : Rel) (e : Entry) (gives takes : Bool) → gives ≡ false → takes ≡ false →
    IsNode state ases t j e → slice_get e.path 0 ≡ Some (slice_index ases j) → low ≡ is_own_or_customers (class_of r) → j < length ases → j ≢ i →
    IsPut t u i (slice_index t.lengths.items j + 1) low (state_at t j) j → IsNode state ases u i (passed_on gives takes (slice_index ases j) (slice_index ases i) r e)
node_taken state ases t u i j low r e gives takes plain unmarking node begins low_is less other put = record {
  some = omega arith;
  length_is = put.here.length_is ∙ ap (λ l. l + 1) node.length_is ∙ longer;
  low = put.here.low_is ∙ ap Some low_is;
  state_is = put.here.state_is ∙ ap Some (ap (λ o. unwrap_or o NotFound) node.state_is ∙ ap state (sym (same_last (slice_index ases i) e.path node.some)));
  unmarked = (λ k. marked (unmarking k) (slice_index ases j) (converse r) (marked (plain k) (slice_index ases j) (converse r) (node.unmarked k)));
  parent = inr ((λ same. other (sym put.here.parent_is ∙ same)), subst (λ m. m < length ases) (sym put.here.parent_is) less, begins ∙ ap (λ m. Some (slice_index ases m)) (sym put.here.parent_is));
}
  where
    longer : length e.path + 1 ≡ length (slice_index ases i ∷ e.path)
    longer = omega arith
