-- The best view of one more neighbour.
use Rattle.std.proofs.Common.{◌≡◌, ◌≢◌, ◌⊎◌, inl, inr, ℕ, zero, suc, ◌+◌, ◌<◌, Bool, true, false, ◌||◌, ◌==◌, cond, IsTrue, Option, Some, None, option_map, List, [], ◌∷◌, length, take, take_all, ◌≤◌, slice_index_or, refl, sym, ◌∙◌, ap, subst, arith}
use Rattle.std.proofs.lemmas.Bool.{cases_eq, or_cases, or_right, eqb-true}
use Rattle.policy_laws.specs.declared.policy.View.{View}
use Rattle.policy_laws.specs.Policy.{Policy, RanksOffers}
use Rattle.as_graph.specs.declared.neighbour.Neighbour.{Neighbour}
use Rattle.net_names.specs.Numbers.{occurs}
use Rattle.as_graph.specs.Neighbours.{asns, AreNeighbours}
use Rattle.stability_laws.specs.declared.entry.Entry.{Entry}
use Rattle.stability_laws.specs.Offers.{Setting, Offer, offer, GivenBy}
use Rattle.stability_laws.specs.BestView.{IsFirstOf, IsBestViewOf, IsBestView, better_of}
use Rattle.stability_laws.proofs.Local.{given_by}

-- what is among the first i + 1 is the one at i, or among the first i
pub among_more : (xs : List Neighbour) (i m : ℕ) (d : Neighbour) → i < length xs → occurs m (asns (take (i + 1) xs)) ≡ true → ((slice_index_or xs i d).asn ≡ m) ⊎ (occurs m (asns (take i xs)) ≡ true)
among_more [] i m d h is = absurd (omega arith)
among_more (x ∷ xs) zero m d h is = elim (or_cases (x.asn == m) false is) [ inl e ↦ inl (eqb-true x.asn m e) | inr e ↦ (let f : false ≡ true = e in cc) ]
among_more (x ∷ xs) (suc i) m d h is = elim (or_cases (x.asn == m) (occurs m (asns (take (i + 1) xs))) (subst (λ k. occurs m (asns (take k (x ∷ xs))) ≡ true) (let e : suc i + 1 ≡ suc (i + 1) = omega arith in e) is)) [
  | inl e ↦ inr (ap (λ b. b || occurs m (asns (take i xs))) e)
  | inr e ↦ elim (among_more xs i m d (omega arith) e) [ inl f ↦ inl f | inr f ↦ inr (or_right (x.asn == m) _ f) ]
]

module _ (p : Policy) (ranks : RanksOffers p) (offers : ℕ → Option Offer) (own_views : (n : ℕ) (o : Offer) → offers n ≡ Some o → o.view.neighbour ≡ n) where
  pub one_more : (x : ℕ) (xs ys : List ℕ) → ((m : ℕ) → occurs m ys ≡ true → (x ≡ m) ⊎ (occurs m xs ≡ true)) → (best new : Option View) → new ≡ option_map (λ o. o.view) (offers x) → IsBestViewOf p offers xs best → IsBestViewOf p offers ys (better_of p best new)
  one_more x xs ys splits best new is right = by best (offers x) refl right
    where
      -- the new offer is that of x
      at_x : (o q : Offer) (m : ℕ) → offers x ≡ Some o → offers m ≡ Some q → x ≡ m → o ≡ q
      at_x o q m made made' e = let a : offers x ≡ Some q = ap offers e ∙ made' in cc

      no_more : (b : Option View) → offers x ≡ None → IsBestViewOf p offers xs b → IsBestViewOf p offers ys b
      no_more None none r = λ n h. elim (splits n h) [ inl e ↦ sym (ap offers e) ∙ none | inr e ↦ r n e ]
      no_more (Some v) none r = record {
        offer = r.offer;
        made = r.made;
        seen = r.seen;
        first = λ m q h made ne. elim (splits m h) [ inl e ↦ (let a : offers m ≡ None = sym (ap offers e) ∙ none in cc) | inr e ↦ r.first m q e made ne ];
      }

      replaced : (o : Offer) → offers x ≡ Some o → ((m : ℕ) (q : Offer) → occurs m xs ≡ true → offers m ≡ Some q → IsTrue (p.before o.view q.view)) → IsFirstOf p offers ys o.view
      replaced o made before = record {
        offer = o;
        made = ap offers (own_views x o made) ∙ made;
        seen = refl;
        first = λ m q h made' ne. elim (splits m h) [ inl e ↦ absurd (ne (sym e ∙ sym (own_views x o made))) | inr e ↦ before m q e made' ];
      }

      kept : (v : View) (o : Offer) → offers x ≡ Some o → (x ≢ v.neighbour → IsTrue (p.before v o.view)) → IsFirstOf p offers xs v → IsFirstOf p offers ys v
      kept v o made before r = record {
        offer = r.offer;
        made = r.made;
        seen = r.seen;
        first = λ m q h made' ne. elim (splits m h) [
          | inl e ↦ subst (λ (t : Offer). IsTrue (p.before v t.view)) (at_x o q m made made' e) (before (λ f. ne (sym e ∙ f)))
          | inr e ↦ r.first m q e made' ne
        ];
      }

      decided : (v : View) (o : Offer) → offers x ≡ Some o → IsFirstOf p offers xs v → (b : Bool) → p.before o.view v ≡ b → IsBestViewOf p offers ys (cond b (Some o.view) (Some v))
      decided v o made r true e = replaced o made (λ m q h made'. elim (cases_eq m v.neighbour) [
        | inl f ↦ (let a : offers v.neighbour ≡ Some q = sym (ap offers f) ∙ made' in let a' : offers v.neighbour ≡ Some r.offer = r.made in let t : r.offer ≡ q = cc in
            ap (p.before o.view) (sym (ap (λ (t : Offer). t.view) t) ∙ r.seen) ∙ e)
        | inr f ↦ ranks.transitive o.view v q.view e (r.first m q h made' f)
      ])
      decided v o made r false e = kept v o made (λ ne. elim (ranks.total o.view v (λ f. ne (sym (own_views x o made) ∙ f))) [ inl f ↦ (let t : true ≡ false = sym f ∙ e in cc) | inr f ↦ f ]) r

      by : (b : Option View) (o : Option Offer) → offers x ≡ o → IsBestViewOf p offers xs b → IsBestViewOf p offers ys (better_of p b new)
      by None None e r = subst (IsBestViewOf p offers ys) (sym (is ∙ ap (option_map (λ o. o.view)) e)) (no_more None e r)
      by None (Some o) e r = subst (IsBestViewOf p offers ys) (sym (is ∙ ap (option_map (λ o. o.view)) e)) (replaced o e (λ m q h made. let a : offers m ≡ None = r m h in cc))
      by (Some v) None e r = subst (λ n. IsBestViewOf p offers ys (better_of p (Some v) n)) (sym (is ∙ ap (option_map (λ o. o.view)) e)) (no_more (Some v) e r)
      by (Some v) (Some o) e r = subst (λ n. IsBestViewOf p offers ys (better_of p (Some v) n)) (sym (is ∙ ap (option_map (λ o. o.view)) e)) (decided v o e r (p.before o.view v) refl)

  -- where all that make an offer are in the list, the best of the list is the best
  pub best_of_all : (xs : List ℕ) → ((n : ℕ) (o : Offer) → offers n ≡ Some o → occurs n xs ≡ true) → (best : Option View) → IsBestViewOf p offers xs best → IsBestView p offers best
  best_of_all xs all None r = λ n. by n (offers n) refl
    where
      by : (n : ℕ) (o : Option Offer) → offers n ≡ o → offers n ≡ None
      by n None e = e
      by n (Some o) e = r n (all n o e)
  best_of_all xs all (Some v) r = (r.offer, record { made = r.made; first = λ m q made ne. ap (λ x. p.before x q.view) r.seen ∙ r.first m q (all m q made) made ne }, r.seen)

-- the neighbours of AS a, one after the other; for callers too
module _ (w : Setting) (f : ℕ → Option Entry) (a : ℕ) (ranks : RanksOffers (w.policy a)) where
  given : (n : ℕ) (o : Offer) → offer w f n a ≡ Some o → GivenBy (w.relation a n) n o
  given n o made = given_by (w.policy n) (w.policy a) w.state n a (w.relation a n) (f n) o made

  -- the best view of one neighbour more
  pub best_of_next : (xs : List Neighbour) (i : ℕ) (x : Neighbour) → i < length xs → x ≡ slice_index_or xs i x → (best new : Option View) → new ≡ option_map (λ o. o.view) (offer w f x.asn a)
      → IsBestViewOf (w.policy a) (λ n. offer w f n a) (asns (take i xs)) best → IsBestViewOf (w.policy a) (λ n. offer w f n a) (asns (take (i + 1) xs)) (better_of (w.policy a) best new)
  best_of_next xs i x less is = one_more (w.policy a) ranks (λ n. offer w f n a) (λ n o made. (given n o made).neighbour) x.asn (asns (take i xs)) (asns (take (i + 1) xs))
      (λ m there. subst (λ t. (t.asn ≡ m) ⊎ (occurs m (asns (take i xs)) ≡ true)) (sym is) (among_more xs i m x less there))

  -- the best view of all neighbours is that of all ASes
  pub best_of_neighbours : (xs : List Neighbour) (i : ℕ) → AreNeighbours w.relation a xs → length xs ≤ i → (best : Option View) → IsBestViewOf (w.policy a) (λ n. offer w f n a) (asns (take i xs)) best → IsBestView (w.policy a) (λ n. offer w f n a) best
  best_of_neighbours xs i are past best right = best_of_all (w.policy a) ranks (λ n. offer w f n a) (λ n o made. (given n o made).neighbour)
      (asns xs) (λ n o made. let from : GivenBy (w.relation a n) n o = given n o made in are.complete n from.from from.linked) best
      (subst (λ ys. IsBestViewOf (w.policy a) (λ n. offer w f n a) (asns ys) best) (take_all i xs past) right)
