-- Under every fair order of turns a net settles.
use Rattle.std.proofs.Common.{◌≡◌, ◌≢◌, ◌⊎◌, inl, inr, ℕ, zero, suc, ◌+◌, ◌-◌, ◌<◌, ◌≤◌, Option, None, [], ◌∷◌, drop, sym, ◌∙◌, ap, subst, arith, le_refl}
use Rattle.stability_laws.specs.declared.entry.Seed.{Seed}
use Rattle.stability_laws.specs.Offers.{Setting}
use Rattle.message_sim.specs.Messages.{MessageNet, IsQuiet}
use Rattle.message_sim.specs.Delivery.{IsDelivery, IsTurn, IsFair, CanDeliver}

module _ (w : Setting) (seeds : ℕ → Option Seed) (order : ℕ → ℕ × ℕ) (net : ℕ → MessageNet) (fair : IsFair w order) (turns : (k : ℕ) → IsTurn w seeds (net k) (order k).0 (order k).1 (net (suc k)))
    (Inv : MessageNet → Type 0) (kept : (x y : MessageNet) (n a : ℕ) → w.relation a n ≢ None → IsDelivery w seeds x n a y → Inv x → Inv y)
    (burden : MessageNet → ℕ) (falls : (x y : MessageNet) (n a : ℕ) → w.relation a n ≢ None → IsDelivery w seeds x n a y → Inv x → burden y < burden x)
    (goes_on : (x : MessageNet) → Inv x → CanDeliver w seeds x ⊎ IsQuiet x) where
  -- of the next so many turns one delivers a message, and the net has less burden after it
  abbrev Lighter : ℕ → Type 0
  Lighter k = (j : ℕ) × Inv (net j) × (burden (net j) < burden (net k))

  -- the turn k and the turns after it up to one on a link with a message
  until : (left k : ℕ) → Inv (net k) → (net k).queue (order (left + k)).0 (order (left + k)).1 ≢ [] → Lighter k
  until zero k inv some = by (turns k)
    where
      same : order (0 + k) ≡ order k
      same = ap order (let e : 0 + k ≡ k = omega arith in e)

      by : IsTurn w seeds (net k) (order k).0 (order k).1 (net (suc k)) → Lighter k
      by (inl (none, is)) = absurd (some ((λ i. (net k).queue (same i).0 (same i).1) ∙ none))
      by (inr d) = (suc k, kept (net k) (net (suc k)) (order k).0 (order k).1 (fair.linked k) d inv, falls (net k) (net (suc k)) (order k).0 (order k).1 (fair.linked k) d inv)
  until (suc left) k inv some = by (turns k) (until left (suc k))
    where
      by : IsTurn w seeds (net k) (order k).0 (order k).1 (net (suc k)) → (Inv (net (suc k)) → (net (suc k)).queue (order (left + suc k)).0 (order (left + suc k)).1 ≢ [] → Lighter (suc k)) → Lighter k
      by (inl (none, is)) next =
          let later : order (left + suc k) ≡ order (suc left + k) = ap order (let e : left + suc k ≡ suc left + k = omega arith in e) in
          let (j, there, light) = next (subst Inv (sym is) inv) (λ e. some ((λ i. (sym is i).queue (sym later i).0 (sym later i).1) ∙ e)) in
          (j, there, subst (λ t. burden (net j) < t) (ap burden is) light)
      by (inr d) next = (suc k, kept (net k) (net (suc k)) (order k).0 (order k).1 (fair.linked k) d inv, falls (net k) (net (suc k)) (order k).0 (order k).1 (fair.linked k) d inv)

  lighter : (k : ℕ) → Inv (net k) → CanDeliver w seeds (net k) → Lighter k
  lighter k inv (n, a, y, linked, d) =
      let (j, after, at) = fair.again n a k linked in
      let there : j - k + k ≡ j = omega (arith, after) in
      let is : order (j - k + k) ≡ (n, a) = ap order there ∙ at in
      until (j - k) k inv (λ e. (let none : (net k).queue n a ≡ [] = (λ i. (net k).queue (sym is i).0 (sym is i).1) ∙ e in let some : (net k).queue n a ≡ y.received n a ∷ drop 1 ((net k).queue n a) = d.oldest in cc))

  -- with so much burden at most
  comes : (most k : ℕ) → burden (net k) ≤ most → Inv (net k) → (j : ℕ) × Inv (net j) × IsQuiet (net j)
  comes zero k few inv = by (goes_on (net k) inv)
    where
      by : CanDeliver w seeds (net k) ⊎ IsQuiet (net k) → (j : ℕ) × Inv (net j) × IsQuiet (net j)
      by (inr quiet) = (k, inv, quiet)
      by (inl can) = let (j, there, light) = lighter k inv can in absurd (omega (arith, few, light))
  comes (suc most) k few inv = by (goes_on (net k) inv) (comes most)
    where
      by : CanDeliver w seeds (net k) ⊎ IsQuiet (net k) → ((j : ℕ) → burden (net j) ≤ most → Inv (net j) → (i : ℕ) × Inv (net i) × IsQuiet (net i)) → (i : ℕ) × Inv (net i) × IsQuiet (net i)
      by (inr quiet) next = (k, inv, quiet)
      by (inl can) next = let (j, there, light) = lighter k inv can in next j (omega (arith, few, light)) there

  -- nothing changes a quiet net
  stays : (k more : ℕ) → IsQuiet (net k) → net (more + k) ≡ net k
  stays k zero quiet = ap net (let e : 0 + k ≡ k = omega arith in e)
  stays k (suc more) quiet = by (stays k more quiet)
    where
      by : net (more + k) ≡ net k → net (suc more + k) ≡ net k
      by before = ap net (let e : suc more + k ≡ suc (more + k) = omega arith in e) ∙ at (turns (more + k))
        where
          at : IsTurn w seeds (net (more + k)) (order (more + k)).0 (order (more + k)).1 (net (suc (more + k))) → net (suc (more + k)) ≡ net k
          at (inl (none, is)) = is ∙ before
          at (inr d) = let some : (net (more + k)).queue (order (more + k)).0 (order (more + k)).1 ≡ (net (suc (more + k))).received (order (more + k)).0 (order (more + k)).1 ∷ drop 1 ((net (more + k)).queue (order (more + k)).0 (order (more + k)).1) = d.oldest in
              let none : (net (more + k)).queue (order (more + k)).0 (order (more + k)).1 ≡ [] = (λ i. (before i).queue (order (more + k)).0 (order (more + k)).1) ∙ quiet (order (more + k)).0 (order (more + k)).1 in
              absurd cc

  pub settles : Inv (net 0) → (k : ℕ) × Inv (net k) × IsQuiet (net k) × ((j : ℕ) → k ≤ j → net j ≡ net k)
  settles inv =
      let (k, there, quiet) = comes (burden (net 0)) 0 (le_refl (burden (net 0))) inv in
      (k, there, quiet, λ j after. ap net (let e : j ≡ j - k + k = omega (arith, after) in e) ∙ stays k (j - k) quiet)
