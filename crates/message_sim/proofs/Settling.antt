-- After deliveries from the start a message can be delivered, or none is under way.
use Rattle.std.proofs.Common.{◌≡◌, ◌≢◌, ◌⊎◌, inl, inr, ℕ, true, false, ◌==◌, true≢false, Option, Some, None, option_map, List, [], ◌∷◌, refl, sym, ◌∙◌, ap, subst, zero, suc, ◌++◌, ◌&&◌, cond, drop, length}
use Rattle.std.proofs.lemmas.Bool.{or_cases, eqb-true}
use Rattle.net_names.specs.declared.routes.Rel.{Rel}
use Rattle.net_names.specs.Links.{converse}
use Rattle.net_names.specs.Numbers.{occurs}
use Rattle.as_graph.proofs.Chains.{IsMutual, AreLinks}
use Rattle.stability_laws.specs.declared.entry.Entry.{Entry}
use Rattle.stability_laws.specs.declared.entry.Seed.{Seed}
use Rattle.stability_laws.specs.Offers.{Setting, offer, offer_given}
use Rattle.stability_laws.specs.Stable.{IsRightGiven, IsLawful}
use Rattle.stability_laws.proofs.Local.{given_by}
use Rattle.stability_laws.proofs.Answer.{some_right}
use Rattle.message_sim.specs.Messages.{Message, MessageNet, sends, sent_given, IsQuiet, IsStart, IsTold}
use Rattle.message_sim.specs.Starts.{first_queue}
use Rattle.message_sim.specs.Delivery.{IsDelivery, AreDeliveries, AreTrueDeliveries, CanDeliver}
use Rattle.message_sim.specs.Nets.{AreLowestFirst}
use Rattle.message_sim.proofs.Parts.{first_told}
use Rattle.message_sim.proofs.Going.{received_then, net_then, can_deliver}

-- true deliveries are deliveries
pub are_deliveries : (w : Setting) (seeds : ℕ → Option Seed) (ls : List (ℕ × ℕ)) (x y : MessageNet) → AreTrueDeliveries w seeds ls x y → AreDeliveries w seeds ls x y
are_deliveries w seeds [] x y is = is
are_deliveries w seeds (l ∷ ls) x y (z, linked, d, rest) = (z, linked, inr d, are_deliveries w seeds ls z y rest)

-- deliveries on the lowest links are a list of true deliveries
pub true_deliveries : (w : Setting) (seeds : ℕ → Option Seed) (k : ℕ) (x y : MessageNet) → AreLowestFirst w seeds k x y → (ls : List (ℕ × ℕ)) × (length ls ≡ k) × AreTrueDeliveries w seeds ls x y
true_deliveries w seeds zero x y is = ([], refl, is)
true_deliveries w seeds (suc k) x y (n, a, z, linked, next, d, others) = let (ls, len, run) = true_deliveries w seeds k z y others in ((n, a) ∷ ls, ap suc len, (z, linked, d, run))

-- and one more
pub one_more : (w : Setting) (seeds : ℕ → Option Seed) (ls : List (ℕ × ℕ)) (x y z : MessageNet) (n a : ℕ) → AreTrueDeliveries w seeds ls x y → w.relation a n ≢ None → IsDelivery w seeds y n a z → AreTrueDeliveries w seeds (ls ++ (n, a) ∷ []) x z
one_more w seeds [] x y z n a is linked d = (z, linked, subst (λ (t : MessageNet). IsDelivery w seeds t n a z) (sym is) d, refl)
one_more w seeds (l ∷ ls) x y z n a (u, joined, first, run) linked d = (u, joined, first, one_more w seeds ls u y z n a run linked d)

drop-nil : (k : ℕ) → ◌≡◌ {A = List Message} (drop k []) []
drop-nil zero = refl
drop-nil (suc k) = refl

module _ (w : Setting) (seeds : ℕ → Option Seed) (turns : IsMutual w.relation) where
  -- messages are under way on links alone
  abbrev pub OnLinks : MessageNet → Type 0
  OnLinks x = (n a : ℕ) → w.relation a n ≡ None → x.queue n a ≡ []

  sent_nowhere : (f : ℕ → Option Entry) (n a : ℕ) → w.relation a n ≡ None → sends w f n a ≡ None
  sent_nowhere f n a none = ap (λ r. sent_given (w.policy n) r (f n)) (turns a n ∙ ap (option_map converse) none)

  pub start_on_links : (x : MessageNet) → IsStart w seeds x → OnLinks x
  start_on_links x start n a none = first_told (sends w x.choice n a) (x.queue n a) (start.queues n a) ∙ ap first_queue (sent_nowhere x.choice n a none)

  pub delivery_on_links : (x y : MessageNet) (n a : ℕ) → w.relation a n ≢ None → IsDelivery w seeds x n a y → OnLinks x → OnLinks y
  delivery_on_links x y n a linked d before m b none = told (d.queues m b)
    where
      kept : drop (cond (m == n && b == a) 1 0) (x.queue m b) ≡ []
      kept = ap (drop (cond (m == n && b == a) 1 0)) (before m b none) ∙ drop-nil (cond (m == n && b == a) 1 0)

      told : IsTold (sends w x.choice m b) (sends w y.choice m b) (drop (cond (m == n && b == a) 1 0) (x.queue m b)) (y.queue m b) → y.queue m b ≡ []
      told (inl (same, is)) = is ∙ kept
      told (inr (changed, is)) = absurd (changed (sent_nowhere x.choice m b none ∙ sym (sent_nowhere y.choice m b none)))

  pub run_on_links : (ls : List (ℕ × ℕ)) (x y : MessageNet) → AreTrueDeliveries w seeds ls x y → OnLinks x → OnLinks y
  run_on_links [] x y is before = subst OnLinks is before
  run_on_links (l ∷ ls) x y (z, linked, d, rest) before = run_on_links ls z y rest (delivery_on_links x z l.0 l.1 linked d before)

  module _ (lawful : (a : ℕ) → IsLawful (w.policy a)) (ases : List ℕ) (links : AreLinks w.relation ases) (self : (a : ℕ) → w.relation a a ≡ None) where
    -- each AS has an answer to what it received
    some_answer : (f : ℕ → Option Entry) (a : ℕ) → (held : Option Entry) × IsRightGiven (w.policy a) (seeds a) (λ n. offer w f n a) held
    some_answer f a =
        some_right (w.policy a) (lawful a).ranks_offers (λ n. offer w f n a) (λ n o e. (given_by (w.policy n) (w.policy a) w.state n a (w.relation a n) (f n) o e).neighbour) ases (λ n out. by n out (w.relation a n) refl) (seeds a)
      where
        by : (n : ℕ) → occurs n ases ≡ false → (r : Option Rel) → w.relation a n ≡ r → offer w f n a ≡ None
        by n out None is = ap (λ r. offer_given (w.policy n) (w.policy a) w.state n a r (f n)) is
        by n out (Some r) is = absurd (true≢false (sym (links.ends a n r is) ∙ out))

    deliver_at : (x : MessageNet) (n a : ℕ) (r : Rel) → w.relation a n ≡ Some r → (message : Message) (rest : List Message) → x.queue n a ≡ message ∷ rest → CanDeliver w seeds x
    deliver_at x n a r is message rest oldest =
        let apart : n ≢ a = λ e. (let none : w.relation a n ≡ None = ap (w.relation a) e ∙ self a in let t : None ≡ Some r = sym none ∙ is in cc) in
        let (held, right) = some_answer (λ k. received_then w seeds x n a apart message rest oldest k a) a in
        (n, a, net_then w seeds x n a apart message rest oldest held right, (λ none. let t : None ≡ Some r = sym none ∙ is in cc), can_deliver w seeds x n a apart message rest oldest held right)

    -- a message that is under way can be delivered
    pub deliver_some : (x : MessageNet) → OnLinks x → (n a : ℕ) → x.queue n a ≢ [] → CanDeliver w seeds x
    deliver_some x on n a some = by (w.relation a n) refl (x.queue n a) refl
      where
        by : (r : Option Rel) → w.relation a n ≡ r → (q : List Message) → x.queue n a ≡ q → CanDeliver w seeds x
        by None is q of = absurd (some (on n a is))
        by (Some r) is [] of = absurd (some of)
        by (Some r) is (message ∷ rest) of = deliver_at x n a r is message rest of

    -- one of the queues has a message, or none has
    abbrev SomeOrNone : (ℕ → List Message) → List ℕ → Type 0
    SomeOrNone q xs = ((b : ℕ) × (q b ≢ [])) ⊎ ((b : ℕ) → occurs b xs ≡ true → q b ≡ [])

    search_row : (q : ℕ → List Message) (xs : List ℕ) → SomeOrNone q xs
    search_row q [] = inr (λ b there. absurd (true≢false (sym there)))
    search_row q (b ∷ bs) = by (q b) refl (search_row q bs)
      where
        by : (ms : List Message) → q b ≡ ms → SomeOrNone q bs → SomeOrNone q (b ∷ bs)
        by (m ∷ ms) is others = inl (b, λ e. (let t : [] ≡ m ∷ ms = sym e ∙ is in cc))
        by [] is (inl found) = inl found
        by [] is (inr none) = inr (λ c there. elim (or_cases (b == c) (occurs c bs) there) [ inl e ↦ subst (λ t. q t ≡ []) (eqb-true b c e) is | inr e ↦ none c e ])

    abbrev SomeRowOrNone : MessageNet → List ℕ → Type 0
    SomeRowOrNone x xs = ((m : ℕ) × (b : ℕ) × (x.queue m b ≢ [])) ⊎ ((m : ℕ) → occurs m xs ≡ true → (b : ℕ) → occurs b ases ≡ true → x.queue m b ≡ [])

    search_rows : (x : MessageNet) (xs : List ℕ) → SomeRowOrNone x xs
    search_rows x [] = inr (λ m there. absurd (true≢false (sym there)))
    search_rows x (m ∷ ms) = by (search_row (x.queue m) ases) (search_rows x ms)
      where
        by : SomeOrNone (x.queue m) ases → SomeRowOrNone x ms → SomeRowOrNone x (m ∷ ms)
        by (inl (b, some)) others = inl (m, b, some)
        by (inr none) (inl found) = inl found
        by (inr none) (inr others) = inr (λ k there b b_in. elim (or_cases (m == k) (occurs k ms) there) [ inl e ↦ subst (λ t. x.queue t b ≡ []) (eqb-true m k e) (none b b_in) | inr e ↦ others k e b b_in ])

    pub goes_on_or_quiet : (x : MessageNet) → OnLinks x → CanDeliver w seeds x ⊎ IsQuiet x
    goes_on_or_quiet x on = by (search_rows x ases)
      where
        by : SomeRowOrNone x ases → CanDeliver w seeds x ⊎ IsQuiet x
        by (inl (m, b, some)) = inl (deliver_some x on m b some)
        by (inr none) = inr (λ n a. at n a (w.relation a n) refl)
          where
            at : (n a : ℕ) (r : Option Rel) → w.relation a n ≡ r → x.queue n a ≡ []
            at n a None is = on n a is
            at n a (Some r) is = none n (links.ends a n r is) a (links.ends n a (converse r) (turns a n ∙ ap (option_map converse) is))
