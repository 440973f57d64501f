-- A delivery in the tables is a delivery in the net, and the tables keep what they keep.
use Rattle.std.proofs.Common.{◌≡◌, ◌≢◌, ◌⊎◌, inl, inr, ℕ, suc, ◌+◌, ◌<◌, ◌≤◌, true, cond, nat_eq, is_some, Option, Some, None, List, [], ◌∷◌, ◌++◌, length, drop, get_or, append-nil, refl, sym, ◌∙◌, ap, subst, arith}
use Rattle.std.proofs.lemmas.Bool.{cases_eq, eq-eqb, ne_eqb}
use Rattle.std.specs.Map.{lookup}
use Rattle.std.specs.BTreeSet.{BTreeSet, contains}
use Rattle.std.specs.Prelude.{slice_get}
use Rattle.net_names.specs.Links.{pair_cmp}
use Rattle.net_names.specs.declared.routes.Rel.{Rel}
use Rattle.policy_laws.specs.Policy.{Policy}
use Rattle.policy_laws.specs.declared.policy.View.{View}
use Rattle.stability_laws.specs.declared.entry.Entry.{Entry}
use Rattle.stability_laws.specs.declared.entry.Seed.{Seed}
use Rattle.stability_laws.specs.Offers.{Setting, Offer, offer_given}
use Rattle.stability_laws.specs.Stable.{IsRightGiven}
use Rattle.stability_laws.specs.BestView.{IsBestView}
use Rattle.message_sim.specs.Messages.{Message, sent_given, IsTold}
use Rattle.message_sim.specs.Delivery.{IsDelivery}
use Rattle.message_sim.specs.Agreement.{Agrees}
use Rattle.message_sim.specs.Nets.{chosen, waiting_in}
use Rattle.message_sim.specs.declared.news.News.{News}
use Rattle.message_sim.specs.declared.choosing.Choice.{Choice}
use Rattle.message_sim.specs.declared.tables.NetState.{NetState}
use Rattle.message_sim.specs.News.{told_by, told_to}
use Rattle.message_sim.specs.Best.{IsChosen, IsHeldBy, received_with, offers_now, offers_after, IsChoiceAfter}
use Rattle.message_sim.specs.Rows.{ChoiceRows, BestRows, LineRows, link_eq, choice_at, best_at, best_on, received_at, queue_at, KeepsWaiting}
use Rattle.message_sim.specs.Kept.{net_in, IsKept, IsChange, IsMoved, IsPutChange, held_after, best_after, AreNewsAt}
use Rattle.message_sim.proofs.Parts.{apart_ends, delivery_of}
use Rattle.message_sim.proofs.Quiet.{delivery_agrees}
use Rattle.message_sim.proofs.Telling.{told_apart}

first_rest : (q : List Message) (m : Message) → Some m ≡ slice_get q 0 → q ≡ m ∷ drop 1 q
first_rest [] m e = cc
first_rest (x ∷ q) m e = let is : m ≡ x = cc in ap (λ t. t ∷ q) (sym is)

right_chosen : (p : Policy) (offers : ℕ → Option Offer) (best : Option View) (held : Option Entry) → IsChosen p offers best held → IsRightGiven p None offers held
right_chosen p offers None held (none, is) = subst (IsRightGiven p None offers) (sym is) none
right_chosen p offers (Some v) held (o, best, seen, is) = subst (IsRightGiven p None offers) (sym is) (v.neighbour, o, best, refl)

pub right_held : (p : Policy) (seed : Option Seed) (offers : ℕ → Option Offer) (best : Option View) (held : Option Entry) → IsHeldBy p seed offers best held → IsRightGiven p seed offers held
right_held p None offers best held h = right_chosen p offers best held h
right_held p (Some s) offers best held h = h

pub held_with : (p : Policy) (seed : Option Seed) (os qs : ℕ → Option Offer) (best best' : Option View) (held held' : Option Entry) → ((n : ℕ) → os n ≡ qs n) → best ≡ best' → held ≡ held' → IsHeldBy p seed os best held → IsHeldBy p seed qs best' held'
held_with p seed os qs best best' held held' same b h is = let F : (ℕ → Option Offer) → Option View → Option Entry → Type 0 = IsHeldBy p seed in coe 0 1 (i. F (λ n. same n i) (b i) (h i)) is

-- a seed's entry stays whatever the offers
pub seeded : (p : Policy) (seed : Option Seed) (s : Seed) (os qs : ℕ → Option Offer) (best : Option View) (held : Option Entry) → Some s ≡ seed → IsHeldBy p seed os best held → IsHeldBy p seed qs best held
seeded p None s os qs best held e h = cc
seeded p (Some d) s os qs best held e h = h

pub unseeded : (p : Policy) (seed : Option Seed) (os : ℕ → Option Offer) (best : Option View) (held : Option Entry) → None ≡ seed → IsHeldBy p seed os best held → IsChosen p os best held
unseeded p None os best held e h = h
unseeded p (Some d) os best held e h = cc

pub held_unseeded : (p : Policy) (seed : Option Seed) (os : ℕ → Option Offer) (best : Option View) (held : Option Entry) → None ≡ seed → IsChosen p os best held → IsHeldBy p seed os best held
held_unseeded p None os best held e h = h
held_unseeded p (Some d) os best held e h = cc

pub chosen_best : (p : Policy) (os : ℕ → Option Offer) (best : Option View) (held : Option Entry) → IsChosen p os best held → IsBestView p os best
chosen_best p os None held h = h.0
chosen_best p os (Some v) held (o, best, seen, is) = (o, best, seen)

-- what is held after a choice
pub choice_made : (p : Policy) (before after : ℕ → Option Offer) (best : Option View) (held : Option Entry) (choice : Option Choice) → IsChoiceAfter p before after best choice → IsChosen p before best held → IsChosen p after (best_after choice best) (held_after choice held)
choice_made p before after best held None h was = h held was
choice_made p before after best held (Some c) h was = h

pub change_made : (w : Setting) (seeds : ℕ → Option Seed) (choices : ChoiceRows) (bests : BestRows) (lines : LineRows) (n a : ℕ) (m : Message) (choice : Option Choice) (news : List News)
    → IsHeldBy (w.policy a) (seeds a) (offers_after w lines a n m) (best_after choice (best_at bests a)) (held_after choice (choice_at choices a))
    → AreNewsAt (w.policy a) (w.relation a) (choice_at choices a) (held_after choice (choice_at choices a)) news → IsChange w seeds choices bests lines n a m choice news
change_made w seeds choices bests lines n a m choice news h are = record { held = h; told = are.told; counted = are.counted; within = are.within }

-- nothing is told where nothing has changed
pub no_change : (w : Setting) (seeds : ℕ → Option Seed) (choices : ChoiceRows) (bests : BestRows) (lines : LineRows) (n a : ℕ) (m : Message) (news : List News) → news ≡ []
    → IsHeldBy (w.policy a) (seeds a) (offers_after w lines a n m) (best_at bests a) (choice_at choices a) → IsChange w seeds choices bests lines n a m None news
no_change w seeds choices bests lines n a m [] e h = record { held = h; told = λ b. inl (refl, refl); counted = refl; within = λ k d lt. absurd (omega arith) }
no_change w seeds choices bests lines n a m (x ∷ xs) e h = cc

told_more : (old new : Message) (q ms q' : List Message) → IsTold old new [] ms → q' ≡ q ++ ms → IsTold old new q q'
told_more old new q ms q' (inl (same, none)) is = inl (same, is ∙ ap (λ t. q ++ t) none ∙ append-nil q)
told_more old new q ms q' (inr (ne, one)) is = inr (ne, is ∙ ap (λ t. q ++ t) one)

-- who is told anything is noted
noted_or : (waiting : BTreeSet (ℕ × ℕ)) (a b : ℕ) (news : List News) → ((k : ℕ) (d : News) → k < length news → contains pair_cmp waiting (a, (get_or news k d).to) ≡ true) → (told_to b news ≡ []) ⊎ (contains pair_cmp waiting (a, b) ≡ true)
noted_or waiting a b [] h = inl refl
noted_or waiting a b (x ∷ xs) h = elim (noted_or waiting a b xs (λ k d lt. h (suc k) d (omega arith))) [
  | inr told ↦ inr told
  | inl none ↦ elim (cases_eq x.to b) [
    | inl is ↦ inr (subst (λ t. contains pair_cmp waiting (a, t) ≡ true) is (h 0 x (omega arith)))
    | inr ne ↦ inl (ap (λ t. t ++ told_by b x) none ∙ told_apart b x ne)
  ]
]

drop_none : (q : List Message) → q ≡ [] → drop 1 q ≡ []
drop_none q e = ap (drop 1) e

module _ (w : Setting) (seeds : ℕ → Option Seed) (choices choices' : ChoiceRows) (bests bests' : BestRows) (lines lines' : LineRows) (n a : ℕ) (m : Message) (choice : Option Choice) (news : List News)
    (oldest : Some m ≡ slice_get (queue_at lines n a) 0) (change : IsChange w seeds choices bests lines n a m choice news) (moved : IsMoved lines lines' n a news) (put : IsPutChange choices choices' bests bests' a choice) where
  received_m : received_at lines' n a ≡ m
  received_m = let e : Some (received_at lines' n a) ≡ Some m = moved.received ∙ sym oldest in cc

  received_now : (k : ℕ) → received_at lines' k a ≡ received_with (λ j. received_at lines j a) n m k
  received_now k = elim (cases_eq k n) [
    | inl e ↦ ap (λ j. received_at lines' j a) e ∙ received_m ∙ sym (ap (λ b. cond b m (received_at lines k a)) (eq-eqb k n e))
    | inr ne ↦ moved.other_received k a (λ p. ne p.0) ∙ sym (ap (λ b. cond b m (received_at lines k a)) (ne_eqb k n ne))
  ]

  offers_same : (k : ℕ) → offers_after w lines a n m k ≡ offers_now w lines' a k
  offers_same k = ap (offer_given (w.policy k) (w.policy a) w.state k a (w.relation a k)) (sym (received_now k))

  held_now : IsHeldBy (w.policy a) (seeds a) (offers_now w lines' a) (best_at bests' a) (choice_at choices' a)
  held_now = held_with (w.policy a) (seeds a) (offers_after w lines a n m) (offers_now w lines' a) (best_after choice (best_at bests a)) (best_at bests' a) (held_after choice (choice_at choices a)) (choice_at choices' a) offers_same (sym put.best) (sym put.choice) change.held

  pub delivery : n ≢ a → IsDelivery w seeds (net_in choices lines) n a (net_in choices' lines')
  delivery apart = delivery_of w seeds (net_in choices lines) (net_in choices' lines') n a apart (record {
    message = m;
    rest = drop 1 (queue_at lines n a);
    oldest = first_rest (queue_at lines n a) m oldest;
    taken = moved.taken;
    received = received_m;
    right = right_held (w.policy a) (seeds a) (offers_now w lines' a) (best_at bests' a) (choice_at choices' a) held_now;
    told = λ b. subst (λ h. IsTold (sent_given (w.policy a) (w.relation a b) (choice_at choices a)) (sent_given (w.policy a) (w.relation a b) h) (queue_at lines a b) (queue_at lines' a b)) (sym put.choice)
        (told_more (sent_given (w.policy a) (w.relation a b) (choice_at choices a)) (sent_given (w.policy a) (w.relation a b) (held_after choice (choice_at choices a))) (queue_at lines a b) (told_to b news) (queue_at lines' a b) (change.told b) (moved.told b));
    other_queues = moved.other_queues;
    other_received = moved.other_received;
    other_choices = λ b ne. ap chosen (put.other_choices b ne);
  })

  module _ (t u : NetState) (from : Rel) (linked : w.relation a n ≡ Some from) (self : (a : ℕ) → w.relation a a ≡ None) (ends : (a b : ℕ) (r : Rel) → w.relation a b ≡ Some r → w.has a ≡ true)
      (kept : IsKept w seeds t) (waiting : BTreeSet (ℕ × ℕ))
      (c0 : t.choices.entries ≡ choices) (b0 : t.bests.entries ≡ bests) (l0 : t.lines.entries ≡ lines)
      (c1 : u.choices.entries ≡ choices') (b1 : u.bests.entries ≡ bests') (l1 : u.lines.entries ≡ lines')
      (keeps : KeepsWaiting t.waiting waiting)
      (noted : (k : ℕ) (d : News) → k < length news → contains pair_cmp waiting (a, (get_or news k d).to) ≡ true)
      (forgot : (k b : ℕ) → contains pair_cmp waiting (k, b) ≡ true → queue_at lines' k b ≢ [] → contains pair_cmp u.waiting (k, b) ≡ true)
      (queued : u.queued + 1 ≡ t.queued + length news) (few : u.queued ≤ 4611686018427387904) where
    old_waits : (k b : ℕ) → queue_at lines k b ≢ [] → contains pair_cmp waiting (k, b) ≡ true
    old_waits k b ne = keeps k b (kept.waits k b (λ e. ne (ap (λ es. queue_at es k b) (sym l0) ∙ e)))

    now_waits : (k b : ℕ) → queue_at lines' k b ≢ [] → contains pair_cmp waiting (k, b) ≡ true
    now_waits k b ne = elim (cases_eq k a) [
      | inl e ↦ subst (λ j. contains pair_cmp waiting (j, b) ≡ true) (sym e) (elim (noted_or waiting a b news noted) [
        | inr told ↦ told
        | inl none ↦ old_waits a b (λ empty. ne (ap (λ j. queue_at lines' j b) e ∙ moved.told b ∙ (λ i. empty i ++ none i)))
      ])
      | inr apart ↦ elim (cases_eq k n) [
        | inl e ↦ elim (cases_eq b a) [
          | inl f ↦ old_waits k b (λ empty. ne ((λ i. queue_at lines' (e i) (f i)) ∙ moved.taken ∙ drop_none (queue_at lines n a) (sym (λ i. queue_at lines (e i) (f i)) ∙ empty)))
          | inr nf ↦ old_waits k b (λ empty. ne (moved.other_queues k b apart (λ p. nf p.1) ∙ empty))
        ]
        | inr ng ↦ old_waits k b (λ empty. ne (moved.other_queues k b apart (λ p. ng p.0) ∙ empty))
      ]
    ]

    agreed : Agrees w seeds (net_in choices' lines')
    agreed = delivery_agrees w seeds self ends (net_in choices lines) (net_in choices' lines') n a from linked (delivery (apart_ends w self n a from linked)) (let F : ChoiceRows → LineRows → Type 0 = λ cs ls. Agrees w seeds (net_in cs ls) in coe 0 1 (i. F (c0 i) (l0 i)) kept.agrees)

    held_of : (b : ℕ) → w.has b ≡ true → IsHeldBy (w.policy b) (seeds b) (offers_now w lines' b) (best_at bests' b) (choice_at choices' b)
    held_of b here = elim (cases_eq b a) [
      | inl e ↦ subst (λ k. IsHeldBy (w.policy k) (seeds k) (offers_now w lines' k) (best_at bests' k) (choice_at choices' k)) (sym e) held_now
      | inr ne ↦ held_with (w.policy b) (seeds b) (offers_now w t.lines.entries b) (offers_now w lines' b) (best_at t.bests.entries b) (best_at bests' b) (choice_at t.choices.entries b) (choice_at choices' b)
          (λ k. ap (offer_given (w.policy k) (w.policy b) w.state k b (w.relation b k)) (ap (λ es. received_at es k b) l0 ∙ sym (moved.other_received k b (λ p. ne p.1))))
          (ap (λ es. best_at es b) b0 ∙ sym (ap best_on (put.other_bests b ne))) (ap (λ es. choice_at es b) c0 ∙ sym (ap chosen (put.other_choices b ne))) (kept.held b here)
    ]

    choice_row : (b : ℕ) → w.has b ≡ true → is_some (lookup (nat_eq b) choices') ≡ true
    choice_row b here = elim (cases_eq b a) [
      | inl e ↦ subst (λ k. is_some (lookup (nat_eq k) choices') ≡ true) (sym e) put.choice_there
      | inr ne ↦ ap is_some (put.other_choices b ne) ∙ ap (λ es. is_some (lookup (nat_eq b) es)) (sym c0) ∙ kept.choice_rows b here
    ]

    best_row : (b : ℕ) → w.has b ≡ true → is_some (lookup (nat_eq b) bests') ≡ true
    best_row b here = elim (cases_eq b a) [
      | inl e ↦ subst (λ k. is_some (lookup (nat_eq k) bests') ≡ true) (sym e) put.best_there
      | inr ne ↦ ap is_some (put.other_bests b ne) ∙ ap (λ es. is_some (lookup (nat_eq b) es)) (sym b0) ∙ kept.best_rows b here
    ]

    pub still_kept : IsKept w seeds u
    still_kept = record {
      agrees = (let F : ChoiceRows → LineRows → Type 0 = λ cs ls. Agrees w seeds (net_in cs ls) in coe 1 0 (i. F (c1 i) (l1 i)) agreed);
      choice_rows = subst (λ es. (b : ℕ) → w.has b ≡ true → is_some (lookup (nat_eq b) es) ≡ true) (sym c1) choice_row;
      best_rows = subst (λ es. (b : ℕ) → w.has b ≡ true → is_some (lookup (nat_eq b) es) ≡ true) (sym b1) best_row;
      held = (let F : ChoiceRows → BestRows → LineRows → Type 0 = λ cs bs ls. (b : ℕ) → w.has b ≡ true → IsHeldBy (w.policy b) (seeds b) (offers_now w ls b) (best_at bs b) (choice_at cs b) in coe 1 0 (i. F (c1 i) (b1 i) (l1 i)) held_of);
      linked = λ k b. ap (λ es. is_some (lookup (link_eq (k, b)) es)) l1 ∙ moved.there k b ∙ ap (λ es. is_some (lookup (link_eq (k, b)) es)) (sym l0) ∙ kept.linked k b;
      waits = λ k b ne. let ne' : queue_at lines' k b ≢ [] = λ e. ne (ap (λ es. queue_at es k b) l1 ∙ e) in forgot k b (now_waits k b ne') ne';
      counted = (let x = ap waiting_in l1 in let y = ap waiting_in l0 in omega (arith, x, y, queued, kept.counted, moved.count, change.counted));
      few = few;
    }
