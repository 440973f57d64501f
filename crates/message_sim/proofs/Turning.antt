-- Turns, one after the other.
use Rattle.std.proofs.Common.{◌≡◌, ◌≢◌, ◌⊎◌, inl, inr, ℕ, zero, suc, ◌+◌, ◌<◌, ◌≤◌, Bool, true, false, cond, not, is_some, Option, Some, None, List, [], ◌∷◌, ◌++◌, length, drop, replicate, refl, sym, ◌∙◌, ap, subst, arith, zero-le, le_of_eq, append-nil, length-append, take, get_or, find, option_map, Result, Ok, Err, IfOk}
use Rattle.std.proofs.Math.Seq.{take-suc}
use Rattle.std.proofs.lemmas.Grind.{flat_map-append}
use Rattle.std.proofs.lemmas.List.{replicate-append-replicate}
use Rattle.net_names.specs.declared.routes.Rel.{Rel}
use Rattle.net_names.specs.declared.routes.State.{State}
use Rattle.net_names.specs.Prefixes.{PrefixValue}
use Rattle.policy_laws.specs.Policy.{Policy}
use Rattle.std.specs.Prelude.{filter}
use Rattle.as_graph.proofs.Chains.{IsMutual}
use Rattle.stability_laws.specs.declared.entry.Seed.{Seed}
use Rattle.stability_laws.specs.Offers.{Setting}
use Rattle.message_sim.specs.Messages.{Message, MessageNet, IsQuiet}
use Rattle.message_sim.specs.Delivery.{IsDelivery, AreTrueDeliveries}
use Rattle.message_sim.specs.Nets.{NetValue, NetWorld, net_of, net_setting, seeds_in, IsRested, IsTurnOf, AreLowestFirst}
use Rattle.message_sim.specs.Turns.{AreTurns, IsTurnOn, first_foreign_in, is_foreign, turns_of}
use Rattle.message_sim.specs.StepValues.{StepValue}
use Rattle.message_sim.proofs.Settling.{OnLinks, delivery_on_links}

-- a turn of a link alone
pub turn_one : {P V : Type 0} (w : Setting) (seeds : ℕ → Option Seed) (old new : NetValue P V) (n a : ℕ) (took : Bool) → IsTurnOf w seeds old n a new took → AreTurns w seeds (Some (n, a) ∷ []) (net_of old) (cond took 1 0) (net_of new)
turn_one w seeds old new n a true d = ((n, a), refl, inr (net_of new, 0, refl, d, (refl, refl)))
turn_one w seeds old new n a false (none, is) = ((n, a), refl, inl (none, (refl, ap net_of (sym is))))

module _ (w : Setting) (seeds : ℕ → Option Seed) where
  pub turns_join : (ts us : List (Option (ℕ × ℕ))) (x y z : MessageNet) (j k : ℕ) → AreTurns w seeds ts x j y → AreTurns w seeds us y k z → AreTurns w seeds (ts ++ us) x (j + k) z
  turns_join [] us x y z j k (none, same) more = subst (λ (t : MessageNet). AreTurns w seeds us t (j + k) z) (sym same) (subst (λ m. AreTurns w seeds us y m z) (let e : k ≡ j + k = omega (arith, none) in e) more)
  turns_join (t ∷ ts) us x y z j k (l, on, inl (empty, rest)) more = (l, on, inl (empty, turns_join ts us x y z j k rest more))
  turns_join (t ∷ ts) us x y z j k (l, on, inr (u, m, is, d, rest)) more = (l, on, inr (u, m + k, (let e : j + k ≡ suc (m + k) = omega (arith, is) in e), d, turns_join ts us u y z m k rest more))

  pub turns_few : (ts : List (Option (ℕ × ℕ))) (x y : MessageNet) (k : ℕ) → AreTurns w seeds ts x k y → k ≤ length ts
  turns_few [] x y k (none, same) = le_of_eq none
  turns_few (t ∷ ts) x y k (l, on, inl (empty, rest)) = let h = turns_few ts x y k rest in omega (arith, h)
  turns_few (t ∷ ts) x y k (l, on, inr (u, m, is, d, rest)) = let h = turns_few ts u y m rest in omega (arith, h, is)

  idle : (m : ℕ) (x : MessageNet) → IsQuiet x → AreTurns w seeds (replicate m None) x 0 x
  idle zero x quiet = (refl, refl)
  idle (suc m) x quiet = ((0, 0), (λ n a some. absurd (some (quiet n a))), inl (quiet 0 0, idle m x quiet))

  -- deliveries on the lowest links, until none is left, are turns that name no link
  pub rested_turns : (most made : ℕ) (x y : MessageNet) → AreLowestFirst w seeds made x y → made ≤ most → (made < most → IsQuiet y) → AreTurns w seeds (replicate most None) x made y
  rested_turns zero zero x y is few quiet = (refl, is)
  rested_turns zero (suc k) x y is few quiet = absurd (omega (arith, few))
  rested_turns (suc m) zero x y is few quiet = subst (λ (t : MessageNet). AreTurns w seeds (replicate (suc m) None) x 0 t) is (idle (suc m) x (subst IsQuiet (sym is) (quiet (omega arith))))
  rested_turns (suc m) (suc k) x y (n, a, z, linked, next, d, others) few quiet =
      ((n, a), (λ b c some. (next.some, next.least b c some)), inr (z, k, refl, d, rested_turns m k z y others (omega (arith, few)) (λ less. quiet (omega (arith, less)))))

  -- ---- how turns end

  pub not_empty : (x y : MessageNet) (n a : ℕ) → IsDelivery w seeds x n a y → x.queue n a ≢ []
  not_empty x y n a d none = let some : x.queue n a ≡ y.received n a ∷ drop 1 (x.queue n a) = d.oldest in cc

  quiet_stays : (ts : List (Option (ℕ × ℕ))) (x y : MessageNet) (k : ℕ) → AreTurns w seeds ts x k y → IsQuiet x → IsQuiet y
  quiet_stays [] x y k (none, same) quiet = subst IsQuiet same quiet
  quiet_stays (t ∷ ts) x y k (l, on, inl (empty, rest)) quiet = quiet_stays ts x y k rest quiet
  quiet_stays (t ∷ ts) x y k (l, on, inr (z, m, is, d, rest)) quiet = absurd (not_empty x z l.0 l.1 d (quiet l.0 l.1))

  -- how many turns name no link
  abbrev pub free : List (Option (ℕ × ℕ)) → ℕ
  free ts = length (filter (λ t. not (is_some t)) ts)

  quiet_by : (x : MessageNet) (l : ℕ × ℕ) → IsTurnOn x None l → x.queue l.0 l.1 ≡ [] → IsQuiet x
  quiet_by x l on empty n a = by (x.queue n a) refl
    where
      by : (q : List Message) → x.queue n a ≡ q → x.queue n a ≡ []
      by [] is = is
      by (m ∷ ms) is = absurd ((on n a (λ none. (let t : [] ≡ m ∷ ms = sym none ∙ is in cc))).0 empty)

  -- each turn that names no link takes a message out, or the net is quiet in the end
  pub free_taken : (ts : List (Option (ℕ × ℕ))) (x y : MessageNet) (k : ℕ) → AreTurns w seeds ts x k y → (free ts ≤ k) ⊎ IsQuiet y
  free_taken [] x y k run = inl zero-le
  free_taken (Some named ∷ ts) x y k (l, on, inl (empty, rest)) = free_taken ts x y k rest
  free_taken (Some named ∷ ts) x y k (l, on, inr (z, m, is, d, rest)) = elim (free_taken ts z y m rest) [ inl le ↦ inl (omega (arith, le, is)) | inr quiet ↦ inr quiet ]
  free_taken (None ∷ ts) x y k (l, on, inl (empty, rest)) = inr (quiet_stays ts x y k rest (quiet_by x l on empty))
  free_taken (None ∷ ts) x y k (l, on, inr (z, m, is, d, rest)) = elim (free_taken ts z y m rest) [ inl le ↦ inl (omega (arith, le, is)) | inr quiet ↦ inr quiet ]

  -- the messages that turns take out
  pub true_turns : (mutual_links : IsMutual w.relation) (ts : List (Option (ℕ × ℕ))) (x y : MessageNet) (k : ℕ) → OnLinks w seeds mutual_links x → AreTurns w seeds ts x k y → (ls : List (ℕ × ℕ)) × (length ls ≡ k) × AreTrueDeliveries w seeds ls x y
  true_turns both [] x y k on (none, same) = ([], sym none, same)
  true_turns both (t ∷ ts) x y k on (l, at, inl (empty, rest)) = true_turns both ts x y k on rest
  true_turns both (t ∷ ts) x y k on (l, at, inr (z, m, is, d, rest)) =
      let linked : w.relation l.1 l.0 ≢ None = λ none. not_empty x z l.0 l.1 d (on l.0 l.1 none) in
      let (ls, len, run) = true_turns both ts z y m (delivery_on_links w seeds both x z l.0 l.1 linked d on) rest in
      (l ∷ ls, ap suc len ∙ sym is, (z, linked, d, run))

-- ---- turns of the value of a net

module _ {P V : Type 0} (meaning : P → Policy) (state_of : V → PrefixValue → ℕ → State) (old now new : NetValue P V) (same : now.world ≡ old.world) where
  abbrev Turns : NetWorld P V → List (Option (ℕ × ℕ)) → MessageNet → ℕ → MessageNet → Type 0
  Turns u = AreTurns (net_setting meaning state_of u) (seeds_in u)

  -- turns behind others
  more : (ts us : List (Option (ℕ × ℕ))) (made got : ℕ) → Turns old.world ts (net_of old) made (net_of now) → Turns now.world us (net_of now) got (net_of new) → Turns old.world (ts ++ us) (net_of old) (made + got) (net_of new)
  more ts us made got so_far then =
      let F : NetWorld P V → Type 0 = λ u. Turns u us (net_of now) got (net_of new) in
      turns_join (net_setting meaning state_of old.world) (seeds_in old.world) ts us (net_of old) (net_of now) (net_of new) made got so_far (subst F same then)

  pub turn_more : (k made n a : ℕ) (took : Bool) → Turns old.world (replicate k (Some (n, a))) (net_of old) made (net_of now) → IsTurnOf (net_setting meaning state_of now.world) (seeds_in now.world) now n a new took
      → Turns old.world (replicate (k + 1) (Some (n, a))) (net_of old) (made + cond took 1 0) (net_of new)
  turn_more k made n a took so_far turn =
      subst (λ (ts : List (Option (ℕ × ℕ))). Turns old.world ts (net_of old) (made + cond took 1 0) (net_of new)) (replicate-append-replicate k 1 (Some (n, a)))
      (more (replicate k (Some (n, a))) (Some (n, a) ∷ []) made (cond took 1 0) so_far (turn_one (net_setting meaning state_of now.world) (seeds_in now.world) now new n a took turn))

  step_run : (steps : List StepValue) (s : StepValue) (made got : ℕ) → Turns old.world (turns_of steps) (net_of old) made (net_of now) → Turns now.world (replicate s.most s.link) (net_of now) got (net_of new)
      → Turns old.world (turns_of (steps ++ s ∷ [])) (net_of old) (made + got) (net_of new)
  step_run steps s made got so_far then =
      subst (λ (ts : List (Option (ℕ × ℕ))). Turns old.world ts (net_of old) (made + got) (net_of new)) (sym (flat_map-append _ steps (s ∷ []) ∙ ap (λ t. turns_of steps ++ t) (append-nil (replicate s.most s.link))))
      (more (turns_of steps) (replicate s.most s.link) made got so_far then)

  -- turns of the first steps and of the next one
  pub one_step_more : (steps : List StepValue) (i : ℕ) (s : StepValue) (made got : ℕ) → i < length steps → s ≡ get_or steps i s → Turns old.world (turns_of (take i steps)) (net_of old) made (net_of now)
      → Turns now.world (replicate s.most s.link) (net_of now) got (net_of new) → Turns old.world (turns_of (take (i + 1) steps)) (net_of old) (made + got) (net_of new)
  one_step_more steps i s made got inside at so_far then =
      let next : i + 1 ≡ suc i = omega arith in
      let taken : take (i + 1) steps ≡ take i steps ++ s ∷ [] = ap (λ k. take k steps) next ∙ take-suc steps i s inside ∙ ap (λ (x : StepValue). take i steps ++ x ∷ []) (sym at) in
      subst (λ (xs : List StepValue). Turns old.world (turns_of xs) (net_of old) (made + got) (net_of new)) (sym taken) (step_run (take i steps) s made got so_far then)

pub rested_ok : {P V E : Type 0} (w : Setting) (seeds : ℕ → Option Seed) (old new : NetValue P V) (most : ℕ) (link : Option (ℕ × ℕ)) (r : Result ℕ E) → link ≡ None → IfOk r (IsRested w seeds old most new) → IfOk r (λ made. AreTurns w seeds (replicate most link) (net_of old) made (net_of new))
rested_ok w seeds old new most link (Ok made) none h =
    subst (λ (o : Option (ℕ × ℕ)). AreTurns w seeds (replicate most o) (net_of old) made (net_of new)) (sym none) (rested_turns w seeds most made (net_of old) (net_of new) h.lowest_first h.few h.quiet)
rested_ok w seeds old new most link (Err e) none h = tt

-- ---- steps

-- where no step names two ASes without a link, none of them does
pub no_foreign : (relation : ℕ → ℕ → Option Rel) (steps : List StepValue) → first_foreign_in relation steps ≡ None → (i : ℕ) (d : StepValue) → i < length steps → is_foreign relation (get_or steps i d) ≡ false
no_foreign relation [] e i d lt = absurd (omega (arith, lt))
no_foreign relation (s ∷ ss) e i d lt = by (is_foreign relation s) refl e i lt (no_foreign relation ss)
  where
    by : (b : Bool) → is_foreign relation s ≡ b → option_map (λ (t : StepValue). t.line) (cond b (Some s) (find (is_foreign relation) ss)) ≡ None → (i : ℕ) → i < suc (length ss)
        → (first_foreign_in relation ss ≡ None → (i : ℕ) (d : StepValue) → i < length ss → is_foreign relation (get_or ss i d) ≡ false) → is_foreign relation (get_or (s ∷ ss) i d) ≡ false
    by true is e i lt later = absurd cc
    by false is e zero lt later = is
    by false is e (suc i) lt later = later e i d (omega (arith, lt))

-- the messages that the first steps take out are at most as many as all steps ask for
pub within_all : (steps : List StepValue) (i : ℕ) → length (turns_of (take i steps)) ≤ length (turns_of steps)
within_all [] i = by i
  where
    by : (i : ℕ) → length (turns_of (take i [])) ≤ 0
    by zero = omega arith
    by (suc i) = omega arith
within_all (s ∷ ss) zero = zero-le
within_all (s ∷ ss) (suc i) =
    let rest = within_all ss i in
    let first : length (turns_of (take (suc i) (s ∷ ss))) ≡ length (replicate s.most s.link) + length (turns_of (take i ss)) = length-append (replicate s.most s.link) (turns_of (take i ss)) in
    let whole : length (turns_of (s ∷ ss)) ≡ length (replicate s.most s.link) + length (turns_of ss) = length-append (replicate s.most s.link) (turns_of ss) in
    omega (arith, rest, first, whole)
