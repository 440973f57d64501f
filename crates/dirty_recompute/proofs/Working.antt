-- Turns over two queues: each keeps what holds between turns. Nothing here knows what `right` is.
use Rattle.std.proofs.Common.{◌≡◌, ◌≢◌, ◌⊎◌, inl, inr, ℕ, Bool, true, false, ◌==◌, ◌||◌, true≢false, Option, Some, List, [], ◌∷◌, refl, sym, ◌∙◌, ap, subst}
use Rattle.std.proofs.lemmas.Bool.{cases_eq, cases_Bool, eqb-true}
use Rattle.net_names.specs.declared.routes.Rel.{Rel}
use Rattle.net_names.specs.declared.routes.Rel.TheVariants.{Customer, Provider}
use Rattle.net_names.specs.Numbers.{occurs}
use Rattle.net_names.proofs.Shared.{occurs_cons, occurs_head, occurs_rest}
use Rattle.stability_laws.specs.declared.entry.Entry.{Entry}
use Rattle.stability_laws.specs.Steps.{low}
use Rattle.dirty_recompute.specs.Exact.{IsCounted}
use Rattle.dirty_recompute.specs.Work.{IsInOrder, IsUpWork, IsWholeWork}

-- one turn upwards
pub record IsUpStep (LowRight Right : (ℕ → Option Entry) → ℕ → Type 0) (relation : ℕ → ℕ → Option Rel) (a : ℕ) (f : ℕ → Option Entry) (overlay up whole : ℕ → Bool) (g : ℕ → Option Entry) (overlay' up' whole' : ℕ → Bool) : Type 0 where
  pub others : (b : ℕ) → b ≢ a → g b ≡ f b
  pub changed_others : (b : ℕ) → b ≢ a → overlay' b ≡ overlay b
  pub settled : ((g a ≡ f a) × (overlay' a ≡ overlay a)) ⊎ ((low (g a) ≢ low (f a)) × (overlay' a ≡ true) × (low (g a) ≡ g a))
  pub now_low : LowRight g a
  pub now_right : whole' a ≡ false → Right g a
  pub stay_low : (b : ℕ) → b ≢ a → up' b ≡ false → (up b ≡ false) × (LowRight f b → LowRight g b)
  pub stay : (b : ℕ) → b ≢ a → up' b ≡ false → whole' b ≡ false → (whole b ≡ false) × (Right f b → Right g b)
  pub from : (b : ℕ) → up' b ≡ true → (b ≢ a) × ((up b ≡ true) ⊎ ((relation b a ≡ Some Customer) × (overlay' a ≡ true)))
  pub from_whole : (b : ℕ) → whole' b ≡ true → (whole b ≡ true) ⊎ ((b ≡ a) ⊎ ((r : Rel) × (relation b a ≡ Some r) × (overlay' a ≡ true)))

-- one turn downwards
pub record IsWholeStep (LowRight Right : (ℕ → Option Entry) → ℕ → Type 0) (relation : ℕ → ℕ → Option Rel) (a : ℕ) (f : ℕ → Option Entry) (overlay whole : ℕ → Bool) (g : ℕ → Option Entry) (overlay' whole' : ℕ → Bool) : Type 0 where
  pub others : (b : ℕ) → b ≢ a → g b ≡ f b
  pub changed_others : (b : ℕ) → b ≢ a → overlay' b ≡ overlay b
  pub settled : ((g a ≡ f a) × (overlay' a ≡ overlay a)) ⊎ ((g a ≢ f a) × (overlay' a ≡ true))
  pub low_kept : low (g a) ≡ low (f a)
  pub now_low : LowRight g a
  pub now_right : Right g a
  pub stay_low : (b : ℕ) → b ≢ a → LowRight f b → LowRight g b
  pub stay : (b : ℕ) → b ≢ a → whole' b ≡ false → (whole b ≡ false) × (Right f b → Right g b)
  pub from : (b : ℕ) → whole' b ≡ true → (b ≢ a) × ((whole b ≡ true) ⊎ ((relation b a ≡ Some Provider) × (overlay' a ≡ true)))

both : (b : Bool) → b ≡ true → b ≡ false → ⊥
both b t f = true≢false (sym t ∙ f)

occurs_neither : (b a : ℕ) (xs : List ℕ) → b ≢ a → occurs b xs ≡ false → occurs b (a ∷ xs) ≡ false
occurs_neither b a xs ne e = by (a == b) refl
  where
    by : (t : Bool) → (a == b) ≡ t → (t || occurs b xs) ≡ false
    by true is = absurd (ne (sym (eqb-true a b is)))
    by false is = e

-- what a failing test would follow from fails too
pub unset : (x y : Bool) → (x ≡ true → y ≡ true) → y ≡ false → x ≡ false
unset true y h n = absurd (true≢false (sym (h refl) ∙ n))
unset false y h n = refl

not_later : (b a : ℕ) (xs : List ℕ) → occurs b (a ∷ xs) ≡ false → (b ≢ a) × (occurs b xs ≡ false)
not_later b a xs e = (away, rest)
  where
    away : b ≢ a
    away x = both (occurs b (a ∷ xs)) (subst (λ t. occurs b (t ∷ xs) ≡ true) x (occurs_head b xs)) e

    rest : occurs b xs ≡ false
    rest = by (occurs b xs) refl
      where
        by : (t : Bool) → occurs b xs ≡ t → occurs b xs ≡ false
        by true is = absurd (both (occurs b (a ∷ xs)) (occurs_rest b a xs is) e)
        by false is = is

-- a turn of one of the first keeps the order, if only later ones are put in
pub in_order : (le : ℕ → ℕ → Type 0) → ((x y z : ℕ) → le x y → le y z → le x z) → (a : ℕ) (queue queue' : ℕ → Bool) (taken : List ℕ) → queue a ≡ true → ((b : ℕ) → queue b ≡ true → le a b) →
    ((b : ℕ) → queue' b ≡ true → (b ≢ a) × ((queue b ≡ true) ⊎ (le a b × (le b a → ⊥)))) → IsInOrder le queue taken → IsInOrder le queue' (a ∷ taken)
in_order le trans a queue queue' taken is least from was = record { ahead = ahead; fresh = fresh; distinct = (was.fresh a is, was.distinct) }
  where
    after : (b : ℕ) → queue' b ≡ true → le a b
    after b q = elim (from b q).1 [ inl old ↦ least b old | inr new ↦ new.0 ]

    ahead : (b c : ℕ) → queue' b ≡ true → occurs c (a ∷ taken) ≡ true → le c b
    ahead b c q t = elim (occurs_cons c a taken t) [
      | inl e ↦ subst (λ x. le x b) e (after b q)
      | inr old ↦ trans c a b (was.ahead a c is old) (after b q)
    ]

    fresh : (b : ℕ) → queue' b ≡ true → occurs b (a ∷ taken) ≡ false
    fresh b q = occurs_neither b a taken (from b q).0 (by (from b q).1 (occurs b taken) refl)
      where
        by : (queue b ≡ true) ⊎ (le a b × (le b a → ⊥)) → (x : Bool) → occurs b taken ≡ x → occurs b taken ≡ false
        by (inl old) x e = was.fresh b old
        by (inr new) true e = absurd (new.1 (was.ahead a b is e))
        by (inr new) false e = e

-- what is counted stays so, as the overlay grows
counted_on : (relation : ℕ → ℕ → Option Rel) (touched overlay overlay' : ℕ → Bool) (b : ℕ) → ((c : ℕ) → overlay c ≡ true → overlay' c ≡ true) → IsCounted relation touched overlay b → IsCounted relation touched overlay' b
counted_on relation touched o o' b grows (inl t) = inl t
counted_on relation touched o o' b grows (inr (c, r, linked, is)) = inr (c, r, linked, grows c is)

-- an AS that is changed stays so, where a alone may come to be changed
stays_changed : (a : ℕ) (overlay overlay' : ℕ → Bool) → ((b : ℕ) → b ≢ a → overlay' b ≡ overlay b) → (overlay' a ≡ overlay a) ⊎ (overlay' a ≡ true) → (c : ℕ) → overlay c ≡ true → overlay' c ≡ true
stays_changed a overlay overlay' others settled c t = elim (cases_eq c a) [
  | inl e ↦ elim settled [ inl s ↦ ap overlay' e ∙ s ∙ ap overlay (sym e) ∙ t | inr s ↦ ap overlay' e ∙ s ]
  | inr ne ↦ others c ne ∙ t
]

-- what holds at a, and away from it, holds at b
at_or_away : (F : ℕ → Type 0) (a b : ℕ) → F a → (b ≢ a → F b) → F b
at_or_away F a b at away = elim (cases_eq b a) [ inl e ↦ subst F (sym e) at | inr ne ↦ away ne ]

-- what holds of a, and of all who had a turn before, holds of all who had one
all_taken : (F : ℕ → Type 0) (a : ℕ) (taken : List ℕ) → F a → ((b : ℕ) → occurs b taken ≡ true → F b) → (b : ℕ) → occurs b (a ∷ taken) ≡ true → F b
all_taken F a taken at before b t = elim (occurs_cons b a taken t) [ inl e ↦ subst F e at | inr old ↦ before b old ]

-- b waits after a turn of a: it waited, or it is this to a, which has changed
abbrev IsAsked : (ℕ → ℕ → Option Rel) → Rel → (ℕ → Bool) → (ℕ → Bool) → ℕ → ℕ → Type 0
IsAsked relation r queue changed a b = (queue b ≡ true) ⊎ ((relation b a ≡ Some r) × (changed a ≡ true))

asked_later : (relation : ℕ → ℕ → Option Rel) (r : Rel) (queue changed : ℕ → Bool) (a b : ℕ) (F : Type 0) → (relation b a ≡ Some r → F) → IsAsked relation r queue changed a b → (queue b ≡ true) ⊎ F
asked_later relation r queue changed a b F later (inl q) = inl q
asked_later relation r queue changed a b F later (inr (link, t)) = inr (later link)

asked_counted : (relation : ℕ → ℕ → Option Rel) (touched : ℕ → Bool) (r : Rel) (queue changed : ℕ → Bool) (a b : ℕ) → (queue b ≡ true → IsCounted relation touched changed b) → IsAsked relation r queue changed a b → IsCounted relation touched changed b
asked_counted relation touched r queue changed a b old (inl q) = old q
asked_counted relation touched r queue changed a b old (inr (link, t)) = inr (a, r, link, t)

module _ (LowRight Right : (ℕ → Option Entry) → ℕ → Type 0) (le : ℕ → ℕ → Type 0) (trans : (x y z : ℕ) → le x y → le y z → le x z) (relation : ℕ → ℕ → Option Rel) (touched : ℕ → Bool) (table : ℕ → Option Entry) where
  module _ (above : (a b : ℕ) → relation b a ≡ Some Customer → le a b × (le b a → ⊥)) (a : ℕ) (f : ℕ → Option Entry) (overlay up whole : ℕ → Bool) (taken : List ℕ) (g : ℕ → Option Entry) (overlay' up' whole' : ℕ → Bool) where
    pub up_step : up a ≡ true → ((b : ℕ) → up b ≡ true → le a b) → IsUpWork LowRight Right le relation touched table f overlay up whole taken → IsUpStep LowRight Right relation a f overlay up whole g overlay' up' whole' → IsUpWork LowRight Right le relation touched table g overlay' up' whole' (a ∷ taken)
    up_step is least was step = record {
      low_right = λ b. at_or_away (λ x. up' x ≡ false → LowRight g x) a b (λ n. step.now_low) (λ ne n. (step.stay_low b ne n).1 (was.low_right b (step.stay_low b ne n).0));
      right = λ b. at_or_away (λ x. up' x ≡ false → whole' x ≡ false → Right g x) a b (λ n m. step.now_right m) (λ ne n m. (step.stay b ne n m).1 (was.right b (step.stay_low b ne n).0 (step.stay b ne n m).0));
      same = λ b. at_or_away (λ x. overlay' x ≡ false → g x ≡ table x) a b (same_here step.settled) (λ ne n. step.others b ne ∙ was.same b (sym (step.changed_others b ne) ∙ n));
      differs = λ b. at_or_away (λ x. overlay' x ≡ true → low (g x) ≢ low (table x)) a b (differs_here step.settled) (λ ne t x. was.differs b (sym (step.changed_others b ne) ∙ t) (ap low (sym (step.others b ne)) ∙ x));
      put_low = λ b. at_or_away (λ x. overlay' x ≡ true → low (g x) ≡ g x) a b (low_here step.settled) (λ ne t. ap low (step.others b ne) ∙ was.put_low b (sym (step.changed_others b ne) ∙ t) ∙ sym (step.others b ne));
      put = λ b. at_or_away (λ x. overlay' x ≡ true → occurs x (a ∷ taken) ≡ true) a b (λ t. occurs_head a taken) (λ ne t. occurs_rest b a taken (was.put b (sym (step.changed_others b ne) ∙ t)));
      order = in_order le trans a up up' taken is least (λ b q. ((step.from b q).0, asked_later relation Customer up overlay' a b (le a b × (le b a → ⊥)) (above a b) (step.from b q).1)) was.order;
      queued = λ b q. asked_counted relation touched Customer up overlay' a b (λ old. on b (was.queued b old)) (step.from b q).1;
      queued_whole = λ b q. queued_whole b (step.from_whole b q);
      done = all_taken (IsCounted relation touched overlay') a taken (on a (was.queued a is)) (λ b old. on b (was.done b old));
    }
      where
        on : (b : ℕ) → IsCounted relation touched overlay b → IsCounted relation touched overlay' b
        on b c = counted_on relation touched overlay overlay' b (stays_changed a overlay overlay' step.changed_others (elim step.settled [ inl s ↦ inl s.1 | inr s ↦ inr s.1 ])) c

        not_put : overlay a ≡ false
        not_put = by (overlay a) refl
          where
            by : (x : Bool) → overlay a ≡ x → overlay a ≡ false
            by true e = absurd (both (occurs a taken) (was.put a e) (was.order.fresh a is))
            by false e = e

        same_here : ((g a ≡ f a) × (overlay' a ≡ overlay a)) ⊎ ((low (g a) ≢ low (f a)) × (overlay' a ≡ true) × (low (g a) ≡ g a)) → overlay' a ≡ false → g a ≡ table a
        same_here (inl s) n = s.0 ∙ was.same a not_put
        same_here (inr s) n = absurd (both (overlay' a) s.1 n)

        differs_here : ((g a ≡ f a) × (overlay' a ≡ overlay a)) ⊎ ((low (g a) ≢ low (f a)) × (overlay' a ≡ true) × (low (g a) ≡ g a)) → overlay' a ≡ true → low (g a) ≢ low (table a)
        differs_here (inl s) t = absurd (both (overlay' a) t (s.1 ∙ not_put))
        differs_here (inr s) t = λ x. s.0 (x ∙ ap low (sym (was.same a not_put)))

        low_here : ((g a ≡ f a) × (overlay' a ≡ overlay a)) ⊎ ((low (g a) ≢ low (f a)) × (overlay' a ≡ true) × (low (g a) ≡ g a)) → overlay' a ≡ true → low (g a) ≡ g a
        low_here (inl s) t = absurd (both (overlay' a) t (s.1 ∙ not_put))
        low_here (inr s) t = s.2

        queued_whole : (b : ℕ) → (whole b ≡ true) ⊎ ((b ≡ a) ⊎ ((r : Rel) × (relation b a ≡ Some r) × (overlay' a ≡ true))) → IsCounted relation touched overlay' b
        queued_whole b (inl q) = on b (was.queued_whole b q)
        queued_whole b (inr (inl e)) = subst (λ x. IsCounted relation touched overlay' x) (sym e) (on a (was.queued a is))
        queued_whole b (inr (inr (r, link, t))) = inr (a, r, link, t)

-- with nobody left to take a turn upwards, the way downwards begins
pub turn : (LowRight Right : (ℕ → Option Entry) → ℕ → Type 0) (le ge : ℕ → ℕ → Type 0) (relation : ℕ → ℕ → Option Rel) (touched : ℕ → Bool) (table : ℕ → Option Entry) (f : ℕ → Option Entry) (overlay up whole : ℕ → Bool) (taken : List ℕ) → ((b : ℕ) → up b ≡ false) →
    IsUpWork LowRight Right le relation touched table f overlay up whole taken → IsWholeWork LowRight Right ge relation touched table f overlay whole taken []
turn LowRight Right le ge relation touched table f overlay up whole taken empty was = record {
  low_right = λ b. was.low_right b (empty b);
  right = λ b n. was.right b (empty b) n;
  same = was.same;
  differs = λ b t x. was.differs b t (ap low x);
  differs_low = λ b t _. was.differs b t;
  put_low = λ b t _. was.put_low b t;
  order = record { ahead = λ b c q t. absurd (true≢false (sym t)); fresh = λ b q. refl; distinct = tt };
  queued = was.queued_whole;
  done_up = was.done;
  done = λ b t. absurd (true≢false (sym t));
  distinct_up = was.order.distinct;
}

module _ (LowRight Right : (ℕ → Option Entry) → ℕ → Type 0) (le : ℕ → ℕ → Type 0) (trans : (x y z : ℕ) → le x y → le y z → le x z) (relation : ℕ → ℕ → Option Rel) (touched : ℕ → Bool) (table : ℕ → Option Entry) where
  module _ (below : (a b : ℕ) → relation b a ≡ Some Provider → le a b × (le b a → ⊥)) (a : ℕ) (f : ℕ → Option Entry) (overlay whole : ℕ → Bool) (earlier taken : List ℕ) (g : ℕ → Option Entry) (overlay' whole' : ℕ → Bool) where
    pub whole_step : whole a ≡ true → ((b : ℕ) → whole b ≡ true → le a b) → IsWholeWork LowRight Right le relation touched table f overlay whole earlier taken → IsWholeStep LowRight Right relation a f overlay whole g overlay' whole' → IsWholeWork LowRight Right le relation touched table g overlay' whole' earlier (a ∷ taken)
    whole_step is least was step = record {
      low_right = λ b. at_or_away (LowRight g) a b step.now_low (λ ne. step.stay_low b ne (was.low_right b));
      right = λ b. at_or_away (λ x. whole' x ≡ false → Right g x) a b (λ n. step.now_right) (λ ne n. (step.stay b ne n).1 (was.right b (step.stay b ne n).0));
      same = λ b. at_or_away (λ x. overlay' x ≡ false → g x ≡ table x) a b (same_here step.settled) (λ ne n. step.others b ne ∙ was.same b (sym (step.changed_others b ne) ∙ n));
      differs = λ b. at_or_away (λ x. overlay' x ≡ true → g x ≢ table x) a b (differs_here step.settled) (λ ne t x. was.differs b (sym (step.changed_others b ne) ∙ t) (sym (step.others b ne) ∙ x));
      differs_low = λ b t n x.
          let later = not_later b a taken n in
          was.differs_low b (sym (step.changed_others b later.0) ∙ t) later.1 (ap low (sym (step.others b later.0)) ∙ x);
      put_low = λ b t n.
          let later = not_later b a taken n in
          ap low (step.others b later.0) ∙ was.put_low b (sym (step.changed_others b later.0) ∙ t) later.1 ∙ sym (step.others b later.0);
      order = in_order le trans a whole whole' taken is least (λ b q. ((step.from b q).0, asked_later relation Provider whole overlay' a b (le a b × (le b a → ⊥)) (below a b) (step.from b q).1)) was.order;
      queued = λ b q. asked_counted relation touched Provider whole overlay' a b (λ old. on b (was.queued b old)) (step.from b q).1;
      done_up = λ b t. on b (was.done_up b t);
      done = all_taken (IsCounted relation touched overlay') a taken (on a (was.queued a is)) (λ b old. on b (was.done b old));
      distinct_up = was.distinct_up;
    }
      where
        on : (b : ℕ) → IsCounted relation touched overlay b → IsCounted relation touched overlay' b
        on b c = counted_on relation touched overlay overlay' b (stays_changed a overlay overlay' step.changed_others (elim step.settled [ inl s ↦ inl s.1 | inr s ↦ inr s.1 ])) c

        same_here : ((g a ≡ f a) × (overlay' a ≡ overlay a)) ⊎ ((g a ≢ f a) × (overlay' a ≡ true)) → overlay' a ≡ false → g a ≡ table a
        same_here (inl s) n = s.0 ∙ was.same a (sym s.1 ∙ n)
        same_here (inr s) n = absurd (both (overlay' a) s.1 n)

        differs_here : ((g a ≡ f a) × (overlay' a ≡ overlay a)) ⊎ ((g a ≢ f a) × (overlay' a ≡ true)) → overlay' a ≡ true → g a ≢ table a
        differs_here (inl s) t x = was.differs a (sym s.1 ∙ t) (sym s.0 ∙ x)
        differs_here (inr s) t x = elim (cases_Bool (overlay a)) [
          | inl old ↦ was.differs_low a old (was.order.fresh a is) (sym step.low_kept ∙ ap low x)
          | inr new ↦ s.0 (x ∙ sym (was.same a new))
        ]
