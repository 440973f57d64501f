-- The two loops: what each iteration keeps.
use Rattle.std.proofs.Common.{◌≡◌, ◌≢◌, ◌⊎◌, inl, inr, ℕ, zero, suc, ◌≤◌, ◌+◌, Bool, true, false, ◌||◌, ◌==◌, true≢false, is_some, Option, Some, None, List, [], ◌∷◌, ◌++◌, length, refl, sym, ◌∙◌, ap, subst, arith}
use Rattle.std.proofs.lemmas.Bool.{eq-eqb, eqb-true, or_left, or_right}
use Rattle.std.specs.List.{slice_get}
use Rattle.dirty_recompute.specs.Queues.{IsIn}
use Rattle.net_names.specs.declared.routes.Rel.{Rel}
use Rattle.net_names.specs.declared.routes.Rel.TheVariants.{Customer, Provider}
use Rattle.policy_laws.specs.Policy.{Policy}
use Rattle.net_names.specs.declared.routes.State.{State}
use Rattle.as_graph.specs.Topology.{Topology, relation, has, ases}
use Rattle.net_names.specs.Links.{converse}
use Rattle.net_names.specs.Numbers.{occurs}
use Rattle.net_names.proofs.Shared.{occurs_right}
use Rattle.as_graph.specs.Hierarchy.{HasNoProviderCycle}
use Rattle.as_graph.proofs.Links.{relation_self, linked_end}
use Rattle.as_graph.proofs.Chains.{distinct_le}
use Rattle.as_graph.proofs.RowAses.{occurs-append}
use Rattle.stability_laws.specs.declared.entry.Entry.{Entry}
use Rattle.stability_laws.specs.declared.entry.Seed.{Seed}
use Rattle.stability_laws.specs.Book.{PolicyBook}
use Rattle.stability_laws.specs.World.{setting}
use Rattle.stability_laws.specs.Offers.{Setting}
use Rattle.stability_laws.specs.Stable.{IsRight}
use Rattle.dirty_recompute.specs.Exact.{IsCounted, IsExact, AreEnough}
use Rattle.dirty_recompute.specs.Laws.{AreLaws}
use Rattle.dirty_recompute.specs.Steps.{IsRightLow}
use Rattle.dirty_recompute.specs.Work.{IsUpLoop, IsWholeLoop}
use Rattle.dirty_recompute.proofs.Parts.{right_low}
use Rattle.dirty_recompute.proofs.Working.{IsUpStep, IsWholeStep, up_step, turn, whole_step}
use Rattle.dirty_recompute.proofs.Turning.{up_turn, whole_turn, right_outside, exact}
use Rattle.dirty_recompute.specs.declared.queue.Queue.{Queue}
use Rattle.dirty_recompute.specs.Queues.{contains, waits, HasRanks, IsAdded, IsTaken}
use Rattle.dirty_recompute.specs.Turns.{IsTurnUp, IsTurnDown}
use Rattle.dirty_recompute.proofs.TurnLemmas.{turned}

-- whoever counts is touched or an AS
counted_in : (g : Topology) (touched : List ℕ) (overlay : ℕ → Bool) (b : ℕ) → IsCounted (relation g) (λ x. occurs x touched) overlay b → occurs b (touched ++ ases g) ≡ true
counted_in g touched overlay b (inl t) = occurs-append b touched (ases g) ∙ or_left (occurs b touched) (occurs b (ases g)) t
counted_in g touched overlay b (inr (c, r, link, t)) = occurs_right b touched (ases g) (linked_end g c b (converse r) (turned g b c r link))

-- who waits once a was taken out is not a, and waited before
module _ (g : Topology) (rank : ℕ → ℕ) (a : ℕ) (queue between : Queue) (out : IsTaken rank queue between a) (r : Rel) (changed : Bool) where
  not_itself : (b : ℕ) → relation g b a ≡ Some r → b ≢ a
  not_itself b link e = (let x : None ≡ Some r = sym (relation_self g a) ∙ ap (λ t. relation g t a) (sym e) ∙ link in cc)

  pub from_others : (b : ℕ) → (waits rank between b ≡ true) ⊎ ((relation g b a ≡ Some r) × (changed ≡ true)) → (b ≢ a) × ((waits rank queue b ≡ true) ⊎ ((relation g b a ≡ Some r) × (changed ≡ true)))
  from_others b (inl t) = ((λ e. true≢false (sym t ∙ ap (waits rank between) e ∙ out.gone)), inl (out.from b t))
  from_others b (inr n) = (not_itself b n.0, inr n)

module _ {P : Type 0} (meaning : P → Policy) (l : AreLaws meaning) (g : Topology) (book : PolicyBook P) (state : ℕ → State) (seeds : ℕ → Option Seed) (rank : ℕ → ℕ) (touched : List ℕ) (table : ℕ → Option Entry) where
  abbrev here : Setting
  here = setting meaning g book state

  abbrev Low : (ℕ → Option Entry) → ℕ → Type 0
  Low = IsRightLow here seeds

  abbrev Right : (ℕ → Option Entry) → ℕ → Type 0
  Right = IsRight here seeds

  pub next_up : ((a b : ℕ) → relation g a b ≡ Some Customer → suc (rank b) ≤ rank a) → (f h : ℕ → Option Entry) (overlay overlay' : ℕ → Bool) (up between up' whole whole' : Queue) (steps a : ℕ) →
      IsUpLoop here seeds rank touched table f overlay up whole steps → IsTaken rank up between a → ((b : ℕ) → waits rank up b ≡ true → rank a ≤ rank b) →
      IsTurnUp here seeds rank a f h overlay overlay' between up' whole whole' → IsUpLoop here seeds rank touched table h overlay' up' whole' (suc steps)
  next_up falls f h overlay overlay' up between up' whole whole' steps a was out least done = record {
    taken = a ∷ was.taken;
    work = up_step Low Right (λ x y. rank x ≤ rank y) (λ x y z p q. (let p' : rank x ≤ rank y = p in let q' : rank y ≤ rank z = q in omega arith)) (relation g) (λ b. occurs b touched) table
        (λ x b link. (let lt : suc (rank x) ≤ rank b = falls b x link in (omega arith), λ le. (let le' : rank b ≤ rank x = le in let lt : suc (rank x) ≤ rank b = falls b x link in omega arith)))
        a f overlay (waits rank up) (waits rank whole) was.taken h overlay' (waits rank up') (waits rank whole') out.waited least was.work step;
    ranks = done.ranks out.ranks;
    ranks_whole = done.ranks_whole was.ranks_whole;
    count = ap suc was.count;
  }
    where
      step : IsUpStep Low Right (relation g) a f overlay (waits rank up) (waits rank whole) h overlay' (waits rank up') (waits rank whole')
      step = up_turn meaning l.ranks_offers l.prefers l.names l.follows l.by_offers l.nothing_up l.decide g book state seeds a f overlay (waits rank up) (waits rank whole) h overlay' (waits rank up') (waits rank whole')
          done.chosen.new done.chosen.right done.chosen.at done.only.others done.only.changed_others done.only.settled
          (λ n. done.queued.itself (done.chosen.none n)) (λ b ne t. done.queued.kept b (out.kept b ne t)) done.queued.kept_whole done.queued.asked done.queued.asked_whole
          (λ b t. from_others g rank a up between out Customer (overlay' a) b (done.queued.from b t)) done.queued.from_whole

  pub next_whole : ((a b : ℕ) → relation g a b ≡ Some Customer → suc (rank b) ≤ rank a) → (f h : ℕ → Option Entry) (overlay overlay' : ℕ → Bool) (whole between whole' : Queue) (earlier steps a : ℕ) →
      IsWholeLoop here seeds rank touched table f overlay whole earlier steps → IsTaken rank whole between a → ((b : ℕ) → waits rank whole b ≡ true → rank b ≤ rank a) →
      IsTurnDown here seeds rank a f h overlay overlay' between whole' → IsWholeLoop here seeds rank touched table h overlay' whole' earlier (suc steps)
  next_whole falls f h overlay overlay' whole between whole' earlier steps a was out greatest done = record {
    earlier = was.earlier;
    taken = a ∷ was.taken;
    work = whole_step Low Right (λ x y. rank y ≤ rank x) (λ x y z p q. (let p' : rank y ≤ rank x = p in let q' : rank z ≤ rank y = q in omega arith)) (relation g) (λ b. occurs b touched) table
        (λ x b link. (let lt : suc (rank b) ≤ rank x = falls x b (turned g b x Provider link) in (omega arith), λ le. (let le' : rank x ≤ rank b = le in let lt : suc (rank b) ≤ rank x = falls x b (turned g b x Provider link) in omega arith)))
        a f overlay (waits rank whole) was.earlier was.taken h overlay' (waits rank whole') out.waited greatest was.work step;
    ranks = done.ranks out.ranks;
    count_earlier = was.count_earlier;
    count = ap suc was.count;
  }
    where
      step : IsWholeStep Low Right (relation g) a f overlay (waits rank whole) h overlay' (waits rank whole')
      step = whole_turn meaning l.ranks_offers l.prefers l.names l.follows l.by_offers l.nothing_up l.decide g book state seeds a f overlay (waits rank whole) h overlay' (waits rank whole')
          (was.work.low_right a) done.chosen done.only.others done.only.changed_others done.only.settled
          (λ b ne t. done.queued.kept b (out.kept b ne t)) done.queued.asked (λ b t. from_others g rank a whole between out Provider (overlay' a) b (done.queued.from b t))

  pub few_up : (f : ℕ → Option Entry) (overlay : ℕ → Bool) (up whole : Queue) (steps : ℕ) → IsUpLoop here seeds rank touched table f overlay up whole steps → steps ≤ length (touched ++ ases g)
  few_up f overlay up whole steps was = subst (λ n. n ≤ length (touched ++ ases g)) was.count (distinct_le was.taken (touched ++ ases g) was.work.order.distinct (λ b t. counted_in g touched overlay b (was.work.done b t)))

  pub few_whole : (f : ℕ → Option Entry) (overlay : ℕ → Bool) (whole : Queue) (earlier steps : ℕ) → IsWholeLoop here seeds rank touched table f overlay whole earlier steps → steps ≤ length (touched ++ ases g)
  few_whole f overlay whole earlier steps was = subst (λ n. n ≤ length (touched ++ ases g)) was.count (distinct_le was.taken (touched ++ ases g) was.work.order.distinct (λ b t. counted_in g touched overlay b (was.work.done b t)))

  -- the queue upwards has just the touched
  pub start : (overlay : ℕ → Bool) (up whole : Queue) → ((b : ℕ) → overlay b ≡ false) → ((b : ℕ) → waits rank up b ≡ occurs b touched) → ((b : ℕ) → waits rank whole b ≡ false) → HasRanks rank up → HasRanks rank whole →
      ((b : ℕ) → has g b ≡ false → occurs b touched ≡ false → table b ≡ None) → ((b : ℕ) → has g b ≡ false → seeds b ≡ None) →
      ((b : ℕ) → has g b ≡ true → occurs b touched ≡ false → Right table b) → IsUpLoop here seeds rank touched table table overlay up whole zero
  start overlay up whole fresh is none ranks ranks_whole only seeds_at right = record {
    taken = [];
    work = record {
      low_right = λ b n. right_low meaning l.ranks_offers l.names l.follows l.by_offers l.nothing_up l.decide g book state seeds table b (outside b (sym (is b) ∙ n));
      right = λ b n _. outside b (sym (is b) ∙ n);
      same = λ b _. refl;
      differs = λ b t. absurd (true≢false (sym t ∙ fresh b));
      put = λ b t. absurd (true≢false (sym t ∙ fresh b));
      put_low = λ b t. absurd (true≢false (sym t ∙ fresh b));
      order = record { ahead = λ b c q t. absurd (true≢false (sym t)); fresh = λ b q. refl; distinct = tt };
      queued = λ b t. inl (sym (is b) ∙ t);
      queued_whole = λ b t. absurd (true≢false (sym t ∙ none b));
      done = λ b t. absurd (true≢false (sym t));
    };
    ranks = ranks;
    ranks_whole = ranks_whole;
    count = refl;
  }
    where
      outside : (b : ℕ) → occurs b touched ≡ false → Right table b
      outside = right_outside meaning l.ranks_offers l.prefers l.names l.follows l.by_offers l.nothing_up l.decide g book state seeds table (λ b. occurs b touched) only seeds_at right

  pub halfway : (f : ℕ → Option Entry) (overlay : ℕ → Bool) (up whole : Queue) (steps : ℕ) → ((b : ℕ) → waits rank up b ≡ false) → IsUpLoop here seeds rank touched table f overlay up whole steps → IsWholeLoop here seeds rank touched table f overlay whole steps zero
  halfway f overlay up whole steps empty was = record {
    earlier = was.taken;
    taken = [];
    work = turn Low Right (λ x y. rank x ≤ rank y) (λ x y. rank y ≤ rank x) (relation g) (λ b. occurs b touched) table f overlay (waits rank up) (waits rank whole) was.taken empty was.work;
    ranks = was.ranks_whole;
    count_earlier = was.count;
    count = refl;
  }

  pub finish : (f : ℕ → Option Entry) (overlay : ℕ → Bool) (whole : Queue) (earlier steps : ℕ) → HasNoProviderCycle (relation g) → ((b : ℕ) → has g b ≡ false → seeds b ≡ None) → ((b : ℕ) → waits rank whole b ≡ false) → IsWholeLoop here seeds rank touched table f overlay whole earlier steps →
      IsExact here seeds table f overlay × AreEnough (relation g) (λ b. occurs b touched) overlay 0 (earlier + steps)
  finish f overlay whole earlier steps no_cycle seeds_at empty was =
      let both = exact meaning l.ranks_offers l.prefers l.names l.follows l.by_offers l.nothing_up l.decide l.one g book state seeds (λ x y. rank y ≤ rank x) (λ b. occurs b touched) table f overlay (waits rank whole) was.earlier was.taken no_cycle seeds_at empty was.work in
      (both.0, coe 0 1 (i. AreEnough (relation g) (λ b. occurs b touched) overlay 0 (was.count_earlier i + was.count i)) both.1)

in_occurs : (xs : List ℕ) (b i : ℕ) → slice_get xs i ≡ Some b → occurs b xs ≡ true
in_occurs [] b i e = cc
in_occurs (x ∷ xs) b zero e = let same : x ≡ b = cc in ap (λ t. t || occurs b xs) (eq-eqb x b same)
in_occurs (x ∷ xs) b (suc i) e = or_right (x == b) _ (in_occurs xs b i e)

-- what stands in the list is one of its numbers
pub occurs_in : (xs : List ℕ) (b : ℕ) → occurs b xs ≡ true → IsIn xs b
occurs_in [] b e = absurd (true≢false (sym e))
occurs_in (x ∷ xs) b e = by (x == b) refl e (occurs_in xs b)
  where
    by : (t : Bool) → (x == b) ≡ t → (t || occurs b xs) ≡ true → (occurs b xs ≡ true → IsIn xs b) → IsIn (x ∷ xs) b
    by true is e ih = (zero, ap Some (eqb-true x b is))
    by false is e ih = let (i, at) = ih e in (suc i, at)

-- what was put into an empty queue
pub just_in : (rank : ℕ → ℕ) (queue after : Queue) (xs : List ℕ) → ((k : ℕ × ℕ) → contains rank queue k ≡ false) → IsAdded rank queue after (IsIn xs) → (b : ℕ) → waits rank after b ≡ occurs b xs
just_in rank queue after xs empty added b = by (waits rank after b) (occurs b xs) refl refl
  where
    by : (s t : Bool) → waits rank after b ≡ s → occurs b xs ≡ t → s ≡ t
    by true true x y = refl
    by false false x y = refl
    by true false x y = elim (added.from b x) [ inl old ↦ absurd (true≢false (sym old ∙ empty (rank b, b))) | inr (i, at) ↦ absurd (true≢false (sym (in_occurs xs b i at) ∙ y)) ]
    by false true x y = absurd (true≢false (sym (added.put b (occurs_in xs b y)) ∙ x))

pub no_ranks : (rank : ℕ → ℕ) (queue : Queue) → ((k : ℕ × ℕ) → contains rank queue k ≡ false) → queue.spots ≡ None → HasRanks rank queue
no_ranks rank queue empty none = record {
  keys = λ k t. absurd (true≢false (sym t ∙ empty k));
  spots = λ s some. absurd (true≢false (sym (ap is_some some) ∙ ap is_some none));
}

pub enough_from : (relation : ℕ → ℕ → Option Rel) (touched changed : ℕ → Bool) (steps first last : ℕ) → last ≡ first + steps → AreEnough relation touched changed 0 steps → AreEnough relation touched changed first last
enough_from relation touched changed steps first last is enough = record { ases = enough.ases; distinct = enough.distinct; counted = enough.counted; enough = omega (arith, is, enough.enough) }
