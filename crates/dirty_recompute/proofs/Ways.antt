-- The two ways: what holds of the pool, the table, the overlay and the queues from turn to turn.
use Rattle.std.proofs.Common.{◌≡◌, ◌≢◌, ◌⊎◌, inl, inr, ℕ, zero, suc, ◌+◌, ◌-◌, ◌<◌, ◌≤◌, ◌++◌, Bool, true, false, true≢false, IsSome, is_some, Option, Some, None, option_map, List, length, refl, sym, ◌∙◌, ap, subst, arith}
use Rattle.std.proofs.lemmas.Bool.{cases_Bool}
use Rattle.net_names.specs.declared.routes.State.{State}
use Rattle.net_names.specs.Numbers.{occurs}
use Rattle.net_names.specs.Prefixes.{PrefixValue as Prefix}
use Rattle.policy_laws.specs.Policy.{Policy}
use Rattle.as_graph.specs.Topology.{Topology, relation, has, ases}
use Rattle.path_pool.specs.declared.pool.PathPool.{PathPool}
use Rattle.stability_laws.specs.declared.entry.Entry.{Entry}
use Rattle.stability_laws.specs.Book.{PolicyBook}
use Rattle.stability_laws.specs.World.{setting}
use Rattle.stability_laws.specs.Offers.{Setting, offer}
use Rattle.stability_laws.specs.Laws.{customer_offer}
use Rattle.stability_laws.specs.Steps.{low}
use Rattle.route_choice.specs.declared.choice.Part.TheVariants.{Whole}
use Rattle.route_choice.specs.declared.held.Held.{Held}
use Rattle.route_choice.specs.declared.overlay.Overlay.{Overlay}
use Rattle.route_choice.specs.declared.seeds.SeedIds.{SeedIds}
use Rattle.route_choice.specs.declared.table.Table.{Table}
use Rattle.route_choice.specs.Routings.{entry_of, seed_of, routing_of, seeds_of, table_routing}
use Rattle.route_choice.specs.Tables.{change_at, held_at, prefix_of}
use Rattle.route_choice.specs.Slots.{over}
use Rattle.route_choice.proofs.Lists.{nothing_there}
use Rattle.dirty_recompute.specs.declared.queue.Queue.{Queue}
use Rattle.dirty_recompute.specs.Queues.{waits, HasRanks, IsTaken}
use Rattle.dirty_recompute.specs.Resources.{has_change, IsKept, IsPaidFor}
use Rattle.dirty_recompute.specs.Steps.{IsReady, IsRightIfLow}
use Rattle.dirty_recompute.specs.Turns.{IsTurnUp, IsTurnDown}
use Rattle.dirty_recompute.specs.Work.{IsUpLoop, IsWholeLoop, HasGoneUp, HasGoneDown, CanGoOn, GoesOn, IsRightBut}
use Rattle.dirty_recompute.proofs.Parts.{down_low, right_of_low, whole_choice, customer_given}
use Rattle.dirty_recompute.proofs.Turning.{right_has, after_some}
use Rattle.dirty_recompute.specs.Exact.{IsExact, AreEnough}
use Rattle.dirty_recompute.specs.Laws.{AreLaws}
use Rattle.dirty_recompute.specs.PlannedRanks.{rank_of}
use Rattle.dirty_recompute.specs.declared.ranked_world.RankedWorld.{RankedWorld}
use Rattle.dirty_recompute.proofs.Loops.{start, next_up, next_whole, few_up, few_whole, halfway, finish}
use Rattle.dirty_recompute.proofs.Going.{kept_itself, kept_more, table_same, seeds_same, goes_on}

-- between two turns upwards, since the way began
pub record IsUpward (has : ℕ → Bool) (w : Setting) (rank : ℕ → ℕ) (touched : List ℕ) (seeds : SeedIds) (table : Table) (first_pool pool : PathPool) (first_overlay overlay : Overlay) (up whole : Queue) (first_steps steps : ℕ) : Type 0 where
  pub turns : ℕ
  pub work : HasGoneUp w rank touched pool seeds table overlay up whole turns
  pub count : steps ≡ first_steps + turns
  pub can : GoesOn has first_pool pool seeds table first_overlay overlay
  pub kept : IsKept first_pool pool seeds first_overlay overlay

-- and downwards
pub record IsDownward (has : ℕ → Bool) (w : Setting) (rank : ℕ → ℕ) (touched : List ℕ) (seeds : SeedIds) (table : Table) (first_pool pool : PathPool) (first_overlay overlay : Overlay) (first_whole whole : Queue) (first_steps steps : ℕ) : Type 0 where
  pub turns : ℕ
  pub work : (turns_up : ℕ) → HasGoneDown w rank touched first_pool seeds table first_overlay first_whole turns_up 0 → HasGoneDown w rank touched pool seeds table overlay whole turns_up turns
  pub count : steps ≡ first_steps + turns
  pub can : GoesOn has first_pool pool seeds table first_overlay overlay
  pub kept : IsKept first_pool pool seeds first_overlay overlay

pub unchanged : (o : Overlay) (a : ℕ) → has_change o a ≡ false → change_at o a ≡ None
unchanged o a is = nothing_there (change_at o a) is

-- with each turn fewer of the steps are left that there may be
pub turns_left : (first before after turns all : ℕ) → after ≡ first + turns → after ≡ before + 1 → turns ≤ all → first + all - after < first + all - before
turns_left first before after turns all count step few = omega (arith, count, step, few)

-- the way downwards begins
pub down_start : (has : ℕ → Bool) (w : Setting) (rank : ℕ → ℕ) (touched : List ℕ) (seeds : SeedIds) (table : Table) (pool : PathPool) (overlay : Overlay) (whole : Queue) (steps : ℕ) → IsDownward has w rank touched seeds table pool pool overlay overlay whole whole steps steps
down_start has w rank touched seeds table pool overlay whole steps = record { turns = zero; work = λ n h. h; count = omega arith; can = λ s c. c; kept = kept_itself pool seeds overlay }

module _ {P V : Type 0} (meaning : P → Policy) (state_of : V → Prefix → ℕ → State) (l : AreLaws meaning) (world : RankedWorld P V) (touched : List ℕ) where
  abbrev g : Topology
  g = world.at.graph.now

  abbrev book : PolicyBook P
  book = world.at.book.now

  abbrev table : Table
  table = world.at.table.now

  abbrev seeds : SeedIds
  seeds = world.at.seeds.now

  abbrev state : ℕ → State
  state = state_of world.at.states.now (prefix_of table)

  abbrev rank : ℕ → ℕ
  rank = rank_of world.ranks

  abbrev here : Setting
  here = setting meaning g book state

  -- only ASes of the graph have seeds
  seeds_at : (pool : PathPool) (b : ℕ) → has g b ≡ false → seeds_of pool seeds b ≡ None
  seeds_at pool b out = ap (option_map (seed_of pool)) (world.seeds b out)

  -- the way upwards begins
  pub upward_start : (pool : PathPool) (overlay : Overlay) (up whole : Queue) (steps : ℕ) → ((b : ℕ) → change_at overlay b ≡ None) → ((b : ℕ) → waits rank up b ≡ occurs b touched) → ((b : ℕ) → waits rank whole b ≡ false) → HasRanks rank up → HasRanks rank whole →
      IsRightBut meaning state_of world.at pool touched → IsUpward (has g) here rank touched seeds table pool pool overlay overlay up whole steps steps
  upward_start pool overlay up whole steps none is empty ranks ranks_whole right = record {
    turns = zero;
    work = subst (λ (f : ℕ → Option Entry). IsUpLoop here (seeds_of pool seeds) rank touched (table_routing pool table) f (has_change overlay) up whole zero) (λ i b. same b i) first;
    count = omega arith;
    can = λ s c. c;
    kept = kept_itself pool seeds overlay;
  }
    where
      same : (b : ℕ) → table_routing pool table b ≡ routing_of pool table overlay b
      same b = sym (ap (λ (c : Option (Option Held)). option_map (entry_of pool) (over c (held_at table b))) (none b))

      first : IsUpLoop here (seeds_of pool seeds) rank touched (table_routing pool table) (table_routing pool table) (has_change overlay) up whole zero
      first = start meaning l g book state (seeds_of pool seeds) rank touched (table_routing pool table) (has_change overlay) up whole (λ b. ap is_some (none b)) is empty ranks ranks_whole
          (λ b out away. ap (option_map (entry_of pool)) (right.entries b out away)) (seeds_at pool) right.right

  -- who is to have a turn upwards had none, so the overlay has no change of it
  pub fresh : (pool : PathPool) (overlay : Overlay) (up whole between : Queue) (turns a : ℕ) → HasGoneUp here rank touched pool seeds table overlay up whole turns → IsTaken rank up between a → has_change overlay a ≡ false
  fresh pool overlay up whole between turns a work out = elim (cases_Bool (has_change overlay a)) [
    | inl put ↦ absurd (true≢false (sym (work.work.put a put) ∙ work.work.order.fresh a out.waited))
    | inr none ↦ none
  ]

  module _ (p0 p q : PathPool) (o0 o o' : Overlay) (s0 s s' a : ℕ) (start : PathPool) (could : CanGoOn (has g) start p0 seeds table o0) where
    abbrev f : ℕ → Option Entry
    f = routing_of p table o

    abbrev h : ℕ → Option Entry
    h = routing_of q table o'

    pub upward_next : (up between up' whole whole' : Queue) → IsUpward (has g) here rank touched seeds table p0 p o0 o up whole s0 s → IsTaken rank up between a → ((b : ℕ) → waits rank up b ≡ true → rank a ≤ rank b) →
        IsTurnUp here (seeds_of p seeds) rank a f h (has_change o) (has_change o') between up' whole whole' → IsPaidFor p q f h a → IsKept p q seeds o o' → s' ≡ s + 1 →
        IsUpward (has g) here rank touched seeds table p0 q o0 o' up' whole' s0 s'
    upward_next up between up' whole whole' was out least turn paid kept step = record {
      turns = suc was.turns;
      work = coe 0 1 (i. IsUpLoop here (seeds_same p q seeds kept.keeps i) rank touched (table_same p q seeds table kept.keeps (was.can start could).entries_live i) h (has_change o') up' whole' (suc was.turns)) next;
      count = (let before : s ≡ s0 + was.turns = was.count in omega (arith, step, before));
      can = λ t c. goes_on g seeds table t p q o o' a turn.only paid kept an_as once (was.can t c);
      kept = kept_more p0 p q seeds o0 o o' was.kept kept;
    }
      where
        next : IsUpLoop here (seeds_of p seeds) rank touched (table_routing p table) h (has_change o') up' whole' (suc was.turns)
        next = next_up meaning l g book state (seeds_of p seeds) rank touched (table_routing p table) world.falls f h (has_change o) (has_change o') up between up' whole whole' was.turns a was.work out least turn

        an_as : h a ≢ f a → IsSome (h a) → has g a ≡ true
        an_as ne some =
            let new = turn.chosen.new in
            let found : IsSome new = after_some new (f a) (λ e. ne (turn.chosen.at ∙ e)) (subst IsSome turn.chosen.at some) in
            right_has meaning l.ranks_offers l.prefers l.names l.follows l.by_offers l.nothing_up l.decide g book state (seeds_of p seeds) f a (λ n. customer_offer here f n a)
            (λ n q made. (customer_given meaning l.ranks_offers l.names l.follows l.by_offers l.nothing_up l.decide g book state (seeds_of p seeds) f n a q made).1) (seeds_at p) new turn.chosen.right found

        once : has_change o a ≡ true → (f a ≡ None) ⊎ (h a ≡ f a)
        once put = absurd (true≢false (sym put ∙ fresh p o up whole between was.turns a was.work out))

    -- who is to have a turn downwards is right where it holds an Origin or Customer entry, and holds such an entry or nothing where the overlay has a change of it
    pub settled : (whole between : Queue) (turns_up turns : ℕ) → HasGoneDown here rank touched p seeds table o whole turns_up turns → IsTaken rank whole between a → IsReady Whole here (seeds_of p seeds) f o a
    settled whole between turns_up turns work out = (
      right,
      λ put. elim right [
        | inl none ↦ inl (sym (work.work.put_low a put (work.work.order.fresh a out.waited)) ∙ none)
        | inr both ↦ inr both.1
      ],
    )
      where
        by : (x : Option Entry) → low (f a) ≡ x → IsRightIfLow here (seeds_of p seeds) f a
        by None e = inl e
        by (Some d) e =
            let low_right = work.work.low_right a in
            inr (low_right, right_of_low meaning l.ranks_offers l.names l.follows l.by_offers l.nothing_up l.decide g book state (seeds_of p seeds) f a d e low_right)

        right : IsRightIfLow here (seeds_of p seeds) f a
        right = by (low (f a)) refl

    pub downward_next : (first whole between whole' : Queue) (turns_up : ℕ) → HasGoneDown here rank touched p0 seeds table o0 first turns_up 0 → IsDownward (has g) here rank touched seeds table p0 p o0 o first whole s0 s → IsTaken rank whole between a → ((b : ℕ) → waits rank whole b ≡ true → rank b ≤ rank a) →
        IsTurnDown here (seeds_of p seeds) rank a f h (has_change o) (has_change o') between whole' → IsPaidFor p q f h a → IsKept p q seeds o o' → s' ≡ s + 1 →
        IsDownward (has g) here rank touched seeds table p0 q o0 o' first whole' s0 s'
    downward_next first whole between whole' turns_up began was out greatest turn paid kept step = record {
      turns = suc was.turns;
      work = λ n b. coe 0 1 (i. IsWholeLoop here (seeds_same p q seeds kept.keeps i) rank touched (table_same p q seeds table kept.keeps (was.can start could).entries_live i) h (has_change o') whole' n (suc was.turns)) (next n b);
      count = (let before : s ≡ s0 + was.turns = was.count in omega (arith, step, before));
      can = λ t c. goes_on g seeds table t p q o o' a turn.only paid kept an_as once (was.can t c);
      kept = kept_more p0 p q seeds o0 o o' was.kept kept;
    }
      where
        next : (n : ℕ) → HasGoneDown here rank touched p0 seeds table o0 first n 0 → IsWholeLoop here (seeds_of p seeds) rank touched (table_routing p table) h (has_change o') whole' n (suc was.turns)
        next n b = next_whole meaning l g book state (seeds_of p seeds) rank touched (table_routing p table) world.falls f h (has_change o) (has_change o') whole between whole' n was.turns a (was.work n b) out greatest turn

        an_as : h a ≢ f a → IsSome (h a) → has g a ≡ true
        an_as ne some = right_has meaning l.ranks_offers l.prefers l.names l.follows l.by_offers l.nothing_up l.decide g book state (seeds_of p seeds) f a (λ n. offer here f n a) (λ n q made. made) (seeds_at p) (h a) turn.chosen some

        work : HasGoneDown here rank touched p seeds table o whole turns_up was.turns
        work = was.work turns_up began

        once : has_change o a ≡ true → (f a ≡ None) ⊎ (h a ≡ f a)
        once put = elim (whole_choice meaning l.ranks_offers l.names l.follows l.by_offers l.nothing_up l.decide g book state (seeds_of p seeds) f a (h a) (work.work.low_right a) turn.chosen) [
          | inl same ↦ inr same
          | inr down ↦ inl (sym (work.work.put_low a put (work.work.order.fresh a out.waited)) ∙ down_low (f a) down.0)
        ]

  -- there are at most so many turns on each way
  pub few_turns_up : (p0 p : PathPool) (o0 o : Overlay) (up whole : Queue) (s0 s : ℕ) → (was : IsUpward (has g) here rank touched seeds table p0 p o0 o up whole s0 s) → was.turns ≤ length (touched ++ ases g)
  few_turns_up p0 p o0 o up whole s0 s was = few_up meaning l g book state (seeds_of p seeds) rank touched (table_routing p table) (routing_of p table o) (has_change o) up whole was.turns was.work

  pub few_turns_down : (p0 p : PathPool) (o0 o : Overlay) (first whole : Queue) (s0 s turns_up : ℕ) → (was : IsDownward (has g) here rank touched seeds table p0 p o0 o first whole s0 s) → HasGoneDown here rank touched p0 seeds table o0 first turns_up 0 → was.turns ≤ length (touched ++ ases g)
  few_turns_down p0 p o0 o first whole s0 s turns_up was began = few_whole meaning l g book state (seeds_of p seeds) rank touched (table_routing p table) (routing_of p table o) (has_change o) whole turns_up was.turns (was.work turns_up began)

  -- with nobody left to take a turn upwards, the way downwards begins
  pub half_gone : (pool : PathPool) (overlay : Overlay) (up whole : Queue) (turns : ℕ) → ((b : ℕ) → waits rank up b ≡ false) → HasGoneUp here rank touched pool seeds table overlay up whole turns → HasGoneDown here rank touched pool seeds table overlay whole turns 0
  half_gone pool overlay up whole turns empty was = halfway meaning l g book state (seeds_of pool seeds) rank touched (table_routing pool table) (routing_of pool table overlay) (has_change overlay) up whole turns empty was

  -- with nobody left at all, the changes are exact
  pub all_gone : (pool : PathPool) (overlay : Overlay) (whole : Queue) (turns_up turns : ℕ) → ((b : ℕ) → waits rank whole b ≡ false) → HasGoneDown here rank touched pool seeds table overlay whole turns_up turns →
      IsExact here (seeds_of pool seeds) (table_routing pool table) (routing_of pool table overlay) (has_change overlay) × AreEnough (relation g) (λ b. occurs b touched) (has_change overlay) 0 (turns_up + turns)
  all_gone pool overlay whole turns_up turns empty was =
      finish meaning l g book state (seeds_of pool seeds) rank touched (table_routing pool table) (routing_of pool table overlay) (has_change overlay) whole turns_up turns world.no_cycle (seeds_at pool) empty was
