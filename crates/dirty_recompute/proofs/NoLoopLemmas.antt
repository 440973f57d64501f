-- Which ASes are offered no path that goes through them, on each way.
use Rattle.std.proofs.Common.{◌≡◌, inl, inr, ℕ, suc, ◌<◌, ◌≤◌, ◌==◌, Bool, true, false, not, true≢false, Option, Some, None, List, refl, sym, ◌∙◌, ap, subst, arith}
use Rattle.std.proofs.lemmas.Bool.{cases_Bool, eq-eqb, eqb-true}
use Rattle.net_names.specs.declared.routes.Rel.{Rel}
use Rattle.net_names.specs.declared.routes.Rel.TheVariants.{Customer, Peer, Provider}
use Rattle.net_names.specs.declared.routes.State.{State}
use Rattle.net_names.specs.Numbers.{last_or, occurs}
use Rattle.net_names.specs.Prefixes.{PrefixValue as Prefix}
use Rattle.policy_laws.specs.Policy.{Policy}
use Rattle.as_graph.proofs.Chains.{IsMutual}
use Rattle.as_graph.proofs.Links.{relation_mutual}
use Rattle.path_pool.specs.declared.pool.PathPool.{PathPool}
use Rattle.stability_laws.specs.declared.entry.Entry.{Entry}
use Rattle.stability_laws.specs.declared.entry.Seed.{Seed}
use Rattle.stability_laws.specs.Book.{policy_at}
use Rattle.stability_laws.specs.Offers.{Setting, Offer, offer}
use Rattle.stability_laws.specs.Laws.{customer_offer, if_customer}
use Rattle.stability_laws.specs.Stable.{IsLawful, IsRight, IsRightGiven}
use Rattle.stability_laws.specs.Steps.{low, lows, IsRightUp}
use Rattle.stability_laws.proofs.Passes.{low_offer}
use Rattle.route_choice.specs.declared.choice.Part.TheVariants.{Up, Whole}
use Rattle.route_choice.specs.declared.overlay.Overlay.{Overlay}
use Rattle.route_choice.specs.Loops.{HasNoLoops}
use Rattle.route_choice.specs.Naming.{AreNamed}
use Rattle.route_choice.specs.PrefixWorlds.{setting_at, HasNoLoopsAt}
use Rattle.route_choice.specs.Routings.{routing_of, seeds_of}
use Rattle.route_choice.proofs.NoLoops.{up_loops, down_loops, no_loops}
use Rattle.dirty_recompute.specs.declared.queue.Queue.{Queue}
use Rattle.dirty_recompute.specs.declared.ranked_world.RankedWorld.{RankedWorld}
use Rattle.dirty_recompute.specs.Laws.{AreLaws}
use Rattle.dirty_recompute.specs.Named.{IsOnNoPath}
use Rattle.dirty_recompute.specs.PlannedRanks.{rank_of}
use Rattle.dirty_recompute.specs.Queues.{waits}
use Rattle.dirty_recompute.specs.Steps.{decided_by, IsRightLow}
use Rattle.dirty_recompute.specs.Work.{HasGoneUp, HasGoneDown}

-- a number that isn't among some that have all on the paths of seeds stands on none
pub on_no_path : (named : ℕ → ℕ → Bool) (seeds : ℕ → Option Seed) → AreNamed named seeds → (a : ℕ) → ((origin : ℕ) → named a origin ≡ false) → IsOnNoPath seeds a
on_no_path named seeds are a out b s is = elim (cases_Bool (occurs a s.path)) [
  | inl there ↦ absurd (true≢false (sym (are b a s is there) ∙ out (last_or 0 s.path)))
  | inr away ↦ away
]

-- and all others have all on the paths
others_named : (seeds : ℕ → Option Seed) (a : ℕ) → IsOnNoPath seeds a → AreNamed (λ x origin. not (x == a)) seeds
others_named seeds a off b x s is on = elim (cases_Bool (x == a)) [
  | inl same ↦ absurd (true≢false (sym on ∙ ap (λ t. occurs t s.path) (eqb-true x a same) ∙ off b s is))
  | inr other ↦ ap not other
]

module _ (w : Setting) (lawful : (a : ℕ) → IsLawful (w.policy a)) (seeds : ℕ → Option Seed) (f : ℕ → Option Entry) where
  -- customers offer of their Origin and Customer entries alone
  of_lows : (n b : ℕ) → customer_offer w f n b ≡ customer_offer w (lows f) n b
  of_lows n b = by (w.relation b n) refl
    where
      by : (r : Option Rel) → w.relation b n ≡ r → if_customer r (offer w f n b) ≡ if_customer r (offer w (lows f) n b)
      by None is = refl
      by (Some Customer) is = low_offer w lawful f n b (λ p. (let x : Some Customer ≡ Some Provider = sym is ∙ p in cc))
      by (Some Peer) is = refl
      by (Some Provider) is = refl

  right_up : (b : ℕ) → IsRightLow w seeds f b → IsRightUp w seeds (lows f) b
  right_up b right =
      let F : (ℕ → Option Offer) → Type 0 = λ os. IsRightGiven (w.policy b) (seeds b) os (low (f b)) in
      subst F (λ i n. of_lows n b i) right

  module _ (rank : ℕ → ℕ) (falls : (b n : ℕ) → w.relation b n ≡ Some Customer → suc (rank n) ≤ rank b) (a : ℕ) (off : IsOnNoPath seeds a) (queue : ℕ → Bool) where
    -- upwards, one of the lowest that wait
    no_loops_upwards : ((b : ℕ) → queue b ≡ false → IsRightLow w seeds f b) → ((b : ℕ) → queue b ≡ true → rank a ≤ rank b) → HasNoLoops Up w.relation w.policy f a
    no_loops_upwards right least =
        no_loops Up w.relation w.policy f a (λ origin. not (a == a)) (up_loops w lawful (λ x origin. not (x == a)) seeds (others_named seeds a off) f rank falls a below)
        (λ n r e linked looked held exported. ap not (eq-eqb a a refl))
      where
        below : (b : ℕ) (e : Entry) → rank b < rank a → lows f b ≡ Some e → IsRightUp w seeds (lows f) b
        below b e less held = elim (cases_Bool (queue b)) [
          | inl there ↦ (let le : rank a ≤ rank b = least b there in absurd (omega (arith, less, le)))
          | inr away ↦ right_up b (right b away)
        ]

    -- downwards, one of the highest that wait, where it holds no Origin and no Customer entry
    no_loops_downwards : IsMutual w.relation → ((b : ℕ) → IsRightLow w seeds f b) → ((b : ℕ) → queue b ≡ false → IsRight w seeds f b) → ((b : ℕ) → queue b ≡ true → rank b ≤ rank a) → low (f a) ≡ None → HasNoLoops Whole w.relation w.policy f a
    no_loops_downwards mutual_links low_right right greatest nothing =
        no_loops Whole w.relation w.policy f a (λ origin. not (a == a))
        (down_loops w lawful (λ x origin. not (x == a)) seeds (others_named seeds a off) f mutual_links rank falls (λ b e held. right_up b (low_right b)) a above Whole nothing)
        (λ n r e linked looked held exported. ap not (eq-eqb a a refl))
      where
        above : (b : ℕ) (e : Entry) → rank a < rank b → f b ≡ Some e → IsRight w seeds f b
        above b e less held = elim (cases_Bool (queue b)) [
          | inl there ↦ (let le : rank b ≤ rank a = greatest b there in absurd (omega (arith, less, le)))
          | inr away ↦ right b away
        ]

module _ {P V : Type 0} (meaning : P → Policy) (state_of : V → Prefix → ℕ → State) (l : AreLaws meaning) (world : RankedWorld P V) (touched : List ℕ) (pool : PathPool) (overlay : Overlay) (a : ℕ) where
  abbrev here : Setting
  here = setting_at meaning state_of world.at

  abbrev rank : ℕ → ℕ
  rank = rank_of world.ranks

  abbrev seeds : ℕ → Option Seed
  seeds = seeds_of pool world.at.seeds.now

  abbrev f : ℕ → Option Entry
  f = routing_of pool world.at.table.now overlay

  lawful : (b : ℕ) → IsLawful (here.policy b)
  lawful b =
      let p = policy_at world.at.book.now b in
      record { ranks_offers = l.ranks_offers p; prefers_customers = l.prefers p; exports_down_only = l.exports_down p }

  -- the AS that has its turn upwards,
  pub up_has_no_loops : (up whole : Queue) (turns : ℕ) → HasGoneUp here rank touched pool world.at.seeds.now world.at.table.now overlay up whole turns → ((b : ℕ) → waits rank up b ≡ true → rank a ≤ rank b) → IsOnNoPath seeds a → HasNoLoopsAt meaning world.at pool overlay Up a
  up_has_no_loops up whole turns was least off = no_loops_upwards here lawful seeds f rank world.falls a off (waits rank up) was.work.low_right least

  -- and the one that has it downwards, of the offers that decide
  pub down_has_no_loops : (whole : Queue) (turns_up turns : ℕ) → HasGoneDown here rank touched pool world.at.seeds.now world.at.table.now overlay whole turns_up turns → ((b : ℕ) → waits rank whole b ≡ true → rank b ≤ rank a) → IsOnNoPath seeds a → HasNoLoopsAt meaning world.at pool overlay (decided_by Whole (low (f a))) a
  down_has_no_loops whole turns_up turns was greatest off = by (low (f a)) refl
    where
      Has : Option Entry → Type 0
      Has h = HasNoLoopsAt meaning world.at pool overlay (decided_by Whole h) a

      by : (h : Option Entry) → low (f a) ≡ h → Has (low (f a))
      by None e =
          subst Has (sym e)
          (no_loops_downwards here lawful seeds f rank world.falls a off (waits rank whole) (relation_mutual world.at.graph.now) was.work.low_right was.work.right greatest e)
      by (Some d) e =
          subst Has (sym e)
          (no_loops_upwards here lawful seeds f rank world.falls a off (λ b. false) (λ b n. was.work.low_right b) (λ b there. (let x : false ≡ true = there in cc)))
