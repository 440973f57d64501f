-- A turn, from its parts.
use Rattle.std.proofs.Common.{◌≡◌, ◌≢◌, ◌⊎◌, inl, inr, ℕ, zero, suc, Bool, true, false, ◌||◌, ◌==◌, true≢false, IsTrue, Option, Some, None, option_map, List, [], ◌∷◌, refl, sym, ◌∙◌, ap, subst, All}
use Rattle.std.specs.List.{slice_get}
use Rattle.std.proofs.lemmas.Bool.{eqb-true}
use Rattle.std.proofs.lemmas.Option.{slice_get_within, get_or_from_slice_get}
use Rattle.net_names.specs.declared.routes.Rel.{Rel}
use Rattle.net_names.specs.declared.routes.Rel.TheVariants.{Customer, Peer, Provider}
use Rattle.as_graph.specs.declared.neighbour.Neighbour.{Neighbour}
use Rattle.as_graph.specs.Neighbours.{AreNeighbours, asns}
use Rattle.as_graph.specs.Topology.{Topology, relation}
use Rattle.net_names.specs.Links.{converse}
use Rattle.net_names.specs.Numbers.{occurs}
use Rattle.as_graph.proofs.Links.{relation_mutual}
use Rattle.stability_laws.specs.declared.entry.Entry.{Entry}
use Rattle.stability_laws.specs.declared.entry.Seed.{Seed}
use Rattle.stability_laws.specs.Offers.{Setting, offer}
use Rattle.stability_laws.specs.Stable.{IsRightGiven}
use Rattle.dirty_recompute.specs.Steps.{ChangesOnly, IsChosen, IsLeft}
use Rattle.path_pool.specs.declared.pool.PathPool.{PathPool}
use Rattle.route_choice.specs.declared.choice.Part.{Part}
use Rattle.route_choice.specs.declared.choice.Part.TheVariants.{Up, Whole}
use Rattle.route_choice.specs.declared.overlay.Overlay.{Overlay}
use Rattle.route_choice.specs.declared.seeds.SeedIds.{SeedIds}
use Rattle.route_choice.specs.declared.table.Table.{Table}
use Rattle.route_choice.specs.Resources.{Keeps}
use Rattle.route_choice.specs.Routings.{routing_of, seeds_of}
use Rattle.dirty_recompute.specs.declared.queue.Queue.{Queue}
use Rattle.dirty_recompute.specs.Queues.{waits, IsAdded, AreQueued, IsAmong}
use Rattle.dirty_recompute.specs.declared.queue.Queues.{Queues}
use Rattle.dirty_recompute.specs.declared.after_step.Stepped.{Stepped}
use Rattle.dirty_recompute.specs.Resources.{as_before, has_change, IsBefore}
use Rattle.dirty_recompute.specs.Turns.{IsTurn, IsTurnUp, IsTurnDown}
use Rattle.dirty_recompute.proofs.Befores.{before_is}

element : (xs : List Neighbour) (b : ℕ) → occurs b (asns xs) ≡ true → (i : ℕ) × (n : Neighbour) × (slice_get xs i ≡ Some n) × (n.asn ≡ b)
element [] b e = absurd (true≢false (sym e))
element (x ∷ xs) b e = by (x.asn == b) refl e (element xs b)
  where
    by : (t : Bool) → (x.asn == b) ≡ t → (t || occurs b (asns xs)) ≡ true → (occurs b (asns xs) ≡ true → (i : ℕ) × (n : Neighbour) × (slice_get xs i ≡ Some n) × (n.asn ≡ b)) → (i : ℕ) × (n : Neighbour) × (slice_get (x ∷ xs) i ≡ Some n) × (n.asn ≡ b)
    by true is e ih = (zero, x, refl, eqb-true x.asn b is)
    by false is e ih = let (i, n, at, same) = ih e in (suc i, n, at, same)

each_at : (P : Neighbour → Type 0) (xs : List Neighbour) (i : ℕ) (n : Neighbour) → All P xs → slice_get xs i ≡ Some n → P n
each_at P xs i n all at = subst P (get_or_from_slice_get xs i n n at) (all i n (slice_get_within xs i n at))

pub among_to : (relation : ℕ → ℕ → Option Rel) (a : ℕ) (xs : List Neighbour) (r : Rel) → AreNeighbours relation a xs → (b : ℕ) → relation a b ≡ Some r → IsAmong xs r b
among_to relation a xs r are b link =
    let (i, n, at, same) = element xs b (are.complete b r link) in
    let both : Some n.rel ≡ Some r = sym (each_at (λ x. relation a x.asn ≡ Some x.rel) xs i n are.each at) ∙ ap (relation a) same ∙ link in
    (i, n, at, same, (let e : Some n.rel ≡ Some r = both in cc))

pub among_back : (relation : ℕ → ℕ → Option Rel) (a : ℕ) (xs : List Neighbour) (r : Rel) → AreNeighbours relation a xs → (b : ℕ) → IsAmong xs r b → relation a b ≡ Some r
among_back relation a xs r are b (i, n, at, same, rel) = ap (relation a) (sym same) ∙ each_at (λ x. relation a x.asn ≡ Some x.rel) xs i n are.each at ∙ ap Some rel

-- what a is to b, from what b is to a
pub turned : (g : Topology) (a b : ℕ) (r : Rel) → relation g a b ≡ Some r → relation g b a ≡ Some (converse r)
turned g a b r e = relation_mutual g a b ∙ ap (option_map converse) e

pub unturned : (g : Topology) (a b : ℕ) → relation g a b ≡ None → relation g b a ≡ None
unturned g a b e = relation_mutual g a b ∙ ap (option_map converse) e

module _ (w : Setting) (g : Topology) (is : w.relation ≡ relation g) (seeds : ℕ → Option Seed) (rank : ℕ → ℕ) (a : ℕ) (f h : ℕ → Option Entry) (changes changed' : ℕ → Bool) where
  same_left : h a ≡ f a → (b : ℕ) → IsLeft w seeds f h a b
  same_left e b = inr (inl (ap (λ x. offer w (λ _. x) a b) (sym e)))

  at : (b : ℕ) (r : Rel) → relation g a b ≡ Some r → w.relation b a ≡ Some (converse r)
  at b r e = ap (λ t. t b a) is ∙ turned g a b r e

  pub turn_up : (up up' whole between whole' : Queue) (changed nothing : Bool) →
      IsChosen Up w seeds a f h nothing → ChangesOnly a f h changes changed' → (changed ≡ true → changed' a ≡ true) → (changed ≡ false → h a ≡ f a) →
      IsAdded rank whole between (λ b. (b ≡ a) × (nothing ≡ true)) → AreQueued rank up up' (λ b. (relation g a b ≡ Some Provider) × (changed ≡ true)) (IsLeft w seeds f h a) →
      AreQueued rank between whole' (λ b. ((relation g a b ≡ Some Customer) ⊎ (relation g a b ≡ Some Peer)) × (changed ≡ true)) (IsLeft w seeds f h a) →
      IsTurnUp w seeds rank a f h changes changed' up up' whole whole'
  turn_up up up' whole between whole' changed nothing chosen only put unchanged off rise fall = record {
    nothing = nothing;
    only = only;
    chosen = chosen;
    queued = record {
      kept = rise.kept;
      kept_whole = λ b t. fall.kept b (off.kept b t);
      itself = λ n. fall.kept a (off.put a (refl, n));
      asked = λ b ne. asked b changed refl;
      asked_whole = λ b ne. asked_whole b changed refl;
      from = λ b t. from b (rise.from b t);
      from_whole = λ b t. from_whole b (fall.from b t);
    };
    ranks = rise.ranks;
    ranks_whole = λ r. fall.ranks (off.ranks r);
  }
    where
      asked : (b : ℕ) (c : Bool) → changed ≡ c → (waits rank up' b ≡ true) ⊎ ((w.relation b a ≢ Some Customer) ⊎ IsLeft w seeds f h a b)
      asked b false e = inr (inr (same_left (unchanged e) b))
      asked b true e = by (relation g a b) refl
        where
          other : (r : Rel) → r ≢ Provider → relation g a b ≡ Some r → w.relation b a ≢ Some Customer
          other Customer ne l x = (let y : Some Provider ≡ Some Customer = sym (at b Customer l) ∙ x in cc)
          other Peer ne l x = (let y : Some Peer ≡ Some Customer = sym (at b Peer l) ∙ x in cc)
          other Provider ne l x = ne refl

          by : (r : Option Rel) → relation g a b ≡ r → (waits rank up' b ≡ true) ⊎ ((w.relation b a ≢ Some Customer) ⊎ IsLeft w seeds f h a b)
          by None l = inr (inl (λ x. (let y : None ≡ Some Customer = sym (ap (λ t. t b a) is ∙ unturned g a b l) ∙ x in cc)))
          by (Some Provider) l = elim (rise.put b (l, e)) [ inl t ↦ inl t | inr n ↦ inr (inr n) ]
          by (Some Customer) l = inr (inl (other Customer (λ x. cc) l))
          by (Some Peer) l = inr (inl (other Peer (λ x. cc) l))

      asked_whole : (b : ℕ) (c : Bool) → changed ≡ c → (waits rank up' b ≡ true) ⊎ ((waits rank whole' b ≡ true) ⊎ ((w.relation b a ≡ None) ⊎ IsLeft w seeds f h a b))
      asked_whole b false e = inr (inr (inr (same_left (unchanged e) b)))
      asked_whole b true e = by (relation g a b) refl
        where
          by : (r : Option Rel) → relation g a b ≡ r → (waits rank up' b ≡ true) ⊎ ((waits rank whole' b ≡ true) ⊎ ((w.relation b a ≡ None) ⊎ IsLeft w seeds f h a b))
          by None l = inr (inr (inl (ap (λ t. t b a) is ∙ unturned g a b l)))
          by (Some Provider) l = elim (rise.put b (l, e)) [ inl t ↦ inl t | inr n ↦ inr (inr (inr n)) ]
          by (Some Customer) l = elim (fall.put b (inl l, e)) [ inl t ↦ inr (inl t) | inr n ↦ inr (inr (inr n)) ]
          by (Some Peer) l = elim (fall.put b (inr l, e)) [ inl t ↦ inr (inl t) | inr n ↦ inr (inr (inr n)) ]

      from : (b : ℕ) → (waits rank up b ≡ true) ⊎ ((relation g a b ≡ Some Provider) × (changed ≡ true)) → (waits rank up b ≡ true) ⊎ ((w.relation b a ≡ Some Customer) × (changed' a ≡ true))
      from b (inl old) = inl old
      from b (inr (l, e)) = inr (at b Provider l, put e)

      from_whole : (b : ℕ) → (waits rank between b ≡ true) ⊎ (((relation g a b ≡ Some Customer) ⊎ (relation g a b ≡ Some Peer)) × (changed ≡ true)) → (waits rank whole b ≡ true) ⊎ ((b ≡ a) ⊎ ((r : Rel) × (w.relation b a ≡ Some r) × (changed' a ≡ true)))
      from_whole b (inl old) = elim (off.from b old) [ inl older ↦ inl older | inr new ↦ inr (inl new.0) ]
      from_whole b (inr (inl l, e)) = inr (inr (Provider, at b Customer l, put e))
      from_whole b (inr (inr l, e)) = inr (inr (Peer, at b Peer l, put e))

  pub turn_down : (whole whole' : Queue) (changed nothing : Bool) →
      IsChosen Whole w seeds a f h nothing → ChangesOnly a f h changes changed' → (changed ≡ true → changed' a ≡ true) → (changed ≡ false → h a ≡ f a) →
      AreQueued rank whole whole' (λ b. (relation g a b ≡ Some Customer) × (changed ≡ true)) (IsLeft w seeds f h a) → IsTurnDown w seeds rank a f h changes changed' whole whole'
  turn_down whole whole' changed nothing chosen only put unchanged fall = record {
    only = only;
    chosen = subst (IsRightGiven (w.policy a) (seeds a) (λ n. offer w f n a)) (sym chosen.at) chosen.right;
    queued = record { kept = fall.kept; asked = λ b ne. asked b changed refl; from = λ b t. from b (fall.from b t) };
    ranks = fall.ranks;
  }
    where
      asked : (b : ℕ) (c : Bool) → changed ≡ c → (waits rank whole' b ≡ true) ⊎ ((w.relation b a ≢ Some Provider) ⊎ IsLeft w seeds f h a b)
      asked b false e = inr (inr (same_left (unchanged e) b))
      asked b true e = by (relation g a b) refl
        where
          by : (r : Option Rel) → relation g a b ≡ r → (waits rank whole' b ≡ true) ⊎ ((w.relation b a ≢ Some Provider) ⊎ IsLeft w seeds f h a b)
          by None l = inr (inl (λ x. (let y : None ≡ Some Provider = sym (ap (λ t. t b a) is ∙ unturned g a b l) ∙ x in cc)))
          by (Some Customer) l = elim (fall.put b (l, e)) [ inl t ↦ inl t | inr n ↦ inr (inr n) ]
          by (Some Peer) l = inr (inl (λ x. (let y : Some Peer ≡ Some Provider = sym (at b Peer l) ∙ x in cc)))
          by (Some Provider) l = inr (inl (λ x. (let y : Some Customer ≡ Some Provider = sym (at b Provider l) ∙ x in cc)))

      from : (b : ℕ) → (waits rank whole b ≡ true) ⊎ ((relation g a b ≡ Some Customer) × (changed ≡ true)) → (waits rank whole b ≡ true) ⊎ ((w.relation b a ≡ Some Provider) × (changed' a ≡ true))
      from b (inl old) = inl old
      from b (inr (l, e)) = inr (at b Customer l, put e)

-- the same who, where what was held before, and the seeds, are seen otherwise
pub queued_from : (w : Setting) (rank : ℕ → ℕ) (a : ℕ) (h : ℕ → Option Entry) (q q' : Queue) (who : ℕ → Type 0) (seeds seeds' : ℕ → Option Seed) (f f' : ℕ → Option Entry) → seeds' ≡ seeds → f' ≡ f →
    AreQueued rank q q' who (IsLeft w seeds' f' h a) → AreQueued rank q q' who (IsLeft w seeds f h a)
queued_from w rank a h q q' who seeds seeds' f f' same_seeds same x = coe 0 1 (i. AreQueued rank q q' who (IsLeft w (same_seeds i) (same i) h a)) x

-- a turn, from what its step came to and who was put into the queues after it
module _ (w : Setting) (g : Topology) (is : w.relation ≡ relation g) (rank : ℕ → ℕ) (a : ℕ) (p q : PathPool) (s : SeedIds) (t : Table) (o o' : Overlay) (seen : Stepped) (part : Part)
    (kept : Keeps p q s) (chosen : IsChosen part w (seeds_of p s) a (routing_of p t o) (routing_of q t o') seen.nothing) (only : ChangesOnly a (routing_of p t o) (routing_of q t o') (has_change o) (has_change o'))
    (changed : IsTrue seen.changed → has_change o' a ≡ true) (unchanged : seen.changed ≡ false → routing_of q t o' a ≡ routing_of p t o a) (was : IsBefore q t o' a seen.before (routing_of p t o)) where
  abbrev Left : ℕ → Type 0
  Left = IsLeft w (seeds_of q s) (as_before q t o' a seen.before) (routing_of q t o') a

  abbrev IsTurned : Part → Queues → Queues → Type 0
  IsTurned x before after = IsTurn x w (seeds_of p s) rank a (routing_of p t o) (routing_of q t o') (has_change o) (has_change o') before after

  left_as : (q0 q1 : Queue) (who : ℕ → Type 0) → AreQueued rank q0 q1 who Left → AreQueued rank q0 q1 who (IsLeft w (seeds_of p s) (routing_of p t o) (routing_of q t o') a)
  left_as q0 q1 who x =
      queued_from w rank a (routing_of q t o') q0 q1 who (seeds_of p s) (seeds_of q s) (routing_of p t o) (as_before q t o' a seen.before) (λ i n. kept.same_seeds n i) (before_is q t o' a seen.before (routing_of p t o) was) x

  chosen_as : (x : Part) → part ≡ x → IsChosen x w (seeds_of p s) a (routing_of p t o) (routing_of q t o') seen.nothing
  chosen_as x e = subst (λ y. IsChosen y w (seeds_of p s) a (routing_of p t o) (routing_of q t o') seen.nothing) e chosen

  pub turned_up : (before after : Queues) (between : Queue) → part ≡ Up → IsAdded rank before.whole between (λ b. (b ≡ a) × (seen.nothing ≡ true)) →
      AreQueued rank before.up after.up (λ b. (relation g a b ≡ Some Provider) × (seen.changed ≡ true)) Left →
      AreQueued rank between after.whole (λ b. ((relation g a b ≡ Some Customer) ⊎ (relation g a b ≡ Some Peer)) × (seen.changed ≡ true)) Left → IsTurned part before after
  turned_up before after between up off rise fall =
      subst (λ x. IsTurned x before after) (sym up)
      (turn_up w g is (seeds_of p s) rank a (routing_of p t o) (routing_of q t o') (has_change o) (has_change o') before.up after.up before.whole between after.whole seen.changed seen.nothing
      (chosen_as Up up) only changed unchanged off (left_as before.up after.up _ rise) (left_as between after.whole _ fall))

  pub turned_down : (before after : Queues) → part ≡ Whole → AreQueued rank before.whole after.whole (λ b. (relation g a b ≡ Some Customer) × (seen.changed ≡ true)) Left → IsTurned part before after
  turned_down before after down fall =
      subst (λ x. IsTurned x before after) (sym down)
      (turn_down w g is (seeds_of p s) rank a (routing_of p t o) (routing_of q t o') (has_change o) (has_change o') before.whole after.whole seen.changed seen.nothing
      (chosen_as Whole down) only changed unchanged (left_as before.whole after.whole _ fall))
