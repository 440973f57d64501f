-- One turn of an AS: its step, and who is put into the queues after it.
use Rattle.std.specs.Prelude.{◌≡◌, ◌≢◌, ◌⊎◌, ℕ, Bool, true, Option, None, Some}
use Rattle.net_names.specs.declared.routes.Rel.{Rel}
use Rattle.net_names.specs.declared.routes.Rel.TheVariants.{Customer, Provider}
use Rattle.net_names.specs.declared.routes.State.{State}
use Rattle.net_names.specs.Prefixes.{PrefixValue as Prefix}
use Rattle.policy_laws.specs.Policy.{Policy}
use Rattle.stability_laws.specs.declared.entry.Entry.{Entry}
use Rattle.stability_laws.specs.declared.entry.Seed.{Seed}
use Rattle.stability_laws.specs.Offers.{Setting, offer}
use Rattle.stability_laws.specs.Stable.{IsRightGiven}
use Rattle.route_choice.specs.declared.choice.Part.{Part}
use Rattle.route_choice.specs.declared.choice.Part.TheVariants.{Up, Whole}
use Rattle.route_choice.specs.PrefixWorlds.{setting_at}
use Rattle.route_choice.specs.Routings.{routing_of, seeds_of}
use Rattle.dirty_recompute.specs.declared.after_step.AfterStep.{AfterStep}
use Rattle.dirty_recompute.specs.Resources.{as_before}
use Rattle.dirty_recompute.specs.Steps.{ChangesOnly, IsChosen, IsLeft}
use Rattle.dirty_recompute.specs.declared.queue.Queue.{Queue}
use Rattle.dirty_recompute.specs.declared.queue.Queues.{Queues}
use Rattle.dirty_recompute.specs.Queues.{waits, HasRanks}

-- b need not choose anew after the AS has made its step, since when it holds what stands in the overlay
abbrev pub MayBeLeft : {P V : Type 0} → (P → Policy) → (V → Prefix → ℕ → State) → AfterStep P V → ℕ → Type 0
MayBeLeft meaning state_of x b =
    let at = x.world.now.at in
    IsLeft (setting_at meaning state_of at) (seeds_of x.pool.now at.seeds.now) (as_before x.pool.now at.table.now x.overlay.now x.asn x.stepped.before) (routing_of x.pool.now at.table.now x.overlay.now) x.asn b

-- after a turn upwards of a: its providers wait in the queue upwards, its peers and customers in one of the two queues, but such as may be left; a itself waits in the queue downwards where it has nothing from below; and nobody else came in
pub record AreQueuedUp (w : Setting) (seeds : ℕ → Option Seed) (a : ℕ) (f g : ℕ → Option Entry) (changed nothing : Bool) (up up' whole whole' : ℕ → Bool) : Type 0 where
  pub kept : (b : ℕ) → up b ≡ true → up' b ≡ true
  pub kept_whole : (b : ℕ) → whole b ≡ true → whole' b ≡ true
  pub itself : nothing ≡ true → whole' a ≡ true
  pub asked : (b : ℕ) → b ≢ a → (up' b ≡ true) ⊎ ((w.relation b a ≢ Some Customer) ⊎ IsLeft w seeds f g a b)
  pub asked_whole : (b : ℕ) → b ≢ a → (up' b ≡ true) ⊎ ((whole' b ≡ true) ⊎ ((w.relation b a ≡ None) ⊎ IsLeft w seeds f g a b))
  pub from : (b : ℕ) → up' b ≡ true → (up b ≡ true) ⊎ ((w.relation b a ≡ Some Customer) × (changed ≡ true))
  pub from_whole : (b : ℕ) → whole' b ≡ true → (whole b ≡ true) ⊎ ((b ≡ a) ⊎ ((r : Rel) × (w.relation b a ≡ Some r) × (changed ≡ true)))

-- after a turn downwards of a: its customers wait in the queue, but such as may be left, and nobody else came in
pub record AreQueuedDown (w : Setting) (seeds : ℕ → Option Seed) (a : ℕ) (f g : ℕ → Option Entry) (changed : Bool) (whole whole' : ℕ → Bool) : Type 0 where
  pub kept : (b : ℕ) → whole b ≡ true → whole' b ≡ true
  pub asked : (b : ℕ) → b ≢ a → (whole' b ≡ true) ⊎ ((w.relation b a ≢ Some Provider) ⊎ IsLeft w seeds f g a b)
  pub from : (b : ℕ) → whole' b ≡ true → (whole b ≡ true) ⊎ ((w.relation b a ≡ Some Provider) × (changed ≡ true))

-- a turn upwards of an AS that is out of the queue already
pub record IsTurnUp (w : Setting) (seeds : ℕ → Option Seed) (rank : ℕ → ℕ) (a : ℕ) (f g : ℕ → Option Entry) (changed changed' : ℕ → Bool) (up up' whole whole' : Queue) : Type 0 where
  pub nothing : Bool
  pub only : ChangesOnly a f g changed changed'
  pub chosen : IsChosen Up w seeds a f g nothing
  pub queued : AreQueuedUp w seeds a f g (changed' a) nothing (waits rank up) (waits rank up') (waits rank whole) (waits rank whole')
  pub ranks : HasRanks rank up → HasRanks rank up'
  pub ranks_whole : HasRanks rank whole → HasRanks rank whole'

-- a turn downwards of an AS that is out of the queue already
pub record IsTurnDown (w : Setting) (seeds : ℕ → Option Seed) (rank : ℕ → ℕ) (a : ℕ) (f g : ℕ → Option Entry) (changed changed' : ℕ → Bool) (whole whole' : Queue) : Type 0 where
  pub only : ChangesOnly a f g changed changed'
  pub chosen : IsRightGiven (w.policy a) (seeds a) (λ n. offer w f n a) (g a)
  pub queued : AreQueuedDown w seeds a f g (changed' a) (waits rank whole) (waits rank whole')
  pub ranks : HasRanks rank whole → HasRanks rank whole'

-- a turn of an AS that is out of the queue already, with the offers that its step looks at
abbrev pub IsTurn : Part → Setting → (ℕ → Option Seed) → (ℕ → ℕ) → ℕ → (ℕ → Option Entry) → (ℕ → Option Entry) → (ℕ → Bool) → (ℕ → Bool) → Queues → Queues → Type 0
IsTurn Up w seeds rank a f g changed changed' before after = IsTurnUp w seeds rank a f g changed changed' before.up after.up before.whole after.whole
IsTurn Whole w seeds rank a f g changed changed' before after = IsTurnDown w seeds rank a f g changed changed' before.whole after.whole
