-- What an edit does to a simulation.
use Rattle.std.specs.Prelude.{◌≡◌, ◌≢◌, ◌≤◌, ℕ, true, IsTrue, List, ◌∷◌, Option, None, Some, Result, Ok, Err, OnOk}
use Rattle.std.specs.FinMap as fin
use Rattle.std.specs.FinSet as set
use Rattle.net_names.specs.Links.{LinkMap}
use Rattle.net_names.specs.declared.routes.Rel.{Rel}
use Rattle.net_names.specs.declared.routes.Rel.TheVariants.{Customer, Provider}
use Rattle.as_graph.specs.Edits.{with_link, without_link}
use Rattle.as_graph.specs.Hierarchy.{IsProviderCycle}
use Rattle.as_graph.specs.Room.{is_room_for, is_room_with}
use Rattle.as_graph.specs.Topology.{Topology, as_count, has, relation}
use Rattle.net_names.specs.Numbers.{occurs}
use Rattle.net_names.specs.Payloads.{VrpValue}
use Rattle.net_names.specs.Prefixes.{PrefixValue}
use Rattle.origin_validation.specs.Leaving.{less}
use Rattle.leak_round.specs.Changes.{HasChanges}
use Rattle.leak_round.specs.Rounds.{kept as kept_rounds, plan_of, pool_of, round_count}
use Rattle.path_pool.specs.Pool.{live_count}
use Rattle.policy_kinds.specs.Kinds.{kind_policy}
use Rattle.policy_kinds.specs.declared.kind.Kind.{Kind}
use Rattle.roa_table.specs.Sets.{Payloads, count}
use Rattle.scenario_text.specs.declared.acts.Edit.{Edit}
use Rattle.scenario_text.specs.declared.acts.Edit.TheVariants as edit
use Rattle.stability_laws.specs.SeedEdits.{IsEditOf, IsEditWithin, edited as edited_plan}
use Rattle.stability_laws.specs.declared.seed_plan.edits.SeedEdit.{SeedEdit}
use Rattle.stability_laws.specs.declared.seed_plan.edits.SeedEdit.TheVariants as seeds
use Rattle.sim_core.specs.Edits.{IsAllowed, IsEditRefusal, absent, edited}
use Rattle.sim_core.specs.Ground.{AreSeenAlike, BelongTo, Ground}
use Rattle.sim_core.specs.Steps.{AreFewSteps, IsQuick}
use Rattle.sim_core.specs.Views.{AreRight, kept, rows_seen, world_seen}
use Rattle.sim_core.specs.World.{HasCycle, World}
use Rattle.sim_core.specs.declared.editing.Changed.{Changed}
use Rattle.sim_core.specs.declared.errors.EditError.{EditError}
use Rattle.sim_core.specs.declared.errors.EditError.TheVariants as refused
use Rattle.sim_core.specs.declared.parts.Parts.{Parts}
use Rattle.net_names.specs.declared.links.TheConstants.{MOST_LINKS}
use Rattle.as_graph.specs.declared.build.TheConstants.{MOST_ASES}
use Rattle.roa_table.specs.declared.table.TheConstants.{MOST_PAYLOADS}
use Rattle.leak_round.specs.declared.rounds.TheConstants.{MOST_CELLS}
use Rattle.scenario_text.specs.declared.limits.TheConstants.{MOST_ANNOUNCEMENTS, MOST_NUMBERS}

-- the edit is done: the world is the edited one, what is kept is that of it, and so many entries differ
pub record IsDone (old new : Parts) (e : Edit) (routes : ℕ) : Type 0 where
  pub world : world_seen new ≡ edited (world_seen old) e
  pub allowed : IsAllowed (world_seen old) e
  pub right : AreRight new
  pub changed : HasChanges (world_seen new).plan (world_seen new).rounds (kept old).routings (kept new).routings routes

-- the world, and what is kept of it, are as they were
pub record IsUndone (old new : Parts) : Type 0 where
  pub world : world_seen new ≡ world_seen old
  pub same_kept : kept new ≡ kept old
  pub same_rows : rows_seen new ≡ rows_seen old

-- the edit is done, or refused and nothing has changed
abbrev pub IsEdited : Parts → Parts → Edit → Result Changed EditError → Type 0
IsEdited old new e (Ok changed) = IsDone old new e changed.routes
IsEdited old new e (Err error) = IsEditRefusal (world_seen old) e error × IsUndone old new

-- what every edit takes for granted: few cells of the pool are live, what is kept is that of the world, and there is no provider cycle
pub record IsEditable (parts : Parts) : Type 0 where
  pub few_cells : live_count (pool_of parts.rounds) ≤ MOST_CELLS
  pub right : AreRight parts
  pub no_cycle : HasCycle (world_seen parts) → ⊥

-- the edit is done in few steps, counted from the first to the last, or refused and nothing has changed
pub record IsEditedQuickly (old new : Parts) (e : Edit) (result : Result Changed EditError) (first last : ℕ) : Type 0 where
  pub edited : IsEdited old new e result
  pub quick : OnOk result (IsQuick (world_seen old) (world_seen new) e (kept old).routings (kept new).routings first last)

-- an edit of announcements as an edit of the world
abbrev pub edit_of : SeedEdit → Edit
edit_of (seeds.Announce prefix path) = edit.Announce prefix path
edit_of (seeds.Withdraw prefix a) = edit.Withdraw prefix a

-- an edit of announcements that is not refused, unless there would be too many ASes
pub record IsSeedEdit (w : World) (e : SeedEdit) : Type 0 where
  pub known : IsEditOf w.plan e
  pub within : IsEditWithin MOST_NUMBERS e
  pub few : fin.len (edited_plan w.plan e).announced ≤ MOST_ANNOUNCEMENTS
  pub there : absent w (edit_of e) ≡ None

-- what is kept, and which addresses are watched, stand as they were
pub record KeepsRest (old new : Parts) : Type 0 where
  pub ranks : new.ranks ≡ old.ranks
  pub rounds : new.rounds ≡ old.rounds
  pub watched : new.watched ≡ old.watched
  pub watches : new.watches ≡ old.watches

-- the graph has these links and room for the pair, and all else stands as it was
pub record HasLinks (old new : Parts) (a b : ℕ) (links : LinkMap) : Type 0 where
  pub are : new.graph.links ≡ links
  pub marked : new.graph.marked ≡ old.graph.marked
  pub room : is_room_for new.graph.room a b ≡ true
  pub vrps : new.vrps ≡ old.vrps
  pub book : new.book ≡ old.book
  pub rest : KeepsRest old new

-- the links of a graph in which the pair has this link or none
abbrev pub links_with : Topology → ℕ → ℕ → Option Rel → LinkMap
links_with g a b None = (without_link g a b).links
links_with g a b (Some r) = (with_link g a b r).links

-- what the routings of a simulation rest on, without one payload, if one is left out
abbrev pub ground_less : Parts → Option VrpValue → Ground
ground_less sim but = record { graph = sim.graph; payloads = less sim.vrps but; book = sim.book }

-- what the routings of a simulation rest on
abbrev pub ground_of : Parts → Ground
ground_of sim = record { graph = sim.graph; payloads = sim.vrps; book = sim.book }

-- what is kept belongs to the ground without the payload, if one is left out; so many entries differ, and all else stands as it was
pub record IsChanged (old new : Parts) (but : Option VrpValue) (routes : ℕ) : Type 0 where
  pub graph : new.graph ≡ old.graph
  pub vrps : new.vrps ≡ old.vrps
  pub book : new.book ≡ old.book
  pub watched : new.watched ≡ old.watched
  pub belong : BelongTo (ground_less old but) new.ranks new.rounds new.watches.items
  pub plan : plan_of new.rounds ≡ plan_of old.rounds
  pub count : round_count new.rounds ≡ round_count old.rounds
  pub changed : HasChanges (plan_of new.rounds) (round_count new.rounds) (kept_rounds old.rounds) (kept_rounds new.rounds) routes

-- the steps from the first count to the last are at most two for each round, prefix and AS that is touched, whose seed differs, or that has a neighbour whose entry differs
abbrev pub IsQuickChange : Parts → Parts → (PrefixValue → ℕ → Type 0) → ℕ → ℕ → Type 0
IsQuickChange old new Touched first last =
    AreFewSteps (relation old.graph) (plan_of old.rounds) (plan_of new.rounds) (kept_rounds old.rounds) (kept_rounds new.rounds) Touched (round_count old.rounds) first last

-- a simulation is seen as it was
pub record IsUnchanged (old new : Parts) : Type 0 where
  pub graph : new.graph ≡ old.graph
  pub vrps : new.vrps ≡ old.vrps
  pub book : new.book ≡ old.book
  pub watched : new.watched ≡ old.watched
  pub readers : new.readers ≡ old.readers
  pub alike : AreSeenAlike old.ranks new.ranks old.rounds new.rounds old.watches.items new.watches.items

-- the list begins with the new link: its provider and then its customer
abbrev pub BeginsWithLink : Edit → List ℕ → Type 0
BeginsWithLink (edit.Link a b Customer) xs = (rest : List ℕ) × (xs ≡ a ∷ b ∷ rest)
BeginsWithLink (edit.Link a b Provider) xs = (rest : List ℕ) × (xs ≡ b ∷ a ∷ rest)
BeginsWithLink e xs = ⊥

-- why a link is not kept: memory is wanting, or the graph has this provider cycle, which begins with the link
abbrev pub IsLinkStop : Topology → ℕ → ℕ → Rel → EditError → Type 0
IsLinkStop graph a b rel refused.Memory = Unit {0}
IsLinkStop graph a b rel (refused.ProviderCycle cycle) = IsProviderCycle (relation graph) cycle × BeginsWithLink (edit.Link a b rel) cycle
IsLinkStop graph a b rel e = ⊥

-- no limit is passed
pub record IsSmall (graph : Topology) (payloads : Payloads) : Type 0 where
  pub links : fin.len graph.links ≤ MOST_LINKS
  pub ases : as_count graph ≤ MOST_ASES
  pub payloads_in : count payloads ≤ MOST_PAYLOADS

-- the AS has this kind of policy and is marked as that asks, and all else stands as it was
pub record IsGiven (old new : Parts) (a : ℕ) (kind : Kind) : Type 0 where
  pub links : new.graph.links ≡ old.graph.links
  pub room : new.graph.room ≡ old.graph.room
  pub others : (x : ℕ) → x ≢ a → has new.graph x ≡ has old.graph x
  pub named : new.book.named ≡ (edited (world_seen old) (edit.Policy a kind)).kinds
  pub book_room : new.book.room ≡ old.book.room
  pub readers : new.readers ≡ old.readers
  pub vrps : new.vrps ≡ old.vrps
  pub rest : KeepsRest old new

-- there is room to give the AS a policy of this kind, and the AS is listed where that reads the states
pub record HasRoomToGive (parts : Parts) (a : ℕ) (kind : Kind) : Type 0 where
  pub listed : (kind_policy kind).reads_state ≡ true → occurs a parts.readers.ases ≡ true
  pub graph : is_room_with parts.graph.room a ≡ true
  pub book : IsTrue (set.contains parts.book.room a)

-- there is room for an edit of the AS's policy, and all else stands as it was
pub record IsRoomed (old new : Parts) (a : ℕ) : Type 0 where
  pub links : new.graph.links ≡ old.graph.links
  pub marked : new.graph.marked ≡ old.graph.marked
  pub graph_room : is_room_with new.graph.room a ≡ true
  pub named : new.book.named ≡ old.book.named
  pub book_room : IsTrue (set.contains new.book.room a)
  pub readers : (x : ℕ) → occurs x old.readers.ases ≡ true → occurs x new.readers.ases ≡ true
  pub vrps : new.vrps ≡ old.vrps
  pub rest : KeepsRest old new
