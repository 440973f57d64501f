-- What the routings of a world rest on, and where an edit changes it.
use Rattle.std.specs.Prelude.{◌≡◌, ◌≢◌, ◌⊎◌, ◌<◌, ℕ, suc, Bool, true, false, IsTrue, Option, None, Some, List, map}
use Rattle.net_names.specs.declared.routes.Rel.{Rel}
use Rattle.net_names.specs.Numbers.{last_or, occurs}
use Rattle.net_names.specs.Prefixes.{PrefixValue}
use Rattle.as_graph.specs.Hierarchy.{HasNoProviderCycle, IsRank}
use Rattle.as_graph.specs.Topology.{Topology, has, relation}
use Rattle.policy_laws.specs.Policy.{Policy}
use Rattle.policy_kinds.specs.Kinds.{kind_policy}
use Rattle.policy_kinds.specs.declared.kind.Kind.{Kind}
use Rattle.net_names.specs.Payloads.{VrpValue}
use Rattle.roa_table.specs.Sets.{Payloads, taken}
use Rattle.origin_validation.specs.Judging.{state_of}
use Rattle.rank_order.specs.Ranks.{KeptRanks, rank_at}
use Rattle.stability_laws.specs.Book.{PolicyBook, policy_at}
use Rattle.stability_laws.specs.Plans.{Plan, announced_path, announces, has_prefix}
use Rattle.stability_laws.specs.Rounds.{seeds_of}
use Rattle.stability_laws.specs.Stable.{IsRight}
use Rattle.stability_laws.specs.World.{setting}
use Rattle.stability_laws.specs.SeedEdits.{IsEditOf, IsEditWithin, edit_asn, edited}
use Rattle.stability_laws.specs.declared.seed_plan.edits.SeedEdit.{SeedEdit}
use Rattle.stability_laws.specs.declared.world.World.{World}
use Rattle.leak_round.specs.Edited.{plan_edited}
use Rattle.leak_round.specs.Limits.{IsWithinLimits}
use Rattle.leak_round.specs.declared.rounds.Rounds.{Rounds}
use Rattle.leak_round.specs.Rounds.{kept as kept_rounds, plan_of, round_count}
use Rattle.sim_core.specs.Parts.{AreRoundsOf}
use Rattle.sim_core.specs.Watching.{AreRoundWatches, seen_in}
use Rattle.sim_core.specs.declared.watching.RoundWatches.{RoundWatches}
use Rattle.scenario_text.specs.declared.limits.TheConstants.{MOST_NUMBERS}

-- what routings rest on beside the seeds: the graph, the payloads and the policies
pub record Ground : Type 0 where
  pub graph : Topology
  pub payloads : Payloads
  pub book : PolicyBook Kind

-- what they rest on of a world that is lent
abbrev pub ground_in : World Kind Payloads → Ground
ground_in w = record { graph = w.graph.now; payloads = w.states.now; book = w.book.now }

-- the policy of an AS
abbrev pub policy_on : Ground → ℕ → Policy
policy_on g a = kind_policy (policy_at g.book a)

-- the ranks, the rounds and the watches are those of the ground, which has no provider cycle (Gao and Rexford 2001)
pub record BelongTo (g : Ground) (ranks : KeptRanks) (rounds : Rounds) (watches : List RoundWatches) : Type 0 where
  pub no_cycle : HasNoProviderCycle (relation g.graph)
  pub ranks_are : (a : ℕ) → IsRank (relation g.graph) a (rank_at ranks a)
  pub rounds_are : AreRoundsOf g.graph g.payloads g.book (plan_of rounds) (round_count rounds) rounds
  pub watching : AreRoundWatches g.graph (plan_of rounds) (kept_rounds rounds) g.book (round_count rounds) (map seen_in watches)

-- where the ranks are said to stay, they are those of the graph
abbrev pub StayIf : Bool → Topology → KeptRanks → Type 0
StayIf kept g ranks = kept ≡ true → (a : ℕ) → IsRank (relation g) a (rank_at ranks a)

-- between two grounds nothing but the links of two ASes differ, and which of the two are in the graph; and who announces something is in the first
pub record DiffersAtPair (old new : Ground) (plan : Plan) (a b : ℕ) : Type 0 where
  pub presence : (x : ℕ) → x ≢ a → x ≢ b → has new.graph x ≡ has old.graph x
  pub links : (x n : ℕ) → x ≢ a → x ≢ b → relation new.graph x n ≡ relation old.graph x n
  pub book : new.book ≡ old.book
  pub payloads : new.payloads ≡ old.payloads
  pub announcers : (prefix : PrefixValue) (x : ℕ) → IsTrue (announces plan prefix x) → has old.graph x ≡ true

-- the number ends a path that is announced of the prefix: it is an origin of it (RFC 6811, section 2)
pub record IsOrigin (plan : Plan) (prefix : PrefixValue) (origin : ℕ) : Type 0 where
  pub asn : ℕ
  pub path : List ℕ
  pub announced : announced_path plan prefix asn ≡ Some path
  pub last : last_or 0 path ≡ origin

-- one of the ASes whose policy reads the states is touched, unless the states of all origins of the prefix are the same without the payload
abbrev pub AreReadersTouched : List ℕ → PolicyBook Kind → Payloads → VrpValue → Plan → PrefixValue → (ℕ → Bool) → Type 0
AreReadersTouched readers book vrps v plan prefix touched =
    (a : ℕ) → occurs a readers ≡ true → (kind_policy (policy_at book a)).reads_state ≡ true → touched a ≡ false → (origin : ℕ) → IsOrigin plan prefix origin → state_of (taken vrps v) prefix origin ≡ state_of vrps prefix origin

-- what an AS holds of a prefix is right on the ground in each round, and nothing where it is no AS of it
pub record IsRightOn (g : Ground) (rounds : Rounds) (prefix : PrefixValue) (a : ℕ) : Type 0 where
  pub right : (before : ℕ) → before < round_count rounds → has g.graph a ≡ true → IsRight (setting kind_policy g.graph g.book (state_of g.payloads prefix)) (seeds_of (plan_of rounds) (suc before) prefix (kept_rounds rounds before prefix)) (kept_rounds rounds (suc before) prefix) a
  pub none : (before : ℕ) → before < round_count rounds → has g.graph a ≡ false → kept_rounds rounds (suc before) prefix a ≡ None

-- between two grounds only the ends differ in presence, links and policy; and who is not touched for a prefix is no end, or still right; has neighbours of which none begins or ceases to mark; and does not read the states of the prefix, or these are the same for its origins
pub record DiffersAround (old new : Ground) (rounds : Rounds) (ends : List ℕ) (touched : PrefixValue → ℕ → Bool) : Type 0 where
  pub presence : (a : ℕ) → occurs a ends ≡ false → has new.graph a ≡ has old.graph a
  pub links : (a n : ℕ) → occurs a ends ≡ false → relation new.graph a n ≡ relation old.graph a n
  pub policies : (a : ℕ) → occurs a ends ≡ false → policy_at new.book a ≡ policy_at old.book a
  pub at_ends : (prefix : PrefixValue) (a : ℕ) → IsTrue (has_prefix (plan_of rounds) prefix) → occurs a ends ≡ true → (touched prefix a ≡ true) ⊎ IsRightOn new rounds prefix a
  pub marks : (prefix : PrefixValue) (a n : ℕ) (r : Rel) → IsTrue (has_prefix (plan_of rounds) prefix) → touched prefix a ≡ false → relation new.graph a n ≡ Some r → (policy_on new n).marks ≡ (policy_on old n).marks
  pub states : (prefix : PrefixValue) (a : ℕ) → IsTrue (has_prefix (plan_of rounds) prefix) → touched prefix a ≡ false → has new.graph a ≡ true → ((policy_on new a).reads_state ≡ false) ⊎ ((origin : ℕ) → IsOrigin (plan_of rounds) prefix origin → state_of new.payloads prefix origin ≡ state_of old.payloads prefix origin)

-- an edit of announcements, if there is one, is one of the plan within the limits, by one of the ends; and who announces something after it is an AS of the graph
pub record IsSeedChange (plan : Plan) (g : Topology) (ends : List ℕ) (edit : Option SeedEdit) : Type 0 where
  pub known : (e : SeedEdit) → edit ≡ Some e → IsEditOf plan e
  pub within : (e : SeedEdit) → edit ≡ Some e → IsEditWithin MOST_NUMBERS e
  pub limits : (e : SeedEdit) → edit ≡ Some e → IsWithinLimits (edited plan e)
  pub by_end : (e : SeedEdit) → edit ≡ Some e → occurs (edit_asn e) ends ≡ true
  pub announcers : (prefix : PrefixValue) (a : ℕ) → IsTrue (announces (plan_edited edit plan) prefix a) → has g a ≡ true

-- ranks, rounds and watches are seen as they were
pub record AreSeenAlike (old_ranks new_ranks : KeptRanks) (old_rounds new_rounds : Rounds) (old_watches new_watches : List RoundWatches) : Type 0 where
  pub ranks : new_ranks.by_as ≡ old_ranks.by_as
  pub plan : plan_of new_rounds ≡ plan_of old_rounds
  pub count : round_count new_rounds ≡ round_count old_rounds
  pub routings : (round : ℕ) (prefix : PrefixValue) (a : ℕ) → kept_rounds new_rounds round prefix a ≡ kept_rounds old_rounds round prefix a
  pub watches : map seen_in new_watches ≡ map seen_in old_watches
