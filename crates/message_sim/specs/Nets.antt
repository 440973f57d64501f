-- A net and its world as plain data.
use Rattle.std.specs.Prelude.{zero, suc, ◌≤◌, ◌<◌, ◌≡◌, ◌≢◌, ℕ, ◌+◌, Bool, true, false, Option, None, Some, length, map, sum_by, List, [], ◌∷◌, refl}
use Rattle.message_sim.specs.Delivery.{IsDelivery}
use Rattle.std.specs.Coded.{Coded, code_by, coded×, coded_ℕ, coded_option}
use Rattle.std.specs.Ordering.{nat_cmp, is_gt}
use Rattle.std.specs.FinMap as fin
use Rattle.net_names.specs.declared.routes.State.{State}
use Rattle.net_names.specs.Links.{pair_cmp}
use Rattle.net_names.specs.Prefixes.{PrefixValue, prefix_code}
use Rattle.policy_laws.specs.Policy.{Policy}
use Rattle.as_graph.specs.Topology.{Topology, ases, topology_code}
use Rattle.stability_laws.specs.declared.entry.Entry.{Entry}
use Rattle.stability_laws.specs.declared.entry.Seed.{Seed}
use Rattle.stability_laws.specs.contracts.entry.Entry as entry
use Rattle.stability_laws.specs.contracts.entry.Seed as seed
use Rattle.stability_laws.specs.Offers.{Setting}
use Rattle.stability_laws.specs.Book.{PolicyBook, book_code}
use Rattle.stability_laws.specs.World.{setting}
use Rattle.message_sim.specs.Messages.{Message, MessageNet, IsQuiet}
use Rattle.message_sim.specs.declared.line.Line.{Line}
use Rattle.message_sim.specs.contracts.line.Line as line

-- what a net stands in: the links, the policies, the states, the prefix that it is about, and the seeds
pub record NetWorld (P V : Type 0) : Type 0 where
  pub graph : Topology
  pub book : PolicyBook P
  pub states : V
  pub prefix : PrefixValue
  pub seeds : fin.FinMap nat_cmp Seed

-- stored as the tuple of its fields
abbrev pub net_world_code : {P V : Type 0} → Coded P → Coded V → Coded (NetWorld P V)
net_world_code {P} {V} p v =
    code_by (Topology × (PolicyBook P × (V × (PrefixValue × fin.FinMap nat_cmp Seed))))
    (coded× topology_code (coded× (book_code p) (coded× v (coded× prefix_code (fin.code coded_ℕ seed.the_row.coded)))))
    (λ w. (w.graph, (w.book, (w.states, (w.prefix, w.seeds)))))
    (λ t. record { graph = t.0; book = t.1.0; states = t.1.1.0; prefix = t.1.1.1.0; seeds = t.1.1.1.1 }) (λ _. refl)

-- a net in its world has a choice, or none, for each AS, and a line for each link from one AS to another
pub record NetValue (P V : Type 0) : Type 0 where
  pub world : NetWorld P V
  pub choices : fin.FinMap nat_cmp (Option Entry)
  pub lines : fin.FinMap pair_cmp Line

-- stored as the triple of its fields
abbrev pub net_code : {P V : Type 0} → Coded P → Coded V → Coded (NetValue P V)
net_code {P} {V} p v =
    code_by (NetWorld P V × (fin.FinMap nat_cmp (Option Entry) × fin.FinMap pair_cmp Line))
    (coded× (net_world_code p v) (coded× (fin.code coded_ℕ (coded_option entry.the_row.coded)) (fin.code (coded× coded_ℕ coded_ℕ) line.the_row.coded)))
    (λ n. (n.world, (n.choices, n.lines))) (λ t. record { world = t.0; choices = t.1.0; lines = t.1.1 }) (λ _. refl)

-- what stability reads of the world of a net, given what its policies and states mean
abbrev pub net_setting : {P V : Type 0} → (P → Policy) → (V → PrefixValue → ℕ → State) → NetWorld P V → Setting
net_setting meaning state_of w = setting meaning w.graph w.book (state_of w.states w.prefix)

-- what each AS puts in by itself
abbrev pub seeds_in : {P V : Type 0} → NetWorld P V → ℕ → Option Seed
seeds_in w = fin.get w.seeds

-- the choice that stands in a row, where there is a row
abbrev pub chosen : Option (Option Entry) → Option Entry
chosen None = None
chosen (Some held) = held

-- what was received last over a line; a withdrawal where there is no line
abbrev pub received_on : Option Line → Message
received_on None = None
received_on (Some l) = l.received

-- the messages that are under way on a line; none where there is no line
abbrev pub queue_on : Option Line → List Message
queue_on None = []
queue_on (Some l) = l.queue

-- the net of the choices and the lines
abbrev pub net_of : {P V : Type 0} → NetValue P V → MessageNet
net_of v = record {
  choice = λ a. chosen (fin.get v.choices a);
  received = λ n a. received_on (fin.get v.lines (n, a));
  queue = λ n a. queue_on (fin.get v.lines (n, a));
}

-- how many messages are under way on the lines of the list
abbrev pub waiting_in : List ((ℕ × ℕ) × Line) → ℕ
waiting_in [] = 0
waiting_in (e ∷ es) = length e.1.queue + waiting_in es

-- how many messages are under way between the ASes of a graph
abbrev pub queued_in : Topology → MessageNet → ℕ
queued_in g x = let each = fin.keys (fin.from_entries {R = nat_cmp} (map (λ a. (a, tt {0})) (ases g))) in sum_by (λ n. sum_by (λ a. length (x.queue n a)) each) each

-- the value of a net that keeps these rows
abbrev pub value_of : {P V : Type 0} → NetWorld P V → List (ℕ × Option Entry) → List ((ℕ × ℕ) × Line) → NetValue P V
value_of world choices lines = record { world = world; choices = fin.from_entries choices; lines = fin.from_entries lines }

-- what a call of a delivery did: a delivery where there was a message, and else nothing
abbrev pub IsTurnOf : {P V : Type 0} → Setting → (ℕ → Option Seed) → NetValue P V → ℕ → ℕ → NetValue P V → Bool → Type 0
IsTurnOf w seeds old n a new true = IsDelivery w seeds (net_of old) n a (net_of new)
IsTurnOf w seeds old n a new false = ((net_of old).queue n a ≡ []) × (new ≡ old)

-- the first pair is not above the second
abbrev pub IsAtMost : ℕ × ℕ → ℕ × ℕ → Type 0
IsAtMost x y = is_gt (pair_cmp x y) ≡ false

-- the lowest pair of ASes with a message from the first to the second
pub record IsNextLink (x : MessageNet) (link : ℕ × ℕ) : Type 0 where
  pub some : x.queue link.0 link.1 ≢ []
  pub least : (n a : ℕ) → x.queue n a ≢ [] → IsAtMost link (n, a)

-- how many messages are under way on a line; none where there is no line
abbrev pub length_on : Option ((ℕ × ℕ) × Line) → ℕ
length_on None = 0
length_on (Some e) = length e.1.queue

-- from x to y by so many deliveries, each on the lowest link with a message
abbrev pub AreLowestFirst : Setting → (ℕ → Option Seed) → ℕ → MessageNet → MessageNet → Type 0
AreLowestFirst w seeds zero x y = x ≡ y
AreLowestFirst w seeds (suc k) x y = (n : ℕ) × (a : ℕ) × (z : MessageNet) × (w.relation a n ≢ None) × IsNextLink x (n, a) × IsDelivery w seeds x n a z × AreLowestFirst w seeds k z y

-- what a call of such deliveries did: at most so many were made, and fewer only where no message is under way then
pub record IsRested {P V : Type 0} (w : Setting) (seeds : ℕ → Option Seed) (old : NetValue P V) (most : ℕ) (new : NetValue P V) (made : ℕ) : Type 0 where
  pub lowest_first : AreLowestFirst w seeds made (net_of old) (net_of new)
  pub few : made ≤ most
  pub quiet : made < most → IsQuiet (net_of new)
