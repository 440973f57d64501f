-- What the tables of a net keep.
use Rattle.std.specs.Prelude.{◌≡◌, ◌≢◌, ◌≤◌, ◌<◌, ◌+◌, ◌++◌, slice_get, ℕ, Bool, true, false, is_some, nat_eq, length, drop, if◌then◌else◌, Option, None, Some, List, [], slice_index_or}
use Rattle.std.specs.Map.{lookup}
use Rattle.std.specs.BTreeSet.{contains}
use Rattle.net_names.specs.Links.{pair_cmp}
use Rattle.net_names.specs.declared.routes.Rel.{Rel}
use Rattle.policy_laws.specs.declared.policy.View.{View}
use Rattle.policy_laws.specs.Policy.{Policy}
use Rattle.stability_laws.specs.declared.entry.Entry.{Entry}
use Rattle.stability_laws.specs.declared.entry.Seed.{Seed}
use Rattle.stability_laws.specs.Offers.{Setting}
use Rattle.message_sim.specs.Messages.{Message, MessageNet, sent_given, IsTold}
use Rattle.message_sim.specs.Delivery.{IsDelivery}
use Rattle.as_graph.specs.Topology.{Topology, relation}
use Rattle.as_graph.specs.Hierarchy.{HasNoProviderCycle}
use Rattle.std.specs.Ordering.{is_lt}
use Rattle.message_sim.specs.declared.line.Line.{Line}
use Rattle.message_sim.specs.Agreement.{Agrees}
use Rattle.message_sim.specs.Nets.{waiting_in, IsAtMost}
use Rattle.message_sim.specs.News.{told_to, news_count}
use Rattle.message_sim.specs.Rows.{LineRows, ChoiceRows, BestRows, link_eq, choice_at, received_at, queue_at, best_at, is_some_message}
use Rattle.message_sim.specs.Best.{IsHeldBy, offers_now, offers_after}
use Rattle.message_sim.specs.declared.news.News.{News}
use Rattle.message_sim.specs.declared.choosing.Choice.{Choice}
use Rattle.message_sim.specs.declared.tables.NetState.{NetState}

-- the net that the tables keep
abbrev pub net_in : ChoiceRows → LineRows → MessageNet
net_in choices lines = record { choice = choice_at choices; received = received_at lines; queue = queue_at lines }

-- what the tables keep: the net agrees with what is sent; each AS has its rows, and what it holds is what its best view says; each link has a line, and no other pair; each waiting link is noted; and the messages are counted
pub record IsKept (w : Setting) (seeds : ℕ → Option Seed) (t : NetState) : Type 0 where
  pub agrees : Agrees w seeds (net_in t.choices.entries t.lines.entries)
  pub choice_rows : (a : ℕ) → w.has a ≡ true → is_some (lookup (nat_eq a) t.choices.entries) ≡ true
  pub best_rows : (a : ℕ) → w.has a ≡ true → is_some (lookup (nat_eq a) t.bests.entries) ≡ true
  pub held : (a : ℕ) → w.has a ≡ true → IsHeldBy (w.policy a) (seeds a) (offers_now w t.lines.entries a) (best_at t.bests.entries a) (choice_at t.choices.entries a)
  pub linked : (n a : ℕ) → is_some (lookup (link_eq (n, a)) t.lines.entries) ≡ is_some (w.relation a n)
  pub waits : (n a : ℕ) → queue_at t.lines.entries n a ≢ [] → contains pair_cmp t.waiting (n, a) ≡ true
  pub counted : t.queued ≡ waiting_in t.lines.entries
  pub few : t.queued ≤ 4611686018427387904

-- what is held after the change
abbrev pub held_after : Option Choice → Option Entry → Option Entry
held_after None held = held
held_after (Some c) held = c.held

-- the best view after the change
abbrev pub best_after : Option Choice → Option View → Option View
best_after None best = best
best_after (Some c) best = c.best

-- the change that a message of n makes at a: what is held then is what the best view says, and the news are what has changed for the neighbours
pub record IsChange (w : Setting) (seeds : ℕ → Option Seed) (choices : ChoiceRows) (bests : BestRows) (lines : LineRows) (n a : ℕ) (message : Message) (choice : Option Choice) (news : List News) : Type 0 where
  pub held : IsHeldBy (w.policy a) (seeds a) (offers_after w lines a n message) (best_after choice (best_at bests a)) (held_after choice (choice_at choices a))
  pub told : (b : ℕ) → IsTold (sent_given (w.policy a) (w.relation a b) (choice_at choices a)) (sent_given (w.policy a) (w.relation a b) (held_after choice (choice_at choices a))) [] (told_to b news)
  pub counted : news_count news ≡ length news
  pub within : (k : ℕ) (d : News) → k < length news → is_some (w.relation a (slice_index_or news k d).to) ≡ true

-- the news of an AS whose choice may have changed
pub record AreNewsAt (p : Policy) (relation : ℕ → Option Rel) (old new : Option Entry) (news : List News) : Type 0 where
  pub told : (b : ℕ) → IsTold (sent_given p (relation b) old) (sent_given p (relation b) new) [] (told_to b news)
  pub counted : news_count news ≡ length news
  pub within : (k : ℕ) (d : News) → k < length news → is_some (relation (slice_index_or news k d).to) ≡ true

-- the choices and the lines are the same
pub record IsSameNet (t u : NetState) : Type 0 where
  pub choices : u.choices.entries ≡ t.choices.entries
  pub lines : u.lines.entries ≡ t.lines.entries

-- a delivery where there was a message, and else the same choices and lines
abbrev pub IsTurnIn : Setting → (ℕ → Option Seed) → NetState → NetState → ℕ → ℕ → Bool → Type 0
IsTurnIn w seeds t u n a true = IsDelivery w seeds (net_in t.choices.entries t.lines.entries) n a (net_in u.choices.entries u.lines.entries)
IsTurnIn w seeds t u n a false = (queue_at t.lines.entries n a ≡ []) × IsSameNet t u

-- there is no provider cycle, and the tables keep what they keep
pub record IsNet (g : Topology) (w : Setting) (seeds : ℕ → Option Seed) (t : NetState) : Type 0 where
  pub no_cycle : HasNoProviderCycle (relation g)
  pub kept : IsKept w seeds t

-- the oldest message on the link from n to a was received, and the news of a wait after what waited
pub record IsMoved (old new : LineRows) (n a : ℕ) (news : List News) : Type 0 where
  pub taken : queue_at new n a ≡ drop 1 (queue_at old n a)
  pub received : Some (received_at new n a) ≡ slice_get (queue_at old n a) 0
  pub told : (b : ℕ) → queue_at new a b ≡ queue_at old a b ++ told_to b news
  pub other_queues : (m b : ℕ) → m ≢ a → ((m ≡ n) × (b ≡ a) → ⊥) → queue_at new m b ≡ queue_at old m b
  pub other_received : (m b : ℕ) → ((m ≡ n) × (b ≡ a) → ⊥) → received_at new m b ≡ received_at old m b
  pub there : (m b : ℕ) → is_some (lookup (link_eq (m, b)) new) ≡ is_some (lookup (link_eq (m, b)) old)
  pub count : waiting_in new + 1 ≡ waiting_in old + news_count news

-- the rows of a say what the change asks for, and the other rows stay
pub record IsPutChange (choices new_choices : ChoiceRows) (bests new_bests : BestRows) (a : ℕ) (change : Option Choice) : Type 0 where
  pub choice : choice_at new_choices a ≡ held_after change (choice_at choices a)
  pub best : best_at new_bests a ≡ best_after change (best_at bests a)
  pub other_choices : (b : ℕ) → b ≢ a → lookup (nat_eq b) new_choices ≡ lookup (nat_eq b) choices
  pub other_bests : (b : ℕ) → b ≢ a → lookup (nat_eq b) new_bests ≡ lookup (nat_eq b) bests
  pub choice_there : is_some (lookup (nat_eq a) new_choices) ≡ true
  pub best_there : is_some (lookup (nat_eq a) new_bests) ≡ true

-- the link of a line, where a message is under way on it
abbrev pub waiting_link : Option ((ℕ × ℕ) × Line) → Option (ℕ × ℕ)
waiting_link None = None
waiting_link (Some e) = if is_some_message e.1.queue then Some e.0 else None

-- the lower one of two links that may be missing; the second where they are one
abbrev pub lower_of : Option (ℕ × ℕ) → Option (ℕ × ℕ) → Option (ℕ × ℕ)
lower_of None best = best
lower_of (Some x) None = Some x
lower_of (Some x) (Some y) = if is_lt (pair_cmp x y) then Some x else Some y

-- a message is under way on the link, and on none that is lower; without a link none is under way
abbrev pub IsLowest : LineRows → Option (ℕ × ℕ) → Type 0
IsLowest lines None = (n a : ℕ) → queue_at lines n a ≡ []
IsLowest lines (Some link) = (queue_at lines link.0 link.1 ≢ []) × ((n a : ℕ) → queue_at lines n a ≢ [] → IsAtMost link (n, a))
