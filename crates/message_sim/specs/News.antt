-- Messages that are about to go out.
use Rattle.std.specs.Prelude.{◌≡◌, ◌≢◌, ℕ, ◌+◌, ◌<◌, ◌==◌, true, false, if◌then◌else◌, Option, None, Some, length, List, [], ◌∷◌, ◌++◌, slice_index_or}
use Rattle.net_names.specs.Numbers.{occurs}
use Rattle.policy_laws.specs.Policy.{Policy}
use Rattle.as_graph.specs.declared.neighbour.Neighbour.{Neighbour}
use Rattle.as_graph.specs.Neighbours.{asns}
use Rattle.stability_laws.specs.declared.entry.Entry.{Entry}
use Rattle.message_sim.specs.declared.news.News.{News}
use Rattle.message_sim.specs.Messages.{Message, sent_given, IsTold}

-- there is a message exactly where what is sent has changed, and it is what is sent now
abbrev pub IsNews : Message → Message → Option Message → Type 0
IsNews old new None = old ≡ new
IsNews old new (Some m) = (old ≢ new) × (m ≡ new)

-- the messages of one item, where it is for b
abbrev pub told_by : ℕ → News → List Message
told_by b x = if x.to == b then x.messages else []

-- the messages for b, where the last item is told first
abbrev pub told_to : ℕ → List News → List Message
told_to b [] = []
told_to b (x ∷ xs) = told_to b xs ++ told_by b x

-- how many messages there are
abbrev pub news_count : List News → ℕ
news_count [] = 0
news_count (x ∷ xs) = length x.messages + news_count xs

-- the messages with one more for an AS, where there is one
abbrev pub with_news : List News → ℕ → Option Message → List News
with_news xs to None = xs
with_news xs to (Some m) = xs ++ record { to = to; messages = m ∷ [] } ∷ []

-- each neighbour is told what has changed of what is sent to it, by one message, and nobody else is told anything
pub record AreNewsOf (p : Policy) (neighbours : List Neighbour) (old new : Option Entry) (xs : List News) : Type 0 where
  pub told : (k : ℕ) (d : Neighbour) → k < length neighbours → IsTold (sent_given p (Some (slice_index_or neighbours k d).rel) old) (sent_given p (Some (slice_index_or neighbours k d).rel) new) [] (told_to (slice_index_or neighbours k d).asn xs)
  pub others : (b : ℕ) → occurs b (asns neighbours) ≡ false → told_to b xs ≡ []
  pub counted : news_count xs ≡ length xs
  pub within : (k : ℕ) (d : News) → k < length xs → occurs (slice_index_or xs k d).to (asns neighbours) ≡ true
