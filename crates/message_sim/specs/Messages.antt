-- A net of ASes that tell their neighbours what they hold, over links that keep the order of messages.
use Rattle.std.specs.Prelude.{◌≡◌, ◌≢◌, ◌⊎◌, ℕ, Option, None, option_map, List, [], ◌∷◌, ◌++◌}
use Rattle.net_names.specs.declared.routes.Rel.{Rel}
use Rattle.net_names.specs.Steps.{◌>>=◌, option_filter}
use Rattle.policy_laws.specs.Policy.{Policy}
use Rattle.stability_laws.specs.declared.entry.Entry.{Entry}
use Rattle.stability_laws.specs.declared.entry.Seed.{Seed}
use Rattle.stability_laws.specs.Entries.{seed_entry}
use Rattle.stability_laws.specs.Offers.{Setting}

-- a net has what each AS chose, and for each link from a first AS to a second one what was received over it last and the messages under way, the oldest first; a message is an entry, as the sender holds it, or nothing, which is a withdrawal (RFC 4271, sections 3.2 and 4.3)
pub record MessageNet : Type 0 where
  pub choice : ℕ → Option Entry
  pub received : ℕ → ℕ → Option Entry
  pub queue : ℕ → ℕ → List (Option Entry)

-- what n sends to a where the ASes hold f: its entry where its policy exports that to what a is to it, and else a withdrawal (Gao and Rexford 2001)
abbrev pub sends : Setting → (ℕ → Option Entry) → ℕ → ℕ → Option Entry
sends w f n a = w.relation n a >>= λ to. option_filter (λ e. (w.policy n).exports e.class e.otc to) (f n)

-- no message is under way
abbrev pub IsQuiet : MessageNet → Type 0
IsQuiet x = (n a : ℕ) → x.queue n a ≡ []

-- where what an AS sends over a link has changed, the new message is the youngest of its queue, and else the queue stays (RFC 4271, section 9.2)
abbrev pub IsTold : Option Entry → Option Entry → List (Option Entry) → List (Option Entry) → Type 0
IsTold old new was now = ((old ≡ new) × (now ≡ was)) ⊎ ((old ≢ new) × (now ≡ was ++ new ∷ []))

-- at the start each AS chose the entry of its seed or nothing, each link has received a withdrawal, and each AS has told its neighbours what it sends
pub record IsStart (w : Setting) (seeds : ℕ → Option Seed) (x : MessageNet) : Type 0 where
  pub choices : (a : ℕ) → x.choice a ≡ option_map seed_entry (seeds a)
  pub received : (n a : ℕ) → x.received n a ≡ None
  pub queues : (n a : ℕ) → IsTold None (sends w x.choice n a) [] (x.queue n a)

-- a message
abbrev pub Message : Type 0
Message = Option Entry

-- what an AS sends to one that is this to it, given what it holds (Gao and Rexford 2001)
abbrev pub sent_given : Policy → Option Rel → Option Entry → Message
sent_given sender to held = to >>= λ r. option_filter (λ e. sender.exports e.class e.otc r) held
