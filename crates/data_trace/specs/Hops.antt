-- Where an AS sends a packet.
use Rattle.std.specs.Prelude.{◌≡◌, ℕ, ◌≤◌, IsTrue, ◌&&◌, nat_lt, if◌then◌else◌, Option, None, Some, is_some, option_and_then, filter, slice_get}
use Rattle.std.specs.FinMap as fin
use Rattle.std.specs.List.{Contains, reduce}
use Rattle.std.specs.Option.{option_map_or}
use Rattle.net_names.specs.Addresses.{AddrValue}
use Rattle.net_names.specs.Prefixes.{PrefixValue}
use Rattle.net_names.specs.Coverage.{holds}
use Rattle.net_names.specs.Steps.{◌>>=◌}
use Rattle.stability_laws.specs.declared.entry.Entry.{Entry}
use Rattle.stability_laws.specs.Plans.{Plan, announces, prefixes_of}
use Rattle.data_trace.specs.declared.kinds.Hop.{Hop}
use Rattle.data_trace.specs.declared.kinds.Hop.TheVariants.{Here, To, NoRoute}

-- the prefix by which an AS sends a packet: of the prefixes of the plan that hold the address and of which the AS has an entry, the longest, and the first of those where several are equally long (RFC 4632, section 5.1)
abbrev pub sent_by : Plan → (PrefixValue → ℕ → Option Entry) → AddrValue → ℕ → Option PrefixValue
sent_by plan held addr a = reduce (λ p q. if nat_lt p.len q.len then q else p)
    (filter (λ p. holds p addr && is_some (held p a)) (fin.keys plan.prefixes))

-- where an AS sends a packet to the address, with what the ASes hold of each prefix in one round, by the prefix by which it sends: here where it announces that prefix, whatever it holds, else to the second AS of its entry's path; without a prefix there is no route (RFC 4632, section 5.1; RFC 4271, section 5.1.3)
abbrev pub next_hop : Plan → (PrefixValue → ℕ → Option Entry) → AddrValue → ℕ → Hop
next_hop plan held to a = option_map_or (λ p. if announces plan p a then Here else option_map_or To
    (held p a >>= λ e. slice_get e.path 1) NoRoute) (sent_by plan held to a) NoRoute

-- the second AS of the path of an entry, if there is one (RFC 4271, section 5.1.2)
abbrev pub second_of : Option Entry → Option ℕ
second_of entry = option_and_then (λ e. slice_get e.path 1) entry

-- an AS can send a packet by the prefix: it is one of the plan, it holds the address, and the AS has an entry of it (RFC 4632, section 5.1)
pub record CanSendBy (plan : Plan) (held : PrefixValue → ℕ → Option Entry) (addr : AddrValue) (a : ℕ) (p : PrefixValue) : Type 0 where
  pub known : Contains (prefixes_of plan) p
  pub holds_it : IsTrue (holds p addr)
  pub entry : IsTrue (is_some (held p a))

-- an AS sends a packet by the longest prefix by which it can, and by none exactly where there is none (RFC 4632, section 5.1)
abbrev pub LongestIsSent : Type 0
LongestIsSent = (plan : Plan) (held : PrefixValue → ℕ → Option Entry) (addr : AddrValue) (a : ℕ) →
    ((p : PrefixValue) → sent_by plan held addr a ≡ Some p → CanSendBy plan held addr a p × ((q : PrefixValue) → CanSendBy plan held addr a q → q.len ≤ p.len))
    × (sent_by plan held addr a ≡ None → (q : PrefixValue) → CanSendBy plan held addr a q → ⊥)
