-- Next hops stay inside the graph.
use Rattle.std.proofs.Common.{◌≡◌, ℕ, Bool, true, false, Option, Some, None, refl, cond, ap}
use Rattle.std.specs.Prelude.{Result, Ok, Err, IfOk, if◌then◌else◌}
use Rattle.std.specs.Option.{option_map_or}
use Rattle.net_names.specs.Addresses.{AddrValue}
use Rattle.net_names.specs.Prefixes.{PrefixValue}
use Rattle.as_graph.specs.Topology.{Topology, has}
use Rattle.stability_laws.specs.declared.entry.Entry.{Entry}
use Rattle.stability_laws.specs.Plans.{Plan, announces}
use Rattle.data_trace.specs.declared.kinds.Hop.{Hop}
use Rattle.data_trace.specs.declared.kinds.Hop.TheVariants.{Here, To, NoRoute}
use Rattle.data_trace.specs.Hops.{second_of, sent_by, next_hop}
use Rattle.data_trace.specs.Watches.{StaysInside}

-- the next hop by a prefix, if there is one
abbrev pub hop_by : Plan → (PrefixValue → ℕ → Option Entry) → ℕ → Option PrefixValue → Hop
hop_by plan held a o = option_map_or (λ p. if announces plan p a then Here else option_map_or To (second_of (held p a)) NoRoute) o NoRoute

to_some : (o : Option ℕ) (b : ℕ) → option_map_or To o NoRoute ≡ To b → o ≡ Some b
to_some None b e = cc
to_some (Some c) b e = let k : c ≡ b = cc in ap Some k

-- a next hop that is an AS is one of those where paths go on
pub next_there : (there : ℕ → Bool) (plan : Plan) (held : PrefixValue → ℕ → Option Entry) (addr : AddrValue) → ((p : PrefixValue) (a b : ℕ) → announces plan p a ≡ false → second_of (held p a) ≡ Some b → there b ≡ true) → (a b : ℕ) → next_hop plan held addr a ≡ To b → there b ≡ true
next_there there plan held addr inside a b e = by (sent_by plan held addr a) e
  where
    at : (p : PrefixValue) (v : Bool) → announces plan p a ≡ v → cond v Here (option_map_or To (second_of (held p a)) NoRoute) ≡ To b → there b ≡ true
    at p true q e = cc
    at p false q e = inside p a b q (to_some (second_of (held p a)) b e)

    by : (o : Option PrefixValue) → hop_by plan held a o ≡ To b → there b ≡ true
    by None e = cc
    by (Some p) e = at p (announces plan p a) refl e

pub next_inside : (g : Topology) (plan : Plan) (held : PrefixValue → ℕ → Option Entry) (addr : AddrValue) → StaysInside g plan held → (a b : ℕ) → next_hop plan held addr a ≡ To b → has g b ≡ true
next_inside g plan held addr inside = next_there (has g) plan held addr inside

-- three facts of a value, if there is one, give a fourth
pub if_ok : {T E : Type 0} (P Q R S : T → Type 0) (r : Result T E) → ((t : T) → P t → Q t → R t → S t) → IfOk r P → IfOk r Q → IfOk r R → IfOk r S
if_ok P Q R S (Ok t) f p q r = f t p q r
if_ok P Q R S (Err e) f p q r = tt

-- a fact of a value, if there is one, gives another
pub ok_gives : {T E : Type 0} (P Q : T → Type 0) (r : Result T E) → ((t : T) → P t → Q t) → IfOk r P → IfOk r Q
ok_gives P Q (Ok t) f p = f t p
ok_gives P Q (Err e) f p = tt
