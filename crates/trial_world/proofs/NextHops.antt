-- Next hops for an address look at no prefix that doesn't hold it.
use Rattle.std.proofs.Common.{◌≡◌, ℕ, Bool, true, false, ◌&&◌, cond, IsTrue, Option, None, List, [], ◌∷◌, refl, ap, subst, ◌∙◌}
use Rattle.std.specs.Prelude.{filter, if◌then◌else◌}
use Rattle.std.specs.List.{reduce}
use Rattle.std.specs.Option.{option_map_or}
use Rattle.net_names.specs.Addresses.{AddrValue}
use Rattle.net_names.specs.Coverage.{holds}
use Rattle.net_names.specs.Prefixes.{PrefixValue}
use Rattle.stability_laws.specs.Plans.{Plan, announces, has_prefix, prefixes_of}
use Rattle.stability_laws.specs.declared.entry.Entry.{Entry}
use Rattle.data_trace.specs.Hops.{next_hop}
use Rattle.data_trace.specs.Traces.{IsTrace}
use Rattle.data_trace.specs.declared.kinds.End.{End}
use Rattle.data_trace.specs.declared.kinds.End.TheVariants as the_end
use Rattle.data_trace.specs.declared.kinds.Hop.{Hop}
use Rattle.data_trace.specs.declared.kinds.Hop.TheVariants.{Here, NoRoute}
use Rattle.data_trace.proofs.Ends.{ends_lost, one_end}
use Rattle.data_trace.proofs.Longest.{longer_of}
use Rattle.data_trace.proofs.Traces.{trace_ends}
use Rattle.sim_core.proofs.Families.{same_next}

-- where the next hops are the same, so are the ends
pub same_end : (next other : ℕ → Hop) → ((a : ℕ) → next a ≡ other a) → (a : ℕ) (xs ys : List ℕ) (e f : End) → IsTrace next a xs e → IsTrace other a ys f → e ≡ f
same_end next other same a xs ys e f t u = one_end other a f e (trace_ends other a ys f u) (trace_ends other a xs e (subst (λ (n : ℕ → Hop). IsTrace n a xs e) (λ i b. same b i) t))

-- who holds nothing has no next hop
filter_none : (f : PrefixValue → Bool) (ps : List PrefixValue) → ((p : PrefixValue) → f p ≡ false) → filter f ps ≡ []
filter_none f [] none = refl
filter_none f (p ∷ ps) none = ap (λ t. cond t (p ∷ filter f ps) (filter f ps)) (none p) ∙ filter_none f ps none

pub no_next : (plan : Plan) (held : PrefixValue → ℕ → Option Entry) (addr : AddrValue) (a : ℕ) → ((p : PrefixValue) → IsTrue (has_prefix plan p) → IsTrue (holds p addr) → held p a ≡ None) → next_hop plan held addr a ≡ NoRoute
no_next plan held addr a none =
    same_next plan held (λ p b. None) addr a none
    ∙ ap (λ ps. option_map_or (λ p. if announces plan p a then Here else NoRoute) (reduce longer_of ps) NoRoute) (filter_none (λ p. holds p addr && false) (prefixes_of plan) (λ p. off (holds p addr)))
  where
    off : (t : Bool) → (t && false) ≡ false
    off true = refl
    off false = refl

-- a trace without a next hop ends there
pub lost_end : (next : ℕ → Hop) (a : ℕ) (xs : List ℕ) (e : End) → next a ≡ NoRoute → IsTrace next a xs e → e ≡ the_end.NoRoute
lost_end next a xs e none t = one_end next a the_end.NoRoute e (ends_lost next a none) (trace_ends next a xs e t)
