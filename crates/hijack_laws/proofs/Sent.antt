-- By which prefix is sent, and where next hops are the same.
use Rattle.std.proofs.Common.{◌≡◌, ◌⊎◌, inl, inr, ℕ, zero, suc, ◌<◌, ◌≤◌, Bool, true, false, ◌&&◌, cond, IsTrue, Option, Some, None, is_some, List, [], ◌∷◌, length, get_or, filter, slice_get, if◌then◌else◌, refl, ◌∙◌, ap, arith}
use Rattle.std.specs.List.{Contains, reduce}
use Rattle.std.specs.Option.{option_map_or}
use Rattle.net_names.specs.Addresses.{AddrValue}
use Rattle.net_names.specs.Coverage.{holds}
use Rattle.net_names.specs.Orders.{exact_prefix, prefix_total}
use Rattle.net_names.specs.Prefixes.{PrefixValue}
use Rattle.stability_laws.specs.declared.entry.Entry.{Entry}
use Rattle.stability_laws.specs.Plans.{Plan, announces, has_prefix, prefixes_of}
use Rattle.stability_laws.proofs.KeyLists.{keys_listed}
use Rattle.data_trace.specs.Hops.{CanSendBy, LongestIsSent, next_hop, second_of, sent_by}
use Rattle.data_trace.specs.declared.kinds.Hop.TheVariants.{Here, To, NoRoute}
use Rattle.data_trace.proofs.Inside.{hop_by}
use Rattle.data_trace.proofs.Longest.{longer_of}
use Rattle.traces_end.proofs.Leading.{listed_prefix}

at_is : (ps : List PrefixValue) (k : ℕ) (p : PrefixValue) → slice_get ps k ≡ Some p → (k < length ps) × (get_or ps k p ≡ p)
at_is [] k p e = absurd (let t : None ≡ Some p = e in cc)
at_is (q ∷ ps) zero p e = (omega arith, (let t : q ≡ p = cc in t))
at_is (q ∷ ps) (suc k) p e = let r : (k < length ps) × (get_or ps k p ≡ p) = at_is ps k p e in (omega (arith, r.0), r.1)

prefix_listed : (plan : Plan) (p : PrefixValue) → IsTrue (has_prefix plan p) → Contains (prefixes_of plan) p
prefix_listed plan p known = let (k, e) = (keys_listed prefix_total exact_prefix plan.prefixes).whole p known in let (less, is) = at_is (prefixes_of plan) k p e in (k, less, is)

filter_alike : (F G : PrefixValue → Bool) (ps : List PrefixValue) → ((k : ℕ) (p : PrefixValue) → slice_get ps k ≡ Some p → F p ≡ G p) → filter F ps ≡ filter G ps
filter_alike F G [] same = refl
filter_alike F G (p ∷ ps) same = let rest : filter F ps ≡ filter G ps = filter_alike F G ps (λ k. same (suc k)) in λ i. cond (same 0 p refl i) (p ∷ rest i) (rest i)

module _ (longest : LongestIsSent) (plan : Plan) (addr : AddrValue) where
  -- an AS that holds a prefix that is longer than all others sends by it
  pub sends_longest : (held : PrefixValue → ℕ → Option Entry) (q : PrefixValue) → IsTrue (has_prefix plan q) → IsTrue (holds q addr) → ((p : PrefixValue) → IsTrue (has_prefix plan p) → IsTrue (holds p addr) → (p ≡ q) ⊎ (p.len < q.len)) →
      (a : ℕ) (e : Entry) → held q a ≡ Some e → sent_by plan held addr a ≡ Some q
  sends_longest held q known holds_it others a e has = by (sent_by plan held addr a) refl
    where
      can : CanSendBy plan held addr a q
      can = record { known = prefix_listed plan q known; holds_it = holds_it; entry = ap is_some has }

      by : (o : Option PrefixValue) → sent_by plan held addr a ≡ o → o ≡ Some q
      by None is = absurd ((longest plan held addr a).1 is q can)
      by (Some p) is =
          let (can_p, best) = (longest plan held addr a).0 p is in
          let le : q.len ≤ p.len = best q can in
          elim (others p (listed_prefix plan p can_p.known) can_p.holds_it) [
            | inl same ↦ ap (λ t. Some t) same
            | inr less ↦ absurd (omega (arith, less, le))
          ]

  -- where an AS holds the same of all prefixes that hold the address, it has the same next hop
  pub same_hop : (held other : PrefixValue → ℕ → Option Entry) (a : ℕ) → ((p : PrefixValue) → IsTrue (has_prefix plan p) → IsTrue (holds p addr) → held p a ≡ other p a) → next_hop plan held addr a ≡ next_hop plan other addr a
  same_hop held other a same = ap (hop_by plan held a) same_sent ∙ by (sent_by plan other addr a) refl
    where
      test_same : (p : PrefixValue) (b : Bool) → holds p addr ≡ b → (b ≡ true → held p a ≡ other p a) → (b && is_some (held p a)) ≡ (b && is_some (other p a))
      test_same p true is same = ap is_some (same refl)
      test_same p false is same = refl

      same_sent : sent_by plan held addr a ≡ sent_by plan other addr a
      same_sent = ap (reduce longer_of)
          (filter_alike (λ p. holds p addr && is_some (held p a)) (λ p. holds p addr && is_some (other p a)) (prefixes_of plan)
          (λ k p at. test_same p (holds p addr) refl (λ it. same p ((keys_listed prefix_total exact_prefix plan.prefixes).only k p at) it)))

      by : (o : Option PrefixValue) → sent_by plan other addr a ≡ o → hop_by plan held a o ≡ hop_by plan other a o
      by None is = refl
      by (Some p) is =
          let can = ((longest plan other addr a).0 p is).0 in
          ap (λ h. if announces plan p a then Here else option_map_or To (second_of h) NoRoute) (same p (listed_prefix plan p can.known) can.holds_it)

  -- the next hop by a prefix that the AS announces, and by one that it doesn't
  pub hop_here : (held : PrefixValue → ℕ → Option Entry) (p : PrefixValue) (a : ℕ) → sent_by plan held addr a ≡ Some p → announces plan p a ≡ true → next_hop plan held addr a ≡ Here
  hop_here held p a sent own = ap (hop_by plan held a) sent ∙ ap (λ b. if b then Here else option_map_or To (second_of (held p a)) NoRoute) own

  pub hop_on : (held : PrefixValue → ℕ → Option Entry) (p : PrefixValue) (a n : ℕ) (e : Entry) (rest : List ℕ) → sent_by plan held addr a ≡ Some p → announces plan p a ≡ false → held p a ≡ Some e → e.path ≡ a ∷ rest → slice_get rest 0 ≡ Some n → next_hop plan held addr a ≡ To n
  hop_on held p a n e rest sent other has path first =
      ap (hop_by plan held a) sent ∙ ap (λ b. if b then Here else option_map_or To (second_of (held p a)) NoRoute) other
      ∙ ap (λ o. option_map_or To (second_of o) NoRoute) has ∙ ap (λ l. option_map_or To (slice_get l 1) NoRoute) path ∙ ap (λ o. option_map_or To o NoRoute) first
