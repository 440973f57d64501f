-- The prefix by which an AS sends is the one of which it has an entry where all others with one are shorter.
use Rattle.std.proofs.Common.{◌≡◌, inl, inr, ℕ, ◌-◌, ◌*◌, ◌/◌, ◌%◌, ◌^◌, ◌≤◌, ◌&&◌, ◌==◌, Bool, true, is_some, Option, None, Some, refl, sym, ap, ◌∙◌, eqb-true}
use Rattle.std.specs.List.{Contains}
use Rattle.std.proofs.lemmas.Bool.{and_parts}
use Rattle.net_names.specs.Addresses.{AddrValue, width}
use Rattle.net_names.specs.Coverage.{has_bits, holds}
use Rattle.net_names.specs.Prefixes.{IsPrefix, PrefixValue}
use Rattle.net_names.proofs.Shortening.{div-mul_whole, family_is}
use Rattle.stability_laws.specs.Plans.{Plan, prefixes_of}
use Rattle.stability_laws.specs.declared.entry.Entry.{Entry}
use Rattle.data_trace.specs.Hops.{sent_by}
use Rattle.data_trace.proofs.Longest.{IsBestOf, best_of, none_of}

abbrev pub IsWhole : PrefixValue → Type 0
IsWhole p = IsPrefix p.family p.addr p.len

-- prefixes of one length that hold one address are equal
pub same_prefix : (p q : PrefixValue) (addr : AddrValue) → IsWhole p → IsWhole q → holds p addr ≡ true → holds q addr ≡ true → p.len ≡ q.len → p ≡ q
same_prefix p q addr whole other held too same =
    let (p_of, p_bits) = and_parts (width p.family == width addr.family) (has_bits p addr.bits) held in
    let (q_of, q_bits) = and_parts (width q.family == width addr.family) (has_bits q addr.bits) too in
    let families : p.family ≡ q.family = family_is p.family addr.family p_of ∙ sym (family_is q.family addr.family q_of) in
    let past : ℕ = 2 ^ (width p.family - p.len) in
    let pasts : 2 ^ (width q.family - q.len) ≡ past = λ i. 2 ^ (width (sym families i) - sym same i) in
    let quotients : p.addr / past ≡ q.addr / past =
    eqb-true (p.addr / past) (addr.bits / past) p_bits ∙ sym (eqb-true (q.addr / past) (addr.bits / past) (sym (ap (λ d. q.addr / d == addr.bits / d) pasts) ∙ q_bits)) in
    let addrs : p.addr ≡ q.addr = sym (div-mul_whole p.addr past whole.clear) ∙ ap (λ x. x * past) quotients ∙ div-mul_whole q.addr past (sym (ap (λ d. q.addr % d) pasts) ∙ other.clear) in
    λ i. record { family = families i; addr = addrs i; len = same i }

module _ (plan : Plan) (held : PrefixValue → ℕ → Option Entry) (addr : AddrValue) (a : ℕ) where
  abbrev passes : PrefixValue → Bool
  passes q = holds q addr && is_some (held q a)

  pub sent_is : (p : PrefixValue) → Contains (prefixes_of plan) p → (holds p addr && is_some (held p a)) ≡ true
      → ((q : PrefixValue) → Contains (prefixes_of plan) q → (holds q addr && is_some (held q a)) ≡ true → p.len ≤ q.len → q ≡ p) → sent_by plan held addr a ≡ Some p
  sent_is p there pass only = by (sent_by plan held addr a) refl
    where
      by : (o : Option PrefixValue) → sent_by plan held addr a ≡ o → sent_by plan held addr a ≡ Some p
      by None e = absurd (none_of passes (prefixes_of plan) e p there pass)
      by (Some q) e =
          let best : IsBestOf passes (prefixes_of plan) None q = best_of passes (prefixes_of plan) q e in
          let (at, passed) : Contains (prefixes_of plan) q × (passes q ≡ true) = elim best.among [ inl h ↦ absurd (let k : None ≡ Some q = h in cc) | inr h ↦ h ] in
          e ∙ ap Some (only q at passed (best.each p there pass))
