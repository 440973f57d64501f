-- The orders of addresses, prefixes, announcements and payloads are total, and only equal values tie; the laws of an implementation cite these lemmas.
use Rattle.std.proofs.Common.{◌≡◌, ℕ, Bool, true, false, nat_eq, eqb-true, eq-eqb, refl, ap, ◌∙◌}
use Rattle.std.specs.Prelude.{◌&&◌}
use Rattle.std.specs.declared.cmp.Ordering.{Ordering}
use Rattle.std.specs.declared.cmp.Ordering.TheVariants.{Less, Equal, Greater}
use Rattle.std.specs.Ordering.{nat_cmp, is_eq}
use Rattle.std.specs.Cmp.{IsTotalOrder, nat_cmp_total, both_ways, tied_itself}
use Rattle.std.proofs.lemmas.Cmp.{on_total, then_total}
use Rattle.std.proofs.lemmas.Map.Lookups.{CmpEqualImpliesEq, exact_pairs, exact_unsigned}
use Rattle.net_names.specs.declared.addresses.Family.{Family}
use Rattle.net_names.specs.declared.addresses.Family.TheVariants.{V4, V6}
use Rattle.net_names.specs.contracts.addresses.Family.{the_type}
use denote.Enum.Bare.{sameb}
use Rattle.net_names.specs.Addresses.{AddrValue, addr_cmp, width}
use Rattle.net_names.specs.Prefixes.{PrefixValue, prefix_cmp, announcement_cmp}
use Rattle.net_names.specs.Payloads.{VrpValue, vrp_cmp}

family_of_width : (f g : Family) → width f ≡ width g → f ≡ g
family_of_width V4 V4 e = refl
family_of_width V4 V6 e = cc e
family_of_width V6 V4 e = cc e
family_of_width V6 V6 e = refl

pub addr_total : IsTotalOrder addr_cmp
addr_total = then_total (on_total (λ a. width a.family) nat_cmp_total) (on_total (λ a. a.bits) nat_cmp_total)

pub exact_addr : CmpEqualImpliesEq addr_cmp
exact_addr a b h =
    let parts : AddrValue → ℕ × ℕ = λ x. (width x.family, x.bits) in
    let e : parts a ≡ parts b = exact_pairs nat_cmp nat_cmp exact_unsigned exact_unsigned (parts a) (parts b) h in
    let f : a.family ≡ b.family = family_of_width a.family b.family (ap (λ (p : ℕ × ℕ). p.0) e) in
    λ i. record { family = f i; bits = (e i).1 }

pub prefix_total : IsTotalOrder prefix_cmp
prefix_total = then_total (on_total (λ p. width p.family) nat_cmp_total) (then_total (on_total (λ p. p.addr) nat_cmp_total) (on_total (λ p. p.len) nat_cmp_total))

pub exact_prefix : CmpEqualImpliesEq prefix_cmp
exact_prefix a b h =
    let parts : PrefixValue → ℕ × (ℕ × ℕ) = λ x. (width x.family, (x.addr, x.len)) in
    let e : parts a ≡ parts b = exact_pairs nat_cmp _ exact_unsigned (exact_pairs nat_cmp nat_cmp exact_unsigned exact_unsigned) (parts a) (parts b) h in
    let f : a.family ≡ b.family = family_of_width a.family b.family (ap (λ (p : ℕ × (ℕ × ℕ)). p.0) e) in
    λ i. record { family = f i; addr = (e i).1.0; len = (e i).1.1 }

pub announcement_total : IsTotalOrder announcement_cmp
announcement_total = then_total (on_total (λ (x : PrefixValue × ℕ). x.0) prefix_total) (on_total (λ (x : PrefixValue × ℕ). x.1) nat_cmp_total)

pub exact_announcement : CmpEqualImpliesEq announcement_cmp
exact_announcement = exact_pairs prefix_cmp nat_cmp exact_prefix exact_unsigned

pub vrp_total : IsTotalOrder vrp_cmp
vrp_total = then_total (on_total (λ v. v.prefix) prefix_total) (then_total (on_total (λ v. v.max) nat_cmp_total) (on_total (λ v. v.asn) nat_cmp_total))

pub exact_vrp : CmpEqualImpliesEq vrp_cmp
exact_vrp a b h =
    let parts : VrpValue → PrefixValue × (ℕ × ℕ) = λ x. (x.prefix, (x.max, x.asn)) in
    let e : parts a ≡ parts b = exact_pairs prefix_cmp _ exact_prefix (exact_pairs nat_cmp nat_cmp exact_unsigned exact_unsigned) (parts a) (parts b) h in
    λ i. record { prefix = (e i).0; max = (e i).1.0; asn = (e i).1.1 }

same_families : (f g : Family) → sameb the_type f g ≡ true → f ≡ g
same_families V4 V4 e = refl
same_families V4 V6 e = cc e
same_families V6 V4 e = cc e
same_families V6 V6 e = refl

same_family : (f : Family) → sameb the_type f f ≡ true
same_family V4 = refl
same_family V6 = refl

record FiveHold (a b c d e : Bool) : Type 0 where
  addr : a ≡ true
  asn : b ≡ true
  family : c ≡ true
  len : d ≡ true
  max : e ≡ true

five : (a b c d e : Bool) → (a && (b && (c && (d && e)))) ≡ true → FiveHold a b c d e
five false b c d e h = cc h
five true false c d e h = cc h
five true true false d e h = cc h
five true true true false e h = cc h
five true true true true e h = record { addr = refl; asn = refl; family = refl; len = refl; max = h }

is_tie : (r : Ordering) → is_eq r ≡ true → r ≡ Equal
is_tie Less e = cc e
is_tie Equal e = refl
is_tie Greater e = cc e

-- whether all fields are equal
abbrev pub same_fields : VrpValue → VrpValue → Bool
same_fields v w = nat_eq v.prefix.addr w.prefix.addr && (nat_eq v.asn w.asn && (sameb the_type v.prefix.family w.prefix.family && (nat_eq v.prefix.len w.prefix.len && nat_eq v.max w.max)))

fields_same : (v w : VrpValue) → same_fields v w ≡ true → v ≡ w
fields_same v w e =
    let k = five (nat_eq v.prefix.addr w.prefix.addr) (nat_eq v.asn w.asn) (sameb the_type v.prefix.family w.prefix.family) (nat_eq v.prefix.len w.prefix.len) (nat_eq v.max w.max) e in
    λ i. record {
      prefix = record { family = same_families v.prefix.family w.prefix.family k.family i; addr = eqb-true v.prefix.addr w.prefix.addr k.addr i; len = eqb-true v.prefix.len w.prefix.len k.len i };
      max = eqb-true v.max w.max k.max i;
      asn = eqb-true v.asn w.asn k.asn i;
    }

own_fields : (v : VrpValue) → same_fields v v ≡ true
own_fields v i = eq-eqb v.prefix.addr v.prefix.addr refl i && (eq-eqb v.asn v.asn refl i && (same_family v.prefix.family i && (eq-eqb v.prefix.len v.prefix.len refl i && eq-eqb v.max v.max refl i)))

-- the payloads whose fields are all equal are those that tie
pub vrp_eq_is_tie : (v w : VrpValue) → same_fields v w ≡ is_eq (vrp_cmp v w)
vrp_eq_is_tie v w = both_ways _ _
    (λ e. ap (λ x. is_eq (vrp_cmp x w)) (fields_same v w e) ∙ ap is_eq (tied_itself vrp_total w))
    (λ e. ap (λ x. same_fields x w) (exact_vrp v w (is_tie _ e)) ∙ own_fields w)
