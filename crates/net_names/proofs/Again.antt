-- What is printed of a class, a number, an address or a prefix is read again.
use Rattle.std.proofs.Common.{◌≡◌, ℕ, ◌-◌, ◌%◌, ◌^◌, ◌<◌, ◌≤◌, true, false, List, length, All, Some, refl, arith, eq-eqb, lit<}
use Rattle.std.specs.Prelude.{bytes_eq, decimal, ◌==◌, nat_lt, nat_le}
use Rattle.std.specs.Str.Parse.{IsNumeral, digits_value}
use Rattle.std.proofs.lemmas.Bool.{lt-ltb, le-leb}
use Rattle.std.proofs.lemmas.Fmt.{decimal_is_IsNumeral, length-decimal-le}
use Rattle.net_names.specs.declared.addresses.Family.{Family}
use Rattle.net_names.specs.declared.addresses.Family.TheVariants.{V4, V6}
use Rattle.net_names.specs.declared.routes.Class.{Class}
use Rattle.net_names.specs.declared.routes.Class.TheVariants.{Origin, Customer, Peer, Provider}
use Rattle.net_names.specs.Addresses.{width, AddrValue, FitsFamily}
use Rattle.net_names.specs.Prefixes.{PrefixValue, IsPrefix}
use Rattle.net_names.specs.Texts.{class_named, class_word, numeral, asn_of, addr_text, addr_of, prefix_of, prefix_text}
use Rattle.net_names.proofs.AddressTexts.{slashless_v4, slashless_v6, text_v4, text_v6, in_v4_again, in_v6_again}
use Rattle.net_names.proofs.TextLaws.{numeral_again, list_digits, short_again, bytes_eq_same, cut_again}

pub class_again : (c : Class) → class_named (class_word c) ≡ Some c
unfolding class_named
class_again Origin = refl
class_again Customer = refl
class_again Peer = refl
class_again Provider = refl

pub asn_again : (n : ℕ) → 1 ≤ n → n < 2 ^ 32 → asn_of (decimal n) ≡ Some n
unfolding asn_of
asn_again n some small =
    let m : IsNumeral 10 (decimal n) × (digits_value 10 (decimal n) ≡ n) = decimal_is_IsNumeral n (omega (arith, small)) in
    let l : length (decimal n) ≤ 10 = length-decimal-le 10 n (omega arith) (omega (arith, small)) (omega (arith, small)) in
    let r : numeral 10 10 (decimal n) ≡ Some n = numeral_again 10 10 (decimal n) n m.0.0 l (list_digits 10 (decimal n) m.0.1) m.1 in
    let a : nat_lt 0 n ≡ true = lt-ltb 0 n (omega (arith, some)) in
    let b : nat_lt n (2 ^ 32) ≡ true = lt-ltb n (2 ^ 32) small in
    rw (r, a, b) refl

in_again : (family : Family) (bits : ℕ) → FitsFamily family bits → addr_of (addr_text (record { family = family; bits = bits })) ≡ Some (record { family = family; bits = bits })
in_again V4 bits small = in_v4_again bits small
in_again V6 bits small = in_v6_again bits small

pub addr_again : (a : AddrValue) → FitsFamily a.family a.bits → addr_of (addr_text a) ≡ Some a
addr_again a small = in_again a.family a.bits small

slashless : (family : Family) (bits : ℕ) → All (λ x. (x == 47) ≡ false) (addr_text (record { family = family; bits = bits }))
slashless V4 bits = rw (text_v4 bits) (slashless_v4 bits)
slashless V6 bits = rw (text_v6 bits) (slashless_v6 bits)

narrow : (family : Family) → width family < 1000
narrow V4 = lit< tt
narrow V6 = lit< tt

pub prefix_again : (p : PrefixValue) → IsPrefix p.family p.addr p.len → prefix_of (prefix_text p) ≡ Some p
unfolding prefix_of
prefix_again p h =
    let text : List ℕ = addr_text (record { family = p.family; bits = p.addr }) in
    let c = cut_again 47 text (decimal p.len) (slashless p.family p.addr) in
    let a = in_again p.family p.addr h.fits in
    let n = short_again p.len (omega (arith, h.short, narrow p.family)) in
    let same : bytes_eq (decimal p.len) (decimal p.len) ≡ true = bytes_eq_same (decimal p.len) in
    let b : nat_le p.len (width p.family) ≡ true = le-leb p.len (width p.family) h.short in
    let d : (p.addr % 2 ^ (width p.family - p.len) == 0) ≡ true = eq-eqb (p.addr % 2 ^ (width p.family - p.len)) 0 h.clear in
    rw (c, a, n, same, b, d) refl
