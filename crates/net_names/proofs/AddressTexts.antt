-- Texts of addresses: what is read is what is in the grammar, and what is printed is read again.
use Rattle.std.proofs.Common.{◌≡◌, ℕ, zero, suc, ◌^◌, ◌<◌, Bool, true, false, List, [], ◌∷◌, length, get_or, Option, Some, None, refl, sym, ap, subst, ◌∙◌, append-nil, arith, lit≤, All}
use Rattle.std.specs.Prelude.{option_map, if◌then◌else◌, ◌==◌}
use Rattle.std.specs.Option.{option_or}
use Rattle.std.specs.Int.{w32, w128, to_be_bytes, from_be_bytes}
use Rattle.std.specs.declared.net.ipv4_addr.Ipv4Addr.{Ipv4Addr}
use Rattle.std.specs.declared.net.ipv6_addr.Ipv6Addr.{Ipv6Addr}
use Rattle.std.specs.Net.Addr.{segments_of, octets_of, ipv4_octets, ipv4_bits, ipv6_segments, ipv6_bits, IsIpv4OfBits, IsIpv6OfBits}
use Rattle.std.specs.Net.Text.{ipv4_text, hex_groups_text}
use Rattle.std.specs.Net.Grammar.{IsDotted, IsColonHex, IsIpv4Text, IsIpv6Text}
use Rattle.std.specs.Net.Reader.{Read, whole_value, read_ipv4, read_ipv6, dot}
use Rattle.std.proofs.lemmas.Bool.{ne_eqb}
use Rattle.std.proofs.lemmas.Option.{none-some}
use Rattle.std.proofs.lemmas.Bool.Decides.{nat_tests}
use Rattle.std.proofs.lemmas.Nat.{be_bytes_4, from_be_bytes-to_be_bytes_4}
use Rattle.std.proofs.lemmas.List.Elements.{All-weaker}
use Rattle.std.proofs.lemmas.List.Folds.{list_any_none}
use Rattle.std.proofs.NetLemmas.Alphabet.{IsDigitOrDot, IsHexOrColon, All-ipv4_text, All-hex_groups_text}
use Rattle.std.proofs.NetLemmas.Ipv4.{read_ipv4_sound, read_ipv4_complete}
use Rattle.std.proofs.NetLemmas.Ipv6.{read_ipv6_sound, read_ipv6_complete, EndsGroups-nil, IsDotted-not_colon_hex}
use Rattle.std.proofs.NetLemmas.Options.{map_some}
use Rattle.std.proofs.NetLemmas.Texts.{AllSegments, IsDotted-ipv4_text, IsColonHex-hex_groups_text}
use Rattle.net_names.specs.declared.addresses.Family.{Family}
use Rattle.net_names.specs.declared.addresses.Family.TheVariants.{V4, V6}
use Rattle.net_names.specs.Numbers.{occurs}
use Rattle.net_names.specs.Addresses.{AddrValue}
use Rattle.net_names.specs.Texts.{addr_of, addr_text}
use Rattle.net_names.proofs.Octets.{bytes_small, groups_small, octets_of-segments_of, from_be_bytes-to_be_bytes_16}

-- ---- what a text says at one family, and what a number is printed as

abbrev pub v4_of : List ℕ → Option ℕ
v4_of text = option_map (from_be_bytes w32) (whole_value (read_ipv4 text))

abbrev pub v6_of : List ℕ → Option ℕ
v6_of text = if occurs dot text then None else option_map (λ groups. from_be_bytes w128 (octets_of groups)) (whole_value (read_ipv6 text))

unfoldable pub v4_text : ℕ → List ℕ
v4_text bits = ipv4_text (to_be_bytes w32 bits)

unfoldable pub v6_text : ℕ → List ℕ
v6_text bits = hex_groups_text (segments_of (to_be_bytes w128 bits))

abbrev pub in_v4 : ℕ → AddrValue
in_v4 bits = record { family = V4; bits = bits }

abbrev pub in_v6 : ℕ → AddrValue
in_v6 bits = record { family = V6; bits = bits }

-- the address that a text says, by its number at either family
pub addr_of_is : (text : List ℕ) → addr_of text ≡ option_or (option_map in_v4 (v4_of text)) (option_map in_v6 (v6_of text))
unfolding addr_of
addr_of_is text = by (whole_value (read_ipv4 text)) (occurs dot text) (whole_value (read_ipv6 text))
  where
    by : (o : Option (List ℕ)) (b : Bool) (q : Option (List ℕ)) →
        option_or (option_map (λ octets. in_v4 (from_be_bytes w32 octets)) o) (if b then None else option_map (λ groups. in_v6 (from_be_bytes w128 (octets_of groups))) q)
        ≡ option_or (option_map in_v4 (option_map (from_be_bytes w32) o)) (option_map in_v6 (if b then None else option_map (λ groups. from_be_bytes w128 (octets_of groups)) q))
    by (Some octets) b q = refl
    by None true q = refl
    by None false None = refl
    by None false (Some groups) = refl

pub text_v4 : (bits : ℕ) → addr_text (in_v4 bits) ≡ v4_text bits
unfolding addr_text v4_text
text_v4 bits = refl

pub text_v6 : (bits : ℕ) → addr_text (in_v6 bits) ≡ v6_text bits
unfolding addr_text v6_text
text_v6 bits = refl

-- ---- whole texts

whole_some : {A : Type 0} (r : Read A) (x : A) → whole_value r ≡ Some x → r ≡ Some (x, [])
whole_some None x e = absurd (none-some x e)
whole_some (Some (y, [])) x e = cc
whole_some (Some (y, b ∷ bs)) x e = absurd (none-some x (rw (ne_eqb (length (b ∷ bs)) 0 (omega arith)) at e))

dotted_read : (text octets : List ℕ) → IsDotted text octets → whole_value (read_ipv4 text) ≡ Some octets
dotted_read text octets h = rw (rw append-nil at (read_ipv4_complete text octets [] h (lit≤ tt))) refl

read_dotted : (text octets : List ℕ) → whole_value (read_ipv4 text) ≡ Some octets → IsDotted text octets
read_dotted text octets e =
    let (front, split, dotted) = read_ipv4_sound text octets [] (whole_some _ octets e) in
    subst (λ t. IsDotted t octets) (sym (split ∙ append-nil front)) dotted

colon_hex_read : (text groups : List ℕ) → IsColonHex text groups → whole_value (read_ipv6 text) ≡ Some groups
colon_hex_read text groups h = rw (rw append-nil at (read_ipv6_complete text groups [] h EndsGroups-nil)) refl

read_colon_hex : (text groups : List ℕ) → whole_value (read_ipv6 text) ≡ Some groups → IsColonHex text groups
read_colon_hex text groups e =
    let (front, split, hexes) = read_ipv6_sound text groups [] (whole_some _ groups e) in
    subst (λ t. IsColonHex t groups) (sym (split ∙ append-nil front)) hexes

-- ---- IPv4

below_256 : (a b c d : ℕ) → (a < 256) × (b < 256) × (c < 256) × (d < 256) → (k : ℕ) → get_or (a ∷ b ∷ c ∷ d ∷ []) k 0 < 256
below_256 a b c d fit zero = fit.0
below_256 a b c d fit (suc zero) = fit.1
below_256 a b c d fit (suc (suc zero)) = fit.2
below_256 a b c d fit (suc (suc (suc zero))) = fit.3
below_256 a b c d fit (suc (suc (suc (suc k)))) = omega arith

from_dotted : (text octets : List ℕ) (bits : ℕ) → IsDotted text octets → from_be_bytes w32 octets ≡ bits → (text ≡ ipv4_text (to_be_bytes w32 bits)) × (bits < 2 ^ 32)
from_dotted text octets bits h value =
    let four : List ℕ = h.a ∷ h.b ∷ h.c ∷ h.d ∷ [] in
    let total : bits ≡ from_be_bytes w32 four = sym value ∙ ap (from_be_bytes w32) h.value in
    let back : to_be_bytes w32 bits ≡ four = be_bytes_4 four bits refl (below_256 h.a h.b h.c h.d h.fit) total in
    (h.spelled ∙ sym (ap ipv4_text back), omega (arith, total, h.fit.0, h.fit.1, h.fit.2, h.fit.3))

pub v4_found : (text : List ℕ) (bits : ℕ) → v4_of text ≡ Some bits → (text ≡ v4_text bits) × (bits < 2 ^ 32)
unfolding v4_text
v4_found text bits e =
    map_some (from_be_bytes w32) (whole_value (read_ipv4 text)) bits e
    (λ octets read value. from_dotted text octets bits (read_dotted text octets read) value)

pub v4_again : (bits : ℕ) → bits < 2 ^ 32 → v4_of (v4_text bits) ≡ Some bits
unfolding v4_text
v4_again bits small =
    let octets = to_be_bytes w32 bits in
    let read = dotted_read (ipv4_text octets) octets (IsDotted-ipv4_text octets refl (bytes_small 4 bits)) in
    rw read (ap (λ (n : ℕ). Some n) (from_be_bytes-to_be_bytes_4 bits small))

dotted_not_slash : (x : ℕ) → IsDigitOrDot x → (x == 47) ≡ false
dotted_not_slash x h = grind (arith, nat_tests)

pub slashless_v4 : (bits : ℕ) → All (λ x. (x == 47) ≡ false) (v4_text bits)
unfolding v4_text
slashless_v4 bits = All-weaker IsDigitOrDot (λ x. (x == 47) ≡ false) dotted_not_slash _ (All-ipv4_text (to_be_bytes w32 bits) (bytes_small 4 bits))

pub v4_is : (text : List ℕ) (a : Ipv4Addr) → IsIpv4Text text a → v4_of text ≡ Some (ipv4_bits a)
unfolding ipv4_bits
v4_is text a h = rw (dotted_read text (ipv4_octets a) h) refl

pub v4_is_none : (text : List ℕ) → ((a : Ipv4Addr) → ¬ (IsIpv4Text text a)) → v4_of text ≡ None
v4_is_none text none = by (whole_value (read_ipv4 text)) refl
  where
    by : (o : Option (List ℕ)) → whole_value (read_ipv4 text) ≡ o → option_map (from_be_bytes w32) o ≡ None
    by None e = refl
    by (Some octets) e = absurd (none (record { octets = octets }) (read_dotted text octets e))

pub v4_printed : (family : Family) (bits : ℕ) (a : Ipv4Addr) → family ≡ V4 → IsIpv4OfBits a bits → ipv4_text (ipv4_octets a) ≡ addr_text (record { family = family; bits = bits })
unfolding addr_text IsIpv4OfBits
v4_printed V4 bits a e h = ap ipv4_text h
v4_printed V6 bits a e h = absurd cc

-- ---- IPv6

all_segments : (bits : ℕ) → AllSegments (segments_of (to_be_bytes w128 bits))
all_segments bits = groups_small (to_be_bytes w128 bits) (bytes_small 16 bits)

hex_written : (bits : ℕ) → IsColonHex (hex_groups_text (segments_of (to_be_bytes w128 bits))) (segments_of (to_be_bytes w128 bits))
hex_written bits = IsColonHex-hex_groups_text (segments_of (to_be_bytes w128 bits)) refl (all_segments bits)

hex_not_dot : (x : ℕ) → IsHexOrColon x → (x == 46) ≡ false
hex_not_dot x h = grind (arith, nat_tests)

hex_not_slash : (x : ℕ) → IsHexOrColon x → (x == 47) ≡ false
hex_not_slash x h = grind (arith, nat_tests)

dotless_v6 : (bits : ℕ) → occurs 46 (v6_text bits) ≡ false
unfolding v6_text
dotless_v6 bits =
    let text = hex_groups_text (segments_of (to_be_bytes w128 bits)) in
    list_any_none (λ x. x == 46) text (All-weaker IsHexOrColon (λ x. (x == 46) ≡ false) hex_not_dot text (All-hex_groups_text _ (all_segments bits)))

pub slashless_v6 : (bits : ℕ) → All (λ x. (x == 47) ≡ false) (v6_text bits)
unfolding v6_text
slashless_v6 bits = All-weaker IsHexOrColon (λ x. (x == 47) ≡ false) hex_not_slash _ (All-hex_groups_text _ (all_segments bits))

-- what is printed of an IPv6 address is no IPv4 address
pub v6_not_v4 : (bits : ℕ) → v4_of (v6_text bits) ≡ None
unfolding v6_text
v6_not_v4 bits = by (whole_value (read_ipv4 (v6_text bits))) refl
  where
    by : (o : Option (List ℕ)) → whole_value (read_ipv4 (v6_text bits)) ≡ o → option_map (from_be_bytes w32) o ≡ None
    by None e = refl
    by (Some octets) e = absurd (IsDotted-not_colon_hex (v6_text bits) octets _ (read_dotted (v6_text bits) octets e) (hex_written bits))

groups_again : (bits : ℕ) → bits < 2 ^ 128 → option_map (λ groups. from_be_bytes w128 (octets_of groups)) (whole_value (read_ipv6 (v6_text bits))) ≡ Some bits
unfolding v6_text
groups_again bits small =
    let back = octets_of-segments_of 8 (to_be_bytes w128 bits) refl (bytes_small 16 bits) in
    rw (colon_hex_read (v6_text bits) _ (hex_written bits)) (ap (λ (n : ℕ). Some n) (ap (from_be_bytes w128) back ∙ from_be_bytes-to_be_bytes_16 bits small))

pub v6_again : (bits : ℕ) → bits < 2 ^ 128 → v6_of (v6_text bits) ≡ Some bits
v6_again bits small = rw (dotless_v6 bits) (groups_again bits small)

pub v6_dotted : (text : List ℕ) → occurs 46 text ≡ true → v6_of text ≡ None
v6_dotted text dot = rw dot refl

pub v6_is : (text : List ℕ) (a : Ipv6Addr) → occurs 46 text ≡ false → IsIpv6Text text a → v6_of text ≡ Some (ipv6_bits a)
unfolding ipv6_bits
v6_is text a dotless h = rw (dotless, colon_hex_read text (ipv6_segments a) h) refl

pub v6_is_none : (text : List ℕ) → occurs 46 text ≡ false → ((a : Ipv6Addr) → ¬ (IsIpv6Text text a)) → v6_of text ≡ None
v6_is_none text dotless none = rw dotless (by (whole_value (read_ipv6 text)) refl)
  where
    by : (o : Option (List ℕ)) → whole_value (read_ipv6 text) ≡ o → option_map (λ groups. from_be_bytes w128 (octets_of groups)) o ≡ None
    by None e = refl
    by (Some groups) e = absurd (none (record { segments = groups }) (read_colon_hex text groups e))

pub v6_printed : (family : Family) (bits : ℕ) (a : Ipv6Addr) → family ≡ V6 → IsIpv6OfBits a bits → hex_groups_text (ipv6_segments a) ≡ addr_text (record { family = family; bits = bits })
unfolding addr_text IsIpv6OfBits
v6_printed V4 bits a e h = absurd cc
v6_printed V6 bits a e h = ap hex_groups_text h

-- ---- both families

pub in_v4_found : (text : List ℕ) (bits : ℕ) → addr_of text ≡ Some (in_v4 bits) → (text ≡ addr_text (in_v4 bits)) × (bits < 2 ^ 32)
in_v4_found text bits e =
    let n : v4_of text ≡ Some bits = by (v4_of text) (v6_of text) (sym (addr_of_is text) ∙ e) in
    let f = v4_found text bits n in
    (f.0 ∙ sym (text_v4 bits), f.1)
  where
    by : (o q : Option ℕ) → option_or (option_map in_v4 o) (option_map in_v6 q) ≡ Some (in_v4 bits) → o ≡ Some bits
    by (Some n) q k = let r : in_v4 n ≡ in_v4 bits = cc in ap (λ (a : AddrValue). Some a.bits) r
    by None None k = absurd (none-some _ k)
    by None (Some n) k = let r : in_v6 n ≡ in_v4 bits = cc in let f : V6 ≡ V4 = ap (λ (a : AddrValue). a.family) r in absurd (cc)

pub in_v4_again : (bits : ℕ) → bits < 2 ^ 32 → addr_of (addr_text (in_v4 bits)) ≡ Some (in_v4 bits)
in_v4_again bits small = rw (text_v4 bits, addr_of_is (v4_text bits), v4_again bits small) refl

pub in_v6_again : (bits : ℕ) → bits < 2 ^ 128 → addr_of (addr_text (in_v6 bits)) ≡ Some (in_v6 bits)
in_v6_again bits small = rw (text_v6 bits, addr_of_is (v6_text bits), v6_not_v4 bits, v6_again bits small) refl
