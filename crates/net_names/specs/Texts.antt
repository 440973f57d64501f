-- The texts of classes, AS numbers, addresses and prefixes: what each text says, and how each value is printed.
use Rattle.std.specs.Prelude.{ℕ, ◌+◌, ◌-◌, ◌%◌, ◌^◌, ◌&&◌, ◌==◌, ◌==◌ as nat_eq, nat_lt, nat_le, List, [], ◌∷◌, ◌++◌, length, slice_get, decimal, Option, Some, None, option_map, if◌then◌else◌, find, map, position, unwrap_or, take, drop, true, Bool, bytes_eq, codes}
use Rattle.std.specs.List.{join_with_byte, starts_with, list_all, slice_split}
use Rattle.std.specs.Bool.{then_some}
use Rattle.std.specs.Option.{option_or, option_map_or}
use Rattle.std.specs.Char.{is_digit}
use Rattle.std.specs.Str.Parse.{digits_value}
use Rattle.std.specs.Int.{w32, w128, to_be_bytes, from_be_bytes}
use Rattle.std.specs.Net.Addr.{segments_of, octets_of}
use Rattle.std.specs.Net.Text.{ipv4_text, hex_groups_text}
use Rattle.std.specs.Net.Reader.{whole_value, read_ipv4, read_ipv6, dot}
use Rattle.net_names.specs.declared.addresses.Family.TheVariants.{V4, V6}
use Rattle.net_names.specs.declared.routes.Class.{Class}
use Rattle.net_names.specs.declared.routes.Class.TheVariants.{Origin, Customer, Peer, Provider}
use Rattle.net_names.specs.declared.routes.Rel.{Rel}
use Rattle.net_names.specs.declared.routes.Rel.TheVariants as rel
use Rattle.net_names.specs.Numbers.{occurs}
use Rattle.net_names.specs.Addresses.{width, AddrValue}
use Rattle.net_names.specs.Prefixes.{PrefixValue}
use Rattle.net_names.specs.Steps.{◌>>=◌, option_filter}

-- the text before the first such byte, and the text after it, where the byte stands in the text
abbrev pub cut_at : ℕ → List ℕ → Option (List ℕ × List ℕ)
cut_at byte t = option_map (λ i. (take i t, drop (i + 1) t)) (position (λ b. b == byte) t)

-- the parts of the text between such bytes
abbrev pub fields : ℕ → List ℕ → List (List ℕ)
fields byte = slice_split (λ b. b == byte)

-- a line of a file is skipped where it is empty, and where it begins with `#`
abbrev pub is_skipped : List ℕ → Bool
is_skipped line = option_map_or (λ byte. byte == 35) (slice_get line 0) true

-- what the second AS of a link is to the first: a customer for `-1`, a peer for `0` (CAIDA AS Relationships, serial-1)
unfoldable pub rel_of : List ℕ → Option Rel
rel_of text = if bytes_eq text (codes "-1") then Some rel.Customer else (if bytes_eq text (codes "0") then Some rel.Peer else None)

-- the word for a class (own format)
abbrev pub class_word : Class → List ℕ
class_word c = elim c [ Origin ↦ codes "origin" | Customer ↦ codes "customer" | Peer ↦ codes "peer" | Provider ↦ codes "provider" ]

-- the class whose word the text is (own format)
unfoldable pub class_named : List ℕ → Option Class
class_named t = find (λ c. bytes_eq t (class_word c)) (Origin ∷ Customer ∷ Peer ∷ Provider ∷ [])

-- the numbers with one space between (own format)
abbrev pub numbers_text : List ℕ → List ℕ
numbers_text ns = join_with_byte 32 (map decimal ns)

-- the number that the text writes in the radix, where it is one digit or more, up to `most`
unfoldable pub numeral : ℕ → ℕ → List ℕ → Option ℕ
numeral radix most t = then_some (nat_lt 0 (length t) && (nat_le (length t) most && list_all (λ c. is_digit c radix) t)) (digits_value radix t)

-- the AS number that 1 to 10 decimal digits write, where it is from 1 to 4294967295 (RFC 5396, asplain; RFC 7607 rules out 0)
unfoldable pub asn_of : List ℕ → Option ℕ
asn_of text = option_filter (λ n. nat_lt 0 n && nat_lt n (2 ^ 32)) (numeral 10 10 text)

-- the one text that an address is printed as: IPv4 by its four bytes in decimal digits with dots between them (RFC 3986, section 3.2.2),
-- IPv6 by groups in hexadecimal digits, of which the first longest run of 0 is shortened (RFC 5952, section 4)
unfoldable pub addr_text : AddrValue → List ℕ
addr_text a = elim a.family [ V4 ↦ ipv4_text (to_be_bytes w32 a.bits) | V6 ↦ hex_groups_text (segments_of (to_be_bytes w128 a.bits)) ]

-- the one text of a prefix: its address, a slash and its length in decimal digits (RFC 4632, section 3.1; RFC 4291, section 2.3)
abbrev pub prefix_text : PrefixValue → List ℕ
prefix_text p = addr_text (record { family = p.family; bits = p.addr }) ++ (47 ∷ decimal p.len)

-- the address that the text writes: IPv4 by four numbers up to 255 with dots between them (RFC 3986, section 3.2.2, IPv4address),
-- IPv6 in the forms 1 and 2 of RFC 4291, section 2.2; its form with a dotted end is not read
unfoldable pub addr_of : List ℕ → Option AddrValue
addr_of t = option_or (option_map (λ o. record { family = V4; bits = from_be_bytes w32 o }) (whole_value (read_ipv4 t)))
    (if occurs dot t then None else option_map (λ g. record { family = V6; bits = from_be_bytes w128 (octets_of g) }) (whole_value (read_ipv6 t)))

-- the prefix that an address, a slash and a length of at most the width write, where the length has no needless zero in front,
-- and no bit past the length is set (RFC 4632, section 3.1; RFC 4291, section 2.3)
unfoldable pub prefix_of : List ℕ → Option PrefixValue
prefix_of text = cut_at 47 text >>= λ p. addr_of p.0 >>= λ a. numeral 10 3 p.1 >>= λ n.
    then_some (bytes_eq p.1 (decimal n) && (nat_le n (width a.family) && (a.bits % 2 ^ (width a.family - n) == 0))) (record { family = a.family; addr = a.bits; len = n })

-- what stands after these bytes, where the text begins with them
abbrev pub after : List ℕ → List ℕ → Option (List ℕ)
after front text = then_some (starts_with nat_eq text front) (drop (length front) text)

-- the number of a payload, at most 4294967295, that 1 to 10 decimal digits write, before which the letters `AS` may stand
unfoldable pub vrp_asn_of : List ℕ → Option ℕ
vrp_asn_of text = option_filter (λ n. nat_lt n (2 ^ 32)) (numeral 10 10 (unwrap_or (after (codes "AS") text) text))
