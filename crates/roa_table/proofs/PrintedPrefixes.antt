-- A text that is an IPv4 prefix as it is printed.
use Rattle.std.proofs.Common.{◌≡◌, ℕ, zero, suc, ◌+◌, ◌-◌, ◌*◌, ◌^◌, ◌%◌, ◌<◌, ◌≤◌, Bool, true, false, cond, ◌&&◌, List, [], ◌∷◌, ◌++◌, length, get_or, append_assoc, append-nil, Some, None, refl, sym, ap, ◌∙◌, arith}
use Rattle.std.specs.Prelude.{decimal, nat_lt, nat_le, not, ◌==◌}
use Rattle.std.specs.Int.{w32, to_be_bytes, from_be_bytes}
use Rattle.std.specs.Net.Text.{dotted_text, ipv4_text}
use Rattle.std.specs.Char.{is_digit}
use Rattle.std.specs.List.{list_all}
use Rattle.std.specs.Str.Parse.{digits_value}
use Rattle.std.proofs.lemmas.Bool.{ltb-true, leb-true, eqb-true, and_parts}
use Rattle.std.proofs.lemmas.Nat.{be_bytes_4}
use Rattle.net_names.specs.declared.addresses.Family.TheVariants.{V4}
use Rattle.net_names.specs.Addresses.{width}
use Rattle.net_names.specs.Prefixes.{PrefixValue, IsPrefix, prefix_at}
use Rattle.net_names.specs.Texts.{addr_text, prefix_of, prefix_text}
use Rattle.net_names.proofs.AddressTexts.{text_v4, v4_text}
use Rattle.net_names.proofs.TextLaws.{numeral_again, plain_is, same_bytes}
use Rattle.net_names.proofs.Again.{prefix_again}
use Rattle.roa_table.proofs.CsvRecords.{some_is}

-- digits without a needless zero in front are what is printed of their number
pub printed_number : (digits : List ℕ) (n : ℕ) → 0 < length digits → length digits ≤ 3 → list_all (λ c. is_digit c 10) digits ≡ true → digits_value 10 digits ≡ n → (nat_lt 1 (length digits) && (get_or digits 0 0 == 48)) ≡ false → digits ≡ decimal n
printed_number digits n some few all value free = same_bytes digits (decimal n) (plain_is digits n (numeral_again 10 3 digits n some few all value) ∙ ap not free)

-- what a prefix is, where there is one
pub prefix_at_is : (addr len : ℕ) (p : PrefixValue) → Some p ≡ prefix_at V4 addr len → (p ≡ record { family = V4; addr = addr; len = len }) × IsPrefix V4 addr len
prefix_at_is addr len p e =
    let k = by (nat_lt addr (2 ^ width V4) && (nat_le len (width V4) && (addr % 2 ^ (width V4 - len) == 0))) e in
    let one = and_parts (nat_lt addr (2 ^ width V4)) (nat_le len (width V4) && (addr % 2 ^ (width V4 - len) == 0)) k.0 in
    let two = and_parts (nat_le len (width V4)) (addr % 2 ^ (width V4 - len) == 0) one.1 in
    (k.1, record { fits = ltb-true addr (2 ^ width V4) one.0; short = leb-true len (width V4) two.0; clear = eqb-true (addr % 2 ^ (width V4 - len)) 0 two.1 })
  where
    by : (b : Bool) → Some p ≡ cond b (Some (record { family = V4; addr = addr; len = len })) None → (b ≡ true) × (p ≡ record { family = V4; addr = addr; len = len })
    by true e = (refl, some_is p (record { family = V4; addr = addr; len = len }) e)
    by false e = cc e

dotted_text-append : (a b c d : ℕ) (rest : List ℕ) → dotted_text a b c d ++ rest ≡ decimal a ++ (46 ∷ (decimal b ++ (46 ∷ (decimal c ++ (46 ∷ (decimal d ++ rest))))))
dotted_text-append a b c d rest = simp append_assoc

module _ (a b c d len addr : ℕ) (a_fits : a ≤ 255) (b_fits : b ≤ 255) (c_fits : c ≤ 255) (d_fits : d ≤ 255) (addr_is : addr ≡ ((a * 256 + b) * 256 + c) * 256 + d) where
  abbrev four : List ℕ
  four = a ∷ b ∷ c ∷ d ∷ []

  below_256 : (k : ℕ) → get_or four k 0 < 256
  below_256 zero = omega (arith, a_fits)
  below_256 (suc zero) = omega (arith, b_fits)
  below_256 (suc (suc zero)) = omega (arith, c_fits)
  below_256 (suc (suc (suc zero))) = omega (arith, d_fits)
  below_256 (suc (suc (suc (suc k)))) = omega arith

  octets : to_be_bytes w32 addr ≡ four
  octets = let total : addr ≡ from_be_bytes w32 four = omega (arith, addr_is) in be_bytes_4 four addr refl below_256 total

  address : v4_text addr ≡ ipv4_text four
  unfolding v4_text
  address = ap ipv4_text octets

  abbrev tail : List ℕ
  tail = 47 ∷ decimal len

  printed : prefix_text (record { family = V4; addr = addr; len = len }) ≡ decimal a ++ (46 ∷ (decimal b ++ (46 ∷ (decimal c ++ (46 ∷ (decimal d ++ tail))))))
  printed =
      let head : addr_text (record { family = V4; bits = addr }) ≡ ipv4_text four = text_v4 addr ∙ address in
      ap (λ t. t ++ tail) head ∙ dotted_text-append a b c d tail

  pub read_again : (text : List ℕ) (p : PrefixValue) → Some p ≡ prefix_at V4 addr len → text ≡ decimal a ++ (46 ∷ (decimal b ++ (46 ∷ (decimal c ++ (46 ∷ (decimal d ++ (47 ∷ decimal len))))))) → prefix_of text ≡ Some p
  read_again text p e is =
      let k = prefix_at_is addr len p e in
      ap prefix_of (is ∙ sym printed) ∙ prefix_again (record { family = V4; addr = addr; len = len }) k.1 ∙ ap (λ (q : PrefixValue). Some q) (sym k.0)

-- nothing stands behind
pub no_more : (xs : List ℕ) → length xs ≡ 0 → xs ≡ []
no_more [] h = refl
no_more (x ∷ xs) h = absurd (omega (arith, h))

pub parts_join : (a b c d len : List ℕ) (text one one_left two two_left three three_left fourth fourth_left end : List ℕ) → text ≡ a ++ one → one ≡ 46 ∷ one_left → one_left ≡ b ++ two → two ≡ 46 ∷ two_left → two_left ≡ c ++ three → three ≡ 46 ∷ three_left
    → three_left ≡ d ++ fourth → fourth ≡ 47 ∷ fourth_left → fourth_left ≡ len ++ end → end ≡ [] → text ≡ a ++ (46 ∷ (b ++ (46 ∷ (c ++ (46 ∷ (d ++ (47 ∷ len)))))))
parts_join a b c d len text one one_left two two_left three three_left fourth fourth_left end t1 t2 t3 t4 t5 t6 t7 t8 t9 e =
    t1 ∙ ap (λ l. a ++ l) (t2 ∙ ap (λ l. 46 ∷ l) (t3 ∙ ap (λ l. b ++ l) (t4 ∙ ap (λ l. 46 ∷ l) (t5 ∙ ap (λ l. c ++ l) (t6 ∙ ap (λ l. 46 ∷ l) (t7 ∙ ap (λ l. d ++ l) (t8 ∙ ap (λ l. 47 ∷ l) (t9 ∙ ap (λ l. len ++ l) e ∙ append-nil len))))))))
