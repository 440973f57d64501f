use Rattle.std.proofs.Common.{◌≡◌, ◌∷◌, ◌++◌, OnOk, decimal, ap, sym, subst, ◌∙◌}
use Rattle.std.specs.Net.Addr.{ipv6_segments, IsIpv4OfBits, IsIpv6OfBits}
use Rattle.std.specs.Net.Text.{hex_groups_text}
use Rattle.net_names.proofs.AddressTexts.{v4_printed, v6_printed}
use Rattle.net_names.proofs.writing.put_prefix.Goals as goal

pub returns-in-V4-clause-ok : goal.returns-in-V4-clause-ok
returns-in-V4-clause-ok c =
    let bits = subst (IsIpv4OfBits c.from_bits-addr.result) c.addr.ensures.value c.from_bits-addr.ensures in
    let text = v4_printed c.args.prefix.family c.args.prefix.addr c.from_bits-addr.result (sym c.family.ensures ∙ c.in-V4.is) bits in
    subst (λ t. OnOk c.put.result (c.put.new.out.items ≡ c.args.out.now.items ++ t)) (λ i. text i ++ (47 ∷ decimal (c.len-len.ensures i))) c.put.ensures.ok

pub returns-in-V6-clause-ok : goal.returns-in-V6-clause-ok
returns-in-V6-clause-ok c =
    let bits = subst (IsIpv6OfBits c.from_bits.result) c.addr-in-V6.ensures.value c.from_bits.ensures in
    let text = v6_printed c.args.prefix.family c.args.prefix.addr c.from_bits.result (sym c.family.ensures ∙ c.in-V6.is) bits in
    let shown = ap (λ a. hex_groups_text (ipv6_segments a)) c.hex_groups-addr.ensures in
    subst (λ t. OnOk c.put-in-V6.result (c.put-in-V6.new.out.items ≡ c.args.out.now.items ++ t)) (λ i. (shown ∙ text) i ++ (47 ∷ decimal (c.len-len.ensures i))) c.put-in-V6.ensures.ok
