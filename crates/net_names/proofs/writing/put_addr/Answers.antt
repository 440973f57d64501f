use Rattle.std.proofs.Common.{◌≡◌, ◌++◌, OnOk, sym, subst, ◌∙◌, rules}
use Rattle.std.specs.Net.Addr.{ipv6_segments, IsIpv4OfBits, IsIpv6OfBits}
use Rattle.std.specs.Net.Text.{hex_groups_text}
use Rattle.net_names.proofs.AddressTexts.{v4_printed, v6_printed}
use Rattle.net_names.proofs.writing.put_addr.Goals as goal

pub returns-in-V4-clause-ok : goal.returns-in-V4-clause-ok
returns-in-V4-clause-ok c =
    let bits = subst (IsIpv4OfBits c.from_bits.result) c.bits.ensures.value c.from_bits.ensures in
    let text = v4_printed c.args.addr.family c.args.addr.bits c.from_bits.result (sym c.family.ensures ∙ c.in-V4.is) bits in
    subst (λ t. OnOk c.put.result (c.put.new.out.items ≡ c.args.out.now.items ++ t)) text c.put.ensures.ok

pub returns-in-V6-clause-ok : goal.returns-in-V6-clause-ok
returns-in-V6-clause-ok c =
    let bits = subst (IsIpv6OfBits c.from_bits-in-V6.result) c.bits-in-V6.ensures.value c.from_bits-in-V6.ensures in
    let text = v6_printed c.args.addr.family c.args.addr.bits c.from_bits-in-V6.result (sym c.family.ensures ∙ c.in-V6.is) bits in
    let ok : OnOk c.put-in-V6.result (c.put-in-V6.new.out.items ≡ c.args.out.now.items ++ hex_groups_text (ipv6_segments c.from_bits-in-V6.result)) = search rules in
    subst (λ t. OnOk c.put-in-V6.result (c.put-in-V6.new.out.items ≡ c.args.out.now.items ++ t)) text ok
