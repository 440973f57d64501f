use Rattle.std.proofs.Common.{◌≡◌, ◌∙◌, nat_eq, ◌-◌, ◌/◌, ◌*◌, ◌^◌, rules}
use Rattle.net_names.specs.Addresses.{width}
use Rattle.net_names.proofs.Shortening.{cut_has_bits}
use Rattle.net_names.proofs.coverage.starts_as.Goals as goal

pub returns : goal.returns
returns c =
    let cut : c.without_last.result ≡ c.args.bits / 2 ^ (width c.args.prefix.family - c.args.prefix.len) * 2 ^ (width c.args.prefix.family - c.args.prefix.len) = search rules in
    (λ i. nat_eq (c.addr-own.ensures.value i) (cut i)) ∙ cut_has_bits c.args.prefix c.args.bits c.addr-own.ensures.prefix
