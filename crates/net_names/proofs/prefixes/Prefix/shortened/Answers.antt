use Rattle.std.proofs.Common.{◌≡◌, sym, subst, rules}
use Rattle.net_names.specs.Coverage.{shortened}
use Rattle.net_names.specs.Prefixes.{PrefixValue, IsPrefix}
use Rattle.net_names.proofs.Shortening.{shortened_whole}
use Rattle.net_names.proofs.prefixes.Prefix.shortened.Goals as goal

pub invariant_of-result : goal.invariant_of-result
invariant_of-result c =
    let here : PrefixValue = record { family = c.self.inside.family; addr = c.self.inside.addr; len = c.self.inside.len } in
    let e : c.without_last-addr.result ≡ (shortened here c.args.len).addr = search rules in
    subst (λ a. IsPrefix c.self.inside.family a c.args.len) (sym e) (shortened_whole here c.args.len c.self.invariant (search rules))
