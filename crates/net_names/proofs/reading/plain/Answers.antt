use Rattle.std.proofs.Common.{◌≡◌, ◌&&◌, ◌==◌, nat_lt, length, get_or, None, Some, if◌then◌else◌, sym, ◌∙◌, rules}
use Rattle.std.specs.Prelude.{◌||◌}
use Rattle.net_names.specs.Steps.{◌>>=◌}
use Rattle.net_names.specs.Texts.{numeral}
use Rattle.net_names.proofs.TextLaws.{plain_by_tests}
use Rattle.net_names.proofs.reading.plain.Goals as goal

pub returns-then-n-limit : goal.returns-then-n-limit
returns-then-n-limit c =
    let k : None ≡ (numeral 10 3 c.args.text.now >>= λ n. if (nat_lt 1 (length c.args.text.now) && (get_or c.args.text.now 0 0 == 48)) || nat_lt c.args.limit n then None else Some n) = search rules in
    k ∙ sym (plain_by_tests c.args.text.now c.args.limit)

pub returns-else-n-limit : goal.returns-else-n-limit
returns-else-n-limit c =
    let k : Some c.in_ok-n.n ≡ (numeral 10 3 c.args.text.now >>= λ n. if (nat_lt 1 (length c.args.text.now) && (get_or c.args.text.now 0 0 == 48)) || nat_lt c.args.limit n then None else Some n) = search rules in
    k ∙ sym (plain_by_tests c.args.text.now c.args.limit)
