use Rattle.std.proofs.Common.{◌≡◌, length, refl, rules}
use Rattle.std.specs.Prelude.{decimal}
use Rattle.roa_table.proofs.PrintedPrefixes.{read_again, parts_join, no_more}
use Rattle.roa_table.proofs.printed.read_printed.Goals as goal

pub returns : goal.returns
returns c =
    let none : length c.in_ok-len.end.now ≡ 0 = search rules in
    let whole = parts_join (decimal c.in_ok-a.a) (decimal c.in_ok-b.b) (decimal c.in_ok-c.c) (decimal c.in_ok-d.d) (decimal c.in_ok-len.len) c.args.text.now c.in_ok-a.one.now c.in_ok-behind.field-0.now c.in_ok-b.two.now
    c.in_ok-behind-2.field-0.now c.in_ok-c.three.now c.in_ok-behind-3.field-0.now c.in_ok-d.four.now c.in_ok-behind-4.field-0.now c.in_ok-len.end.now c.in_ok-a.ensures.whole c.in_ok-behind.ensures c.in_ok-b.ensures.whole
    c.in_ok-behind-2.ensures c.in_ok-c.ensures.whole c.in_ok-behind-3.ensures c.in_ok-d.ensures.whole c.in_ok-behind-4.ensures c.in_ok-len.ensures.whole (no_more c.in_ok-len.end.now none) in
    read_again c.in_ok-a.a c.in_ok-b.b c.in_ok-c.c c.in_ok-d.d c.in_ok-len.len _ c.in_ok-a.ensures.limit c.in_ok-b.ensures.limit c.in_ok-c.ensures.limit c.in_ok-d.ensures.limit refl c.args.text.now c.in_ok-prefix.prefix c.in_ok-prefix.ensures whole
