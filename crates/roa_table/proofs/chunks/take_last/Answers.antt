use Rattle.std.proofs.Common.{◌≡◌, ◌<◌, ◌∷◌, ◌∙◌, ◌+◌, ◌-◌, ap, subst, arith, length, take, drop, get_or, true}
use Rattle.std.proofs.lemmas.List.{get_or_read, take_rest, drop_more}
use Rattle.net_names.specs.Payloads.{VrpValue}
use Rattle.roa_table.specs.Lists.{are_apart}
use Rattle.roa_table.proofs.chunks.take_last.Goals as goal

pub returns : goal.returns
returns c =
    let xs = c.args.vrps.now.items in
    let at = c.part_before-at.result in
    let slice = c.as_slice-2.result.now in
    let last = take (length slice - at) (drop at slice) in
    let within : at < length xs = subst (λ l. at < length l) c.as_slice.ensures.value c.part_before-at.ensures.within in
    let back : last ≡ drop at xs = take_rest slice at ∙ ap (drop at) c.as_slice-2.ensures.value in
    let begins = λ (d : VrpValue). back ∙ drop_more xs at d within in
    let some = λ (d : VrpValue). let l : length last ≡ length (get_or xs at d ∷ drop (at + 1) xs) = ap length (begins d) in let s : 0 < length last = omega (arith, l) in s in
    record {
      at = at;
      within = within;
      apart = subst (λ l. are_apart (take at l) (drop at l) ≡ true) c.as_slice.ensures.value c.part_before-at.ensures.apart;
      front = c.give_back.ensures ∙ c.truncate.ensures.items;
      back = c.in_ok-from_slice.ensures.items ∙ back;
      low = λ d. c.prefix.ensures ∙ ap (λ (v : VrpValue). v.prefix) (get_or_read last 0 c.index-last-0.result (some d) c.index-last-0.is d ∙ ap (λ l. get_or l 0 d) (begins d));
    }
