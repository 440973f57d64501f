use Rattle.std.proofs.Common.{◌≡◌, arith, map, rules, Ok}
use Rattle.std.proofs.lemmas.Grind.{common_steps}
use Rattle.std.proofs.lemmas.Result.{err_from_is_err_and}
use Rattle.std.specs.Ordering.{nat_cmp}
use Rattle.net_names.specs.Addresses.{addr_cmp}
use Rattle.net_names.specs.Prefixes.{announcement_cmp}
use Rattle.scenario_text.specs.declared.places.Member.TheVariants.{Announcements, Policies, Leaks, Watch}
use Rattle.scenario_text.specs.Faults.{Fails}
use Rattle.scenario_text.specs.Places.{in_member, item}
use Rattle.scenario_text.specs.Scenarios.{announcement_name}
use Rattle.scenario_text.specs.Twice.{once_in}
use Rattle.scenario_text.specs.Walks.{each_from}
use Rattle.scenario_text.proofs.Repeats.{once_is, passes_on, second_fails}
use Rattle.scenario_text.proofs.twice.test_once.Goals as goal

pub returns-in_err-announcements_once : goal.returns-in_err-announcements_once
returns-in_err-announcements_once c = rw (once_is c.args.lists.now) (grind (arith, common_steps))

pub returns-in_err-policies_once : goal.returns-in_err-policies_once
returns-in_err-policies_once c =
    let p = err_from_is_err_and c.from_residual-in_err-policies_once.result c.from_residual-in_err-policies_once.ensures.1 in
    let s = c.args.lists.now in
    let e = c.in_err-policies_once.field-0.0 in
    let first : once_in announcement_cmp (in_member Announcements) (map announcement_name s.announcements) ≡ Ok tt = grind (arith, common_steps) in
    let second : Fails e (once_in nat_cmp (in_member Policies) (map (λ p. p.0) s.policies)) = rw (← c.lists.view_is) (rw (c.member-2.ensures, c.deref-2.ensures.value) at c.in_err-policies_once.ensures) in
    rw (p.1, p.2, once_is s) (second_fails e _ _ (once_in addr_cmp (in_member Watch) s.watch) (each_from (λ i. once_in nat_cmp (item (in_member Leaks) i)) 0 s.leaks) s first second)

pub returns-in_err-leaks_once : goal.returns-in_err-leaks_once
returns-in_err-leaks_once c = rw (once_is c.args.lists.now) (grind (arith, common_steps))

pub returns : goal.returns
returns c = rw (once_is c.args.lists.now) (passes_on c.addresses_once.result _ c.args.lists.now (search rules))
