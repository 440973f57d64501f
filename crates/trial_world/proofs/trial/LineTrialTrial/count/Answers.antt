use Rattle.std.proofs.Common.{ℕ, sym, subst}
use Rattle.std.proofs.lemmas.Bool.{and_parts, eqb-true}
use Rattle.net_names.specs.Addresses.{AddrValue}
use Rattle.net_names.specs.Orders.{addr_total, exact_addr}
use Rattle.stability_laws.specs.Book.{policy_at}
use Rattle.stability_laws.proofs.KeyLists.{eq_is}
use Rattle.trial_world.specs.Fixed.{world_of}
use Rattle.trial_world.specs.Sweeps.{AreNumbers, with_kinds}
use Rattle.trial_world.specs.Trials.{AreCounted, count_in, less_gone}
use Rattle.trial_world.proofs.TrialNumbers.{numbers_for}
use Rattle.trial_world.proofs.Keeping.{kept_ends}
use Rattle.trial_world.proofs.trial.LineTrialTrial.count.Goals as goal

pub count-count-requires : goal.count-count-requires
count-count-requires c = (c.args.self.now.book, c.requires.right.kept)

pub returns-clause-numbers : goal.returns-clause-numbers
returns-clause-numbers c =
    let t = c.args.self.now in
    let f = t.fixed in
    let right = c.requires.right in
    let same = and_parts _ _ c.requires.watched in
    let round = eqb-true f.round c.args._round same.0 in
    let addr = eq_is addr_total exact_addr f.addr c.args._addr same.1 in
    let numbers : AreCounted f t.book (less_gone (count_in t.kept) t.gone) =
    subst (λ (n : ℕ). AreCounted f t.book (less_gone (count_in t.kept) n)) (sym right.gone) (numbers_for c.right_follows.ensures f right.fixed c.plans_are_sound.ensures t.book (count_in t.kept) (kept_ends f right.fixed t.book t.kept right.kept)) in
    subst (λ (x : ℕ × AddrValue). AreNumbers (with_kinds (world_of f) (policy_at t.book)) x.0 x.1 (less_gone (count_in t.kept) t.gone)) (λ i. (round i, addr i)) numbers
