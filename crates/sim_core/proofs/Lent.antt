-- What a world lends is what its routings rest on.
use Rattle.std.proofs.Common.{◌≡◌, ℕ, suc, ◌-◌, ◌<◌, Bool, true, false, ◌&&◌, nat_lt, Option, None, Some, List, refl, sym, ap, subst, ◌∙◌, arith}
use Rattle.std.specs.Prelude.{slice_get}
use Rattle.std.specs.FinSet as set
use Rattle.std.proofs.lemmas.Bool.{ltb-true}
use Rattle.net_names.specs.Prefixes.{PrefixValue}
use Rattle.as_graph.specs.Hierarchy.{IsProviderCycle, IsRank}
use Rattle.as_graph.specs.Topology.{Topology, has, relation}
use Rattle.policy_kinds.specs.Kinds.{kind_policy}
use Rattle.policy_kinds.specs.declared.kind.Kind.{Kind}
use Rattle.policy_kinds.specs.declared.kind.Kind.TheVariants.{Plain}
use Rattle.policy_laws.specs.Policy.{is_own_or_customers}
use Rattle.origin_validation.specs.Judging.{state_of}
use Rattle.stability_laws.specs.Book.{PolicyBook}
use Rattle.stability_laws.specs.Laws.{OneStableRouting, PathsGoOn}
use Rattle.stability_laws.specs.Plans.{IsSound, announced_path, has_prefix, leaks_in}
use Rattle.stability_laws.specs.Rounds.{seed_given, seeds_of}
use Rattle.stability_laws.specs.Stable.{IsStable}
use Rattle.stability_laws.specs.declared.entry.Entry.{Entry}
use Rattle.stability_laws.specs.declared.entry.Seed.{Seed}
use Rattle.sim_core.specs.Kept.{IsKept, Kept}
use Rattle.sim_core.specs.Lent.{KeptIsStable, LentHasNoCycle, LentIsRanked, LentIsSetting, NoOtherIsStable, seeds_kept}
use Rattle.sim_core.specs.World.{World, has_round, setting_of, topology}
use Rattle.sim_core.proofs.Origins.{both, leaked_path, same_some}
use Rattle.sim_core.proofs.Watches.{round_within}

-- what stability reads of what is lent
pub lent_setting : LentIsSetting
lent_setting w g book is policies prefix = λ i. record { has = has (is i); relation = relation (is i); policy = λ a. kind_policy (policies a i); state = state_of w.payloads prefix }

-- cycles and ranks of what is lent
pub lent_cycle : LentHasNoCycle
lent_cycle w g is none xs cycle = none (xs, subst (λ (t : Topology). IsProviderCycle (relation t) xs) is cycle)

pub lent_ranked : LentIsRanked
lent_ranked w g k is kept a = subst (λ (t : Topology). IsRank (relation t) a (k.ranks a)) (sym is) (kept.ranks a)

-- the policies of a world as a book
abbrev book_of : World → PolicyBook Kind
book_of w = record { rest = Plain; named = w.kinds; room = set.empty }

-- the routing that is kept is stable, and the one that is
pub kept_stable : KeptIsStable
kept_stable w k round prefix kept there known =
    let (low, high) = round_within w.rounds round there in
    let before : suc (round - 1) ≡ round = omega (arith, low) in
    let less : round - 1 < w.rounds = omega (arith, low, high) in
    subst (λ n. IsStable (setting_of w prefix) (seeds_of w.plan n prefix (k.routings (round - 1) prefix)) (k.routings n prefix)) before (kept.routings.is (round - 1) prefix less known)

pub no_other_stable : OneStableRouting kind_policy → NoOtherIsStable
no_other_stable law w k round prefix none kept there known other stable a =
    law (topology w) (book_of w) (state_of w.payloads prefix) (seeds_kept w k round prefix) other (k.routings round prefix) (λ xs cycle. none (xs, cycle)) stable (kept_stable w k round prefix kept there known) a

-- the path of a seed starts with its AS
pub seed_starts : PathsGoOn kind_policy → (w : World) (k : Kept) → IsSound w.plan → IsKept w k → (round : ℕ) (prefix : PrefixValue) → has_round w round ≡ true → has_prefix w.plan prefix ≡ true
    → (a : ℕ) (seed : Seed) → seeds_kept w k round prefix a ≡ Some seed → slice_get seed.path 0 ≡ Some a
seed_starts goes w k sound kept round prefix there known a seed is = by (announced_path w.plan prefix a) refl (nat_lt 1 round && leaks_in w.plan round a) refl (k.routings (round - 1) prefix a) refl is
  where
    by : (o : Option (List ℕ)) → announced_path w.plan prefix a ≡ o → (t : Bool) → (nat_lt 1 round && leaks_in w.plan round a) ≡ t → (h : Option Entry) → k.routings (round - 1) prefix a ≡ h → seed_given o t h ≡ Some seed → slice_get seed.path 0 ≡ Some a
    by (Some path) at t leaks h e q = ap (λ (s : Seed). slice_get s.path 0) (sym (same_some _ seed q)) ∙ sound.starts prefix a path at
    by None at false leaks h e q = cc
    by None at true leaks None e q = cc
    by None at true leaks (Some x) e q =
        let (low, high) = round_within w.rounds round there in
        let later : 1 < round = ltb-true 1 round (both (nat_lt 1 round) (leaks_in w.plan round a) leaks) in
        let before : suc (round - 2) ≡ round - 1 = omega (arith, later) in
        let less : round - 2 < w.rounds = omega (arith, later, high) in
        ap (λ (path : List ℕ). slice_get path 0) (leaked_path (is_own_or_customers x.class) x seed q)
        ∙ (goes (topology w) (book_of w) (λ p. state_of w.payloads p) w.plan w.rounds k.routings sound kept.routings.is (round - 2) prefix less known a x (ap (λ n. k.routings n prefix a) before ∙ e)).0
