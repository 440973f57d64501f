-- Stable routings of one prefix in the rounds, and in worlds that differ at lone ASes.
use Rattle.std.proofs.Common.{◌≡◌, inr, ℕ, zero, suc, ◌<◌, Bool, true, false, ◌&&◌, nat_lt, option_map, Option, Some, None, List, refl, sym, ap, subst, ◌∙◌, arith, true≢false}
use Rattle.net_names.specs.Addresses.{AddrValue}
use Rattle.net_names.specs.Coverage.{holds}
use Rattle.net_names.specs.Links.{LinkMap, converse}
use Rattle.net_names.specs.Prefixes.{PrefixValue}
use Rattle.net_names.specs.declared.routes.Rel.{Rel}
use Rattle.net_names.specs.declared.routes.State.{State}
use Rattle.as_graph.specs.Hierarchy.{HasNoProviderCycle}
use Rattle.as_graph.specs.Topology.{Topology, has, relation, unmarked}
use Rattle.as_graph.proofs.Links.{linked_end, relation_mutual}
use Rattle.policy_kinds.specs.Kinds.{kind_policy}
use Rattle.policy_kinds.specs.declared.kind.Kind.{Kind}
use Rattle.stability_laws.specs.Book.{PolicyBook, policy_at}
use Rattle.stability_laws.specs.Laws.{OneStableRouting, RightFollows}
use Rattle.stability_laws.specs.Offers.{Setting, offer, offer_given}
use Rattle.stability_laws.specs.Plans.{Plan, announced_path, leaks_in}
use Rattle.stability_laws.specs.Rounds.{seed_given, seeds_of}
use Rattle.stability_laws.specs.Stable.{IsRightGiven, IsStable}
use Rattle.stability_laws.specs.World.{setting}
use Rattle.stability_laws.specs.declared.entry.Entry.{Entry}
use Rattle.stability_laws.specs.declared.entry.Seed.{Seed}
use Rattle.trial_world.specs.Fixed.{IsPlanFor}

-- in round 1 nothing of an earlier round is read
first_round : (plan : Plan) (prefix : PrefixValue) (f g : ℕ → Option Entry) (a : ℕ) → seeds_of plan 1 prefix f a ≡ seeds_of plan 1 prefix g a
first_round plan prefix f g a = by (announced_path plan prefix a)
  where
    by : (s : Option (List ℕ)) → seed_given s false (f a) ≡ seed_given s false (g a)
    by None = refl
    by (Some path) = refl

-- the stable routings of a prefix in the rounds, each with the seeds that follow from the round before
abbrev pub AreStableTo : Setting → Plan → PrefixValue → ℕ → (ℕ → ℕ → Option Entry) → Type 0
AreStableTo w plan p round f = (before : ℕ) → before < round → IsStable w (seeds_of plan (suc before) p (f before)) (f (suc before))

-- there are no others
pub one_to : OneStableRouting kind_policy → (g : Topology) (book : PolicyBook Kind) (state : ℕ → State) (plan : Plan) (p : PrefixValue) (round : ℕ) (f h : ℕ → ℕ → Option Entry) → HasNoProviderCycle (relation g)
    → AreStableTo (setting kind_policy g book state) plan p round f → AreStableTo (setting kind_policy g book state) plan p round h → (before : ℕ) → before < round → (a : ℕ) → f (suc before) a ≡ h (suc before) a
one_to law g book state plan p round f h none f_is h_is zero less =
    law g book state (seeds_of plan 1 p (h 0)) (f 1) (h 1) none (subst (λ (s : ℕ → Option Seed). IsStable (setting kind_policy g book state) s (f 1)) (λ i a. first_round plan p (f 0) (h 0) a i) (f_is 0 less)) (h_is 0 less)
one_to law g book state plan p round f h none f_is h_is (suc before) less =
    let same : (a : ℕ) → f (suc before) a ≡ h (suc before) a = one_to law g book state plan p round f h none f_is h_is before (omega (arith, less)) in
    law g book state (seeds_of plan (suc (suc before)) p (h (suc before))) (f (suc (suc before))) (h (suc (suc before))) none
    (subst (λ (t : ℕ → Option Entry). IsStable (setting kind_policy g book state) (seeds_of plan (suc (suc before)) p t) (f (suc (suc before)))) (λ i a. same a i) (f_is (suc before) less)) (h_is (suc before) less)

-- where nobody announces the prefix nobody holds anything
pub nothing_stable : (w : Setting) (plan : Plan) (p : PrefixValue) (round : ℕ) → ((a : ℕ) → announced_path plan p a ≡ None) → IsStable w (seeds_of plan round p (λ a. None)) (λ a. None)
nothing_stable w plan p round none = record {
  only_ases = λ a away. refl;
  right = λ a there. subst (λ (s : Option Seed). IsRightGiven (w.policy a) s (λ n. offer w (λ b. None) n a) None) (sym (unseeded a)) (λ n. no_offer n a (w.relation a n));
}
  where
    no_offer : (n a : ℕ) (r : Option Rel) → offer_given (w.policy n) (w.policy a) w.state n a r None ≡ None
    no_offer n a None = refl
    no_offer n a (Some r) = refl

    no_seed : (t : Bool) → seed_given None t None ≡ None
    no_seed true = refl
    no_seed false = refl

    unseeded : (a : ℕ) → seeds_of plan round p (λ b. None) a ≡ None
    unseeded a = (λ i. seed_given (none a i) (nat_lt 1 round && leaks_in plan round a) None) ∙ no_seed (nat_lt 1 round && leaks_in plan round a)

-- the seeds are those of the whole plan
pub seeds_whole : (addr : AddrValue) (last : ℕ) (whole part : Plan) → IsPlanFor addr last whole part → (before : ℕ) → before < last → (p : PrefixValue) → holds p addr ≡ true → (f : ℕ → Option Entry) (a : ℕ) → seeds_of part (suc before) p f a ≡ seeds_of whole (suc before) p f a
seeds_whole addr last whole part are zero less p held f a = λ i. seed_given (are.announced p a held i) false (f a)
seeds_whole addr last whole part are (suc before) less p held f a = λ i. seed_given (are.announced p a held i) (nat_lt 1 (suc (suc before)) && are.leaks (suc (suc before)) a (omega arith) (omega (arith, less)) i) (f a)

-- ---- worlds with the same links, the same kinds at the ASes of the first, and the ASes of the first but for some lone ones
module _ (law : RightFollows kind_policy) (v w : Topology) (book other : PolicyBook Kind) (links : v.links ≡ w.links) (kinds : (a : ℕ) → has v a ≡ true → policy_at book a ≡ policy_at other a) (fewer : (a : ℕ) → has w a ≡ true → has v a ≡ true) where
  linked : (a n : ℕ) (r : Rel) → relation w a n ≡ Some r → has v n ≡ true
  linked a n r is = fewer n (linked_end w a n r is)

  -- stability doesn't tell them apart
  pub stable_moved : (state : ℕ → State) (seeds : ℕ → Option Seed) (f : ℕ → Option Entry) → ((a : ℕ) → has v a ≡ true → has w a ≡ false → seeds a ≡ None) → IsStable (setting kind_policy v book state) seeds f → IsStable (setting kind_policy w other state) seeds f
  stable_moved state seeds f lone stable = record {
    only_ases = λ a away. nothing a away (has v a) refl;
    right = λ a there. law v w book other state state seeds seeds f f a (record {
      links = λ n. ap (λ (l : LinkMap). relation (unmarked l) a n) links;
      policy = ap kind_policy (kinds a (fewer a there));
      exports = λ n r is. ap (λ (k : Kind). (kind_policy k).exports) (kinds n (linked a n r is));
      marks = λ n r is. ap (λ (k : Kind). (kind_policy k).marks) (kinds n (linked a n r is));
      states = inr (λ origin. refl);
      entries = λ n r is. refl;
    }) refl refl (stable.right a (fewer a there));
  }
    where
      unlinked : (a : ℕ) → has w a ≡ false → (n : ℕ) (o : Option Rel) → relation w a n ≡ o → o ≡ None
      unlinked a away n None e = refl
      unlinked a away n (Some r) e = absurd (true≢false (sym (linked_end w n a (converse r) (relation_mutual w a n ∙ ap (option_map converse) e)) ∙ away))

      no_offer : (a n : ℕ) → relation v a n ≡ None → offer (setting kind_policy v book state) f n a ≡ None
      no_offer a n none = ap (λ o. offer_given (kind_policy (policy_at book n)) (kind_policy (policy_at book a)) state n a o (f n)) none

      held : (a : ℕ) (e : Option Entry) → ((n : ℕ) → relation v a n ≡ None) → IsRightGiven (kind_policy (policy_at book a)) None (λ n. offer (setting kind_policy v book state) f n a) e → e ≡ None
      held a None none right = refl
      held a (Some e) none (n, o, best, is) = absurd (let no : None ≡ Some o = sym (no_offer a n (none n)) ∙ best.made in cc)

      nothing : (a : ℕ) → has w a ≡ false → (t : Bool) → has v a ≡ t → f a ≡ None
      nothing a away false e = stable.only_ases a e
      nothing a away true e = held a (f a) (λ n. ap (λ (l : LinkMap). relation (unmarked l) a n) links ∙ unlinked a away n (relation w a n) refl)
          (subst (λ (s : Option Seed). IsRightGiven (kind_policy (policy_at book a)) s (λ n. offer (setting kind_policy v book state) f n a) (f a)) (lone a e away) (stable.right a e))
