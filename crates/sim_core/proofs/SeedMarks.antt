-- The marks of a graph after an edit of an announcement.
use Rattle.std.proofs.Common.{◌≡◌, ◌≢◌, ℕ, ◌==◌, ◌||◌, ◌&&◌, not, Bool, true, false, cond, is_some, unwrap_or, None, Some, map, refl, sym, ap, ◌∙◌}
use Rattle.std.specs.Ordering.{nat_cmp}
use Rattle.std.specs.FinMap as fin
use Rattle.std.specs.FinSet as set
use Rattle.std.proofs.lemmas.Bool.{eqb-true, eq-eqb, or_right, true≢false}
use Rattle.std.proofs.lemmas.Cmp.{nat_cmp_total}
use Rattle.net_names.specs.Numbers.{occurs}
use Rattle.as_graph.specs.Edits.{AsesAreKept}
use Rattle.as_graph.specs.Topology.{Topology, has}
use Rattle.policy_kinds.specs.declared.kind.Kind.{Kind}
use Rattle.policy_kinds.specs.declared.kind.Kind.TheVariants.{Plain}
use Rattle.stability_laws.specs.Plans.{Plan, announcers_of}
use Rattle.sim_core.specs.Loaded.{is_other}
use Rattle.sim_core.specs.Marking.{with_mark_if}
use Rattle.sim_core.specs.World.{named}
use Rattle.sim_core.proofs.PolicyEdits.{AreOther, Kinds, leakers, as_other, is_key, named_by, occurs_keys}
use Rattle.net_names.proofs.Shared.{or_assoc}

or_cond : (b c : Bool) → (b || c) ≡ cond b true c
or_cond true c = refl
or_cond false c = refl

and_cond : (b c : Bool) → (not b && c) ≡ cond b false c
and_cond true c = refl
and_cond false c = refl

-- a mark that is set or taken away
contains_set : (marked : set.FinSet nat_cmp) (a q : ℕ) (t : Bool) → set.contains (cond t (set.insert marked a) (set.remove marked a)) q ≡ cond (a == q) t (set.contains marked q)
contains_set marked a q true = set.contains-insert nat_cmp_total marked a q ∙ (λ i. is_key q a i || set.contains marked q) ∙ or_cond (a == q) (set.contains marked q)
contains_set marked a q false = set.contains-remove nat_cmp_total marked a q ∙ (λ i. not (is_key q a i) && set.contains marked q) ∙ and_cond (a == q) (set.contains marked q)

-- a mark that is set as it was
pub marks_back : (marked : set.FinSet nat_cmp) (a : ℕ) (t was : Bool) → was ≡ set.contains marked a
    → cond was (set.insert (cond t (set.insert marked a) (set.remove marked a)) a) (set.remove (cond t (set.insert marked a) (set.remove marked a)) a) ≡ marked
marks_back marked a t was is = set.same_set nat_cmp_total set.nat_cmp-IsAntisymmetric _ _ (λ q.
    contains_set (cond t (set.insert marked a) (set.remove marked a)) a q was ∙ ap (cond (a == q) was) (contains_set marked a q t) ∙ by q (a == q) refl)
  where
    by : (q : ℕ) (b : Bool) → (a == q) ≡ b → cond b was (cond b t (set.contains marked q)) ≡ set.contains marked q
    by q true e = is ∙ ap (set.contains marked) (eqb-true a q e)
    by q false e = refl

-- ---- whom a plan or a policy names

some_if : (b : Bool) (k : Kind) → is_some (cond b (Some k) None) ≡ b
some_if true k = refl
some_if false k = refl

pub named_is : (plan : Plan) (m : Kinds) (a : ℕ) (kind : Kind) (by_plan by_policy : Bool) → AreOther m → by_plan ≡ (occurs a (announcers_of plan) || occurs a (leakers plan)) → kind ≡ unwrap_or (fin.get m a) Plain → by_policy ≡ is_other (a, kind)
    → (by_plan || by_policy) ≡ set.contains (set.from_list {R = nat_cmp} (named plan m)) a
named_is plan m a kind by_plan by_policy others first is second =
    let other : by_policy ≡ occurs a (fin.keys m) =
    second ∙ ap (λ (k : Kind). is_other (a, k)) is ∙ sym (some_if (is_other (a, unwrap_or (fin.get m a) Plain)) (unwrap_or (fin.get m a) Plain)) ∙ ap is_some (as_other a (fin.get m a) (others a)) ∙ sym (occurs_keys m a) in
    (λ i. first i || other i) ∙ or_assoc (occurs a (announcers_of plan)) (occurs a (leakers plan)) (occurs a (fin.keys m)) ∙ sym (named_by plan m a)

module _ (old plan : Plan) (m : Kinds) (a : ℕ) (same : plan.leakers ≡ old.leakers) (others : (x : ℕ) → x ≢ a → occurs x (announcers_of plan) ≡ occurs x (announcers_of old)) where
  elsewhere : (q : ℕ) → q ≢ a → set.contains (set.from_list {R = nat_cmp} (named plan m)) q ≡ set.contains (set.from_list {R = nat_cmp} (named old m)) q
  elsewhere q other = named_by plan m q ∙ (λ i. others q other i || (occurs q (map (λ e. e.1) (fin.keys (same i))) || occurs q (fin.keys m))) ∙ sym (named_by old m q)

  -- the marks are those of the new plan
  pub marks_seeded : (marked : set.FinSet nat_cmp) (t : Bool) → t ≡ set.contains (set.from_list {R = nat_cmp} (named plan m)) a → marked ≡ set.from_list (named old m)
      → cond t (set.insert marked a) (set.remove marked a) ≡ set.from_list (named plan m)
  marks_seeded marked t is were = set.same_set nat_cmp_total set.nat_cmp-IsAntisymmetric _ _ (λ q. contains_set marked a q t ∙ by q (a == q) refl)
    where
      by : (q : ℕ) (b : Bool) → (a == q) ≡ b → cond b t (set.contains marked q) ≡ set.contains (set.from_list {R = nat_cmp} (named plan m)) q
      by q true e = is ∙ ap (set.contains (set.from_list {R = nat_cmp} (named plan m))) (eqb-true a q e)
      by q false e = ap (λ (s : set.FinSet nat_cmp). set.contains s q) were ∙ sym (elsewhere q (λ here. true≢false (sym (eq-eqb a q (sym here)) ∙ e)))

-- ---- the ASes of a graph

pub more_with : AsesAreKept → (g : Topology) (a x : ℕ) (t : Bool) → t ≡ true → has g x ≡ true → has (with_mark_if g a t) x ≡ true
more_with ases g a x true e h = ases.marked g a x ∙ or_right (x == a) (has g x) h
more_with ases g a x false e h = cc

pub fewer_without : AsesAreKept → (g : Topology) (a x : ℕ) (t : Bool) → t ≡ false → has (with_mark_if g a t) x ≡ true → has g x ≡ true
fewer_without ases g a x true e h = cc
fewer_without ases g a x false e h = ases.unmarked g a x h
