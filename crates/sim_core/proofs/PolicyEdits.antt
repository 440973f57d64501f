-- Edits of policies.
use Rattle.std.proofs.Common.{◌≡◌, ◌≢◌, ℕ, ◌==◌, ◌||◌, ◌&&◌, not, Bool, true, false, cond, is_some, unwrap_or, Option, None, Some, List, [], ◌∷◌, ◌++◌, map, refl, sym, ap, subst, ◌∙◌}
use Rattle.std.specs.List.{list_any}
use Rattle.std.specs.Ordering.{eq_by_cmp, nat_cmp}
use Rattle.std.specs.Cmp.{unsigned_tied, nat_eq_equiv}
use Rattle.std.specs.FinMap as fin
use Rattle.std.specs.FinSet as set
use Rattle.std.proofs.lemmas.Bool.{eqb-true, true≢false}
use Rattle.std.proofs.lemmas.Cmp.{nat_cmp_total}
use Rattle.net_names.specs.Links.{LinkMap}
use Rattle.net_names.specs.Numbers.{occurs}
use Rattle.as_graph.specs.Topology.{Topology}
use Rattle.as_graph.proofs.RowAses.{occurs-append}
use Rattle.policy_kinds.specs.declared.kind.Kind.{Kind}
use Rattle.policy_kinds.specs.declared.kind.Kind.TheVariants.{Plain, DropInvalid, PreferValid, ProviderFirst, Otc, DropInvalidOtc}
use Rattle.stability_laws.specs.Plans.{Plan, announcers_of}
use Rattle.sim_core.specs.Loaded.{is_other}
use Rattle.sim_core.specs.World.{graph_of, named}

-- the ASes that leak in some round (RFC 7908, section 3)
abbrev pub leakers : Plan → List ℕ
leakers plan = map (λ e. e.1) (fin.keys plan.leakers)

abbrev pub Kinds : Type 0
Kinds = fin.FinMap nat_cmp Kind

pub is_key : (q a : ℕ) → eq_by_cmp nat_cmp q a ≡ (a == q)
is_key q a = unsigned_tied q a ∙ nat_eq_equiv.symm q a

any_key : (q : ℕ) (ks : List ℕ) → list_any (eq_by_cmp nat_cmp q) ks ≡ occurs q ks
any_key q [] = refl
any_key q (k ∷ ks) = λ i. is_key q k i || any_key q ks i

pub occurs_keys : (m : Kinds) (q : ℕ) → occurs q (fin.keys m) ≡ is_some (fin.get m q)
occurs_keys m q = sym (any_key q (fin.keys m)) ∙ sym (fin.contains_key-keys m q)

keys_with : (m : Kinds) (a : ℕ) (k : Kind) (q : ℕ) → occurs q (fin.keys (fin.insert m a k)) ≡ ((a == q) || occurs q (fin.keys m))
keys_with m a k q =
    occurs_keys (fin.insert m a k) q ∙ ap is_some (fin.get-insert nat_cmp_total m a k q)
    ∙ by (eq_by_cmp nat_cmp q a) (fin.get m q) ∙ (λ i. is_key q a i || sym (occurs_keys m q) i)
  where
    by : (t : Bool) (o : Option Kind) → is_some (cond t (Some k) o) ≡ (t || is_some o)
    by true o = refl
    by false o = refl

keys_without : (m : Kinds) (a q : ℕ) → occurs q (fin.keys (fin.remove m a)) ≡ (not (a == q) && occurs q (fin.keys m))
keys_without m a q =
    occurs_keys (fin.remove m a) q ∙ ap is_some (fin.get-remove nat_cmp_total m a q)
    ∙ by (eq_by_cmp nat_cmp q a) (fin.get m q) ∙ (λ i. not (is_key q a i) && sym (occurs_keys m q) i)
  where
    by : (t : Bool) (o : Option Kind) → is_some (cond t None o) ≡ (not t && is_some o)
    by true o = refl
    by false o = refl

pub named_by : (plan : Plan) (m : Kinds) (q : ℕ) → set.contains (set.from_list {R = nat_cmp} (named plan m)) q ≡ (occurs q (announcers_of plan) || (occurs q (leakers plan) || occurs q (fin.keys m)))
named_by plan m q =
    set.contains-from_list_nat (named plan m) q ∙ occurs-append q (announcers_of plan) (leakers plan ++ fin.keys m)
    ∙ ap (λ b. occurs q (announcers_of plan) || b) (occurs-append q (leakers plan) (fin.keys m))

moved : (x y e k : Bool) → (x || (y || (e || k))) ≡ (e || (x || (y || k)))
moved true y true k = refl
moved true y false k = refl
moved false true true k = refl
moved false true false k = refl
moved false false e k = refl

cut : (x y e k : Bool) → (e ≡ true → (x || y) ≡ false) → (x || (y || (not e && k))) ≡ (not e && (x || (y || k)))
cut x y false k h = refl
cut true y true k h = h refl
cut false true true k h = h refl
cut false false true k h = refl

stay : (x y e k : Bool) → (e ≡ true → (x || y) ≡ true) → (x || (y || (not e && k))) ≡ (x || (y || k))
stay x y false k h = refl
stay true y true k h = refl
stay false true true k h = refl
stay false false true k h = absurd (true≢false (sym (h refl)))

module _ (plan : Plan) (m : Kinds) (a : ℕ) where
  -- whether the plan names the AS too
  abbrev Names : Bool
  Names = occurs a (announcers_of plan) || occurs a (leakers plan)

  at_a : (q : ℕ) → (a == q) ≡ true → (occurs q (announcers_of plan) || occurs q (leakers plan)) ≡ Names
  at_a q e = ap (λ x. occurs x (announcers_of plan) || occurs x (leakers plan)) (sym (eqb-true a q e))

  pub marks_given : (k : Kind) → set.insert (set.from_list {R = nat_cmp} (named plan m)) a ≡ set.from_list (named plan (fin.insert m a k))
  marks_given k = set.same_set nat_cmp_total set.nat_cmp-IsAntisymmetric _ _ (λ q.
      set.contains-insert nat_cmp_total (set.from_list (named plan m)) a q ∙ (λ i. is_key q a i || named_by plan m q i)
      ∙ sym (named_by plan (fin.insert m a k) q ∙ (λ i. occurs q (announcers_of plan) || (occurs q (leakers plan) || keys_with m a k q i))
      ∙ moved (occurs q (announcers_of plan)) (occurs q (leakers plan)) (a == q) (occurs q (fin.keys m))))

  pub marks_taken : Names ≡ false → set.remove (set.from_list {R = nat_cmp} (named plan m)) a ≡ set.from_list (named plan (fin.remove m a))
  marks_taken none = set.same_set nat_cmp_total set.nat_cmp-IsAntisymmetric _ _ (λ q.
      set.contains-remove nat_cmp_total (set.from_list (named plan m)) a q ∙ (λ i. not (is_key q a i) && named_by plan m q i)
      ∙ sym (named_by plan (fin.remove m a) q ∙ (λ i. occurs q (announcers_of plan) || (occurs q (leakers plan) || keys_without m a q i))
      ∙ cut (occurs q (announcers_of plan)) (occurs q (leakers plan)) (a == q) (occurs q (fin.keys m)) (λ e. at_a q e ∙ none)))

  pub marks_kept : Names ≡ true → set.from_list {R = nat_cmp} (named plan m) ≡ set.from_list (named plan (fin.remove m a))
  marks_kept some = set.same_set nat_cmp_total set.nat_cmp-IsAntisymmetric _ _ (λ q.
      named_by plan m q
      ∙ sym (named_by plan (fin.remove m a) q ∙ (λ i. occurs q (announcers_of plan) || (occurs q (leakers plan) || keys_without m a q i))
      ∙ stay (occurs q (announcers_of plan)) (occurs q (leakers plan)) (a == q) (occurs q (fin.keys m)) (λ e. at_a q e ∙ some)))

-- ---- the named policies

-- no AS is named with the plain policy
abbrev pub AreOther : Kinds → Type 0
AreOther m = (q : ℕ) → fin.get m q ≢ Some Plain

other_set : (a : ℕ) (k : Kind) (t : Bool) (o : Option Kind) → is_other (a, k) ≡ true → o ≢ Some Plain → cond t (Some k) o ≢ Some Plain
other_set a k true o other not_plain e = (let same : k ≡ Plain = cc in let plain : is_other (a, Plain) ≡ true = subst (λ (x : Kind). is_other (a, x) ≡ true) same other in cc)
other_set a k false o other not_plain e = not_plain e

pub given_other : (m : Kinds) (a : ℕ) (k : Kind) → AreOther m → is_other (a, k) ≡ true → AreOther (fin.insert m a k)
given_other m a k are other q e = other_set a k (eq_by_cmp nat_cmp q a) (fin.get m q) other (are q) (sym (fin.get-insert nat_cmp_total m a k q) ∙ e)

other_gone : (t : Bool) (o : Option Kind) → o ≢ Some Plain → cond t None o ≢ Some Plain
other_gone true o not_plain e = cc
other_gone false o not_plain e = not_plain e

pub taken_other : (m : Kinds) (a : ℕ) → AreOther m → AreOther (fin.remove m a)
taken_other m a are q e = other_gone (eq_by_cmp nat_cmp q a) (fin.get m q) (are q) (sym (fin.get-remove nat_cmp_total m a q) ∙ e)

-- the policies in which the AS has this kind; nobody is named for the plain one
abbrev pub with_kind : Kinds → ℕ → Kind → Kinds
with_kind kinds a kind = cond (is_other (a, kind)) (fin.insert kinds a kind) (fin.remove kinds a)

-- the policy that the AS had, given back
pub get_with : (m : Kinds) (a : ℕ) (k : Kind) (q : ℕ) → fin.get (with_kind m a k) q ≡ cond (eq_by_cmp nat_cmp q a) (cond (is_other (a, k)) (Some k) None) (fin.get m q)
get_with m a k q = by (is_other (a, k))
  where
    by : (t : Bool) → fin.get (cond t (fin.insert m a k) (fin.remove m a)) q ≡ cond (eq_by_cmp nat_cmp q a) (cond t (Some k) None) (fin.get m q)
    by true = fin.get-insert nat_cmp_total m a k q
    by false = fin.get-remove nat_cmp_total m a q

-- a policy that is none of the others is the plain one
pub other_plain : (a : ℕ) (k : Kind) → is_other (a, k) ≡ false → k ≡ Plain
other_plain a Plain e = refl
other_plain a DropInvalid e = cc
other_plain a PreferValid e = cc
other_plain a ProviderFirst e = cc
other_plain a Otc e = cc
other_plain a DropInvalidOtc e = cc

pub as_other : (a : ℕ) (o : Option Kind) → o ≢ Some Plain → cond (is_other (a, unwrap_or o Plain)) (Some (unwrap_or o Plain)) None ≡ o
as_other a None h = refl
as_other a (Some k) h = by (is_other (a, k)) refl
  where
    by : (t : Bool) → is_other (a, k) ≡ t → cond t (Some k) None ≡ Some k
    by true e = refl
    by false e = absurd (h (ap (λ x. Some x) (other_plain a k e)))

-- the policy that an AS has when it was given
pub kind_is : (a : ℕ) (k : Kind) → unwrap_or (cond (is_other (a, k)) (Some k) None) Plain ≡ k
kind_is a k = by (is_other (a, k)) refl
  where
    by : (t : Bool) → is_other (a, k) ≡ t → unwrap_or (cond t (Some k) None) Plain ≡ k
    by true e = refl
    by false e = sym (other_plain a k e)

twice : (t : Bool) (x y o : Option Kind) → (t ≡ true → x ≡ o) → cond t x (cond t y o) ≡ o
twice true x y o h = h refl
twice false x y o h = refl

pub given_back : (m : Kinds) (a : ℕ) (k old : Kind) → AreOther m → old ≡ unwrap_or (fin.get m a) Plain → with_kind (with_kind m a k) a old ≡ m
given_back m a k old are is = fin.same_map nat_cmp_total fin.nat_cmp-IsAntisymmetric _ _ (λ q.
    get_with (with_kind m a k) a old q
    ∙ ap (cond (eq_by_cmp nat_cmp q a) (cond (is_other (a, old)) (Some old) None)) (get_with m a k q)
    ∙ twice (eq_by_cmp nat_cmp q a) (cond (is_other (a, old)) (Some old) None) (cond (is_other (a, k)) (Some k) None) (fin.get m q)
    (λ e. ap (λ (x : Kind). cond (is_other (a, x)) (Some x) None) is ∙ as_other a (fin.get m a) (are a) ∙ ap (fin.get m) (eqb-true a q (sym (is_key q a) ∙ e))))

-- ---- the marks of a graph

pub named_other : (links : LinkMap) (marked : set.FinSet nat_cmp) (plan : Plan) (m : Kinds) (a : ℕ) (k : Kind) → graph_of links marked ≡ graph_of links (set.from_list (named plan m))
    → graph_of links (set.insert marked a) ≡ graph_of links (set.from_list (named plan (fin.insert m a k)))
named_other links marked plan m a k is = ap (graph_of links) (ap (λ (g : Topology). set.insert g.marked a) is ∙ marks_given plan m a k)

pub named_plain : (links : LinkMap) (marked : set.FinSet nat_cmp) (plan : Plan) (m : Kinds) (a : ℕ) (t : Bool) → t ≡ (occurs a (announcers_of plan) || occurs a (leakers plan)) → graph_of links marked ≡ graph_of links (set.from_list (named plan m))
    → graph_of links (cond t marked (set.remove marked a)) ≡ graph_of links (set.from_list (named plan (fin.remove m a)))
named_plain links marked plan m a true names is = ap (graph_of links) (ap (λ (g : Topology). g.marked) is ∙ marks_kept plan m a (sym names))
named_plain links marked plan m a false names is = ap (graph_of links) (ap (λ (g : Topology). set.remove g.marked a) is ∙ marks_taken plan m a (sym names))
