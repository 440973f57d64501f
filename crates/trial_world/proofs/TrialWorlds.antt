-- The world of a trial: its kinds and its ASes.
use Rattle.std.proofs.Common.{◌≡◌, ℕ, ◌==◌, ◌||◌, ◌&&◌, not, Bool, true, false, cond, is_some, unwrap_or, Option, None, Some, List, [], ◌∷◌, map, refl, sym, ap, ◌∙◌, eqb-true, true≢false}
use Rattle.std.specs.Prelude.{filter, if◌then◌else◌}
use Rattle.std.specs.FinMap as fin
use Rattle.std.specs.FinMap.Entries.{find}
use Rattle.std.specs.FinSet as set
use Rattle.std.specs.Ordering.{nat_cmp}
use Rattle.std.proofs.lemmas.Bool.{and_parts}
use Rattle.std.proofs.lemmas.Cmp.{nat_cmp_total}
use Rattle.net_names.specs.Numbers.{occurs}
use Rattle.as_graph.specs.Topology.{Topology, ases, has, unmarked}
use Rattle.as_graph.proofs.Links.{ends_of}
use Rattle.as_graph.proofs.RowAses.{occurs-append, occurs-items}
use Rattle.policy_kinds.specs.declared.kind.Kind.{Kind}
use Rattle.policy_kinds.specs.declared.kind.Kind.TheVariants.{Plain}
use Rattle.stability_laws.specs.Book.{PolicyBook, policy_at}
use Rattle.stability_laws.specs.Plans.{announcers_of}
use Rattle.sim_core.specs.Lent.{IsBookOf, IsGraphOf}
use Rattle.sim_core.specs.Loaded.{is_other}
use Rattle.sim_core.specs.World.{World, kind_at, named, topology}
use Rattle.trial_world.specs.Fixed.{is_lone}
use Rattle.trial_world.specs.Sweeps.{with_kinds}
use Rattle.trial_world.proofs.LoneAses.{ends_alone}
use Rattle.sim_core.proofs.PolicyEdits.{is_key, leakers, named_by, occurs_keys, other_plain}

-- what is found of an AS among those with another kind than the plain one
found : (f : ℕ → Kind) (a : ℕ) (xs : List ℕ) → find nat_cmp a (filter is_other (map (λ b. (b, f b)) xs)) ≡ cond (occurs a xs && is_other (a, f a)) (Some (f a)) None
found f a [] = refl
found f a (x ∷ xs) = by (is_other (x, f x)) refl (x == a) refl (found f a xs)
  where
    rest : List (ℕ × Kind)
    rest = filter is_other (map (λ b. (b, f b)) xs)

    by : (t : Bool) → is_other (x, f x) ≡ t → (u : Bool) → (x == a) ≡ u → find nat_cmp a rest ≡ cond (occurs a xs && is_other (a, f a)) (Some (f a)) None
        → find nat_cmp a (cond t ((x, f x) ∷ rest) rest) ≡ cond ((u || occurs a xs) && is_other (a, f a)) (Some (f a)) None
    by true other true same more =
        ap (λ v. cond v (Some (f x)) (find nat_cmp a rest)) (is_key a x ∙ same) ∙ ap (λ b. Some (f b)) (eqb-true x a same)
        ∙ ap (λ v. cond v (Some (f a)) None) (sym other ∙ ap (λ b. is_other (b, f b)) (eqb-true x a same))
    by true other false same more = ap (λ v. cond v (Some (f x)) (find nat_cmp a rest)) (is_key a x ∙ same) ∙ more
    by false other true same more =
        let plain : is_other (a, f a) ≡ false = sym (ap (λ b. is_other (b, f b)) (eqb-true x a same)) ∙ other in
        more ∙ (λ i. cond (occurs a xs && plain i) (Some (f a)) None) ∙ ap (λ v. cond v (Some (f a)) None) (off (occurs a xs) ∙ sym plain)
      where
        off : (t : Bool) → (t && false) ≡ false
        off true = refl
        off false = refl
    by false other false same more = more

module _ (w : World) (f : ℕ → Kind) (a : ℕ) where
  got : fin.get (with_kinds w f).kinds a ≡ cond (has (topology w) a && is_other (a, f a)) (Some (f a)) None
  got = fin.get-from_entries nat_cmp_total (filter is_other (map (λ b. (b, f b)) (ases (topology w)))) a ∙ found f a (ases (topology w))

  -- the ASes of the world have the kinds, and others the plain one
  pub kind_given : kind_at (with_kinds w f) a ≡ (if has (topology w) a then f a else Plain)
  kind_given = ap (λ (o : Option Kind). unwrap_or o Plain) got ∙ by (has (topology w) a) (is_other (a, f a)) refl
    where
      by : (t u : Bool) → is_other (a, f a) ≡ u → unwrap_or (cond (t && u) (Some (f a)) None) Plain ≡ cond t (f a) Plain
      by false u e = refl
      by true true e = refl
      by true false e = sym (other_plain a (f a) e)

  named_now : occurs a (fin.keys (with_kinds w f).kinds) ≡ (has (topology w) a && is_other (a, f a))
  named_now = occurs_keys (with_kinds w f).kinds a ∙ ap is_some got ∙ by (has (topology w) a && is_other (a, f a))
    where
      by : (t : Bool) → is_some (cond t (Some (f a)) None) ≡ t
      by true = refl
      by false = refl

  -- what makes a number an AS of a world
  has_parts : (v : World) → has (topology v) a ≡ ((occurs a (announcers_of v.plan) || (occurs a (leakers v.plan) || occurs a (fin.keys v.kinds))) || has (unmarked v.links) a)
  has_parts v =
      occurs-append a (set.items (set.from_list {R = nat_cmp} (named v.plan v.kinds))) (ends_of (fin.entries v.links))
      ∙ (λ i. (occurs-items (set.from_list {R = nat_cmp} (named v.plan v.kinds)) a ∙ named_by v.plan v.kinds a) i || sym (ends_alone v.links a) i)

  -- an AS is gone where it is lone and has the plain kind
  pub has_now : has (topology (with_kinds w f)) a ≡ (has (topology w) a && not (is_lone (topology w) w.plan a && not (is_other (a, f a))))
  has_now =
      has_parts (with_kinds w f) ∙ ap (λ t. (occurs a (announcers_of w.plan) || (occurs a (leakers w.plan) || t)) || has (unmarked w.links) a) named_now
      ∙ bools (occurs a (announcers_of w.plan)) (occurs a (leakers w.plan)) (occurs a (fin.keys w.kinds)) (has (unmarked w.links) a) (has (topology w) a) (is_other (a, f a)) (has_parts w)
    where
      bools : (x y k e h o : Bool) → h ≡ ((x || (y || k)) || e) → ((x || (y || (h && o))) || e) ≡ (h && not ((not e && not (x || y)) && not o))
      bools true y k true h o is = sym (ap (λ t. t && true) is)
      bools true y k false h o is = sym (ap (λ t. t && true) is)
      bools false true k true h o is = sym (ap (λ t. t && true) is)
      bools false true k false h o is = sym (ap (λ t. t && true) is)
      bools false false k true true o is = last o
        where
          last : (o : Bool) → (o || true) ≡ true
          last true = refl
          last false = refl
      bools false false k true false o is = absurd (true≢false (sym (is ∙ or_true k)))
        where
          or_true : (k : Bool) → (k || true) ≡ true
          or_true true = refl
          or_true false = refl
      bools false false k false true true is = refl
      bools false false k false true false is = refl
      bools false false k false false o is = refl

  -- no AS comes
  pub no_more : has (topology (with_kinds w f)) a ≡ true → has (topology w) a ≡ true
  no_more h = (and_parts (has (topology w) a) (not (is_lone (topology w) w.plan a && not (is_other (a, f a)))) (sym has_now ∙ h)).0

  -- whoever is gone is lone
  pub gone_lone : has (topology w) a ≡ true → has (topology (with_kinds w f)) a ≡ false → is_lone (topology w) w.plan a ≡ true
  gone_lone there gone = by (is_lone (topology w) w.plan a) refl
    where
      by : (t : Bool) → is_lone (topology w) w.plan a ≡ t → is_lone (topology w) w.plan a ≡ true
      by true e = e
      by false e = absurd (true≢false (sym (has_now ∙ (λ i. there i && not (e i && not (is_other (a, f a))))) ∙ gone))

  pub gone_is : has (topology w) a ≡ true → not (has (topology (with_kinds w f)) a) ≡ (is_lone (topology w) w.plan a && not (is_other (a, f a)))
  gone_is there = ap not (has_now ∙ ap (λ t. t && not (is_lone (topology w) w.plan a && not (is_other (a, f a)))) there) ∙ twice (is_lone (topology w) w.plan a && not (is_other (a, f a)))
    where
      twice : (t : Bool) → not (not t) ≡ t
      twice true = refl
      twice false = refl

  -- who is no AS of a world has the plain kind
  pub plain_outside : has (topology w) a ≡ false → kind_at w a ≡ Plain
  plain_outside away = by (fin.get w.kinds a) (sym (occurs_keys w.kinds a) ∙ last (occurs a (announcers_of w.plan)) (occurs a (leakers w.plan)) (occurs a (fin.keys w.kinds)) (has (unmarked w.links) a) (sym (has_parts w) ∙ away))
    where
      last : (x y k e : Bool) → ((x || (y || k)) || e) ≡ false → k ≡ false
      last true y k e h = absurd (true≢false h)
      last false true k e h = absurd (true≢false h)
      last false false k true h = absurd (true≢false (sym (or_true k) ∙ h))
        where
          or_true : (k : Bool) → (k || true) ≡ true
          or_true true = refl
          or_true false = refl
      last false false true false h = absurd (true≢false h)
      last false false false false h = refl

      by : (o : Option Kind) → is_some o ≡ false → unwrap_or o Plain ≡ Plain
      by None e = refl
      by (Some k) e = absurd (true≢false e)

-- a book that is copied at the ASes of a world gives each the policy that it has in the world
pub copied_kinds : (w : World) (g : Topology) (book : PolicyBook Kind) (xs : List ℕ) → IsGraphOf w g → IsBookOf w book → ((a : ℕ) → occurs a xs ≡ has g a) → (a : ℕ) → (if occurs a xs then policy_at book a else Plain) ≡ kind_at w a
copied_kinds w g book xs is policies listed a = by (occurs a xs) refl
  where
    by : (t : Bool) → occurs a xs ≡ t → (if t then policy_at book a else Plain) ≡ kind_at w a
    by true e = policies a
    by false e = sym (plain_outside w (λ b. Plain) a (ap (λ (t : Topology). has t a) (sym is) ∙ sym (listed a) ∙ e))
