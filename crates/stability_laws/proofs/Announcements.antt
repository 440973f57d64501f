-- What one announcement more, or one leaker more, makes of a plan.
use Rattle.std.proofs.Common.{◌≡◌, ℕ, ◌≤◌, Bool, true, false, cond, IsTrue, is_some, List, [], ◌∷◌, map, length, refl, sym, ap, subst, ◌∙◌, arith, Option, Some, slice_get}
use Rattle.std.proofs.lemmas.Bool.{true≢false}
use Rattle.std.proofs.lemmas.Option.{none-some, same_Some}
use Rattle.std.specs.declared.cmp.Ordering.{Ordering}
use Rattle.std.specs.declared.cmp.Ordering.TheVariants.{Less, Equal, Greater}
use Rattle.std.specs.Ordering.{nat_cmp, eq_by_cmp}
use Rattle.std.specs.Cmp.{nat_cmp_total}
use Rattle.std.specs.FinMap as fin
use Rattle.net_names.specs.Prefixes.{PrefixValue, prefix_cmp}
use Rattle.net_names.specs.Links.{pair_cmp}
use Rattle.net_names.proofs.Pairs.{exact_pair, pairs_total}
use Rattle.stability_laws.specs.Plans.{announcement_cmp, Plan, announced_path, has_prefix, announcer_of, with_announcement, with_leaker, empty_plan, IsSound}
use Rattle.stability_laws.specs.PlanLists.{announcing_set}
use Rattle.net_names.specs.Orders.{prefix_total, exact_prefix, announcement_total, exact_announcement}
use Rattle.stability_laws.proofs.KeyLists.{eq_is, eq_same}

twice : (b : Bool) (x y : Option (Unit {0})) → cond b x y ≡ cond b x (cond b x y)
twice true x y = refl
twice false x y = refl

in_turn : (a b : Bool) (x y : Option (Unit {0})) → cond a x (cond b x y) ≡ cond b x (cond a x y)
in_turn true true x y = refl
in_turn true false x y = refl
in_turn false b x y = refl

-- the ASes of the entries
abbrev pub by_as : List ((PrefixValue × ℕ) × List ℕ) → List (ℕ × Unit {0})
by_as es = map (λ x. (x.1, tt)) (map (λ e. e.0) es)

find_put : (q : ℕ) (k : PrefixValue × ℕ) (v : List ℕ) (es : List ((PrefixValue × ℕ) × List ℕ))
    → fin.find nat_cmp q (by_as (fin.put announcement_cmp k v es)) ≡ cond (eq_by_cmp nat_cmp q k.1) (Some tt) (fin.find nat_cmp q (by_as es))
find_put q k v [] = refl
find_put q k v (e ∷ es) = by (announcement_cmp k e.0) refl (find_put q k v es)
  where
    rest : Option (Unit {0})
    rest = fin.find nat_cmp q (by_as es)

    by : (r : Ordering) → announcement_cmp k e.0 ≡ r → fin.find nat_cmp q (by_as (fin.put announcement_cmp k v es)) ≡ cond (eq_by_cmp nat_cmp q k.1) (Some tt) (fin.find nat_cmp q (by_as es))
        → fin.find nat_cmp q (by_as (fin.Entries.by_order r ((k, v) ∷ e ∷ es) ((e.0, v) ∷ es) (e ∷ fin.put announcement_cmp k v es)))
        ≡ cond (eq_by_cmp nat_cmp q k.1) (Some tt) (cond (eq_by_cmp nat_cmp q e.0.1) (Some tt) (fin.find nat_cmp q (by_as es)))
    by Less t here = refl
    by Equal t here =
        let same : k.1 ≡ e.0.1 = ap (λ (x : PrefixValue × ℕ). x.1) (exact_announcement k e.0 t) in
        twice (eq_by_cmp nat_cmp q e.0.1) (Some tt) (fin.find nat_cmp q (by_as es))
        ∙ ap (λ (a : ℕ). cond (eq_by_cmp nat_cmp q a) (Some tt) (cond (eq_by_cmp nat_cmp q e.0.1) (Some tt) (fin.find nat_cmp q (by_as es)))) (sym same)
    by Greater t here =
        ap (cond (eq_by_cmp nat_cmp q e.0.1) (Some tt)) here
        ∙ in_turn (eq_by_cmp nat_cmp q e.0.1) (eq_by_cmp nat_cmp q k.1) (Some tt) (fin.find nat_cmp q (by_as es))

pub get-announcing_set : (plan : Plan) (q : ℕ) → fin.get (announcing_set plan) q ≡ fin.find nat_cmp q (by_as (fin.entries plan.announced))
get-announcing_set plan q = fin.get-from_entries nat_cmp_total (by_as (fin.entries plan.announced)) q

-- who announced before still does, and so does the first AS of the path
pub announcing_set-with_announcement : (plan : Plan) (prefix : PrefixValue) (path : List ℕ) → announcing_set (with_announcement plan prefix path) ≡ fin.insert (announcing_set plan) (announcer_of path) tt
announcing_set-with_announcement plan prefix path = fin.same_map nat_cmp_total fin.nat_cmp-IsAntisymmetric _ _ (λ q.
    get-announcing_set (with_announcement plan prefix path) q
    ∙ ap (λ es. fin.find nat_cmp q (by_as es)) (fin.entries-insert announcement_total plan.announced (prefix, announcer_of path) path)
    ∙ find_put q (prefix, announcer_of path) path (fin.entries plan.announced)
    ∙ sym (fin.get-insert nat_cmp_total (announcing_set plan) (announcer_of path) tt q ∙ ap (cond (eq_by_cmp nat_cmp q (announcer_of path)) (Some tt)) (get-announcing_set plan q)))

-- nobody announces anything in the empty plan
pub announcing_set-empty_plan : announcing_set empty_plan ≡ fin.empty
announcing_set-empty_plan = ap (λ es. fin.from_entries {R = nat_cmp} (by_as es)) (no_entries _ (sym (fin.len-entries (fin.empty {R = announcement_cmp})) ∙ fin.len-empty announcement_cmp (List ℕ)))
  where
    no_entries : (es : List ((PrefixValue × ℕ) × List ℕ)) → length es ≡ 0 → es ≡ []
    no_entries [] e = refl
    no_entries (x ∷ xs) e = absurd (omega (arith, e))

pub sound_empty_plan : IsSound empty_plan
sound_empty_plan =
    let none : (prefix : PrefixValue) (a : ℕ) (path : List ℕ) → announced_path empty_plan prefix a ≡ Some path → ⊥ = λ prefix a path is. none-some path (sym (fin.get-empty announcement_cmp (prefix, a)) ∙ is) in
    record {
      starts = λ prefix a path is. absurd (none prefix a path is);
      short = λ prefix a path is. absurd (none prefix a path is);
      known = λ prefix a path is. absurd (none prefix a path is);
      later = λ round a is. absurd (true≢false (sym is ∙ ap is_some (fin.get-empty pair_cmp (round, a))));
    }

-- what is in a set is in the set with one key more, and that key is
has_more : (b : Bool) (o : Option (Unit {0})) → is_some o ≡ true → is_some (cond b (Some tt) o) ≡ true
has_more true o h = refl
has_more false o h = h

module _ (plan : Plan) (sound : IsSound plan) where
  module _ (prefix : PrefixValue) (path : List ℕ) (some : 1 ≤ length path) (short : length path ≤ 4294967294) where
    abbrev after : Plan
    after = with_announcement plan prefix path

    -- what holds of the new path and of the older ones
    each : (Q : PrefixValue → ℕ → List ℕ → Type 0) → Q prefix (announcer_of path) path → ((p : PrefixValue) (a : ℕ) (xs : List ℕ) → announced_path plan p a ≡ Some xs → Q p a xs)
        → (p : PrefixValue) (a : ℕ) (xs : List ℕ) → announced_path after p a ≡ Some xs → Q p a xs
    each Q new old p a xs is = by (eq_by_cmp announcement_cmp (p, a) (prefix, announcer_of path)) refl (sym (fin.get-insert announcement_total plan.announced (prefix, announcer_of path) path (p, a)) ∙ is)
      where
        by : (b : Bool) → eq_by_cmp announcement_cmp (p, a) (prefix, announcer_of path) ≡ b → cond b (Some path) (announced_path plan p a) ≡ Some xs → Q p a xs
        by true t e =
            let same = eq_is announcement_total exact_announcement (p, a) (prefix, announcer_of path) t in
            let at : Q p a path = subst (λ (k : PrefixValue × ℕ). Q k.0 k.1 path) (sym same) new in
            subst (λ (ys : List ℕ). Q p a ys) (same_Some path xs e) at
        by false t e = old p a xs e

    first_is : (xs : List ℕ) → 1 ≤ length xs → slice_get xs 0 ≡ Some (announcer_of xs)
    first_is [] h = absurd (omega (arith, h))
    first_is (x ∷ xs) h = refl

    still : (p : PrefixValue) → IsTrue (has_prefix plan p) → IsTrue (has_prefix after p)
    still p h = ap is_some (fin.get-insert prefix_total plan.prefixes prefix tt p) ∙ has_more (eq_by_cmp prefix_cmp p prefix) (fin.get plan.prefixes p) h

    pub sound_with_announcement : IsSound after
    sound_with_announcement = record {
      starts = each (λ p a xs. slice_get xs 0 ≡ Some a) (first_is path some) sound.starts;
      short = each (λ p a xs. length xs ≤ 4294967294) short sound.short;
      known = each (λ p a xs. IsTrue (has_prefix after p))
          (ap is_some (fin.get-insert prefix_total plan.prefixes prefix tt prefix) ∙ ap (λ b. is_some (cond b (Some tt) (fin.get plan.prefixes prefix))) (eq_same prefix_total exact_prefix prefix prefix refl))
          (λ p a xs is. still p (sound.known p a xs is));
      later = sound.later;
    }

  module _ (round a : ℕ) (late : 2 ≤ round) where
    pub sound_with_leaker : IsSound (with_leaker plan round a)
    sound_with_leaker = record {
      starts = sound.starts;
      short = sound.short;
      known = sound.known;
      later = λ r x is. by r x (eq_by_cmp pair_cmp (r, x) (round, a)) refl (sym (ap is_some (fin.get-insert pairs_total plan.leakers (round, a) tt (r, x))) ∙ is);
    }
      where
        by : (r x : ℕ) (b : Bool) → eq_by_cmp pair_cmp (r, x) (round, a) ≡ b → is_some (cond b (Some tt) (fin.get plan.leakers (r, x))) ≡ true → 2 ≤ r
        by r x true t is = subst (λ (k : ℕ × ℕ). 2 ≤ k.0) (sym (eq_is pairs_total exact_pair (r, x) (round, a) t)) late
        by r x false t is = sound.later r x is
