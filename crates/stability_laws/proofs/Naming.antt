-- Whom a plan names without one of its announcements.
use Rattle.std.proofs.Common.{◌≡◌, ℕ, ◌==◌, ◌&&◌, ◌||◌, not, Bool, true, false, cond, Some, None, List, [], ◌∷◌, map, refl, sym, ap, subst, ◌∙◌, slice_get}
use Rattle.std.proofs.lemmas.Bool.{and_from, and_parts, eq-eqb, eqb-true, not-true, or_left, or_right}
use Rattle.std.proofs.lemmas.List.Folds.{Any-from_list_any, list_any_at}
use Rattle.std.proofs.lemmas.Option.{get_or_from_slice_get, none-some, slice_get-get_or, slice_get_within}
use Rattle.std.specs.Cmp.{both_ways, nat_cmp_total, tied_itself}
use Rattle.std.specs.List.{list_any}
use Rattle.std.specs.Ordering.{eq_by_cmp, is_eq, nat_cmp}
use Rattle.std.specs.FinMap as fin
use Rattle.net_names.specs.Numbers.{occurs}
use Rattle.net_names.specs.Prefixes.{PrefixValue, prefix_cmp}
use Rattle.stability_laws.specs.declared.seed_plan.Announcement.{Announcement}
use Rattle.stability_laws.specs.Plans.{Plan, announced_path, announcement_cmp, announcers_of}
use Rattle.stability_laws.specs.PlanLists.{entry_of}
use Rattle.stability_laws.specs.SeedEdits.{without_announcement}
use Rattle.stability_laws.proofs.KeyLists.{eq_is}
use Rattle.stability_laws.proofs.PlanEdits.{AreAnnouncements, found, path_is}
use Rattle.stability_laws.proofs.PlanListings.{announcers_listed, then_tied}
use Rattle.net_names.specs.Orders.{announcement_total, exact_announcement}
use Rattle.stability_laws.proofs.PlanReads.{key}

-- it is an announcement of another prefix by the AS
abbrev pub is_another : PrefixValue → ℕ → Announcement → Bool
is_another prefix a x = (x.asn == a) && not (eq_by_cmp prefix_cmp x.prefix prefix)

-- of one AS, the announcements differ where the prefixes do
by_prefix : (q prefix : PrefixValue) (a : ℕ) → eq_by_cmp announcement_cmp (q, a) (prefix, a) ≡ eq_by_cmp prefix_cmp q prefix
by_prefix q prefix a = then_tied (prefix_cmp q prefix) (nat_cmp a a) ∙ ap (λ o. is_eq (prefix_cmp q prefix) && is_eq o) (tied_itself nat_cmp_total a) ∙ whole (is_eq (prefix_cmp q prefix))
  where
    whole : (b : Bool) → (b && true) ≡ b
    whole true = refl
    whole false = refl

module _ (plan : Plan) (prefix : PrefixValue) (a : ℕ) (xs : List Announcement) (l : AreAnnouncements plan xs) where
  abbrev Without : Plan
  Without = without_announcement plan prefix a

  -- what the AS announces then
  left : (q : PrefixValue) → announced_path Without q a ≡ cond (eq_by_cmp prefix_cmp q prefix) None (announced_path plan q a)
  left q = fin.get-remove announcement_total plan.announced (prefix, a) (q, a) ∙ ap (λ b. cond b None (announced_path plan q a)) (by_prefix q prefix a)

  there : list_any (is_another prefix a) xs ≡ true → occurs a (announcers_of Without) ≡ true
  there h =
      let (i, x, within, is, other) = Any-from_list_any (is_another prefix a) xs h in
      let (own, apart) = and_parts (x.asn == a) (not (eq_by_cmp prefix_cmp x.prefix prefix)) other in
      let at : slice_get xs i ≡ Some x = slice_get-get_or xs i x within ∙ ap (λ y. Some y) is in
      let path : announced_path plan x.prefix a ≡ Some x.path = subst (λ b. announced_path plan x.prefix b ≡ Some x.path) (eqb-true x.asn a own) (path_is plan prefix a xs l i x at) in
      let is_left : announced_path Without x.prefix a ≡ Some x.path = left x.prefix ∙ ap (λ b. cond b None (announced_path plan x.prefix a)) (not-true (eq_by_cmp prefix_cmp x.prefix prefix) apart) ∙ path in
      let stands = (announcers_listed Without).whole a (record { prefix = x.prefix; path = x.path; announced = is_left }) in
      list_any_at (λ y. y == a) (announcers_of Without) stands.0 a (slice_get_within (announcers_of Without) stands.0 a stands.1) (eq-eqb _ a (get_or_from_slice_get (announcers_of Without) stands.0 a a stands.1))

  another : (q : PrefixValue) (path : List ℕ) → eq_by_cmp prefix_cmp q prefix ≡ false → (ys : List Announcement) → fin.find announcement_cmp (q, a) (map entry_of ys) ≡ Some path → list_any (is_another prefix a) ys ≡ true
  another q path apart [] h = absurd (none-some path h)
  another q path apart (y ∷ ys) h = by (eq_by_cmp announcement_cmp (q, a) (key y)) refl (another q path apart ys) h
    where
      by : (b : Bool) → eq_by_cmp announcement_cmp (q, a) (key y) ≡ b → (fin.find announcement_cmp (q, a) (map entry_of ys) ≡ Some path → list_any (is_another prefix a) ys ≡ true)
          → cond b (Some y.path) (fin.find announcement_cmp (q, a) (map entry_of ys)) ≡ Some path → list_any (is_another prefix a) (y ∷ ys) ≡ true
      by true e rest h =
          or_left (is_another prefix a y) _
          (subst (λ (k : PrefixValue × ℕ). ((k.1 == a) && not (eq_by_cmp prefix_cmp k.0 prefix)) ≡ true) (eq_is announcement_total exact_announcement (q, a) (key y) e) (and_from (a == a) _ (eq-eqb a a refl) (ap not apart)))
      by false e rest h = or_right (is_another prefix a y) _ (rest h)

  back : occurs a (announcers_of Without) ≡ true → list_any (is_another prefix a) xs ≡ true
  back h =
      let (i, x, within, is, own) = Any-from_list_any (λ y. y == a) (announcers_of Without) h in
      let who = (announcers_listed Without).only i a (slice_get-get_or (announcers_of Without) i x within ∙ ap (λ y. Some y) (is ∙ eqb-true x a own)) in
      by who.prefix who.path (eq_by_cmp prefix_cmp who.prefix prefix) refl (sym (left who.prefix) ∙ who.announced)
    where
      by : (q : PrefixValue) (path : List ℕ) (b : Bool) → eq_by_cmp prefix_cmp q prefix ≡ b → cond b None (announced_path plan q a) ≡ Some path → list_any (is_another prefix a) xs ≡ true
      by q path true e is = absurd (none-some path is)
      by q path false e is = another q path e xs (sym (found plan prefix a xs l (q, a)) ∙ is)

  -- without the announcement of a prefix, the AS announces something where it announces another prefix
  pub names_another : list_any (is_another prefix a) xs ≡ occurs a (announcers_of Without)
  names_another = both_ways _ _ there back
