-- A plan without its announcements, and with all of them but one.
use Rattle.std.proofs.Common.{◌≡◌, ℕ, zero, suc, ◌+◌, ◌<◌, ◌≤◌, Bool, true, false, cond, is_some, T, Option, Some, None, List, [], ◌∷◌, ◌++◌, map, take, length, get_or, refl, sym, ap, subst, ◌∙◌, arith, slice_get}
use Rattle.std.proofs.lemmas.Bool.{true≢false}
use Rattle.std.proofs.lemmas.Option.{none-some, same_Some, slice_get_within, get_or_from_slice_get}
use Rattle.std.proofs.lemmas.List.{take_more, map-append}
use Rattle.std.specs.declared.cmp.Ordering.TheVariants.{Less}
use Rattle.std.specs.Ordering.{eq_by_cmp, is_eq}
use Rattle.std.specs.FinMap as fin
use Rattle.std.specs.FinMap.Entries.{find-append}
use Rattle.net_names.specs.Prefixes.{PrefixValue, prefix_cmp}
use Rattle.net_names.specs.Links.{pair_cmp}
use Rattle.stability_laws.specs.declared.seed_plan.Announcement.{Announcement}
use Rattle.stability_laws.specs.Plans.{announcement_cmp, Plan, announced_path, announces, announcer_of, with_announcement, IsSound}
use Rattle.stability_laws.specs.PlanLists.{set_of, entry_of, plan_of, ArePlan}
use Rattle.stability_laws.specs.SeedEdits.{silent, without_announcement}
use Rattle.net_names.specs.Orders.{prefix_total, exact_prefix, announcement_total, exact_announcement}
use Rattle.stability_laws.proofs.KeyLists.{left, right, is_less, eq_is, eq_same, insert_there}
use Rattle.stability_laws.proofs.PlanReads.{key, plan_of_none, none_are_plan, sound_plan, first_is}

abbrev entries_in : List Announcement → List ((PrefixValue × ℕ) × List ℕ)
entries_in = map entry_of

no_announcement : fin.from_sorted {R = announcement_cmp} (entries_in []) ≡ fin.empty
no_announcement = ap (λ (p : Plan). p.announced) plan_of_none

module _ (prefixes : List PrefixValue) (announced : List Announcement) (announcers : List ℕ) (leakers : List (ℕ × ℕ)) (leaking : List ℕ) (w : ArePlan prefixes announced announcers leakers leaking) where
  pub silent_is : (plan : Plan) → plan_of prefixes announced leakers ≡ plan → plan_of prefixes [] leakers ≡ silent plan
  silent_is plan v = (λ i. record { prefixes = set_of prefix_cmp prefixes; announced = no_announcement i; leakers = set_of pair_cmp leakers }) ∙ ap silent v

  none_announced : (prefix : PrefixValue) (a : ℕ) (path : List ℕ) → announced_path (plan_of prefixes [] leakers) prefix a ≡ Some path → ⊥
  none_announced prefix a path is = none-some path (sym (fin.get-empty announcement_cmp (prefix, a)) ∙ sym (ap (λ m. fin.get m (prefix, a)) no_announcement) ∙ is)

  pub silent_are : ArePlan prefixes [] [] leakers leaking
  silent_are = record {
    prefixes_rise = w.prefixes_rise;
    announced_rise = tt;
    announcers_rise = tt;
    leakers_rise = w.leakers_rise;
    announcers_are = none_are_plan.announcers_are;
    leaking_are = w.leaking_are;
    sound = record {
      starts = λ prefix a path is. absurd (none_announced prefix a path is);
      short = λ prefix a path is. absurd (none_announced prefix a path is);
      known = λ prefix a path is. absurd (none_announced prefix a path is);
      later = w.sound.later;
    };
  }

below_later : (k : PrefixValue × ℕ) (xs : List Announcement) (i : ℕ) (x : Announcement) → T (fin.Entries.below_all announcement_cmp k (entries_in xs)) → slice_get xs i ≡ Some x → announcement_cmp k (key x) ≡ Less
below_later k [] i x h at = absurd (none-some x at)
below_later k (y ∷ ys) zero x h at = subst (λ (z : Announcement). announcement_cmp k (key z) ≡ Less) (same_Some y x at) (is_less (announcement_cmp k (key y)) (left _ _ h))
below_later k (y ∷ ys) (suc i) x h at = below_later k ys i x (right _ _ h) at

apart : (k q : PrefixValue × ℕ) → announcement_cmp k q ≡ Less → eq_by_cmp announcement_cmp q k ≡ false
apart k q less = by (eq_by_cmp announcement_cmp q k) refl
  where
    by : (b : Bool) → eq_by_cmp announcement_cmp q k ≡ b → b ≡ false
    by false e = refl
    by true e = sym (eq_same announcement_total exact_announcement k q (sym (eq_is announcement_total exact_announcement q k e))) ∙ ap is_eq less

-- no earlier announcement is of the same prefix by the same AS
early : (xs : List Announcement) → T (fin.is_sorted announcement_cmp (entries_in xs)) → (i : ℕ) (x : Announcement) → slice_get xs i ≡ Some x → fin.find announcement_cmp (key x) (entries_in (take i xs)) ≡ None
early [] h i x at = absurd (none-some x at)
early (y ∷ ys) h zero x at = refl
early (y ∷ ys) h (suc i) x at = ap (λ b. cond b (Some y.path) (fin.find announcement_cmp (key x) (entries_in (take i ys)))) (apart (key y) (key x) (below_later (key y) ys i x (left _ _ h) at)) ∙ early ys (right _ _ h) i x at

here : (xs : List Announcement) → T (fin.is_sorted announcement_cmp (entries_in xs)) → (i : ℕ) (x : Announcement) → slice_get xs i ≡ Some x → fin.find announcement_cmp (key x) (entries_in xs) ≡ Some x.path
here [] h i x at = absurd (none-some x at)
here (y ∷ ys) h zero x at =
    let same : y ≡ x = same_Some y x at in
    subst (λ (z : Announcement). fin.find announcement_cmp (key z) (entries_in (y ∷ ys)) ≡ Some z.path) same
    (ap (λ b. cond b (Some y.path) (fin.find announcement_cmp (key y) (entries_in ys))) (eq_same announcement_total exact_announcement (key y) (key y) refl))
here (y ∷ ys) h (suc i) x at = ap (λ b. cond b (Some y.path) (fin.find announcement_cmp (key x) (entries_in ys))) (apart (key y) (key x) (below_later (key y) ys i x (left _ _ h) at)) ∙ here ys (right _ _ h) i x at

next : (xs : List Announcement) (i : ℕ) (x : Announcement) → slice_get xs i ≡ Some x → entries_in (take (i + 1) xs) ≡ entries_in (take i xs) ++ entry_of x ∷ []
next xs i x at =
    ap entries_in (take_more xs i x (slice_get_within xs i x at) ∙ ap (λ y. take i xs ++ y ∷ []) (get_or_from_slice_get xs i x x at))
    ∙ map-append entry_of (take i xs) (x ∷ [])

there : (o : Option (Unit {0})) → is_some o ≡ true → o ≡ Some tt
there None e = absurd (true≢false (sym e))
there (Some tt) e = refl

-- the list has the announcements of the plan, in their order
pub record AreAnnouncements (plan : Plan) (xs : List Announcement) : Type 0 where
  pub sound : IsSound plan
  pub rise : T (fin.is_sorted announcement_cmp (entries_in xs))
  pub are : fin.from_sorted (entries_in xs) ≡ plan.announced

pub announcements_are : (prefixes : List PrefixValue) (announced : List Announcement) (announcers : List ℕ) (leakers : List (ℕ × ℕ)) (leaking : List ℕ) → ArePlan prefixes announced announcers leakers leaking → (plan : Plan) → plan_of prefixes announced leakers ≡ plan
    → (xs : List Announcement) → xs ≡ announced → AreAnnouncements plan xs
announcements_are prefixes announced announcers leakers leaking w plan v xs e = record {
  sound = sound_plan prefixes announced announcers leakers leaking w plan v;
  rise = subst (λ (ys : List Announcement). T (fin.is_sorted announcement_cmp (entries_in ys))) (sym e) w.announced_rise;
  are = ap (λ (ys : List Announcement). fin.from_sorted {R = announcement_cmp} (entries_in ys)) e ∙ ap (λ (p : Plan). p.announced) v;
}

-- the announcements so far are again there, but for that of the prefix by the AS
pub record IsAgain (plan so_far : Plan) (prefix : PrefixValue) (a : ℕ) (xs : List Announcement) (i : ℕ) : Type 0 where
  pub prefixes : so_far.prefixes ≡ plan.prefixes
  pub leakers : so_far.leakers ≡ plan.leakers
  pub announced : (q : PrefixValue × ℕ) → fin.get so_far.announced q ≡ cond (eq_by_cmp announcement_cmp q (prefix, a)) None (fin.find announcement_cmp q (entries_in (take i xs)))

module _ (plan : Plan) (prefix : PrefixValue) (a : ℕ) (xs : List Announcement) (l : AreAnnouncements plan xs) where
  pub again_none : (so_far : Plan) → so_far ≡ silent plan → IsAgain plan so_far prefix a xs 0
  again_none so_far e = subst (λ p. IsAgain plan p prefix a xs 0) (sym e) (record { prefixes = refl; leakers = refl; announced = λ q. fin.get-empty announcement_cmp q ∙ by (eq_by_cmp announcement_cmp q (prefix, a)) })
    where
      by : (b : Bool) → ◌≡◌ {A = Option (List ℕ)} None (cond b None None)
      by true = refl
      by false = refl

  pub found : (q : PrefixValue × ℕ) → fin.get plan.announced q ≡ fin.find announcement_cmp q (entries_in xs)
  found q = sym (ap (λ m. fin.get m q) l.are) ∙ fin.get-from_sorted announcement_cmp (entries_in xs) q l.rise

  -- all of them
  pub again_all : (so_far : Plan) → IsAgain plan so_far prefix a xs (length xs) → take (length xs) xs ≡ xs → so_far ≡ without_announcement plan prefix a
  again_all so_far h whole =
      let same : so_far.announced ≡ fin.remove plan.announced (prefix, a) = fin.same_map announcement_total exact_announcement _ _ (λ q.
      h.announced q ∙ ap (λ ys. cond (eq_by_cmp announcement_cmp q (prefix, a)) None (fin.find announcement_cmp q (entries_in ys))) whole
      ∙ sym (fin.get-remove announcement_total plan.announced (prefix, a) q ∙ ap (cond (eq_by_cmp announcement_cmp q (prefix, a)) None) (found q))) in
      λ i. record { prefixes = h.prefixes i; announced = same i; leakers = h.leakers i }

  module _ (i : ℕ) (x : Announcement) (at : slice_get xs i ≡ Some x) where
    pub path_is : announced_path plan x.prefix x.asn ≡ Some x.path
    path_is = found (key x) ∙ here xs l.rise i x at

    pub some : 1 ≤ length x.path
    some = (let inside : 0 < length x.path = slice_get_within x.path 0 x.asn (l.sound.starts x.prefix x.asn x.path path_is) in omega arith)

    pub short : length x.path ≤ 4294967294
    short = l.sound.short x.prefix x.asn x.path path_is

    first : announcer_of x.path ≡ x.asn
    first = by x.path (l.sound.starts x.prefix x.asn x.path path_is)
      where
        by : (path : List ℕ) → slice_get path 0 ≡ Some x.asn → announcer_of path ≡ x.asn
        by [] e = absurd (none-some x.asn e)
        by (n ∷ ns) e = same_Some n x.asn e

    module _ (so_far : Plan) (h : IsAgain plan so_far prefix a xs i) where
      not_yet : announced_path so_far x.prefix x.asn ≡ None
      not_yet = h.announced (key x) ∙ ap (cond (eq_by_cmp announcement_cmp (key x) (prefix, a)) None) (early xs l.rise i x at) ∙ by (eq_by_cmp announcement_cmp (key x) (prefix, a))
        where
          by : (b : Bool) → ◌≡◌ {A = Option (List ℕ)} (cond b None None) None
          by true = refl
          by false = refl

      pub new : announces so_far x.prefix (announcer_of x.path) ≡ false
      new = ap (announces so_far x.prefix) first ∙ ap is_some not_yet

      found_next : (q : PrefixValue × ℕ) → fin.find announcement_cmp q (entries_in (take (i + 1) xs)) ≡ cond (eq_by_cmp announcement_cmp q (key x)) (Some x.path) (fin.find announcement_cmp q (entries_in (take i xs)))
      found_next q = ap (fin.find announcement_cmp q) (next xs i x at) ∙ find-append announcement_cmp announcement_total (entries_in (take i xs)) (key x) x.path q (early xs l.rise i x at)

      skipped : (q : PrefixValue × ℕ) (b c : Bool) → eq_by_cmp announcement_cmp (key x) (prefix, a) ≡ true → eq_by_cmp announcement_cmp q (prefix, a) ≡ b → eq_by_cmp announcement_cmp q (key x) ≡ c
          → cond b None (fin.find announcement_cmp q (entries_in (take i xs))) ≡ cond b None (cond c (Some x.path) (fin.find announcement_cmp q (entries_in (take i xs))))
      skipped q true c same e f = refl
      skipped q false false same e f = refl
      skipped q false true same e f =
          let one : q ≡ (prefix, a) = eq_is announcement_total exact_announcement q (key x) f ∙ eq_is announcement_total exact_announcement (key x) (prefix, a) same in
          absurd (true≢false (sym (eq_same announcement_total exact_announcement q (prefix, a) one) ∙ e))

      put : (q : PrefixValue × ℕ) (b c : Bool) → eq_by_cmp announcement_cmp (key x) (prefix, a) ≡ false → eq_by_cmp announcement_cmp q (prefix, a) ≡ b → eq_by_cmp announcement_cmp q (key x) ≡ c
          → cond c (Some x.path) (cond b None (fin.find announcement_cmp q (entries_in (take i xs)))) ≡ cond b None (cond c (Some x.path) (fin.find announcement_cmp q (entries_in (take i xs))))
      put q false c other e f = refl
      put q true false other e f = refl
      put q true true other e f =
          let one : key x ≡ (prefix, a) = sym (eq_is announcement_total exact_announcement q (key x) f) ∙ eq_is announcement_total exact_announcement q (prefix, a) e in
          absurd (true≢false (sym (eq_same announcement_total exact_announcement (key x) (prefix, a) one) ∙ other))

      pub again_more : (next_plan : Plan) → next_plan ≡ cond (eq_by_cmp announcement_cmp (key x) (prefix, a)) so_far (with_announcement so_far x.prefix x.path) → IsAgain plan next_plan prefix a xs (i + 1)
      again_more next_plan e = by (eq_by_cmp announcement_cmp (key x) (prefix, a)) refl e
        where
          by : (b : Bool) → eq_by_cmp announcement_cmp (key x) (prefix, a) ≡ b → next_plan ≡ cond b so_far (with_announcement so_far x.prefix x.path) → IsAgain plan next_plan prefix a xs (i + 1)
          by true t e = subst (λ p. IsAgain plan p prefix a xs (i + 1)) (sym e) (record {
            prefixes = h.prefixes;
            leakers = h.leakers;
            announced = λ q. h.announced q ∙ skipped q (eq_by_cmp announcement_cmp q (prefix, a)) (eq_by_cmp announcement_cmp q (key x)) t refl refl ∙ sym (ap (cond (eq_by_cmp announcement_cmp q (prefix, a)) None) (found_next q));
          })
          by false t e = subst (λ p. IsAgain plan p prefix a xs (i + 1)) (sym e) (record {
            prefixes = insert_there prefix_total exact_prefix so_far.prefixes x.prefix (ap (λ s. fin.get s x.prefix) h.prefixes ∙ there (fin.get plan.prefixes x.prefix) (l.sound.known x.prefix x.asn x.path path_is)) ∙ h.prefixes;
            leakers = h.leakers;
            announced = λ q.
                ap (λ n. fin.get (fin.insert so_far.announced (x.prefix, n) x.path) q) first
                ∙ fin.get-insert announcement_total so_far.announced (key x) x.path q
                ∙ ap (cond (eq_by_cmp announcement_cmp q (key x)) (Some x.path)) (h.announced q)
                ∙ put q (eq_by_cmp announcement_cmp q (prefix, a)) (eq_by_cmp announcement_cmp q (key x)) t refl refl
                ∙ sym (ap (cond (eq_by_cmp announcement_cmp q (prefix, a)) None) (found_next q));
          })

-- who announces something else first takes back what it announced before
module _ (plan : Plan) (prefix : PrefixValue) (path : List ℕ) where
  pub not_without : announces (without_announcement plan prefix (announcer_of path)) prefix (announcer_of path) ≡ false
  not_without =
      ap is_some (fin.get-remove announcement_total plan.announced (prefix, announcer_of path) (prefix, announcer_of path)
      ∙ ap (λ b. cond b None (announced_path plan prefix (announcer_of path))) (eq_same announcement_total exact_announcement (prefix, announcer_of path) (prefix, announcer_of path) refl))

  pub announced_anew : with_announcement (without_announcement plan prefix (announcer_of path)) prefix path ≡ with_announcement plan prefix path
  announced_anew =
      let k : PrefixValue × ℕ = (prefix, announcer_of path) in
      let same : fin.insert (fin.remove plan.announced k) k path ≡ fin.insert plan.announced k path = fin.same_map announcement_total exact_announcement _ _ (λ q.
      fin.get-insert announcement_total (fin.remove plan.announced k) k path q
      ∙ ap (cond (eq_by_cmp announcement_cmp q k) (Some path)) (fin.get-remove announcement_total plan.announced k q)
      ∙ by (eq_by_cmp announcement_cmp q k) (fin.get plan.announced q)
      ∙ sym (fin.get-insert announcement_total plan.announced k path q)) in
      λ i. record { prefixes = fin.insert plan.prefixes prefix tt; announced = same i; leakers = plan.leakers }
    where
      by : (b : Bool) (o : Option (List ℕ)) → cond b (Some path) (cond b None o) ≡ cond b (Some path) o
      by true o = refl
      by false o = refl

pub announcer_is : (path numbers : List ℕ) (a : ℕ) → 1 ≤ length path → numbers ≡ path → a ≡ get_or numbers 0 a → a ≡ announcer_of path
announcer_is path numbers a some e is = first_is path a some (subst (λ (xs : List ℕ). a ≡ get_or xs 0 a) e is)
