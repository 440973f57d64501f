-- What lists in rising order say of the plan that they make, and what a change of them makes of it.
use Rattle.std.proofs.Common.{◌≡◌, ℕ, ◌≤◌, false, is_some, List, [], ◌∷◌, map, length, get_or, sym, ap, subst, ◌∙◌, arith, Some, None, Result, Ok, Err, slice_get}
use Rattle.std.specs.Prelude.{is_ok}
use Rattle.std.proofs.lemmas.Bool.{true≢false}
use Rattle.std.proofs.lemmas.List.{length-map}
use Rattle.std.specs.List.{insert}
use Rattle.std.specs.List.Sorted.{IsSearchInRange, IsBinarySearchResult}
use Rattle.std.specs.Ordering.{nat_cmp}
use Rattle.std.specs.FinMap as fin
use Rattle.net_names.proofs.Rising as rising
use Rattle.net_names.specs.Prefixes.{PrefixValue, prefix_cmp}
use Rattle.net_names.specs.Links.{pair_cmp}
use Rattle.stability_laws.specs.declared.seed_plan.Announcement.{Announcement}
use Rattle.stability_laws.specs.Plans.{announcement_cmp, Plan, announced_path, announces, announcer_of, with_announcement, with_leaker, prefixes_of, announcers_of, in_round, leakers_of, empty_plan, IsSound}
use Rattle.stability_laws.specs.PlanLists.{set_of, announcing_set, IsRising, entry_of, plan_of, ArePlan}
use Rattle.net_names.specs.Orders.{announcement_total, exact_announcement}
use Rattle.stability_laws.proofs.KeyLists.{set_of_none, keys_set_of}
use Rattle.stability_laws.proofs.Announcements.{announcing_set-with_announcement, announcing_set-empty_plan, sound_empty_plan, sound_with_announcement, sound_with_leaker}

abbrev pub key : Announcement → PrefixValue × ℕ
key x = (x.prefix, x.asn)

abbrev path_of : Announcement → List ℕ
path_of x = x.path

-- the lists without elements
pub plan_of_none : plan_of [] [] [] ≡ empty_plan
plan_of_none = λ i. record {
  prefixes = set_of_none prefix_cmp i;
  announced = fin.empty_of_len (fin.from_sorted {R = announcement_cmp} (map entry_of [])) (fin.len-entries _ ∙ ap (λ (es : List ((PrefixValue × ℕ) × List ℕ)). length es) (fin.entries-from_sorted announcement_cmp (map entry_of []) tt)) i;
  leakers = set_of_none pair_cmp i;
}

pub none_are_plan : ArePlan [] [] [] [] []
none_are_plan = record {
  prefixes_rise = tt;
  announced_rise = tt;
  announcers_rise = tt;
  leakers_rise = tt;
  leaking_are = λ i. [];
  announcers_are = set_of_none nat_cmp ∙ sym (ap announcing_set plan_of_none ∙ announcing_set-empty_plan);
  sound = subst IsSound (sym plan_of_none) sound_empty_plan;
}

pub first_is : (xs : List ℕ) (a : ℕ) → 1 ≤ length xs → a ≡ get_or xs 0 a → a ≡ announcer_of xs
first_is [] a some e = absurd (omega (arith, some))
first_is (x ∷ xs) a some e = e

module _ (prefixes : List PrefixValue) (announced : List Announcement) (announcers : List ℕ) (leakers : List (ℕ × ℕ)) (leaking : List ℕ) (w : ArePlan prefixes announced announcers leakers leaking) (plan : Plan) (v : plan_of prefixes announced leakers ≡ plan) where
  pub sound_plan : IsSound plan
  sound_plan = subst IsSound v w.sound

  pub prefix_at_place : (i : ℕ) → slice_get prefixes i ≡ slice_get (prefixes_of plan) i
  prefix_at_place i = ap (λ ks. slice_get ks i) (sym (keys_set_of prefix_cmp prefixes w.prefixes_rise)) ∙ ap (λ (p : Plan). slice_get (prefixes_of p) i) v

  pub prefixes_are : prefixes ≡ prefixes_of plan
  prefixes_are = sym (keys_set_of prefix_cmp prefixes w.prefixes_rise) ∙ ap prefixes_of v

  -- as many as stand in the list
  pub announcement_count : length announced ≡ fin.len plan.announced
  announcement_count =
      sym (length-map announced entry_of) ∙ ap (λ (es : List ((PrefixValue × ℕ) × List ℕ)). length es) (sym (fin.entries-from_sorted announcement_cmp (map entry_of announced) w.announced_rise))
      ∙ sym (fin.len-entries (fin.from_sorted (map entry_of announced))) ∙ ap (λ (p : Plan). fin.len p.announced) v

  pub announcers_are : announcers ≡ announcers_of plan
  announcers_are = sym (keys_set_of nat_cmp announcers w.announcers_rise) ∙ (ap (λ m. fin.keys m) w.announcers_are ∙ ap announcers_of v)

  pub announcer_at_place : (i : ℕ) → slice_get announcers i ≡ slice_get (announcers_of plan) i
  announcer_at_place i = ap (λ ks. slice_get ks i) (sym (keys_set_of nat_cmp announcers w.announcers_rise)) ∙ (ap (λ m. slice_get (fin.keys m) i) w.announcers_are ∙ ap (λ (p : Plan). slice_get (announcers_of p) i) v)

  pub leakers_are : (round : ℕ) → in_round round leakers ≡ leakers_of plan round
  leakers_are round = ap (in_round round) (sym (keys_set_of pair_cmp leakers w.leakers_rise)) ∙ ap (λ (p : Plan). leakers_of p round) v

  -- whom the plan has leak in some round
  pub leaking_in_some : leaking ≡ map (λ x. x.1) (fin.keys plan.leakers)
  leaking_in_some = w.leaking_are ∙ ap (map (λ x. x.1)) (sym (keys_set_of pair_cmp leakers w.leakers_rise)) ∙ ap (λ (p : Plan). map (λ x. x.1) (fin.keys p.leakers)) v

  -- a search for the announcement of the prefix by the AS
  module _ (s : List Announcement) (e : s ≡ announced) (prefix : PrefixValue) (a : ℕ) where
    abbrev pub Answers : Result ℕ ℕ → List Announcement → Type 0
    Answers r t = IsSearchInRange r (length t) × IsBinarySearchResult (λ x. announcement_cmp (x.prefix, x.asn) (prefix, a)) t r

    place : (at : ℕ) → Answers (Ok at) s → rising.IsPlace announcement_cmp key path_of announced (prefix, a) at
    place at h = let p = subst (Answers (Ok at)) e h in rising.place_by announcement_cmp key path_of announcement_total exact_announcement announced (prefix, a) at p.0 p.1

    gap : (at : ℕ) → Answers (Err at) s → rising.IsGap announcement_cmp key path_of announced (prefix, a) at
    gap at h = let p = subst (Answers (Err at)) e h in rising.gap_by announcement_cmp key path_of announcement_total exact_announcement announced (prefix, a) at w.announced_rise p.0 p.1

    pub found : (at : ℕ) (d : Announcement) → Answers (Ok at) s → announced_path plan prefix a ≡ Some (get_or announced at d).path
    found at d h = ap (λ (p : Plan). announced_path p prefix a) (sym v) ∙ rising.get_place announcement_cmp key path_of announcement_total exact_announcement announced (prefix, a) at d w.announced_rise (place at h)

    pub missed : (at : ℕ) → Answers (Err at) s → announced_path plan prefix a ≡ None
    missed at h = ap (λ (p : Plan). announced_path p prefix a) (sym v) ∙ rising.get_gap announcement_cmp key path_of announcement_total exact_announcement announced (prefix, a) at w.announced_rise (gap at h)

    pub announces_by : (d : Announcement) (r : Result ℕ ℕ) → Answers r s → is_ok r ≡ announces plan prefix a
    announces_by d (Ok at) h = ap is_some (sym (found at d h))
    announces_by d (Err at) h = ap is_some (sym (missed at h))

    -- what is found is announced
    pub not_new : (at : ℕ) (d : Announcement) → Answers (Ok at) s → announces plan prefix a ≡ false → ⊥
    not_new at d h new = true≢false (announces_by d (Ok at) h ∙ new)

    -- the first AS of the path announces it, which is put in where the search ended
    module _ (at : ℕ) (h : Answers (Err at) s) (path : List ℕ) (first : a ≡ announcer_of path) (some : 1 ≤ length path) (short : length path ≤ 4294967294)
        (new_prefixes : List PrefixValue) (prefixes_rise : IsRising prefix_cmp new_prefixes) (prefixes_are : set_of prefix_cmp new_prefixes ≡ fin.insert (set_of prefix_cmp prefixes) prefix tt)
        (new_announcers : List ℕ) (announcers_rise : IsRising nat_cmp new_announcers) (announcers_are : set_of nat_cmp new_announcers ≡ fin.insert (set_of nat_cmp announcers) a tt) where
      abbrev new : Announcement
      new = record { prefix = prefix; asn = a; path = path }

      lists_announced : plan_of new_prefixes (insert announced at new) leakers ≡ with_announcement (plan_of prefixes announced leakers) prefix path
      lists_announced = λ i. record {
        prefixes = prefixes_are i;
        announced = (rising.map_insert announcement_cmp key path_of announcement_total exact_announcement announced new at w.announced_rise (gap at h)
            ∙ ap (λ (x : ℕ). fin.insert (fin.from_sorted {R = announcement_cmp} (map entry_of announced)) (prefix, x) path) first) i;
        leakers = set_of pair_cmp leakers;
      }

      pub plan_announced : plan_of new_prefixes (insert announced at new) leakers ≡ with_announcement plan prefix path
      plan_announced = lists_announced ∙ ap (λ (p : Plan). with_announcement p prefix path) v

      pub are_announced : ArePlan new_prefixes (insert announced at new) new_announcers leakers leaking
      are_announced = record {
        prefixes_rise = prefixes_rise;
        announced_rise = rising.rising_insert announcement_cmp key path_of announcement_total exact_announcement announced new at w.announced_rise (gap at h);
        announcers_rise = announcers_rise;
        leakers_rise = w.leakers_rise;
        leaking_are = w.leaking_are;
        announcers_are =
            announcers_are ∙ (ap (λ m. fin.insert m a tt) w.announcers_are ∙ ap (λ (x : ℕ). fin.insert (announcing_set (plan_of prefixes announced leakers)) x tt) first)
            ∙ sym (ap announcing_set lists_announced ∙ announcing_set-with_announcement (plan_of prefixes announced leakers) prefix path);
        sound = subst IsSound (sym lists_announced) (sound_with_announcement (plan_of prefixes announced leakers) w.sound prefix path some short);
      }

  -- who leaks already
  pub plan_kept : (round a : ℕ) → set_of pair_cmp leakers ≡ fin.insert (set_of pair_cmp leakers) (round, a) tt → plan ≡ with_leaker plan round a
  plan_kept round a e = sym v ∙ (λ i. record { prefixes = set_of prefix_cmp prefixes; announced = fin.from_sorted (map entry_of announced); leakers = e i }) ∙ ap (λ (p : Plan). with_leaker p round a) v

  -- one leaker more
  module _ (round a : ℕ) (late : 2 ≤ round) (new_leakers : List (ℕ × ℕ)) (leakers_rise : IsRising pair_cmp new_leakers) (leakers_are : set_of pair_cmp new_leakers ≡ fin.insert (set_of pair_cmp leakers) (round, a) tt) (new_leaking : List ℕ) (leaking_are : new_leaking ≡ map (λ x. x.1) new_leakers) where
    lists_leaking : plan_of prefixes announced new_leakers ≡ with_leaker (plan_of prefixes announced leakers) round a
    lists_leaking = λ i. record { prefixes = set_of prefix_cmp prefixes; announced = fin.from_sorted (map entry_of announced); leakers = leakers_are i }

    pub plan_leaking : plan_of prefixes announced new_leakers ≡ with_leaker plan round a
    plan_leaking = lists_leaking ∙ ap (λ (p : Plan). with_leaker p round a) v

    pub are_leaking : ArePlan prefixes announced announcers new_leakers new_leaking
    are_leaking = record {
      prefixes_rise = w.prefixes_rise;
      announced_rise = w.announced_rise;
      announcers_rise = w.announcers_rise;
      leakers_rise = leakers_rise;
      announcers_are = w.announcers_are;
      leaking_are = leaking_are;
      sound = subst IsSound (sym lists_leaking) (sound_with_leaker (plan_of prefixes announced leakers) w.sound round a late);
    }
