-- Lists in rising order as a plan.
use Rattle.std.specs.Prelude.{◌≡◌, ℕ, T, List, map}
use Rattle.std.specs.Ordering.{nat_cmp}
use Rattle.std.specs.declared.cmp.Ordering.{Ordering}
use Rattle.std.specs.FinMap as fin
use Rattle.std.specs.FinSet as set
use Rattle.net_names.specs.Prefixes.{PrefixValue, prefix_cmp}
use Rattle.net_names.specs.Links.{pair_cmp}
use Rattle.stability_laws.specs.declared.seed_plan.Announcement.{Announcement}
use Rattle.stability_laws.specs.Plans.{announcement_cmp, Plan, IsSound}

-- the keys as the entries of a set
abbrev pub marks : {K : Type 0} → List K → List (K × Unit {0})
marks = map (λ k. (k, tt))

-- the set of the keys, where they rise
abbrev pub set_of : {K : Type 0} (cmp : K → K → Ordering) → List K → set.FinSet cmp
set_of cmp keys = fin.from_sorted (marks keys)

-- the keys rise
abbrev pub IsRising : {K : Type 0} → (K → K → Ordering) → List K → Type 0
IsRising cmp keys = T (fin.is_sorted cmp (marks keys))

-- the entry that an announcement makes: at its prefix and AS, its path
abbrev pub entry_of : Announcement → (PrefixValue × ℕ) × List ℕ
entry_of x = ((x.prefix, x.asn), x.path)

-- the plan that the lists make
abbrev pub plan_of : List PrefixValue → List Announcement → List (ℕ × ℕ) → Plan
plan_of prefixes announced leakers = record {
  prefixes = set_of prefix_cmp prefixes;
  announced = fin.from_sorted (map entry_of announced);
  leakers = set_of pair_cmp leakers;
}

-- the set of the ASes that announce a prefix
abbrev pub announcing_set : Plan → set.FinSet nat_cmp
announcing_set plan = fin.from_entries (map (λ x. (x.1, tt)) (fin.keys plan.announced))

-- the lists rise, the plan that they make is sound, the announcers are the ASes that announce in it, and
-- those that leak are the ASes of the leakers
pub record ArePlan (prefixes : List PrefixValue) (announced : List Announcement) (announcers : List ℕ) (leakers : List (ℕ × ℕ)) (leaking : List ℕ) : Type 0 where
  pub prefixes_rise : IsRising prefix_cmp prefixes
  pub announced_rise : T (fin.is_sorted announcement_cmp (map entry_of announced))
  pub announcers_rise : IsRising nat_cmp announcers
  pub leakers_rise : IsRising pair_cmp leakers
  pub announcers_are : set_of nat_cmp announcers ≡ announcing_set (plan_of prefixes announced leakers)
  pub leaking_are : leaking ≡ map (λ x. x.1) leakers
  pub sound : IsSound (plan_of prefixes announced leakers)
