-- An AS whose number isn't marked announces no prefix.
use Rattle.std.proofs.Common.{◌≡◌, ℕ, ◌%◌, ◌==◌, true, false, Option, Some, None, is_some, List, get_or, refl, sym, ◌∙◌, ap}
use Rattle.std.proofs.lemmas.Bool.{eq-eqb}
use Rattle.std.proofs.lemmas.List.Folds.{list_any_at}
use Rattle.std.proofs.lemmas.Option.{slice_get_within, get_or_from_slice_get}
use Rattle.net_names.specs.Prefixes.{PrefixValue}
use Rattle.route_choice.specs.declared.marks.Marks.{Marks}
use Rattle.route_choice.specs.Marks.{is_marked}
use Rattle.stability_laws.specs.Plans.{Plan, announced_path, announcers_of, announces, IsAnnouncer}
use Rattle.stability_laws.proofs.PlanListings.{announcers_listed}
use Rattle.data_trace.specs.Announcers.{AreAnnouncers}

module _ (marks : Marks 4096) (plan : Plan) (are : AreAnnouncers marks plan) (a : ℕ) where
  marked : IsAnnouncer plan a → is_marked marks a ≡ true
  marked is =
      let all = announcers_of plan in
      let at = (announcers_listed plan).whole a is in
      let same : a ≡ get_or all at.0 a = sym (get_or_from_slice_get all at.0 a a at.1) in
      are a ∙ list_any_at (λ b. a % 4096 == b % 4096) all at.0 a (slice_get_within all at.0 a at.1) (eq-eqb _ _ (ap (λ b. b % 4096) same))

  pub unmarked : is_marked marks a ≡ false → (p : PrefixValue) → announces plan p a ≡ false
  unmarked not p = by (announced_path plan p a) refl
    where
      by : (o : Option (List ℕ)) → announced_path plan p a ≡ o → is_some o ≡ false
      by None is = refl
      by (Some path) is = (let x : true ≡ false = sym (marked (record { prefix = p; path = path; announced = is })) ∙ not in cc)
