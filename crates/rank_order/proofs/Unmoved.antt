-- Ranks stay where the link of two ASes is edited and the ranks of both bear it.
use Rattle.std.proofs.Common.{◌≡◌, ◌≢◌, inl, inr, ◌<◌, ℕ, suc, Option, None, Some, option_map, refl, sym, ap, subst, ◌∙◌, arith}
use Rattle.std.proofs.lemmas.Bool.{cases_eq}
use Rattle.net_names.specs.Links.{converse}
use Rattle.net_names.specs.declared.routes.Rel.{Rel}
use Rattle.net_names.specs.declared.routes.Rel.TheVariants.{Customer, Peer, Provider}
use Rattle.as_graph.specs.Hierarchy.{RankFits}
use Rattle.as_graph.specs.Topology.{Topology, relation}
use Rattle.as_graph.proofs.EditsLemmas.{links_are_sound_lem}
use Rattle.as_graph.proofs.Fitting.{fitting_is_rank, ranks_fit_at}
use Rattle.rank_order.specs.Staying.{RanksStay}

-- who is a customer of the other has it as a provider
turned : (o : Option Rel) → option_map converse o ≡ Some Customer → o ≡ Some Provider
turned None e = cc
turned (Some Customer) e = cc
turned (Some Peer) e = cc
turned (Some Provider) e = refl

module _ (old new : Topology) (rank : ℕ → ℕ) (fits : (x : ℕ) → RankFits (relation old) rank x) where
  -- a rank fits still where links but that with one AS are as they were, and that link bears it
  fits_at : (a b : ℕ) → ((n : ℕ) → n ≢ b → relation new a n ≡ relation old a n) → (relation new a b ≡ Some Customer → rank b < rank a) → (relation old a b ≡ Some Customer → rank a ≢ suc (rank b)) → RankFits (relation new) rank a
  fits_at a b same above far = record {
    above = λ n link. elim (cases_eq n b) [
      | inl e ↦ (let less : rank b < rank a = above (ap (relation new a) (sym e) ∙ link) in omega (arith, less, ap rank e))
      | inr other ↦ (fits a).above n (sym (same n other) ∙ link)
    ];
    reached = elim (fits a).reached [
      | inl zero ↦ inl zero
      | inr (n, link, e) ↦ elim (cases_eq n b) [
        | inl is ↦ absurd (far (ap (relation old a) (sym is) ∙ link) (e ∙ ap (λ (m : ℕ). suc (rank m)) is))
        | inr other ↦ inr (n, same n other ∙ link, e)
      ]
    ];
  }

-- where the links of all other ASes are as they were, those of the first of two ASes are so but with the second
pub links_at : (old new : Topology) (a b : ℕ) → ((x n : ℕ) → x ≢ a → x ≢ b → relation new x n ≡ relation old x n) → (n : ℕ) → n ≢ b → relation new a n ≡ relation old a n
links_at old new a b same n other = elim (cases_eq n a) [
  | inl e ↦ subst (λ (m : ℕ). relation new a m ≡ relation old a m) (sym e) (links_are_sound_lem.to_itself new a ∙ sym (links_are_sound_lem.to_itself old a))
  | inr not_a ↦ links_are_sound_lem.alike new n a ∙ ap (option_map converse) (same n a not_a other) ∙ sym (links_are_sound_lem.alike old n a)
]

pub all_stay : RanksStay
all_stay old new rank a b no_cycle are same stay = fitting_is_rank (relation new) rank all
  where
    fits : (x : ℕ) → RankFits (relation old) rank x
    fits = ranks_fit_at old rank no_cycle are

    all : (x : ℕ) → RankFits (relation new) rank x
    all x = elim (cases_eq x a) [
      | inl e ↦ subst (RankFits (relation new) rank) (sym e) (fits_at old new rank fits a b (links_at old new a b same) stay.above_customer stay.more_than_customer)
      | inr not_a ↦ elim (cases_eq x b) [
        | inl e ↦ subst (RankFits (relation new) rank) (sym e)
            (fits_at old new rank fits b a (links_at old new b a (λ y n not_b other. same y n other not_b)) (λ link. stay.below_provider (turned (relation new a b) (sym (links_are_sound_lem.alike new a b) ∙ link)))
            (λ link. stay.more_than_self (turned (relation old a b) (sym (links_are_sound_lem.alike old a b) ∙ link))))
        | inr not_b ↦ fits_at old new rank fits x x (λ n _. same x n not_a not_b) (λ link. (let none = links_are_sound_lem.to_itself new x in cc)) (λ link. (let none = links_are_sound_lem.to_itself old x in cc))
      ]
    ]
