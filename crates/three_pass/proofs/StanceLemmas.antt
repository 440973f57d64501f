-- The stance of an AS, by its policy and its providers.
use Rattle.std.proofs.Common.{◌≡◌, ◌↔◌, Bool, true, false, Option, Some, None, refl, sym, ◌∙◌, subst}
use Rattle.std.specs.Prelude.{IsTrue}
use Rattle.net_names.specs.declared.routes.Rel.TheVariants.{Provider}
use Rattle.net_names.specs.declared.routes.State.{State}
use Rattle.net_names.specs.declared.routes.State.TheVariants.{NotFound, Valid, Invalid}
use Rattle.policy_laws.specs.declared.policy.Stance.{Stance}
use Rattle.policy_laws.specs.declared.policy.Stance.TheVariants.{Plain, Nothing, Other}
use Rattle.policy_laws.specs.declared.policy.View.{View}
use Rattle.policy_laws.specs.Plain.{IsOf, IsStance, TakesNone, TakesPlainly}
use Rattle.policy_laws.specs.Policy.{Policy}
use Rattle.three_pass.specs.Stances.{IsStanceUnder, lowered}

-- a provider's offer with this state
abbrev offer_in : State → View
offer_in s = record { rel = Provider; neighbour = 0; length = 0; state = s; otc = None }

-- who takes offers takes some
not_both : (p : Policy) (all : Option State) → TakesPlainly p (IsOf all) → TakesNone p (IsOf all) → ⊥
not_both p None takes none = (let e : true ≡ false = sym (takes.accepts (offer_in NotFound) refl tt) ∙ none (offer_in NotFound) tt in cc)
not_both p (Some s) takes none = (let e : true ≡ false = sym (takes.accepts (offer_in s) refl refl) ∙ none (offer_in s) refl in cc)

pub lowered_is : (p : Policy) (all : Option State) (s : Stance) (above : Bool) → IsStance p all s → IsStanceUnder p all (IsTrue above) (lowered s above)
lowered_is p all Plain true takes = record { plain = (λ e. (takes, refl), λ both. refl); nothing = (λ e. (let x : Plain ≡ Nothing = e in cc), λ none. absurd (not_both p all takes none)) }
lowered_is p all Plain false takes = record { plain = (λ e. (let x : Other ≡ Plain = e in cc), λ both. (let x : false ≡ true = both.1 in cc)); nothing = (λ e. (let x : Other ≡ Nothing = e in cc), λ none. absurd (not_both p all takes none)) }
lowered_is p all Nothing above none = record { plain = (λ e. (let x : Nothing ≡ Plain = e in cc), λ both. absurd (not_both p all both.0 none)); nothing = (λ e. none, λ again. refl) }
lowered_is p all Other above neither = record { plain = (λ e. (let x : Other ≡ Plain = e in cc), λ both. absurd (neither.0 both.0)); nothing = (λ e. (let x : Other ≡ Nothing = e in cc), λ none. absurd (neither.1 none)) }

-- the same of a policy and a fact that are the same
pub under_same : (p q : Policy) (all : Option State) (A B : Type 0) (s : Stance) → p ≡ q → (A ↔ B) → IsStanceUnder p all A s → IsStanceUnder q all B s
under_same p q all A B s same both is = record {
  plain = (
    λ e. (subst (λ r. TakesPlainly r (IsOf all)) same (is.plain.0 e).0, both.0 (is.plain.0 e).1),
    λ are. is.plain.1 (subst (λ r. TakesPlainly r (IsOf all)) (sym same) are.0, both.1 are.1),
  );
  nothing = (
    λ e. subst (λ r. TakesNone r (IsOf all)) same (is.nothing.0 e),
    λ none. is.nothing.1 (subst (λ r. TakesNone r (IsOf all)) (sym same) none),
  );
}

-- what holds in each of the four cases
pub in_each : (P : Option State → Type 0) → P (Some NotFound) → P (Some Valid) → P (Some Invalid) → P None → (all : Option State) → P all
in_each P not_found valid invalid any (Some NotFound) = not_found
in_each P not_found valid invalid any (Some Valid) = valid
in_each P not_found valid invalid any (Some Invalid) = invalid
in_each P not_found valid invalid any None = any
