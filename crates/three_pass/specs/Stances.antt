-- What the policies along a course do with the offers of providers.
use Rattle.std.specs.Prelude.{◌≡◌, ◌↔◌, Bool, if◌then◌else◌, IsTrue, Option, Some, None, List, [], ◌∷◌, ◌++◌}
use Rattle.net_names.specs.declared.routes.State.{State}
use Rattle.net_names.specs.declared.routes.State.TheVariants.{NotFound, Valid, Invalid}
use Rattle.policy_laws.specs.declared.policy.Stance.{Stance}
use Rattle.policy_laws.specs.declared.policy.Stance.TheVariants.{Plain, Nothing, Other}
use Rattle.policy_laws.specs.Plain.{IsOf, TakesNone, TakesPlainly}
use Rattle.policy_laws.specs.Policy.{Policy}
use Rattle.three_pass.specs.declared.stances.Stances.{Stances}

-- the stances of all places, where the states of all origins are this one, or are any if none is given
abbrev pub stances_of : Stances → Option State → List Stance
stances_of x (Some NotFound) = x.not_found.items
stances_of x (Some Valid) = x.valid.items
stances_of x (Some Invalid) = x.invalid.items
stances_of x None = x.any.items

-- the stance of an AS by that of its policy, and by whether all its providers send as the plain policy does
abbrev pub lowered : Stance → Bool → Stance
lowered Plain above = if above then Plain else Other
lowered Nothing above = Nothing
lowered Other above = Other

-- the stance of an AS is plain exactly where its policy takes the offers plainly and its providers send them so, and it is to take nothing exactly where the policy takes none
pub record IsStanceUnder (p : Policy) (all : Option State) (above : Type 0) (s : Stance) : Type 0 where
  pub plain : (s ≡ Plain) ↔ (TakesPlainly p (IsOf all) × above)
  pub nothing : (s ≡ Nothing) ↔ TakesNone p (IsOf all)

-- behind the old stances stands that of an AS with the policy
abbrev pub IsStanceMore : Policy → Bool → Option State → List Stance → List Stance → Type 0
IsStanceMore p above all old new = (s : Stance) × ((new ≡ old ++ s ∷ []) × IsStanceUnder p all (IsTrue above) s)
