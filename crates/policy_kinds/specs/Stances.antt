-- What a kind does with the offers of providers, by their states.
use Rattle.std.specs.Prelude.{◌≡◌, ◌↔◌, true, false, not, IsTrue, Option, None, Some, refl}
use Rattle.std.proofs.Common.{sym, ap, subst}
use Rattle.net_names.specs.declared.routes.Rel.TheVariants.{Provider}
use Rattle.net_names.specs.declared.routes.State.{State}
use Rattle.net_names.specs.declared.routes.State.TheVariants.{NotFound, Valid, Invalid}
use Rattle.policy_laws.specs.declared.policy.Stance.{Stance}
use Rattle.policy_laws.specs.declared.policy.Stance.TheVariants as stance
use Rattle.policy_laws.specs.declared.policy.View.{View}
use Rattle.policy_laws.specs.Plain.{IsStance, SendsPlainly}
use Rattle.policy_kinds.specs.declared.kind.Kind.{Kind}
use Rattle.policy_kinds.specs.declared.kind.Kind.TheVariants.{Plain, DropInvalid, PreferValid, ProviderFirst, Otc, DropInvalidOtc}
use Rattle.policy_kinds.specs.Kinds.{kind_policy, kind_row}

-- the stance of each kind: an order by states matters only where the states differ, and who marks doesn't take offers plainly
abbrev pub stance_of : Kind → Option State → Stance
stance_of Plain all = stance.Plain
stance_of ProviderFirst all = stance.Plain
stance_of DropInvalid (Some Invalid) = stance.Nothing
stance_of DropInvalid (Some NotFound) = stance.Plain
stance_of DropInvalid (Some Valid) = stance.Plain
stance_of DropInvalid None = stance.Other
stance_of PreferValid (Some s) = stance.Plain
stance_of PreferValid None = stance.Other
stance_of Otc all = stance.Other
stance_of DropInvalidOtc (Some Invalid) = stance.Nothing
stance_of DropInvalidOtc (Some NotFound) = stance.Other
stance_of DropInvalidOtc (Some Valid) = stance.Other
stance_of DropInvalidOtc None = stance.Other

-- a provider's offer with this state
abbrev offer_in : State → View
offer_in s = record { rel = Provider; neighbour = 0; length = 0; state = s; otc = None }

-- the stance of each kind is right
pub kind_stance : (k : Kind) (all : Option State) → IsStance (kind_policy k) all (stance_of k all)
kind_stance Plain all = record { accepts = λ v r s. refl; before = λ x y rx ry sx sy i. (kind_policy Plain).before (record x { rel = rx i }) (record y { rel = ry i }); unmarked = refl }
kind_stance ProviderFirst all = record { accepts = λ v r s. refl; before = λ x y rx ry sx sy i. (kind_policy ProviderFirst).before (record x { rel = rx i }) (record y { rel = ry i }); unmarked = refl }
kind_stance DropInvalid (Some Invalid) = λ v s. ap (λ t. (kind_policy DropInvalid).accepts (record v { state = t })) s
kind_stance DropInvalid (Some NotFound) = record { accepts = λ v r s. subst (λ t. IsTrue ((kind_policy DropInvalid).accepts (record v { state = t }))) (sym s) refl; before = λ x y rx ry sx sy i. (kind_policy DropInvalid).before (record x { rel = rx i }) (record y { rel = ry i }); unmarked = refl }
kind_stance DropInvalid (Some Valid) = record { accepts = λ v r s. subst (λ t. IsTrue ((kind_policy DropInvalid).accepts (record v { state = t }))) (sym s) refl; before = λ x y rx ry sx sy i. (kind_policy DropInvalid).before (record x { rel = rx i }) (record y { rel = ry i }); unmarked = refl }
kind_stance DropInvalid None = ((λ t. (let e : false ≡ true = t.accepts (offer_in Invalid) refl tt in cc)), (λ n. (let e : true ≡ false = n (offer_in Valid) tt in cc)))
kind_stance PreferValid (Some NotFound) = record { accepts = λ v r s. refl; before = λ x y rx ry sx sy i. (kind_policy PreferValid).before (record x { rel = rx i; state = sx i }) (record y { rel = ry i; state = sy i }); unmarked = refl }
kind_stance PreferValid (Some Valid) = record { accepts = λ v r s. refl; before = λ x y rx ry sx sy i. (kind_policy PreferValid).before (record x { rel = rx i; state = sx i }) (record y { rel = ry i; state = sy i }); unmarked = refl }
kind_stance PreferValid (Some Invalid) = record { accepts = λ v r s. refl; before = λ x y rx ry sx sy i. (kind_policy PreferValid).before (record x { rel = rx i; state = sx i }) (record y { rel = ry i; state = sy i }); unmarked = refl }
kind_stance PreferValid None = ((λ t. (let e : true ≡ false = t.before (offer_in Valid) (offer_in NotFound) refl refl tt tt in cc)), (λ n. (let e : true ≡ false = n (offer_in Valid) tt in cc)))
kind_stance Otc None = ((λ t. (let e : true ≡ false = t.unmarked in cc)), (λ n. (let e : true ≡ false = n (offer_in Valid) tt in cc)))
kind_stance Otc (Some s) = ((λ t. (let e : true ≡ false = t.unmarked in cc)), (λ n. (let e : true ≡ false = n (offer_in s) refl in cc)))
kind_stance DropInvalidOtc (Some Invalid) = λ v s. ap (λ t. (kind_policy DropInvalidOtc).accepts (record v { state = t })) s
kind_stance DropInvalidOtc (Some NotFound) = ((λ t. (let e : true ≡ false = t.unmarked in cc)), (λ n. (let e : true ≡ false = n (offer_in NotFound) refl in cc)))
kind_stance DropInvalidOtc (Some Valid) = ((λ t. (let e : true ≡ false = t.unmarked in cc)), (λ n. (let e : true ≡ false = n (offer_in Valid) refl in cc)))
kind_stance DropInvalidOtc None = ((λ t. (let e : true ≡ false = t.unmarked in cc)), (λ n. (let e : true ≡ false = n (offer_in Valid) tt in cc)))

-- a kind sends as the plain one does exactly where it sets no mark
pub kind_sends : (k : Kind) → IsTrue (not (kind_row k).1.marks) ↔ SendsPlainly (kind_policy k)
kind_sends Plain = ((λ e. record { to_customers = λ held otc. refl; unmarked = refl }), (λ p. refl))
kind_sends DropInvalid = ((λ e. record { to_customers = λ held otc. refl; unmarked = refl }), (λ p. refl))
kind_sends PreferValid = ((λ e. record { to_customers = λ held otc. refl; unmarked = refl }), (λ p. refl))
kind_sends ProviderFirst = ((λ e. record { to_customers = λ held otc. refl; unmarked = refl }), (λ p. refl))
kind_sends Otc = ((λ e. (let f : false ≡ true = e in cc)), (λ p. (let f : true ≡ false = p.unmarked in cc)))
kind_sends DropInvalidOtc = ((λ e. (let f : false ≡ true = e in cc)), (λ p. (let f : true ≡ false = p.unmarked in cc)))
