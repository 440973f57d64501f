-- Kinds that do not mark hand routes on plainly, and all are lawful.
use denote.Enum.Bare.{sameb}
use Rattle.std.proofs.Common.{◌≡◌, ◌≢◌, ◌||◌, ◌&&◌, Bool, true, false, refl, true≢false}
use Rattle.net_names.specs.contracts.routes.Rel.{the_type}
use Rattle.net_names.specs.declared.routes.Rel.{Rel}
use Rattle.net_names.specs.declared.routes.Rel.TheVariants.{Customer, Peer, Provider}
use Rattle.policy_laws.specs.Policy.{is_own_or_customers}
use Rattle.policy_kinds.specs.KindLaws.{kind_exports_down_only, kind_prefers_customers, kind_ranks_offers}
use Rattle.policy_kinds.specs.Kinds.{kind_policy}
use Rattle.policy_kinds.specs.declared.kind.Kind.{Kind}
use Rattle.policy_kinds.specs.declared.kind.Kind.TheVariants.{Plain, DropInvalid, PreferValid, ProviderFirst, Otc, DropInvalidOtc}
use Rattle.stability_laws.specs.Stable.{IsLawful}
use Rattle.routing_tree.specs.Placed.{HandsOnPlainly}

pub lawful_kind : (k : Kind) → IsLawful (kind_policy k)
lawful_kind k = record {
  ranks_offers = kind_ranks_offers k;
  prefers_customers = kind_prefers_customers k;
  exports_down_only = kind_exports_down_only k;
}

to_others : (to : Rel) (own : Bool) → to ≢ Customer → (sameb the_type to Customer || own && true) ≡ own
to_others Customer own n = absurd (n refl)
to_others Peer true n = refl
to_others Peer false n = refl
to_others Provider true n = refl
to_others Provider false n = refl

pub hands_on : (k : Kind) → (kind_policy k).marks ≡ false → HandsOnPlainly (kind_policy k)
hands_on Plain e = record { to_customers = λ held otc. refl; to_others = λ held otc to n. to_others to (is_own_or_customers held) n; unmarked = e }
hands_on DropInvalid e = record { to_customers = λ held otc. refl; to_others = λ held otc to n. to_others to (is_own_or_customers held) n; unmarked = e }
hands_on PreferValid e = record { to_customers = λ held otc. refl; to_others = λ held otc to n. to_others to (is_own_or_customers held) n; unmarked = e }
hands_on ProviderFirst e = record { to_customers = λ held otc. refl; to_others = λ held otc to n. to_others to (is_own_or_customers held) n; unmarked = e }
hands_on Otc e = absurd (true≢false e)
hands_on DropInvalidOtc e = absurd (true≢false e)
