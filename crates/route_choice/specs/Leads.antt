-- The best offer of providers, where an AS takes them and they send as the plain policy does.
use Rattle.std.specs.Prelude.{◌≡◌, ℕ, ◌+◌, ◌*◌, ◌<◌, Option, None, Some, List, length, All}
use Rattle.net_names.specs.declared.routes.Rel.TheVariants.{Provider}
use Rattle.net_names.specs.declared.routes.State.{State}
use Rattle.net_names.specs.Numbers.{last_or}
use Rattle.policy_laws.specs.declared.policy.View.{View}
use Rattle.policy_laws.specs.Plain.{SendsPlainly}
use Rattle.policy_laws.specs.Policy.{Policy}
use Rattle.as_graph.specs.declared.neighbour.Neighbour.{Neighbour}
use Rattle.path_pool.specs.declared.pool.PathPool.{PathPool}
use Rattle.path_pool.specs.Pool.{list_of}
use Rattle.stability_laws.specs.BestView.{IsBestView, IsBestViewOf}
use Rattle.stability_laws.specs.Offers.{Offer, Setting}
use Rattle.stability_laws.specs.declared.entry.Entry.{Entry}
use Rattle.route_choice.specs.declared.held.Held.{Held}
use Rattle.route_choice.specs.declared.plain.Lead.{Lead}
use Rattle.route_choice.specs.declared.plain.TheConstants.{NOBODY}
use Rattle.route_choice.specs.Rows.{number_in}

-- The neighbours are providers, and send as the plain policy does.
abbrev pub ArePlainSenders : (ℕ → Policy) → List Neighbour → Type 0
ArePlainSenders policy xs = All (λ x. (x.rel ≡ Provider) × SendsPlainly (policy x.asn)) xs

-- The lead is that of a provider which holds this: first the length of the path counts, and then the number.
pub record IsLeadOn (pool : PathPool) (provider : ℕ) (h : Held) (l : Lead) : Type 0 where
  pub path : h.path ≡ l.path
  pub otc : h.otc ≡ number_in l.otc
  pub key : l.key ≡ length (list_of pool h.path.0) * 4294967296 + provider
  pub short : length (list_of pool h.path.0) < 4294967295
  pub small : provider < 4294967296

-- The lead is that of a provider which holds this, or that of nobody where it holds nothing.
abbrev pub IsLeadWith : PathPool → ℕ → Option Held → Lead → Type 0
IsLeadWith pool provider None l = l.key ≡ NOBODY
IsLeadWith pool provider (Some h) l = IsLeadOn pool provider h l

-- A provider of the AS holds an entry whose origin has this state.
abbrev pub IsOffered : Setting → (ℕ → Option Entry) → ℕ → State → Type 0
IsOffered w f a s = (n : ℕ) × ((e : Entry) × ((w.relation a n ≡ Some Provider) × ((f n ≡ Some e) × (w.state (last_or 0 e.path) ≡ s))))

-- The view is that of the lead's provider, with a state that passes the test, or there is neither.
abbrev pub IsSeenAs : (State → Type 0) → PathPool → (ℕ → Option Held) → Lead → Option View → Type 0
IsSeenAs test pool held l None = l.key ≡ NOBODY
IsSeenAs test pool held l (Some v) = (h : Held) × ((held v.neighbour ≡ Some h) × (IsLeadOn pool v.neighbour h l × ((v.rel ≡ Provider) × ((v.length ≡ length (list_of pool h.path.0) + 1) × test v.state))))

-- The lead's provider makes the best of the offers of the ASes of the list, or there is no offer of them.
abbrev pub IsLeadOf : (State → Type 0) → Policy → PathPool → (ℕ → Option Held) → (ℕ → Option Offer) → List ℕ → Lead → Type 0
IsLeadOf test p pool held offers xs lead = (v : Option View) × (IsBestViewOf p offers xs v × IsSeenAs test pool held lead v)

-- The lead's provider makes the best of all offers, or there is no offer.
abbrev pub IsLead : (State → Type 0) → Policy → PathPool → (ℕ → Option Held) → (ℕ → Option Offer) → Lead → Type 0
IsLead test p pool held offers lead = (v : Option View) × (IsBestView p offers v × IsSeenAs test pool held lead v)
