-- Edited worlds: what an edit makes of a world, and why it is refused.
use Rattle.std.specs.Prelude.{◌≡◌, ◌⊎◌, ℕ, nat_le, min, max, if◌then◌else◌, is_some, slice_index, take, [], ◌∷◌, Option, None, Some, option_map}
use Rattle.std.specs.FinMap as fin
use Rattle.std.specs.Option.{option_or}
use Rattle.net_names.specs.Links.{between, with_relation}
use Rattle.net_names.specs.declared.routes.Rel.TheVariants.{Customer, Provider}
use Rattle.as_graph.specs.Topology.{as_count, relation}
use Rattle.as_graph.specs.Hierarchy.{IsProviderCycle}
use Rattle.as_graph.specs.Edits.{without_relation}
use Rattle.stability_laws.specs.Plans.{announces, has_prefix}
pub use Rattle.leak_round.specs.Changes.{HasChanges}
use Rattle.scenario_text.specs.declared.acts.Edit.{Edit}
use Rattle.scenario_text.specs.declared.acts.Edit.TheVariants.{Link, Unlink, Policy, VrpAdd, VrpTake, Announce, Withdraw}
use Rattle.sim_core.specs.World.{World, HasCycle, topology}
use Rattle.sim_core.specs.Answers.{needs}
use Rattle.sim_core.specs.Loaded.{is_other}
use Rattle.sim_core.specs.declared.errors.EditError.{EditError}
use Rattle.sim_core.specs.declared.errors.EditError.TheVariants.{Memory, AbsentLink, AbsentVrp, UnknownPrefix, AbsentAnnouncement, Limit, ProviderCycle}
use Rattle.sim_core.specs.declared.errors.EditLimit.{EditLimit}
use Rattle.sim_core.specs.declared.errors.EditLimit.TheVariants.{Links, Announcements, Ases, Vrps}
use Rattle.net_names.specs.declared.links.TheConstants.{MOST_LINKS}
use Rattle.as_graph.specs.declared.build.TheConstants.{MOST_ASES}
use Rattle.roa_table.specs.declared.table.TheConstants.{MOST_PAYLOADS}
use Rattle.scenario_text.specs.declared.limits.TheConstants.{MOST_ANNOUNCEMENTS}

-- the edited world: the pair has this link in place of any earlier one, or none; the AS has this kind, and nobody is named for the plain one; the payload is in the set, or not; the first AS of the path announces the prefix with it in place of any earlier path (RFC 4271, section 5.1.2), or the AS does not announce the prefix, which stays
abbrev pub edited : World → Edit → World
edited w (Link a b rel) = record w { links = with_relation w.links a b rel }
edited w (Unlink a b) = record w { links = without_relation w.links a b }
edited w (Policy a kind) = record w { kinds = if is_other (a, kind) then fin.insert w.kinds a kind else fin.remove w.kinds a }
edited w (VrpAdd vrp) = record w { payloads = fin.insert w.payloads vrp tt }
edited w (VrpTake vrp) = record w { payloads = fin.remove w.payloads vrp }
edited w (Announce p path) = record w { plan = record w.plan { announced = fin.insert w.plan.announced (p, slice_index path 0) path } }
edited w (Withdraw p a) = record w { plan = record w.plan { announced = fin.remove w.plan.announced (p, a) } }

-- what the edit names or takes away and the world has not: the link of the pair, told with the lower number first, the payload, the prefix, or else the AS's announcement of it
abbrev pub absent : World → Edit → Option EditError
absent w (Unlink a b) = needs (is_some (between w.links a b)) (AbsentLink (min a b) (max a b)) None
absent w (VrpTake vrp) = needs (fin.contains_key w.payloads vrp) (AbsentVrp vrp) None
absent w (Announce p path) = needs (has_prefix w.plan p) (UnknownPrefix p) None
absent w (Withdraw p a) = needs (has_prefix w.plan p) (UnknownPrefix p) (needs (announces w.plan p a) (AbsentAnnouncement p a) None)
absent w e = None

-- the first limit that a world passes: 1,500,000 links, 64 announcements, 150,000 ASes, 2,000,000 payloads
abbrev pub passed_limit : World → Option EditLimit
passed_limit w = needs (nat_le (fin.len w.links) MOST_LINKS) Links
    (needs (nat_le (fin.len w.plan.announced) MOST_ANNOUNCEMENTS) Announcements
    (needs (nat_le (as_count (topology w)) MOST_ASES) Ases
    (needs (nat_le (fin.len w.payloads) MOST_PAYLOADS) Vrps None)))

-- why an edit is refused, but for provider cycles: what it names or takes away is not there, or else the edited world passes a limit
abbrev pub refusal_of_edit : World → Edit → Option EditError
refusal_of_edit w e = option_or (absent w e) (option_map Limit (passed_limit (edited w e)))

-- the edit is allowed: there is no reason to refuse it, and the edited world has no provider cycle
abbrev pub IsAllowed : World → Edit → Type 0
IsAllowed w e = (refusal_of_edit w e ≡ None) × (HasCycle (edited w e) → ⊥)

-- the edit is refused for this reason: it is the first one; or there is none, and the edited world has this provider cycle, which begins with the provider and the customer of the new link (Gao and Rexford 2001, the hierarchy assumption)
abbrev pub IsReason : World → Edit → EditError → Type 0
IsReason w e (ProviderCycle cycle) =
    (refusal_of_edit w e ≡ None) × IsProviderCycle (relation (topology (edited w e))) cycle
    × (x y : ℕ) × (take 2 cycle ≡ x ∷ y ∷ []) × ((e ≡ Link x y Customer) ⊎ (e ≡ Link y x Provider))
IsReason w e error = refusal_of_edit w e ≡ Some error

-- memory is wanting, or the edit is refused for this reason
abbrev pub IsEditRefusal : World → Edit → EditError → Type 0
IsEditRefusal w e Memory = Unit {0}
IsEditRefusal w e error = IsReason w e error
