-- The texts of refused queries, and of edits.
use Prim.Native.String.{String}
use Rattle.std.specs.Prelude.{[], ◌∷◌, ◌++◌, codes, decimal}
use Rattle.clap.specs.Walk.{Text}
use Rattle.net_names.specs.Texts.{addr_text, prefix_text, numbers_text}
use Rattle.sim_core.specs.declared.errors.EditError.{EditError}
use Rattle.sim_core.specs.declared.errors.EditError.TheVariants as edit
use Rattle.sim_core.specs.declared.errors.EditError.TheVariants.{AbsentLink, AbsentVrp, AbsentAnnouncement, Limit, ProviderCycle}
use Rattle.sim_core.specs.declared.errors.EditLimit.TheVariants.{Links, Announcements, Ases, Vrps}
use Rattle.sim_core.specs.declared.errors.QueryError.{QueryError}
use Rattle.sim_core.specs.declared.errors.QueryError.TheVariants as query
use Rattle.sim_core.specs.declared.errors.QueryError.TheVariants.{UnknownRound, UnknownAs, NotWatched}

-- what is told of what is refused: why, and what it is of (own format)
abbrev pub refused : String → Text → Text
refused why rest = codes "refused " ++ codes why ++ 32 ∷ (rest ++ 10 ∷ [])

-- the text of a refused query: what the world has not, or that the address is not watched (own format)
abbrev pub refusal_text : QueryError → Text
refusal_text query.Memory = []
refusal_text (UnknownRound n) = refused "unknown-round" (decimal n)
refusal_text (query.UnknownPrefix prefix) = refused "unknown-prefix" (prefix_text prefix)
refusal_text (UnknownAs asn) = refused "unknown-as" (decimal asn)
refusal_text (NotWatched addr) = refused "not-watched" (addr_text addr)

-- the text of a refused edit: what is not there, the prefix that the world has not, the limit, or the provider cycle from the new link on (own format)
abbrev pub edit_refusal : EditError → Text
edit_refusal edit.Memory = []
edit_refusal (AbsentLink lo hi) = refused "absent-link" (decimal lo ++ 124 ∷ decimal hi)
edit_refusal (AbsentVrp v) = refused "absent-vrp" (decimal v.asn ++ 32 ∷ (prefix_text v.prefix ++ 32 ∷ decimal v.max))
edit_refusal (edit.UnknownPrefix prefix) = refused "unknown-prefix" (prefix_text prefix)
edit_refusal (AbsentAnnouncement p a) = refused "absent-announcement" (prefix_text p ++ 32 ∷ decimal a)
edit_refusal (Limit which) = refused "limit" (codes (elim which [ Links ↦ "links" | Announcements ↦ "announcements" | Ases ↦ "ases" | Vrps ↦ "payloads" ]))
edit_refusal (ProviderCycle cycle) = refused "provider-cycle" (numbers_text cycle)
