-- Why a graph is not built, an AS not marked, or a link not set.
use Rattle.std.specs.Prelude.{◌≡◌, ℕ, false, None, ◌≤◌, ◌<◌, ⊤}
use Rattle.std.specs.FinMap as map
use Rattle.net_names.specs.declared.routes.Rel.{Rel}
use Rattle.net_names.specs.Links.{LinkMap}
use Rattle.as_graph.specs.Topology.{Topology, relation, has, as_count, unmarked}
use Rattle.as_graph.specs.Room.{is_room_with, is_room_for}
use Rattle.as_graph.specs.Edits.{with_link}
use Rattle.as_graph.specs.declared.error.GraphError.{GraphError}
use Rattle.as_graph.specs.declared.error.GraphError.TheVariants.{Memory, TooManyLinks, TooManyAses}
use Rattle.as_graph.specs.declared.build.TheConstants.{MOST_ASES}
use Rattle.net_names.specs.declared.links.TheConstants.{MOST_LINKS}

-- why these links make no graph: for want of memory, or since they have more than 150,000 ends
abbrev pub IsBuildRefusal : LinkMap → GraphError → Type 0
IsBuildRefusal links Memory = ⊤
IsBuildRefusal links TooManyLinks = ⊥
IsBuildRefusal links TooManyAses = MOST_ASES < as_count (unmarked links)

-- why the AS gets no mark: it is new, and memory is wanting where there is no room, or 150,000 ASes stand
abbrev pub IsMarkRefusal : Topology → ℕ → GraphError → Type 0
IsMarkRefusal g a Memory = (has g a ≡ false) × (is_room_with g.room a ≡ false)
IsMarkRefusal g a TooManyLinks = ⊥
IsMarkRefusal g a TooManyAses = (has g a ≡ false) × (MOST_ASES ≤ as_count g)

-- why the link is not set: it is new, and memory is wanting where there is no room, or 1,500,000 links stand, or else there would be more than 150,000 ASes
abbrev pub IsLinkRefusal : Topology → ℕ → ℕ → Rel → GraphError → Type 0
IsLinkRefusal g a b r Memory = (relation g a b ≡ None) × (is_room_for g.room a b ≡ false)
IsLinkRefusal g a b r TooManyLinks = (relation g a b ≡ None) × (MOST_LINKS ≤ map.len g.links)
IsLinkRefusal g a b r TooManyAses = (relation g a b ≡ None) × (map.len g.links < MOST_LINKS) × (MOST_ASES < as_count (with_link g a b r))
