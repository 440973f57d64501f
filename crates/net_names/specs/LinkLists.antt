-- A list of links, each pair once and in rising order, as the finite map of links.
use Rattle.std.specs.Prelude.{◌≡◌, ℕ, ◌≤◌, true, nat_lt, T, List, map, length}
use Rattle.std.specs.List.{list_all}
use Rattle.std.specs.FinMap as fin
use Rattle.net_names.specs.declared.routes.Rel.{Rel}
use Rattle.net_names.specs.declared.links.Link.{Link}
use Rattle.net_names.specs.Links.{pair_cmp, LinkMap}
use Rattle.net_names.specs.declared.links.TheConstants.{MOST_LINKS}

-- the entry that the link makes: at the pair of its ends, what the higher is to the lower
abbrev pub entry_of : Link → (ℕ × ℕ) × Rel
entry_of l = ((l.lo, l.hi), l.rel)

-- the map that the links make
abbrev pub map_of : List Link → LinkMap
map_of links = fin.from_sorted (map entry_of links)

-- each pair stands once, the pairs rise, each link's first end is the lower, and they are 1,500,000 at most
pub record AreLinks (links : List Link) : Type 0 where
  pub rising : T (fin.is_sorted pair_cmp (map entry_of links))
  pub lower : list_all (λ l. nat_lt l.lo l.hi) links ≡ true
  pub few : length links ≤ MOST_LINKS
