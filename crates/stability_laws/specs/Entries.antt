-- What ASes hold.
use Rattle.net_names.specs.declared.routes.Class.{Class}
use Rattle.net_names.specs.declared.routes.Class.TheVariants as class
use Rattle.net_names.specs.declared.routes.Rel.{Rel}
use Rattle.net_names.specs.declared.routes.Rel.TheVariants.{Customer, Peer, Provider}
use Rattle.stability_laws.specs.declared.entry.Entry.{Entry}
use Rattle.stability_laws.specs.declared.entry.Seed.{Seed}

-- the class of an entry that a neighbour gave names what the neighbour is (Gao and Rexford 2001)
abbrev pub class_of : Rel → Class
class_of r = elim r [ Customer ↦ class.Customer | Peer ↦ class.Peer | Provider ↦ class.Provider ]

-- what an AS with the seed holds: its own path with its number, as class Origin
abbrev pub seed_entry : Seed → Entry
seed_entry s = record { class = class.Origin; path = s.path; otc = s.otc }
