-- What contracts see of a world without what is kept of it.
use Rattle.sim_core.specs.World.{World}
use Rattle.sim_core.specs.Parts.{world_from}
use Rattle.sim_core.specs.declared.base.Base.{Base}

-- the world of a base
abbrev pub base_world : Base → World
base_world base = world_from base.graph base.vrps base.book base.plan base.rounds base.watched.items
