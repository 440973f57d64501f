-- What printing needs of an entry: its path can be read.
use Rattle.std.specs.Prelude.{◌≡◌, Option, Some}
use Rattle.path_pool.specs.declared.pool.PathPool.{PathPool}
use Rattle.path_pool.specs.Pool.{IsLive}
use Rattle.route_choice.specs.declared.held.Held.{Held}

-- the path of the entry, where there is one, is live
abbrev pub IsHeldLive : PathPool → Option Held → Type 0
IsHeldLive pool held = (h : Held) → held ≡ Some h → IsLive pool h.path.0
