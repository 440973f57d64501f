-- The overlay in which prefixes are propagated one after the other.
use Rattle.std.specs.Prelude.{◌≡◌, ◌<◌, ℕ, true, List, None, IsSome, length, unwrap_or}
use Rattle.net_names.specs.Numbers.{occurs}
use Rattle.route_choice.specs.declared.overlay.Overlay.{Overlay}
use Rattle.route_choice.specs.Tables.{change_at, overlay_spare, overlay_uses}
use Rattle.three_pass.specs.declared.course.Course.{Course}

-- each of the ASes has its place in the overlay, which has no entry, owns no hold, and has room for one AS more
pub record IsBlankAt (order : List ℕ) (o : Overlay) : Type 0 where
  pub placed : (a : ℕ) → occurs a order ≡ true → IsSome (change_at o a)
  pub none : (a : ℕ) → unwrap_or (change_at o a) None ≡ None
  pub uses : (k : ℕ) → overlay_uses o k ≡ 0
  pub room : 0 < length order → 0 < overlay_spare o

-- the overlay is blank at the ASes of the course
abbrev pub IsScratch : Course → Overlay → Type 0
IsScratch c o = IsBlankAt c.order.ases.items o
