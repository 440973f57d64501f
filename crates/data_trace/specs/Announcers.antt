-- Which ASes may announce a prefix.
use Rattle.std.specs.Prelude.{◌≡◌, ℕ, ◌%◌, ◌==◌}
use Rattle.std.specs.List.{list_any}
use Rattle.route_choice.specs.declared.marks.Marks.{Marks}
use Rattle.route_choice.specs.Marks.{is_marked}
use Rattle.stability_laws.specs.Plans.{Plan, announcers_of}

-- a number is marked exactly where an AS that announces a prefix of the plan has its remainder
abbrev pub AreAnnouncers : Marks 4096 → Plan → Type 0
AreAnnouncers marks plan = (a : ℕ) → is_marked marks a ≡ list_any (λ b. a % 4096 == b % 4096) (announcers_of plan)
