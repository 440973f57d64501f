-- The second pass over a document: each number and text is in its grammar, and each path starts with its AS (own format).
-- The first fault is that of the first step that fails, in the order of the steps.
use Rattle.std.specs.Prelude.{ℕ, ◌^◌, ◌&&◌, ◌==◌ as nat_eq, nat_lt, [], ◌∷◌, if◌then◌else◌, ok_or, Result, Ok, Err}
use Rattle.std.specs.List.{starts_with}
use Rattle.net_names.specs.Texts.{prefix_of, addr_of}
use Rattle.policy_kinds.specs.Names.{kind_named}
use Rattle.policy_kinds.specs.declared.kind.Kind.{Kind}
use Rattle.scenario_text.specs.declared.places.Member.TheVariants.{Announcements, Policies, Leaks, Watch}
use Rattle.scenario_text.specs.declared.places.PartOf.TheVariants as parts
use Rattle.scenario_text.specs.declared.faults.ScenarioError.{ScenarioError}
use Rattle.scenario_text.specs.declared.faults.ScenarioError.TheVariants.{Value}
use Rattle.scenario_text.specs.declared.documents.AnnouncementText.{AnnouncementText}
use Rattle.scenario_text.specs.declared.documents.PolicyText.{PolicyText}
use Rattle.scenario_text.specs.declared.scenario.Announcement.{Announcement}
use Rattle.scenario_text.specs.Documents.{DocumentValue}
use Rattle.scenario_text.specs.Places.{in_member, in_part}
use Rattle.scenario_text.specs.Scenarios.{ScenarioValue}
use Rattle.scenario_text.specs.Walks.{◌>>=◌, Reader, each_at}

-- an AS number, from 1 to 4294967295 (RFC 6793; RFC 7607 rules out 0)
abbrev pub asn_at : Reader ℕ ℕ
asn_at p n = if nat_lt 0 n && nat_lt n (2 ^ 32) then Ok n else Err (Value p)

-- an announcement's prefix, AS and path, of which the numbers are judged before the path as a whole (own format)
unfoldable pub announcement_of : Reader AnnouncementText Announcement
announcement_of p a = do
  prefix ← ok_or (prefix_of a.prefix) (Value (in_part p parts.Prefix))
  asn ← asn_at (in_part p parts.Number) a.number
  path ← each_at asn_at (in_part p parts.Path) a.path
  if starts_with nat_eq path (asn ∷ []) then Ok (record { prefix = prefix; asn = asn; path = path }) else Err (Value (in_part p parts.Path))

-- a policy's AS and kind (own format)
unfoldable pub policy_of : Reader PolicyText (ℕ × Kind)
policy_of p x = do
  asn ← asn_at (in_part p parts.Number) x.number
  kind ← ok_or (kind_named x.policy) (Value (in_part p parts.Policy))
  Ok (asn, kind)

-- the four lists of a document (own format)
unfoldable pub lists_of : DocumentValue → Result ScenarioValue ScenarioError
lists_of d = do
  announcements ← each_at announcement_of (in_member Announcements) d.announcements
  policies ← each_at policy_of (in_member Policies) d.policies
  leaks ← each_at (each_at asn_at) (in_member Leaks) d.leaks
  watch ← each_at (λ p text. ok_or (addr_of text) (Value p)) (in_member Watch) d.watch
  Ok (record { announcements = announcements; policies = policies; leaks = leaks; watch = watch })
