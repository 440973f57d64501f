-- What a check of one AS tells.
use Rattle.std.specs.Prelude.{◌≡◌, ◌≢◌, ℕ, Option, None, Some, Result, Ok, Err}
use Rattle.stability_laws.specs.declared.entry.Entry.{Entry}
use Rattle.stability_laws.specs.declared.entry.Seed.{Seed}
use Rattle.stability_laws.specs.declared.wrong.Wrong.{Wrong}
use Rattle.stability_laws.specs.declared.wrong.Wrong.TheVariants.{SeedNotHeld, Unexpected, Absent, NotBest}
use Rattle.stability_laws.specs.Entries.{seed_entry}
use Rattle.stability_laws.specs.Offers.{Setting, Offer, offer}
use Rattle.stability_laws.specs.Stable.{IsBest, IsRight}

-- what each refusal says: a seed that is not held; an entry without an offer; no entry though `by`
-- makes the best offer; an entry that is not the best offer, which `by` makes
abbrev pub IsVerdictOn : Setting → (ℕ → Option Seed) → (ℕ → Option Entry) → ℕ → Wrong → Type 0
IsVerdictOn w seeds f a SeedNotHeld = (s : Seed) × (seeds a ≡ Some s) × (f a ≢ Some (seed_entry s))
IsVerdictOn w seeds f a Unexpected = (seeds a ≡ None) × ((n : ℕ) → offer w f n a ≡ None) × (f a ≢ None)
IsVerdictOn w seeds f a (Absent by) = (seeds a ≡ None) × (f a ≡ None) × ((o : Offer) × IsBest (w.policy a) (λ n. offer w f n a) by o)
IsVerdictOn w seeds f a (NotBest by) = (seeds a ≡ None) × ((e : Entry) × (o : Offer) × (f a ≡ Some e) × IsBest (w.policy a) (λ n. offer w f n a) by o × (e ≢ o.entry))

-- Ok says that the routing is right at a, and a refusal says what is wrong there
abbrev pub IsVerdict : Setting → (ℕ → Option Seed) → (ℕ → Option Entry) → ℕ → Result (Unit {0}) Wrong → Type 0
IsVerdict w seeds f a (Ok done) = IsRight w seeds f a
IsVerdict w seeds f a (Err wrong) = IsVerdictOn w seeds f a wrong
