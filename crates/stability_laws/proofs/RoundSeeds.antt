-- Seeds that are put in one after the other.
use Rattle.std.proofs.Common.{◌≡◌, ◌≢◌, ℕ, ◌<◌, Bool, true, false, true≢false, ◌||◌, cond, Option, Some, None, option_map, List, inl, inr, refl, sym, ap, ◌∙◌}
use Rattle.std.specs.Prelude.{slice_get, if◌then◌else◌}
use Rattle.std.specs.Ordering.{nat_cmp}
use Rattle.std.specs.Cmp.{nat_cmp_total, unsigned_tied}
use Rattle.std.specs.FinMap as map
use Rattle.std.proofs.lemmas.Bool.{cases_Bool, eq-eqb, ne_eqb}
use Rattle.net_names.specs.Numbers.{occurs}
use Rattle.net_names.specs.Prefixes.{PrefixValue}
use Rattle.policy_laws.specs.Policy.{is_own_or_customers}
use Rattle.stability_laws.specs.declared.entry.Entry.{Entry}
use Rattle.stability_laws.specs.declared.entry.Seed.{Seed}
use Rattle.stability_laws.specs.Plans.{Plan, ListsRising, IsAnnouncer, announced_path, announcers_of}
use Rattle.stability_laws.specs.Seeding.{announced_seed, own_seed, own_or_leaked}
use Rattle.stability_laws.proofs.Leaking.{put_again}
use Rattle.stability_laws.proofs.Listing.{occurs_at, at_occurs}

pub put_this : (m : map.FinMap nat_cmp Seed) (a : ℕ) (x : Seed) → map.get (map.insert m a x) a ≡ Some x
put_this m a x = map.get-insert nat_cmp_total m a x a ∙ ap (λ b. cond b (Some x) (map.get m a)) (unsigned_tied a a ∙ eq-eqb a a refl)

pub put_other : (m : map.FinMap nat_cmp Seed) (a : ℕ) (x : Seed) (q : ℕ) → q ≢ a → map.get (map.insert m a x) q ≡ map.get m q
put_other m a x q ne = map.get-insert nat_cmp_total m a x q ∙ ap (λ b. cond b (Some x) (map.get m q)) (unsigned_tied q a ∙ ne_eqb q a ne)

-- ---- leakers

-- who has no seed and held what came from above leaks it
pub leaked_is : (o : Option Seed) (h : Option Entry) (e : Entry) → o ≡ None → h ≡ Some e → is_own_or_customers e.class ≡ false → own_or_leaked o true h ≡ Some (record { path = e.path; otc = e.otc })
leaked_is o h e none some up = (λ i. own_or_leaked (none i) true (some i)) ∙ ap (λ b. if b then None else Some (record { path = e.path; otc = e.otc })) up

pub not_leaked : (o : Option Seed) (h : Option Entry) (e : Entry) → o ≡ None → h ≡ Some e → is_own_or_customers e.class ≡ true → o ≡ own_or_leaked o true h
not_leaked o h e none some up = none ∙ sym ((λ i. own_or_leaked (none i) true (some i)) ∙ ap (λ b. if b then None else Some (record { path = e.path; otc = e.otc })) up)

-- who has a seed keeps it, and who leaks twice leaks the same
pub leaked_again : (o : Option Seed) (b : Bool) (h : Option Entry) → own_or_leaked (own_or_leaked o b h) true h ≡ own_or_leaked o (b || true) h
leaked_again = put_again own_or_leaked (λ s b h. refl) (λ h. refl)

-- ---- announcers

-- all announcers are seen, and each has its seed
pub all_announced : (plan : Plan) → ListsRising nat_cmp (IsAnnouncer plan) (announcers_of plan) → (prefix : PrefixValue) (a : ℕ) (held : Option Seed) (end : ℕ)
    → (IsAnnouncer plan a → (place : ℕ) × (place < end) × (slice_get (announcers_of plan) place ≡ Some a))
    → (((i : ℕ) → i < end → slice_get (announcers_of plan) i ≡ Some a → ⊥) → held ≡ None)
    → ((i : ℕ) → i < end → slice_get (announcers_of plan) i ≡ Some a → held ≡ announced_seed plan prefix a)
    → held ≡ announced_seed plan prefix a
all_announced plan l prefix a held end seen sound put = elim (cases_Bool (occurs a (announcers_of plan))) [
  | inl there ↦ (let (i, at) = at_occurs (announcers_of plan) a there in let (place, less, is) = seen (l.only i a at) in put place less is)
  | inr missing ↦ sound (λ i less at. true≢false (sym (occurs_at (announcers_of plan) i a at) ∙ missing)) ∙ sym (silent (announced_path plan prefix a) refl missing)
]
  where
    silent : (path : Option (List ℕ)) → announced_path plan prefix a ≡ path → occurs a (announcers_of plan) ≡ false → option_map own_seed path ≡ None
    silent None is missing = refl
    silent (Some path) is missing = absurd (let (i, at) = l.whole a (record { prefix = prefix; path = path; announced = is }) in true≢false (sym (occurs_at (announcers_of plan) i a at) ∙ missing))
