-- What the leakers of a round hold in the round before, and the seeds that follow.
use Rattle.std.proofs.Common.{◌≡◌, ◌≢◌, ℕ, zero, suc, Bool, true, false, ◌||◌, ◌&&◌, cond, nat_lt, List, Option, None, Some, refl, sym, ap, ◌∙◌}
use Rattle.std.specs.Prelude.{if◌then◌else◌}
use Rattle.std.specs.FinMap as map
use Rattle.std.specs.Ordering.{nat_cmp}
use Rattle.std.specs.Cmp.{nat_cmp_total, unsigned_tied}
use Rattle.std.proofs.lemmas.Bool.{eq-eqb, ne_eqb}
use Rattle.net_names.specs.Prefixes.{PrefixValue}
use Rattle.stability_laws.specs.declared.entry.Entry.{Entry}
use Rattle.stability_laws.specs.Plans.{Plan, announced_path, leaks_in}
use Rattle.stability_laws.specs.Rounds.{seeds_of, seed_given}

-- one entry more or less in a routing
module _ (m : map.FinMap nat_cmp Entry) (a : ℕ) where
  pub put_this : (e : Entry) → map.get (map.insert m a e) a ≡ Some e
  put_this e = map.get-insert nat_cmp_total m a e a ∙ ap (λ b. cond b (Some e) (map.get m a)) (unsigned_tied a a ∙ eq-eqb a a refl)

  pub put_other : (e : Entry) (n : ℕ) → n ≢ a → map.get (map.insert m a e) n ≡ map.get m n
  put_other e n ne = map.get-insert nat_cmp_total m a e n ∙ ap (λ b. cond b (Some e) (map.get m n)) (unsigned_tied n a ∙ ne_eqb n a ne)

  pub taken_this : map.get (map.remove m a) a ≡ None
  taken_this = map.get-remove nat_cmp_total m a a ∙ ap (λ b. cond b None (map.get m a)) (unsigned_tied a a ∙ eq-eqb a a refl)

  pub taken_other : (n : ℕ) → n ≢ a → map.get (map.remove m a) n ≡ map.get m n
  taken_other n ne = map.get-remove nat_cmp_total m a n ∙ ap (λ b. cond b None (map.get m n)) (unsigned_tied n a ∙ ne_eqb n a ne)

-- what a leaker is given, in place of what it has
abbrev pub given : Option Entry → Bool → Option Entry → Option Entry
given old leaks held = cond leaks held old

pub given_again : (o : Option Entry) (b : Bool) (h : Option Entry) → given (given o b h) true h ≡ given o (b || true) h
given_again o true h = refl
given_again o false h = refl

unread : (path : Option (List ℕ)) (h k : Option Entry) → seed_given path false h ≡ seed_given path false k
unread (Some path) h k = refl
unread None h k = refl

-- the seeds of the first round follow from no routing
pub first_seeds : (plan : Plan) (prefix : PrefixValue) (f g : ℕ → Option Entry) (a : ℕ) → seeds_of plan (suc zero) prefix f a ≡ seeds_of plan (suc zero) prefix g a
first_seeds plan prefix f g a = unread (announced_path plan prefix a) (f a) (g a)

-- the seeds of a round are the same where the routings of the round before are
pub same_seeds : (plan : Plan) (prefix : PrefixValue) (round : ℕ) (f g : ℕ → Option Entry) → ((a : ℕ) → f a ≡ g a) → (a : ℕ) → seeds_of plan round prefix f a ≡ seeds_of plan round prefix g a
same_seeds plan prefix round f g same a = ap (λ held. seed_given (announced_path plan prefix a) (nat_lt 1 round && leaks_in plan round a) held) (same a)

-- the seeds follow from what the leakers held alone
pub leaked_same : (plan : Plan) (prefix : PrefixValue) (round : ℕ) (f g : ℕ → Option Entry) → ((a : ℕ) → f a ≡ (if leaks_in plan round a then g a else None)) → (a : ℕ) → seeds_of plan round prefix f a ≡ seeds_of plan round prefix g a
leaked_same plan prefix round f g same a =
    ap (seed_given (announced_path plan prefix a) (nat_lt 1 round && leaks_in plan round a)) (same a) ∙ by (announced_path plan prefix a) (nat_lt 1 round) (leaks_in plan round a) (g a)
  where
    by : (path : Option (List ℕ)) (later leaks : Bool) (h : Option Entry) → seed_given path (later && leaks) (cond leaks h None) ≡ seed_given path (later && leaks) h
    by path true true h = refl
    by path true false h = unread path None h
    by path false true h = refl
    by path false false h = unread path None h
