-- The seeds of a round, as paths of the pool, are those of the plan.
use Rattle.std.proofs.Common.{◌≡◌, inl, inr, ℕ, suc, ◌-◌, Bool, true, false, ◌&&◌, nat_lt, Option, Some, None, option_map, List, [], length, refl, sym, ap, subst, ◌∙◌, arith}
use Rattle.std.specs.Prelude.{IsTrue, option_and_then, if◌then◌else◌}
use Rattle.std.proofs.lemmas.Bool.{cases_lt, lt-ltb}
use Rattle.net_names.specs.Prefixes.{PrefixValue}
use Rattle.net_names.specs.declared.routes.Class.{Class}
use Rattle.net_names.specs.declared.routes.Class.TheVariants.{Origin, Customer, Peer, Provider}
use Rattle.path_pool.specs.declared.path_id.PathId.{PathId}
use Rattle.path_pool.specs.declared.pool.PathPool.{PathPool}
use Rattle.path_pool.specs.Pool.{IsLive, list_of}
use Rattle.stability_laws.specs.Plans.{Plan, announced_path, has_prefix, leaks_in}
use Rattle.stability_laws.specs.Rounds.{seed_given, seeds_of as seeds_in}
use Rattle.route_choice.specs.declared.held.Held.{Held}
use Rattle.route_choice.specs.declared.round_tables.RoundTables.{RoundTables}
use Rattle.route_choice.specs.declared.seeds.SeedIds.{SeedIds}
use Rattle.route_choice.specs.declared.table.Table.{Table}
use Rattle.route_choice.specs.Resources.{AreSeedsLive}
use Rattle.route_choice.specs.Routings.{entry_of, seed_of, seeds_of}
use Rattle.route_choice.specs.RoundTables.{table_at}
use Rattle.route_choice.specs.Tables.{held_at}
use Rattle.leak_round.specs.declared.announced.Announced.{Announced}
use Rattle.leak_round.specs.declared.changes.Change.{Change}
use Rattle.leak_round.specs.Announced.{own_path, own_seed, AreAnnounced}
use Rattle.leak_round.specs.Leaked.{leaked_of, own_or_leaked, AreSeedsWith}
use Rattle.leak_round.specs.Overlays.{held_of, held_with, laid_in}
use Rattle.leak_round.specs.Tables.{tables_in, kept_in, AreRoundsFull}
use Rattle.leak_round.proofs.Laying.{kept_is}
use Rattle.policy_laws.specs.Policy.{is_own_or_customers}

module _ (pool : PathPool) where
  leaked_is : (c : Class) (h : Held) → option_map (seed_of pool) (leaked_of c h) ≡ (if is_own_or_customers c then None else Some (record { path = (entry_of pool h).path; otc = (entry_of pool h).otc }))
  leaked_is Origin h = refl
  leaked_is Customer h = refl
  leaked_is Peer h = refl
  leaked_is Provider h = refl

  seed_is : (own : Option PathId) (leaks : Bool) (held : Option Held) → option_map (seed_of pool) (own_or_leaked (option_map own_seed own) leaks held) ≡ seed_given (option_map (λ id. list_of pool id.0) own) leaks (option_map (entry_of pool) held)
  seed_is (Some id) leaks held = refl
  seed_is None false held = refl
  seed_is None true None = refl
  seed_is None true (Some h) = leaked_is h.class h

-- who held nothing leaks nothing
unread : (path : Option (List ℕ)) (b c : Bool) → seed_given path b None ≡ seed_given path c None
unread (Some path) b c = refl
unread None true true = refl
unread None true false = refl
unread None false true = refl
unread None false false = refl

module _ (pool : PathPool) (plan : Plan) (xs : List Announced) (rounds : List RoundTables) (cs : List Change) (round : ℕ) (prefix : PrefixValue) (seeds : SeedIds) (put : AreSeedsWith plan xs rounds cs round prefix seeds) (announced : AreAnnounced pool plan xs) where
  -- in round 1 none leaks, since nothing is held in the round before
  leaks_then : ((a : ℕ) → held_with rounds cs 0 prefix a ≡ None) → (path : Option (List ℕ)) (leaks : Bool) (a : ℕ) → seed_given path leaks (laid_in pool rounds cs (round - 1) prefix a) ≡ seed_given path (nat_lt 1 round && leaks) (laid_in pool rounds cs (round - 1) prefix a)
  leaks_then none path leaks a = elim (cases_lt 1 round) [
    | inl later ↦ ap (λ (b : Bool). seed_given path (b && leaks) (laid_in pool rounds cs (round - 1) prefix a)) (sym (lt-ltb 1 round later))
    | inr first ↦
        let zero_is : round - 1 ≡ 0 = omega (arith, first) in
        let held : laid_in pool rounds cs (round - 1) prefix a ≡ None = ap (λ n. laid_in pool rounds cs n prefix a) zero_is ∙ ap (option_map (entry_of pool)) (none a) in
        ap (seed_given path leaks) held ∙ unread path leaks (nat_lt 1 round && leaks) ∙ sym (ap (seed_given path (nat_lt 1 round && leaks)) held)
  ]

  -- the seeds are those of the plan
  pub seeds_are : ((a : ℕ) → held_with rounds cs 0 prefix a ≡ None) → IsTrue (has_prefix plan prefix) → (a : ℕ) → seeds_of pool seeds a ≡ seeds_in plan round prefix (laid_in pool rounds cs (round - 1) prefix) a
  seeds_are none known a =
      let leaks = leaks_in plan round a in
      let held = held_with rounds cs (round - 1) prefix a in
      ap (option_map (seed_of pool)) (put a)
      ∙ seed_is pool (own_path xs prefix a) leaks held
      ∙ ap (λ path. seed_given path leaks (option_map (entry_of pool) held)) (announced.paths prefix a known)
      ∙ leaks_then none (announced_path plan prefix a) leaks a

  -- the seeds' paths are live where those are that are held in the round before
  pub seeds_live : ((a : ℕ) (h : Held) → held_with rounds cs (round - 1) prefix a ≡ Some h → IsLive pool h.path.0) → AreSeedsLive pool seeds
  seeds_live held_live a s e = by (own_path xs prefix a) refl (leaks_in plan round a) (held_with rounds cs (round - 1) prefix a) refl (sym (put a) ∙ e)
    where
      by_class : (h : Held) → held_with rounds cs (round - 1) prefix a ≡ Some h → (c : Class) → leaked_of c h ≡ Some s → IsLive pool s.path.0
      by_class h at Origin e = cc
      by_class h at Customer e = cc
      by_class h at Peer e = let same : h.path ≡ s.path = cc in subst (λ (i : PathId). IsLive pool i.0) same (held_live a h at)
      by_class h at Provider e = let same : h.path ≡ s.path = cc in subst (λ (i : PathId). IsLive pool i.0) same (held_live a h at)

      by : (o : Option PathId) → own_path xs prefix a ≡ o → (leaks : Bool) (held : Option Held) → held_with rounds cs (round - 1) prefix a ≡ held → own_or_leaked (option_map own_seed o) leaks held ≡ Some s → IsLive pool s.path.0
      by (Some id) is leaks held at e = let same : id ≡ s.path = cc in subst (λ (i : PathId). IsLive pool i.0) same (announced.live prefix a id is)
      by None is false held at e = cc
      by None is true None at e = cc
      by None is true (Some h) at e = by_class h at h.class e

-- the paths of what is held in the tables of a round are live
pub held_of-live : (pool : PathPool) (plan : Plan) (rounds : List RoundTables) → AreRoundsFull pool plan rounds → (round : ℕ) (prefix : PrefixValue) (a : ℕ) (h : Held) → held_of rounds round prefix a ≡ Some h → IsLive pool h.path.0
held_of-live pool plan rounds full round prefix a h e = by (tables_in rounds round) refl e
  where
    in_table : (t : RoundTables) → tables_in rounds round ≡ Some t → (o : Option Table) → table_at t prefix ≡ o → option_and_then (λ table. held_at table a) o ≡ Some h → IsLive pool h.path.0
    in_table t at None is e = cc
    in_table t at (Some table) is e = (full round t at).live prefix table is a h e

    by : (o : Option RoundTables) → tables_in rounds round ≡ o → option_and_then (λ table. held_at table a) (option_and_then (λ t. table_at t prefix) o) ≡ Some h → IsLive pool h.path.0
    by None at e = cc
    by (Some t) at e = in_table t at (table_at t prefix) refl e

-- without changes the seeds follow from what is kept of the last round
pub seeds_kept : (pool : PathPool) (plan : Plan) (rounds : List RoundTables) (round : ℕ) (prefix : PrefixValue) → round ≡ suc (length rounds) → (a : ℕ) → seeds_in plan round prefix (laid_in pool rounds [] (round - 1) prefix) a ≡ seeds_in plan round prefix (kept_in pool rounds (length rounds) prefix) a
seeds_kept pool plan rounds round prefix number a =
    let last : round - 1 ≡ length rounds = omega (arith, number) in
    ap (seed_given (announced_path plan prefix a) (nat_lt 1 round && leaks_in plan round a)) (ap (λ n. laid_in pool rounds [] n prefix a) last ∙ sym (kept_is pool rounds (length rounds) prefix a))
