-- The changes of the tables can be found after an edit of the seeds.
use Rattle.std.proofs.Common.{◌≡◌, ℕ, suc, ◌-◌, ◌<◌, ◌≤◌, Bool, true, false, Option, None, List, length, ap, subst, ◌∙◌, arith}
use Rattle.std.specs.Prelude.{IsTrue}
use Rattle.std.specs.FinMap as fin
use Rattle.net_names.specs.Prefixes.{PrefixValue}
use Rattle.as_graph.specs.Topology.{Topology, has}
use Rattle.path_pool.specs.declared.pool.PathPool.{PathPool}
use Rattle.stability_laws.specs.declared.entry.Entry.{Entry}
use Rattle.stability_laws.specs.declared.seed_plan.edits.SeedEdit.{SeedEdit}
use Rattle.stability_laws.specs.Offers.{Setting}
use Rattle.stability_laws.specs.Plans.{Plan, announces, has_prefix}
use Rattle.stability_laws.specs.Rounds.{seeds_of as seeds_in}
use Rattle.stability_laws.specs.Stable.{IsRight}
use Rattle.route_choice.specs.declared.round_tables.RoundTables.{RoundTables}
use Rattle.leak_round.specs.declared.announced.Announced.{Announced}
use Rattle.leak_round.specs.declared.edited.EditedSeeds.{EditedSeeds}
use Rattle.leak_round.specs.Announced.{AreAnnounced}
use Rattle.leak_round.specs.Edited.{announced_after, plan_edited, seeds_after, AreEdited, IsEdited}
use Rattle.leak_round.specs.Growth.{KeepsPaths}
use Rattle.leak_round.specs.Limits.{IsWithinLimits}
use Rattle.leak_round.specs.Found.{CanFind}
use Rattle.leak_round.specs.Tables.{kept_in, AreRoundsFull}
use Rattle.leak_round.proofs.Closing.{announced_taken, prefixes_taken}
use Rattle.leak_round.proofs.Keeping.{all_kept, announced_kept, rounds_full_kept}

module _ (plan : Plan) (xs : List Announced) (pool next : PathPool) (limits : IsWithinLimits plan) (announced : AreAnnounced pool plan xs) (edit : Option SeedEdit) (o : Option EditedSeeds) (made : IsEdited pool next plan xs edit o) where
  -- the prefixes stay
  pub prefixes_stay : (prefix : PrefixValue) → has_prefix (seeds_after o plan) prefix ≡ has_prefix plan prefix
  prefixes_stay prefix = ap (λ s. fin.contains_key s prefix) (prefixes_taken next plan xs limits (announced_kept pool next made.keeps plan xs announced) o made.seeds)

  -- what could be found before the edit of the seeds can be found after it
  pub can_start : (w : PrefixValue → Setting) (g : Topology) (touched : PrefixValue → ℕ → Bool) (rounds : List RoundTables) → AreRoundsFull pool plan rounds → ((prefix : PrefixValue) (b : ℕ) → (w prefix).has b ≡ has g b)
      → ((prefix : PrefixValue) (a : ℕ) → IsTrue (announces (plan_edited edit plan) prefix a) → has g a ≡ true)
      → ((round : ℕ) (prefix : PrefixValue) (b : ℕ) → 1 ≤ round → round ≤ length rounds → IsTrue (has_prefix plan prefix) → has g b ≡ false → touched prefix b ≡ false → kept_in pool rounds round prefix b ≡ None)
      → ((before : ℕ) (prefix : PrefixValue) (b : ℕ) → before < length rounds → IsTrue (has_prefix plan prefix) → has g b ≡ true → touched prefix b ≡ false → IsRight (w prefix) (seeds_in plan (suc before) prefix (kept_in pool rounds before prefix)) (kept_in pool rounds (suc before) prefix) b)
      → CanFind w g touched plan (seeds_after o plan) xs (announced_after o xs) next rounds
  can_start w g touched rounds full same announcers entries right = record {
    prefixes = prefixes_stay;
    announced = announced_kept pool next made.keeps plan xs announced;
    announced_after = announced_taken next plan xs limits (announced_kept pool next made.keeps plan xs announced) o made.seeds;
    full = rounds_full_kept pool next made.keeps plan rounds full;
    announcers = λ p a h. announcers p a (subst (λ (q : Plan). IsTrue (announces q p a)) made.plan_is h);
    entries = λ r p b from to known not out. kept r p b ∙ entries r p b from to known not out;
    right = λ r p b from to known there out. (
        let later : suc (r - 1) ≡ r = omega (arith, from) in
        let F : ℕ → Type 0 = λ n. IsRight (w p) (seeds_in plan n p (kept_in pool rounds (r - 1) p)) (kept_in pool rounds n p) b in
        let G : (ℕ → Option Entry) → (ℕ → Option Entry) → Type 0 = λ k f. IsRight (w p) (seeds_in plan r p k) f b in
        coe 1 0 (i. G (λ a. kept (r - 1) p a i) (λ a. kept r p a i)) (subst F later (right (r - 1) p b (omega (arith, from, to)) known there out)));
    only_ases = same;
  }
    where
      kept : (r : ℕ) (p : PrefixValue) (a : ℕ) → kept_in next rounds r p a ≡ kept_in pool rounds r p a
      kept = all_kept pool next made.keeps plan rounds full

-- the seeds after an edit stand in a pool that keeps its paths
pub edited_kept : (pool next : PathPool) (plan : Plan) (o : Option EditedSeeds) → KeepsPaths pool next → AreEdited pool plan o → AreEdited next plan o
edited_kept pool next plan o keeps h e is = (let s = h e is in record { prefixes = s.prefixes; limits = s.limits; announced = announced_kept pool next keeps e.plan e.announced.items s.announced })
