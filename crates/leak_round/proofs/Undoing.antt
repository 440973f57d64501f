-- What stays of rounds where the holds of a pool are as before.
use Rattle.std.proofs.Common.{◌≡◌, ℕ, ◌+◌, Option, option_map, List, [], refl, sym, ap, ◌∙◌, arith}
use Rattle.net_names.specs.Prefixes.{PrefixValue}
use Rattle.path_pool.specs.declared.pool.PathPool.{PathPool}
use Rattle.path_pool.specs.Pool.{holds_of}
use Rattle.stability_laws.specs.Plans.{Plan}
use Rattle.route_choice.specs.declared.round_tables.RoundTables.{RoundTables}
use Rattle.route_choice.specs.Holds.{GivesBack}
use Rattle.route_choice.specs.Routings.{entry_of}
use Rattle.route_choice.proofs.Lists.{entries_same, held_live}
use Rattle.dirty_recompute.specs.Resources.{IsUndone}
use Rattle.leak_round.specs.declared.announced.Announced.{Announced}
use Rattle.leak_round.specs.declared.changes.Change.{Change}
use Rattle.leak_round.specs.declared.edited.EditedSeeds.{EditedSeeds}
use Rattle.leak_round.specs.Announced.{announced_uses, AreAnnounced}
use Rattle.leak_round.specs.Edited.{edited_uses}
use Rattle.leak_round.specs.Growth.{KeepsPaths}
use Rattle.leak_round.specs.Overlays.{changes_uses, held_of}
use Rattle.leak_round.specs.Found.{AreSame, IsCutOff}
use Rattle.leak_round.specs.Tables.{kept_in, entry_uses, AreRoundsFull}
use Rattle.leak_round.proofs.Closing.{announced_back, full_back}
use Rattle.leak_round.proofs.Committing.{held_with-live}
use Rattle.leak_round.proofs.Laying.{kept_is}

-- all changes are given up, and then the seeds
pub all_undone : (a b c d e : PathPool) (cs : List Change) (edited : Option EditedSeeds) → KeepsPaths a b → ((k : ℕ) → holds_of b k ≡ holds_of a k + edited_uses edited k) → IsCutOff b c [] cs → GivesBack c d → ((k : ℕ) → holds_of d k + changes_uses cs k ≡ holds_of c k) → GivesBack d e → ((k : ℕ) → holds_of e k + edited_uses edited k ≡ holds_of d k) → IsUndone a e
all_undone a b c d e cs edited keeps taken cut back given back' given' = record {
  holds = same;
  held_live = λ k some. held_live e k (omega (arith, some, same k));
  lists = λ k was is.
      (let in_d = back'.was_live k is in
      let in_c = back.was_live k in_d in
      back'.lists k is ∙ back.lists k in_d ∙ cut.lists k (keeps.live k was) in_c ∙ keeps.lists k was);
}
  where
    same : (k : ℕ) → holds_of e k ≡ holds_of a k
    same k = omega (arith, taken k, cut.holds k, given k, given' k)

module _ (old new : PathPool) (plan : Plan) (xs : List Announced) (rounds rounds' : List RoundTables) (undone : IsUndone old new) (same : AreSame rounds rounds') (holds : (k : ℕ) → holds_of old k ≡ entry_uses rounds k + announced_uses xs k) where
  pub holds_stay : (k : ℕ) → holds_of new k ≡ entry_uses rounds' k + announced_uses xs k
  holds_stay k = omega (arith, undone.holds k, same.uses k, holds k)

  pub announced_stay : AreAnnounced old plan xs → AreAnnounced new plan xs
  announced_stay h = announced_back old new plan xs h undone.lists (λ k. omega (arith, holds_stay k))

  pub full_stay : AreRoundsFull old plan rounds → AreRoundsFull new plan rounds'
  full_stay h = full_back old new plan plan rounds' refl (λ k. omega (arith, holds_stay k)) (same.full old plan h)

  pub kept_stays : (round : ℕ) (prefix : PrefixValue) (a : ℕ) → kept_in new rounds' round prefix a ≡ kept_in old rounds round prefix a
  kept_stays round prefix a =
      kept_is new rounds' round prefix a
      ∙ entries_same old new (held_of rounds' round prefix a) (λ d e. undone.lists d.path.0
      (held_with-live old rounds [] (λ k. omega (arith, holds k)) round prefix a d (sym (same.entries round prefix a) ∙ e))
      (held_with-live new rounds' [] (λ k. omega (arith, holds_stay k)) round prefix a d e))
      ∙ ap (option_map (entry_of old)) (same.entries round prefix a) ∙ sym (kept_is old rounds round prefix a)
