use Rattle.std.proofs.Common.{◌≡◌, ℕ, zero, suc, ◌≤◌, IsTrue, Some, List, slice_get, subst, arith}
use Rattle.std.specs.List.{All}
use Rattle.std.proofs.lemmas.Option.{get_or_from_slice_get, slice_get_within}
use Rattle.net_names.specs.Addresses.{AddrValue}
use Rattle.net_names.specs.Prefixes.{PrefixValue}
use Rattle.as_graph.specs.Topology.{has}
use Rattle.data_trace.specs.Hops.{LongestIsSent}
use Rattle.policy_kinds.specs.declared.kind.Kind.{Kind}
use Rattle.sim_core.specs.World.{World, kind_at, topology}
use Rattle.sweep.specs.Adopters.{by_draw, word}
use Rattle.sweep.specs.Swept.{trial_kinds}
use Rattle.trial_world.specs.Trials.{as_set}
use Rattle.sweep.specs.declared.trial.Fate.{Fate}
use Rattle.sweep.specs.declared.trial.Fate.TheVariants as fate
use Rattle.trial_world.specs.Sweeps.{AreNumbers, with_kinds}
use Rattle.routing_laws.specs.KindLaws.{is_dropper, undropping}
use Rattle.swept_hijacks.specs.Numbers.{IsHijackedBy, SweptHijacksFall}
use Rattle.swept_hijacks.proofs.Falling.{fall}
use Rattle.swept_hijacks.proofs.Nested.{adopt, only_adds}
use Rattle.trial_world.proofs.TrialWorlds.{no_more}
use Rattle.swept_hijacks.proofs.laws.swept_hijacks_fall.Goals as goal

all_at : {X : Type 0} (P : X → Type 0) (xs : List X) → All P xs → (i : ℕ) (x : X) → slice_get xs i ≡ Some x → P x
all_at P xs all i x at = subst P (get_or_from_slice_get xs i x x at) (all i x (slice_get_within xs i x at))

module _ (longest : LongestIsSent) (w : World) (addr : AddrValue) (q : PrefixValue) (x : ℕ) (kind : Kind) (drops : IsTrue (is_dropper kind)) (alike : (a : ℕ) → undropping (kind_at w a) ≡ undropping kind) (order : List ℕ) (few many : ℕ) (le : few ≤ many) where
  abbrev fewer : World
  fewer = with_kinds w (adopt kind (kind_at w) order few)

  abbrev more : World
  more = with_kinds w (adopt kind (kind_at w) order many)

  trial_falls : (round : ℕ) → 1 ≤ round → IsHijackedBy (has (topology w)) w round addr q x → (numbers later : Fate → ℕ) → AreNumbers fewer round addr numbers → AreNumbers more round addr later → later (fate.At x) ≤ numbers (fate.At x)
  trial_falls zero some hijacker numbers later n m = absurd (omega (arith, some))
  trial_falls (suc before) some hijacker numbers later n m =
      fall longest fewer more.kinds (has (topology w)) (λ a. no_more w (adopt kind (kind_at w) order few) a) (λ a. no_more w (adopt kind (kind_at w) order many) a) before addr q x
      (record { no_cycle = hijacker.no_cycle; sound = hijacker.sound; quiet = hijacker.quiet; hijack = hijacker.hijack; announced = hijacker.announced; alone = hijacker.alone })
      (only_adds kind drops (kind_at w) alike order few many le w) numbers later n m

shown : LongestIsSent → SweptHijacksFall
shown longest w line text swept q x some hijacker drops alike i j trial few many numbers later at_i at_j le =
    let Right : (ℕ × ℕ) × (Fate → ℕ) → Type 0 = λ r. AreNumbers (with_kinds w (trial_kinds (as_set w) (kind_at w) line r.0)) line.round line.addr r.1 in
    trial_falls longest w line.addr q x line.kind drops alike (by_draw (word line.seed trial) (as_set w)) few many le line.round some hijacker numbers later
    (all_at Right swept.runs swept.right i ((few, trial), numbers) at_i) (all_at Right swept.runs swept.right j ((many, trial), later) at_j)

pub returns : goal.returns
returns c = shown c.longest_is_sent.ensures
