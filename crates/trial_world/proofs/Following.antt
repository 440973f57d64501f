-- The set of the ASes of a world: the next one, and how many there are.
use Rattle.std.proofs.Common.{◌≡◌, ◌∙◌, ◌+◌, ◌||◌, ℕ, Bool, true, false, cond, is_some, List, [], ◌∷◌, map, Option, None, Some, IfSome, IfNone, refl, ap, sym}
use Rattle.std.specs.FinMap as fin
use Rattle.std.specs.FinSet as set
use Rattle.std.specs.Ordering.{eq_by_cmp, nat_cmp}
use Rattle.std.proofs.lemmas.Cmp.{nat_cmp_total}
use Rattle.net_names.specs.Numbers.{occurs}
use Rattle.as_graph.specs.Following as graph
use Rattle.as_graph.specs.Topology.{Topology, as_count, ases, has}
use Rattle.sim_core.specs.Lent.{IsGraphOf}
use Rattle.sim_core.specs.World.{World, topology}
use Rattle.sweep.specs.Trials.{IsAbove, IsNext}
use Rattle.trial_world.specs.Trials.{as_set}
use Rattle.sim_core.proofs.PolicyEdits.{is_key}

abbrev pub keyed : List ℕ → set.FinSet nat_cmp
keyed xs = fin.from_entries (map (λ a. (a, tt {0})) xs)

pub keyed_has : (xs : List ℕ) (a : ℕ) → fin.contains_key (keyed xs) a ≡ occurs a xs
keyed_has [] a = ap is_some (fin.get-empty nat_cmp a)
keyed_has (x ∷ xs) a =
    ap is_some (fin.get-insert nat_cmp_total (keyed xs) x tt a) ∙ by (eq_by_cmp nat_cmp a x) (fin.get (keyed xs) a) ∙ (λ i. is_key a x i || keyed_has xs a i)
  where
    by : (t : Bool) (o : Option (Unit {0})) → is_some (cond t (Some tt) o) ≡ (t || is_some o)
    by true o = refl
    by false o = refl

pub keyed_len : (xs : List ℕ) → fin.len (keyed xs) ≡ set.len (set.from_list {R = nat_cmp} xs)
keyed_len [] = fin.len-empty nat_cmp (Unit {0}) ∙ sym (set.len-empty nat_cmp)
keyed_len (x ∷ xs) =
    fin.len-insert nat_cmp_total (keyed xs) x tt
    ∙ (λ i. cond ((keyed_has xs x ∙ sym (set.contains-from_list_nat xs x)) i) (keyed_len xs i) (keyed_len xs i + 1))
    ∙ sym (set.len-insert nat_cmp_total (set.from_list xs) x)

-- there are as many as the world has
pub as_many : (w : World) → fin.len (as_set w) ≡ as_count (topology w)
as_many w = keyed_len (ases (topology w))

module _ (w : World) (g : Topology) (is : IsGraphOf w g) where
  among : (a : ℕ) → fin.contains_key (as_set w) a ≡ has g a
  among a = keyed_has (ases (topology w)) a ∙ ap (λ (t : Topology). has t a) (sym is)

  above : (bound : Option ℕ) (a : ℕ) → IsAbove bound a → graph.IsAbove bound a
  above None a h = h
  above (Some b) a h = h

  back : (bound : Option ℕ) (a : ℕ) → graph.IsAbove bound a → IsAbove bound a
  back None a h = h
  back (Some b) a h = h

  pub next_in : (after : Option ℕ) (r : Option ℕ) → IfSome r (graph.IsNext g after) → IfSome r (IsNext (as_set w) after)
  next_in after None h = h
  next_in after (Some b) h = record {
    among = among b ∙ h.among;
    above = back after b h.above;
    least = λ a there over. h.least a (sym (among a) ∙ there) (above after a over);
  }

  pub none_in : (after : Option ℕ) (r : Option ℕ) → IfNone r ((a : ℕ) → graph.IsAbove after a → has g a ≡ false) → IfNone r ((a : ℕ) → IsAbove after a → fin.contains_key (as_set w) a ≡ false)
  none_in after None h = λ a over. among a ∙ h a (above after a over)
  none_in after (Some b) h = h
