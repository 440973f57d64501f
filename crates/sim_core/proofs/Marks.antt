-- Graphs with several marks, and how many ASes they have.
use Rattle.std.proofs.Common.{◌≡◌, ℕ, ◌+◌, ◌<◌, ◌≤◌, Bool, true, false, ◌||◌, cond, List, [], ◌∷◌, refl, sym, ap, subst, ◌∙◌, arith}
use Rattle.std.proofs.lemmas.Cmp.{nat_cmp_total}
use Rattle.std.specs.Ordering.{nat_cmp, eq_by_cmp}
use Rattle.std.specs.FinMap as fin
use Rattle.std.specs.FinSet as set
use Rattle.net_names.specs.Numbers.{occurs}
use Rattle.as_graph.specs.Topology.{Topology, ases, has, as_count, with_mark}
use Rattle.as_graph.proofs.RowAses.{occurs-items, occurs-append}
use Rattle.as_graph.proofs.Links.{ends_of}
use Rattle.sim_core.specs.Marking.{IsMarksRefusal, marked}
use Rattle.sim_core.specs.declared.errors.LoadError.{LoadError}
use Rattle.sim_core.specs.declared.errors.LoadError.TheVariants as load_error
use Rattle.net_names.proofs.Shared.{or_assoc}

-- a mark adds the AS to the ASes
ases-with_mark : (g : Topology) (a : ℕ) → set.from_list {R = nat_cmp} (ases (with_mark g a)) ≡ set.insert (set.from_list (ases g)) a
ases-with_mark g a = set.same_set nat_cmp_total set.nat_cmp-IsAntisymmetric _ _ (λ q.
    let ends : List ℕ = ends_of (fin.entries g.links) in
    let is : Bool = eq_by_cmp nat_cmp q a in
    set.contains-from_list_nat (ases (with_mark g a)) q
    ∙ occurs-append q (set.items (set.insert g.marked a)) ends
    ∙ ap (λ b. b || occurs q ends) (occurs-items (set.insert g.marked a) q ∙ set.contains-insert nat_cmp_total g.marked a q)
    ∙ or_assoc is (set.contains g.marked q) (occurs q ends)
    ∙ sym (
    set.contains-insert nat_cmp_total (set.from_list (ases g)) a q
    ∙ ap (λ b. is || b) (set.contains-from_list_nat (ases g) q ∙ occurs-append q (set.items g.marked) ends ∙ ap (λ b. b || occurs q ends) (occurs-items g.marked q))
    ))

as_count-with_mark : (g : Topology) (a : ℕ) → as_count (with_mark g a) ≡ cond (has g a) (as_count g) (as_count g + 1)
as_count-with_mark g a =
    ap set.len (ases-with_mark g a) ∙ set.len-insert nat_cmp_total (set.from_list (ases g)) a
    ∙ ap (λ t. cond t (as_count g) (as_count g + 1)) (set.contains-from_list_nat (ases g) a)

at_least : (t : Bool) (n : ℕ) → n ≤ cond t n (n + 1)
at_least true n = omega arith
at_least false n = omega arith

-- marks take no AS away
pub as_count-marked : (g : Topology) (names : List ℕ) → as_count g ≤ as_count (marked g names)
as_count-marked g [] = omega arith
as_count-marked g (a ∷ names) =
    let one : as_count g ≤ as_count (with_mark g a) = rw (as_count-with_mark g a) (at_least (has g a) (as_count g)) in
    omega (arith, one, as_count-marked (with_mark g a) names)

many_new : (t : Bool) (n : ℕ) → t ≡ false → 150000 ≤ n → 150000 < cond t n (n + 1)
many_new true n new many = cc
many_new false n new many = omega (arith, many)

-- a new AS beside 150,000 is one too many
pub one_too_many : (g : Topology) (a : ℕ) → has g a ≡ false → 150000 ≤ as_count g → 150000 < as_count (with_mark g a)
one_too_many g a new many = rw (as_count-with_mark g a) (many_new (has g a) (as_count g) new many)

-- ASes that get no marks keep their reason where more follow
pub refused_before : (g now : Topology) (names rest : List ℕ) (a : ℕ) (e : LoadError) → marked g names ≡ marked now (a ∷ rest) → IsMarksRefusal now (a ∷ []) e → IsMarksRefusal g names e
refused_before g now names rest a load_error.Memory is h = tt
refused_before g now names rest a load_error.TooManyAses is h =
    let P : Topology → Type 0 = λ t. 150000 < as_count t in
    subst P (sym is) (let more = as_count-marked (with_mark now a) rest in omega (arith, h, more))
refused_before g now names rest a (load_error.ProviderCycle cycle) is h = h

few_by : (t : Bool) (n : ℕ) → n ≤ 150000 → (t ≡ false → n < 150000) → cond t n (n + 1) ≤ 150000
few_by true n few new = few
few_by false n few new = omega (arith, new refl)

-- after a mark that was made there are at most 150,000 ASes
pub few_marked : (g made : Topology) (a : ℕ) → as_count made ≡ as_count (with_mark g a) → (has g a ≡ false → as_count g < 150000) → as_count g ≤ 150000 → as_count made ≤ 150000
few_marked g made a is new few = rw (is, as_count-with_mark g a) (few_by (has g a) (as_count g) few new)

-- more ends than that are too many ASes, with the marks too
pub many_ends : (g : Topology) (names : List ℕ) → 150000 < as_count g → 150000 < as_count (marked g names)
many_ends g names many = let more = as_count-marked g names in omega (arith, many, more)
