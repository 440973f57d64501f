-- Where all that pass in one world pass in another, no more do.
use Rattle.std.proofs.Common.{◌≡◌, ◌∙◌, ◌≤◌, ℕ, Bool, true, List, filter, sym, arith}
use Rattle.std.specs.FinMap as fin
use Rattle.std.proofs.lemmas.Bool.{and_parts, and_from}
use Rattle.std.proofs.lemmas.Cmp.{nat_cmp_total}
use Rattle.std.proofs.lemmas.Map.Lookups.{exact_unsigned}
use Rattle.as_graph.specs.Topology.{ases, has}
use Rattle.sim_core.specs.Counting.{how_many}
use Rattle.sim_core.specs.World.{World, topology}
use Rattle.sim_core.proofs.Rows.{in_filter}
use Rattle.trial_world.proofs.Following.{keyed, keyed_has, keyed_len}
use Rattle.trial_world.proofs.Subsets.{len_le}

pub fewer_many : (v u : World) (p q : ℕ → Bool) → ((a : ℕ) → has (topology u) a ≡ true → q a ≡ true → (has (topology v) a ≡ true) × (p a ≡ true)) → how_many u q ≤ how_many v p
fewer_many v u p q each =
    let xs : List ℕ = filter q (ases (topology u)) in
    let ys : List ℕ = filter p (ases (topology v)) in
    let le : fin.len (keyed xs) ≤ fin.len (keyed ys) = len_le nat_cmp_total exact_unsigned (keyed xs) (keyed ys) (λ a there.
    let parts = and_parts (q a) (has (topology u) a) (sym (in_filter q (ases (topology u)) a) ∙ sym (keyed_has xs a) ∙ there) in
    let (here, passes) = each a parts.1 parts.0 in
    keyed_has ys a ∙ in_filter p (ases (topology v)) a ∙ and_from (p a) (has (topology v) a) passes here) in
    omega (arith, le, keyed_len xs, keyed_len ys)
