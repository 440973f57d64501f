-- No message is counted exactly where none is under way.
use Rattle.std.proofs.Common.{◌≡◌, ℕ, true, is_some, Option, Some, None, List, [], ◌∷◌, ◌==◌, length, sum_by, inl, inr, refl, sym, ◌∙◌, ap, subst, arith}
use Rattle.std.proofs.lemmas.Bool.{or_cases, eqb-true}
use Rattle.std.proofs.lemmas.List.Sums.{sum_by-cons}
use Rattle.net_names.specs.declared.routes.Rel.{Rel}
use Rattle.net_names.specs.Numbers.{occurs}
use Rattle.as_graph.specs.Topology.{Topology, relation}
use Rattle.as_graph.proofs.Chains.{IsMutual}
use Rattle.stability_laws.specs.declared.entry.Seed.{Seed}
use Rattle.stability_laws.specs.Offers.{Setting}
use Rattle.message_sim.specs.Messages.{Message, MessageNet, IsQuiet}
use Rattle.message_sim.specs.Nets.{queued_in}
use Rattle.message_sim.specs.Turns.{AreTurns}
use Rattle.message_sim.proofs.Queued.{each, ends_in}
use Rattle.message_sim.proofs.Settling.{OnLinks, delivery_on_links}
use Rattle.message_sim.proofs.Turning.{not_empty}

-- turns leave messages on links alone
pub turns_on_links : (w : Setting) (seeds : ℕ → Option Seed) (both : IsMutual w.relation) (ts : List (Option (ℕ × ℕ))) (x y : MessageNet) (k : ℕ) → AreTurns w seeds ts x k y → OnLinks w seeds both x → OnLinks w seeds both y
turns_on_links w seeds both [] x y k (none, same) on = subst (OnLinks w seeds both) same on
turns_on_links w seeds both (t ∷ ts) x y k (l, at, inl (empty, rest)) on = turns_on_links w seeds both ts x y k rest on
turns_on_links w seeds both (t ∷ ts) x y k (l, at, inr (z, m, is, d, rest)) on =
    turns_on_links w seeds both ts z y m rest (delivery_on_links w seeds both x z l.0 l.1 (λ none. not_empty w seeds x z l.0 l.1 d (on l.0 l.1 none)) d on)

-- where a sum is nothing each part is
each_none : (f : ℕ → ℕ) (xs : List ℕ) → sum_by f xs ≡ 0 → (a : ℕ) → occurs a xs ≡ true → f a ≡ 0
each_none f [] none a here = cc
each_none f (x ∷ xs) none a here =
    let parts = sum_by-cons f x xs in
    elim (or_cases (x == a) (occurs a xs) here) [
      | inl e ↦ ap f (sym (eqb-true x a e)) ∙ omega (arith, none, parts)
      | inr more ↦ each_none f xs (omega (arith, none, parts)) a more
    ]

all_none : (f : ℕ → ℕ) (xs : List ℕ) → ((a : ℕ) → f a ≡ 0) → sum_by f xs ≡ 0
all_none f [] h = refl
all_none f (x ∷ xs) h = let parts = sum_by-cons f x xs in let first = h x in let more = all_none f xs h in omega (arith, parts, first, more)

empty_by : (q : List Message) → length q ≡ 0 → q ≡ []
empty_by [] h = refl
empty_by (m ∷ ms) h = cc

pub quiet_where_none : (g : Topology) (x : MessageNet) → ((n a : ℕ) → relation g a n ≡ None → x.queue n a ≡ []) → queued_in g x ≡ 0 → IsQuiet x
quiet_where_none g x on none n a = by (relation g a n) refl
  where
    by : (r : Option Rel) → relation g a n ≡ r → x.queue n a ≡ []
    by None is = on n a is
    by (Some r) is =
        let ends = ends_in g n a (ap is_some is) in
        empty_by (x.queue n a) (each_none (λ b. length (x.queue n b)) (each g) (each_none (λ m. sum_by (λ b. length (x.queue m b)) (each g)) (each g) none n ends.0) a ends.1)

pub none_where_quiet : (g : Topology) (x : MessageNet) → IsQuiet x → queued_in g x ≡ 0
none_where_quiet g x quiet =
    all_none (λ n. sum_by (λ a. length (x.queue n a)) (each g)) (each g) (λ n. all_none (λ a. length (x.queue n a)) (each g) (λ a. ap length (quiet n a)))
