-- Who holds something in a round is an AS of the graph.
use Rattle.std.proofs.Common.{◌≡◌, inl, inr, ℕ, suc, ◌<◌, ◌≤◌, true, Option, None, Some, arith}
use Rattle.std.specs.Prelude.{IsSome, IsTrue}
use Rattle.std.proofs.lemmas.Bool.{cases_Bool}
use Rattle.net_names.specs.Prefixes.{PrefixValue}
use Rattle.net_names.proofs.Distinct.{apart_from_distinct}
use Rattle.as_graph.specs.Topology.{Topology, as_count, has}
use Rattle.as_graph.proofs.RowAses.{length-le-as_count}
use Rattle.stability_laws.specs.declared.entry.Entry.{Entry}
use Rattle.stability_laws.specs.Offers.{Setting}
use Rattle.stability_laws.specs.Plans.{Plan, has_prefix}
use Rattle.stability_laws.specs.Rounds.{AreRounds}
use Rattle.leak_round.specs.Overlays.{AreFew}

none_some : (o : Option Entry) → o ≡ None → IsSome o → ⊥
none_some None e h = cc
none_some (Some x) e h = cc

module _ (world : PrefixValue → Setting) (plan : Plan) (rounds : ℕ) (held : ℕ → PrefixValue → ℕ → Option Entry) (are : AreRounds world plan rounds held) (before : ℕ) (prefix : PrefixValue) (less : before < rounds) (known : IsTrue (has_prefix plan prefix)) where
  pub holder_is_as : (a : ℕ) → IsSome (held (suc before) prefix a) → (world prefix).has a ≡ true
  holder_is_as a h = elim (cases_Bool ((world prefix).has a)) [
    | inl there ↦ there
    | inr away ↦ absurd (none_some (held (suc before) prefix a) ((are before prefix less known).only_ases a away) h)
  ]

  pub few_hold : (graph : Topology) → ((a : ℕ) → (world prefix).has a ≡ true → has graph a ≡ true) → as_count graph ≤ 150000 → AreFew (held (suc before) prefix)
  few_hold graph belong few ases apart all = let n = length-le-as_count graph ases (apart_from_distinct ases apart) (λ a o. belong a (holder_is_as a (all a o))) in omega (arith, n, few)
