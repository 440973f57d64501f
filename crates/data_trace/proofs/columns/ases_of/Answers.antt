use Rattle.std.proofs.Common.{◌≡◌, ℕ, ◌≤◌, length, sym, ◌∙◌, ap, subst, arith}
use Rattle.std.specs.Prelude.{nat_eq}
use Rattle.std.specs.List.{IsDistinct}
use Rattle.net_names.specs.Numbers.{occurs}
use Rattle.as_graph.specs.Topology.{has}
use Rattle.as_places.specs.Places.{PlacedAses}
use Rattle.data_trace.proofs.Inside.{ok_gives}
use Rattle.data_trace.proofs.columns.ases_of.Goals as goal

pub returns-clause-listed : goal.returns-clause-listed
returns-clause-listed c =
    ok_gives (λ (p : PlacedAses). p.ases ≡ c.ases.result.now) (λ p. (a : ℕ) → occurs a p.ases ≡ has c.args.graph.now a) c.of.result
    (λ p e a. ap (occurs a) e ∙ c.ases.ensures.listed a) c.of.ensures.list

pub returns-clause-few : goal.returns-clause-few
returns-clause-few c =
    ok_gives (λ (p : PlacedAses). p.ases ≡ c.ases.result.now) (λ p. length p.ases ≤ 150000) c.of.result
    (λ p e. omega (arith, ap length e, c.ases.ensures.counted, c.as_count-count.ensures.value, c.as_count-count.ensures.few)) c.of.ensures.list

pub returns-clause-apart : goal.returns-clause-apart
returns-clause-apart c =
    ok_gives (λ (p : PlacedAses). p.ases ≡ c.ases.result.now) (λ p. IsDistinct nat_eq p.ases) c.of.result
    (λ p e. subst (IsDistinct nat_eq) (sym e) c.ases.ensures.apart) c.of.ensures.list
