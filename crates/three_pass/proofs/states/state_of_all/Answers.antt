use Rattle.std.proofs.Common.{◌≡◌, ◌+◌, [], ◌∷◌, ◌++◌, true, inl, inr, Some, None, Option, is_some, option_map, take, take_all, refl, sym, ◌∙◌, ap, subst}
use Rattle.std.proofs.lemmas.List.{take_more}
use Rattle.net_names.specs.Numbers.{last_or, occurs}
use Rattle.policy_laws.specs.Plain.{IsOf}
use Rattle.stability_laws.specs.declared.entry.Seed.{Seed}
use Rattle.route_choice.specs.declared.held.SeedHeld.{SeedHeld}
use Rattle.route_choice.specs.Routings.{seed_of, seeds_of}
use Rattle.route_choice.specs.Tables.{seed_at}
use Rattle.route_choice.proofs.Numbers.{in_more}
use Rattle.path_pool.specs.declared.pool.PathPool.{PathPool}
use Rattle.three_pass.proofs.states.state_of_all.Goals as goal

pub loop-asn-init : goal.loop-asn-init
loop-asn-init g c = λ a s there is. cc

pub loop-asn-preserved : goal.loop-asn-preserved
loop-asn-preserved g c = λ a s there is.
    let xs = c.ases-ases.result.now in
    let i = c.loop-asn.asn-index in
    let st = λ (t : Seed). g.V.OriginStates.state_of c.args.states.now c.args.prefix (last_or 0 t.path) in
    let more : take (i + 1) xs ≡ take i xs ++ c.asn-item.result ∷ [] = take_more xs i c.asn-item.result c.loop-asn-test.true ∙ ap (λ b. take i xs ++ b ∷ []) (sym c.asn-item.is) in
    elim (in_more a c.asn-item.result (take i xs) (take (i + 1) xs) more there) [
      | inl same ↦ c.seed_state-state.ensures ∙ ap (λ b. option_map st (seeds_of c.args.pool.now c.args.seeds.now b)) same ∙ ap (option_map st) is
      | inr before ↦
          let held : c.loop-asn.all ≡ Some (st s) = c.loop-asn.invariant a s before is in
          elim (c.differs.ensures c.if-differs.false) [
            | inl none ↦ (let x : None ≡ Some (st s) = sym none ∙ held in cc)
            | inr one ↦ sym one ∙ held
          ]
    ]

same_some : (pool : PathPool) (o : Option SeedHeld) → is_some o ≡ is_some (option_map (seed_of pool) o)
same_some pool None = refl
same_some pool (Some h) = refl

pub returns : goal.returns
returns g c = λ a s is.
    let xs = c.ases-ases.result.now in
    let there : occurs a xs ≡ true = c.ases-ases.ensures a ∙ same_some c.args.pool.now (seed_at c.args.seeds.now a) ∙ ap is_some is in
    let all : c.loop-asn.all ≡ Some (g.V.OriginStates.state_of c.args.states.now c.args.prefix (last_or 0 s.path)) = c.loop-asn.invariant a s (ap (occurs a) (take_all c.loop-asn.asn-index xs c.loop-asn-test.false) ∙ there) is in
    subst (λ o. IsOf o (g.V.OriginStates.state_of c.args.states.now c.args.prefix (last_or 0 s.path))) (sym all) refl

pub returns-then-differs : goal.returns-then-differs
returns-then-differs g c = λ a s is. tt
