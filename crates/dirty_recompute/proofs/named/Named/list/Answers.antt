use Rattle.std.proofs.Common.{◌≡◌, ℕ, Option, Box, sym, ◌∙◌, ap, subst}
use Rattle.std.specs.Global.{Global}
use Rattle.stability_laws.specs.declared.entry.Seed.{Seed}
use Rattle.route_choice.specs.declared.named_set.NamedSet.{NamedSet}
use Rattle.route_choice.specs.NamedSets.{is_named}
use Rattle.route_choice.specs.Naming.{AreNamed}
use Rattle.route_choice.specs.Routings.{seeds_of}
use Rattle.route_choice.proofs.Naming.{are_named}
use Rattle.dirty_recompute.proofs.named.Named.list.Goals as goal

pub returns-in-Ok-new : goal.returns-in-Ok-new
returns-in-Ok-new c = λ s is.
    let seeds : ℕ → Option Seed = seeds_of c.args.pool.now c.args.seeds.now in
    let same : c.in-Ok-new.listed ≡ s = cc in
    let value : s.value ≡ c.in-Ok.named = ap (λ (t : Box NamedSet Global). t.value) (sym same) ∙ c.in-Ok-new.ensures.ok in
    subst (λ (t : NamedSet). AreNamed (is_named t) seeds) (sym value) (are_named (is_named c.in-Ok.named) seeds c.in-Ok.ensures.ends)
