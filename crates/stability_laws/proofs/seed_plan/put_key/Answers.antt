use Rattle.std.proofs.Common.{sym, ap, subst, ◌∙◌}
use Rattle.stability_laws.specs.PlanLists.{set_of, IsRising}
use Rattle.stability_laws.proofs.KeyLists.{kept_there, put_new}
use Rattle.stability_laws.proofs.seed_plan.put_key.Goals as goal

pub returns-in-Ok-clause-ok : goal.returns-in-Ok-clause-ok
returns-in-Ok-clause-ok g c = kept_there g.met.K.Ord.total c.requires.exact c.args.keys.now.items c.as_slice.result.now c.as_slice.ensures.value c.requires.rising c.args.key c.in-Ok.field-0 c.in-Ok.ensures.bound c.in-Ok.ensures.position

pub returns-in_ok-insert-in-Err-clause-ok : goal.returns-in_ok-insert-in-Err-clause-ok
returns-in_ok-insert-in-Err-clause-ok g c =
    ap (λ ks. set_of g.K.Ord.cmp ks) c.in_ok-insert-in-Err.ensures.items
    ∙ (put_new g.met.K.Ord.total c.requires.exact c.args.keys.now.items c.as_slice.result.now c.as_slice.ensures.value c.requires.rising c.args.key c.in-Err.at c.in-Err.ensures.bound c.in-Err.ensures.position).1

pub returns-in_ok-insert-in-Err-clause-rising : goal.returns-in_ok-insert-in-Err-clause-rising
returns-in_ok-insert-in-Err-clause-rising g c =
    subst (λ ks. IsRising g.K.Ord.cmp ks) (sym c.in_ok-insert-in-Err.ensures.items)
    (put_new g.met.K.Ord.total c.requires.exact c.args.keys.now.items c.as_slice.result.now c.as_slice.ensures.value c.requires.rising c.args.key c.in-Err.at c.in-Err.ensures.bound c.in-Err.ensures.position).0
