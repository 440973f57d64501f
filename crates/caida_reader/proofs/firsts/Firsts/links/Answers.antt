use Rattle.std.proofs.Common.{◌∙◌, List, ap, sym, subst}
use Rattle.std.proofs.lemmas.Result.{IfOk-weaker}
use Rattle.net_names.specs.declared.links.Link.{Link}
use Rattle.caida_reader.specs.Runs.{Lists}
use Rattle.caida_reader.proofs.SetLemmas.{all_rising}
use Rattle.caida_reader.proofs.firsts.Firsts.links.Goals as goal

pub returns-in-Ok : goal.returns-in-Ok
returns-in-Ok c = c.in-Ok.ensures.ok ∙ all_rising c.in_ok-gather.field-0.items c.args.self.now c.in_ok-gather.ensures.all c.in-Ok.ensures.rising

pub returns-in-Err : goal.returns-in-Err
returns-in-Err c =
    let same = c.deref.ensures.value ∙ ap (λ v. v.items) c.in-Err.ensures.err.0 in
    let lists = subst (λ (xs : List Link). Lists xs c.args.self.now) (sym same) c.in_ok-gather.ensures.all in
    IfOk-weaker c.put_all.result _ _ (λ links h. h c.args.self.now lists) c.put_all.ensures
