use Rattle.std.proofs.Common.{◌<◌, List, All, sym, subst}
use Rattle.std.proofs.lemmas.Result.{IfOk-weaker}
use Rattle.net_names.specs.declared.links.Link.{Link}
use Rattle.caida_reader.specs.Firsts.{FirstMap}
use Rattle.caida_reader.specs.Runs.{joined, AreApart, Lists}
use Rattle.caida_reader.proofs.SetLemmas.{lists-lower}
use Rattle.caida_reader.proofs.firsts.Firsts.gather.Goals as goal

pub returns : goal.returns
returns c =
    let runs = c.self.inside.runs in
    let others = c.self.inside.others in
    let lists = subst (λ (xs : List Link). Lists xs others) (sym c.deref.ensures.value) c.in_ok-others.ensures in
    record {
      all = IfOk-weaker c.links-2.result (λ links. (more : FirstMap) → AreApart runs more → Lists c.deref.result.now more → Lists links.items (joined runs more)) (λ links. Lists links.items c.args.self.now)
          (λ links h. subst (λ (m : FirstMap). Lists links.items m) c.self.view_is (h others c.self.invariant.apart lists)) c.links-2.ensures;
      lower = IfOk-weaker c.links-2.result (λ links. (more : FirstMap) → AreApart runs more → Lists c.deref.result.now more → Lists links.items (joined runs more)) (λ links. All (λ l. l.lo < l.hi) links.items)
          (λ links h. lists-lower links.items (joined runs others) c.self.inside.count (h others c.self.invariant.apart lists) c.self.invariant.pairs) c.links-2.ensures;
    }
