use Rattle.std.proofs.Common.{◌≡◌, refl, ap, ◌∙◌}
use Rattle.std.specs.Option.{is_some}
use Rattle.io_edge.specs.Kept.{place_of}
use Rattle.io_edge.proofs.FileLemmas.{place-found, place-left}
use Rattle.io_edge.proofs.files.NamedFiles.begin.Goals as goal

pub returns-clause-found : goal.returns-clause-found
returns-clause-found c =
    let begun : c.place-self-inside.result ≡ place_of c.self.inside.all.items c.args.name.now = cc in
    let found = c.is_some.ensures ∙ ap is_some begun ∙ place-found c.self.inside.all.items c.args.name.now in
    rw (← c.self.view_is) (rw found (λ h. h, λ h. h))

pub returns-clause-left : goal.returns-clause-left
returns-clause-left c =
    let begun : c.place-self-inside.result ≡ place_of c.self.inside.all.items c.args.name.now = cc in
    rw (← c.self.view_is) (rw (begun, place-left c.self.inside.all.items c.args.name.now) refl)
