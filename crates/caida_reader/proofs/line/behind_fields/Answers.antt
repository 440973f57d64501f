use Rattle.std.proofs.Common.{◌≢◌, ◌∷◌, inr, refl, sym, ◌∙◌, ap}
use Rattle.std.proofs.lemmas.List.Elements.{All-cons}
use Rattle.caida_reader.proofs.Cutting.{first_line}
use Rattle.caida_reader.proofs.line.behind_fields.Goals as goal

pub returns-in-Some : goal.returns-in-Some
returns-in-Some c =
    let parts = first_line c.in-Some.more.now c.in_ok-rest.field-0-0.now c.in_ok-rest.rest.now (sym c.in_ok-rest.ensures) in
    record {
      end = 124 ∷ c.in_ok-rest.field-0-0.now;
      whole = c.in-Some.ensures ∙ ap (λ l. 124 ∷ l) parts.1;
      one_line = All-cons (λ byte. byte ≢ 10) 124 _ (λ e. cc) parts.0;
      bar = inr (c.in_ok-rest.field-0-0.now, refl);
    }
