-- What the exit of a `?` returns.
use Rattle.std.proofs.Common.{◌≡◌, Result, Ok, Err, IfErr, sym, subst}
use Rattle.std.specs.Prelude.{IsErrAnd}

-- what holds of the error that is handed on holds of what is returned
pub handed_on : {T E : Type 0} (P : E → Type 0) (e : E) (r : Result T E) → IsErrAnd r (λ x. x ≡ e) → P e → IfErr r P
handed_on P e (Ok x) is h = absurd is
handed_on P e (Err x) is h = subst P (sym is) h
