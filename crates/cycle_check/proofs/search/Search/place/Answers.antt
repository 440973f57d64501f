use Rattle.std.proofs.Common.{List, Option, None, Some, nat_eq, ◌≡◌, ℕ, IfSome, sym}
use Rattle.std.specs.List.{position}
use Rattle.std.specs.Map.{keys_of}
use Rattle.cycle_check.specs.Searches.{reached_at}
use Rattle.cycle_check.proofs.Reaching.{found_at}
use Rattle.cycle_check.proofs.search.Search.place.Goals as goal

at_found : (es : List (ℕ × ℕ)) (a : ℕ) (o : Option ℕ) → o ≡ position (nat_eq a) (keys_of es) → IfSome o (λ i. reached_at es i ≡ a)
at_found es a None e = tt
at_found es a (Some i) e = found_at es a i (sym e)

pub returns-clause-found : goal.returns-clause-found
returns-clause-found c = at_found c.args.self.now.reached.entries c.args.asn c.get_index_of.result c.get_index_of.ensures.index
