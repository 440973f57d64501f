use Rattle.std.proofs.Common.{ℕ, Option}
use Rattle.policy_laws.specs.Policy.{Policy}
use Rattle.stability_laws.specs.declared.entry.Entry.{Entry}
use Rattle.stability_laws.specs.declared.entry.Seed.{Seed}
use Rattle.stability_laws.specs.Offers.{Offer}
use Rattle.stability_laws.specs.Stable.{IsRightGiven}
use Rattle.stability_laws.proofs.laws.right_by_offers.Goals as goal

pub returns : goal.returns
returns t c = λ v w book other_book state other_state seeds other_seeds f g a policy seed entry offers right.
    let F : Policy → Option Seed → (ℕ → Option Offer) → Option Entry → Type 0 = λ p s os h. IsRightGiven p s os h in
    coe 0 1 (i. F (policy i) (seed i) (λ n. offers n i) (entry i)) right
