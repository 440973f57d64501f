use Rattle.std.proofs.Common.{◌≡◌, ⊎_elim, Bool, true, ◌&&◌, Some, None, ◌∙◌, ap}
use Rattle.std.specs.Prelude.{is_some}
use Rattle.std.specs.List.{Contains}
use Rattle.std.proofs.lemmas.Bool.{and_parts}
use Rattle.net_names.specs.Prefixes.{PrefixValue}
use Rattle.net_names.specs.Coverage.{holds}
use Rattle.stability_laws.specs.Plans.{prefixes_of}
use Rattle.data_trace.specs.Hops.{CanSendBy}
use Rattle.data_trace.proofs.Longest.{IsBestOf, best_of, none_of}
use Rattle.data_trace.proofs.laws.longest_is_sent.Goals as goal

both : (b c : Bool) → b ≡ true → c ≡ true → (b && c) ≡ true
both b c e f = ap (λ x. x && c) e ∙ f

pub returns : goal.returns
returns c = λ plan held addr a.
    let F : PrefixValue → Bool = λ q. holds q addr && is_some (held q a) in
    let passes : (q : PrefixValue) → CanSendBy plan held addr a q → F q ≡ true = λ q can. both (holds q addr) (is_some (held q a)) can.holds_it can.entry in
    let can : (q : PrefixValue) → Contains (prefixes_of plan) q → F q ≡ true → CanSendBy plan held addr a q =
    λ q there t. let parts = and_parts (holds q addr) (is_some (held q a)) t in record { known = there; holds_it = parts.0; entry = parts.1 } in (
      (λ p e. let b : IsBestOf F (prefixes_of plan) None p = best_of F (prefixes_of plan) p e in
          (⊎_elim (λ (h : None ≡ Some p). absurd (let k : None ≡ Some p = h in cc)) (λ h. can p h.0 h.1) b.among, λ q s. b.each q s.known (passes q s))),
      λ e q s. none_of F (prefixes_of plan) e q s.known (passes q s),
    )
