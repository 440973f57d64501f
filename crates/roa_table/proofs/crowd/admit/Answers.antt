use Rattle.std.proofs.Common.{◌≡◌, ◌<◌, ◌≤◌, length, ◌⊎◌, true, subst, sym, ◌∙◌, ap, inl, inr}
use Rattle.roa_table.specs.Sets.{set_of}
use Rattle.roa_table.specs.Lists.{stands_in}
use Rattle.roa_table.specs.Judging.{fault_at}
use Rattle.roa_table.specs.Gathering.{Admits}
use Rattle.roa_table.proofs.Admitted.{too_many, admits}
use Rattle.roa_table.proofs.crowd.admit.Goals as goal
use Rattle.roa_table.proofs.crowd.admit.Goals.{else-not-known-via-then-not-known+else-count-ge-MOST_PAYLOADS, else-not-known-via-else-not-known}

pub returns-then-count-ge-MOST_PAYLOADS-clause-err : goal.returns-then-count-ge-MOST_PAYLOADS-clause-err
returns-then-count-ge-MOST_PAYLOADS-clause-err c =
    let keys = c.args.vrps.now.keys in
    let count = c.len-count.ensures in
    ap (fault_at (set_of keys) c.args.row) (sym c.in_ok-vrp.ensures)
    ∙ too_many keys count.ordered c.args.row c.in_ok-vrp.vrp (sym c.contains-known.ensures ∙ c.if-not-known.true) (subst (λ n. 2000000 ≤ n) count.len c.if-count-ge-MOST_PAYLOADS.true)

pub returns-clause-ok : goal.returns-clause-ok
returns-clause-ok c =
    let keys = c.args.vrps.now.keys in
    let room : (stands_in keys c.in_ok-vrp.vrp ≡ true) ⊎ (length keys < 2000000) = elim c.else-not-known.branch [ else-not-known-via-then-not-known+else-count-ge-MOST_PAYLOADS w ↦ inr (subst (λ n. n < 2000000) c.len-count.ensures.len w.if-count-ge-MOST_PAYLOADS.false) | else-not-known-via-else-not-known w ↦ inl (sym c.contains-known.ensures ∙ w.if-not-known.false) ] in
    subst (λ p. Admits c.args.row p keys c.insert.new.self.keys) c.in_ok-vrp.ensures
    (admits keys c.len-count.ensures.ordered c.args.row c.in_ok-vrp.vrp c.insert.new.self.keys room c.in_ok-insert.ensures.keys)
