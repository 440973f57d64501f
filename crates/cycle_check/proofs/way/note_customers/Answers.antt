use Rattle.std.proofs.Common.{◌≡◌, ℕ, true, get_or, sym, subst, arith}
use Rattle.net_names.specs.Numbers.{occurs}
use Rattle.cycle_check.specs.Rows.{count_of, row}
use Rattle.cycle_check.specs.Ways.{IsLeftBelow}
use Rattle.cycle_check.proofs.Listing.{occurs_get}
use Rattle.cycle_check.proofs.Regions.{row_within}
use Rattle.cycle_check.proofs.Ways.{noted_more, noted_same}
use Rattle.cycle_check.proofs.way.note_customers.Goals as goal
use Rattle.cycle_check.proofs.way.note_customers.Goals.{then-counts-customer-gt0, else-counts-customer-gt0}

pub note_customer-requires : goal.note_customer-requires
note_customer-requires c = record {
  within = λ k h. (
      let xs = c.row.result.now in
      let there = subst (λ v. occurs (get_or xs k 0) v ≡ true) c.row.ensures (occurs_get xs k 0 h) in
      let less = row_within c.args.starts.now c.args.items.now c.requires.rows (get_or xs k 0) c.loop-customer.customer there in
      omega (arith, less, c.requires.room, c.loop-customer.auto.below));
}

pub loop-customer-preserved : goal.loop-customer-preserved
loop-customer-preserved c = λ p b inside less some o. (
    let starts = c.args.starts.now in
    let items = c.args.items.now in
    let counts = c.args.counts.now in
    let customer = c.loop-customer.customer in
    let test = c.loop-customer-test.true in
    let n = count_of starts in
    let before = λ (a : ℕ). c.loop-customer.invariant p a inside in
    elim c.if-counts-customer-gt0.branch [
      | then-counts-customer-gt0 w ↦ (
          let noted = w.note_customer.ensures p (omega (arith, inside, c.requires.room, c.loop-customer.auto.below)) in
          let new = noted_more (row starts items) n counts customer p w.row.result.now (get_or c.loop-customer.below p 0) (get_or w.note_customer.new.below p 0) w.row.ensures (omega (arith, test, c.requires.counts)) w.if-counts-customer-gt0.true noted before b less some o in
          subst (λ ys. IsLeftBelow (row starts items) n counts p (get_or ys p 0)) (sym w.below-is) new)
      | else-counts-customer-gt0 w ↦ (
          let new = noted_same (row starts items) n counts customer p (get_or c.loop-customer.below p 0) w.if-counts-customer-gt0.false before b less some o in
          subst (λ ys. IsLeftBelow (row starts items) n counts p (get_or ys p 0)) (sym w.below-is) new)
    ])

pub returns : goal.returns
returns c = λ p inside some. (
    let (b, left) = c.requires.left p inside some in
    let less = left.inside in
    c.loop-customer.invariant p b inside (omega (arith, less, c.requires.counts, c.loop-customer-test.false)) left.left left.linked)
