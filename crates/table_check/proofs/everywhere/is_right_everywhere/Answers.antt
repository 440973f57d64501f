use Rattle.table_check.proofs.everywhere.is_right_everywhere.Goals as goal

pub returns : goal.returns
returns g c = λ inside a. record {
  inside = λ is. c.are_right.ensures c.if-not-are_right.false a is;
  outside = λ out. c.are_inside.ensures inside a out;
}
