use Rattle.rank_order.proofs.Unmoved.{all_stay}
use Rattle.rank_order.proofs.staying.ranks_stay.Goals as goal

pub returns : goal.returns
returns c = all_stay
