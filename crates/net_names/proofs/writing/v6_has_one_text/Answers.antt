use Rattle.net_names.proofs.AddressTexts.{in_v6_again}
use Rattle.net_names.proofs.writing.v6_has_one_text.Goals as goal

pub returns : goal.returns
returns c = record { again = in_v6_again }
