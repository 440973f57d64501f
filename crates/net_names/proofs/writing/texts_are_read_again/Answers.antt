use Rattle.net_names.proofs.Again.{class_again, asn_again, addr_again, prefix_again}
use Rattle.net_names.proofs.writing.texts_are_read_again.Goals as goal

pub returns : goal.returns
returns c = record { class = class_again; asn = asn_again; addr = addr_again; prefix = prefix_again }
