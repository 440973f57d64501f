use Rattle.std.proofs.Common.{◌∙◌, ap}
use Rattle.net_names.specs.Numbers.{occurs}
use Rattle.net_names.proofs.Shared.{occurs_before, occurs_last}
use Rattle.sim_core.proofs.Standing.{stands}
use Rattle.sim_core.proofs.readers.list_reader.Goals as goal

pub returns-in-Some-clause-this : goal.returns-in-Some-clause-this
returns-in-Some-clause-this c = stands c.args.asn c.in-Some.field-0 c.args.readers.now.ases c.in-Some.ensures.found

pub returns-in-Some-clause-more : goal.returns-in-Some-clause-more
returns-in-Some-clause-more c = λ x h. h

pub returns-in_err-room-clause-more : goal.returns-in_err-room-clause-more
returns-in_err-room-clause-more c = λ x h. ap (occurs x) c.room.ensures.same ∙ h

pub returns-clause-this : goal.returns-clause-this
returns-clause-this c = ap (occurs c.args.asn) c.add-place.ensures.list ∙ occurs_last c.room.new.self.ases c.args.asn

pub returns-clause-more : goal.returns-clause-more
returns-clause-more c = λ x h. ap (occurs x) c.add-place.ensures.list ∙ occurs_before x c.room.new.self.ases c.args.asn (ap (occurs x) c.room.ensures.same ∙ h)
