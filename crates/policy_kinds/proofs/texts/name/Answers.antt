use Rattle.std.proofs.Common.{sym, ap}
use Rattle.policy_kinds.specs.Names.{name_of}
use Rattle.policy_kinds.proofs.texts.name.Goals as goal

pub returns-in-Plain : goal.returns-in-Plain
returns-in-Plain c = ap name_of (sym c.in-Plain.is)

pub returns-in-DropInvalid : goal.returns-in-DropInvalid
returns-in-DropInvalid c = ap name_of (sym c.in-DropInvalid.is)

pub returns-in-PreferValid : goal.returns-in-PreferValid
returns-in-PreferValid c = ap name_of (sym c.in-PreferValid.is)

pub returns-in-ProviderFirst : goal.returns-in-ProviderFirst
returns-in-ProviderFirst c = ap name_of (sym c.in-ProviderFirst.is)

pub returns-in-Otc : goal.returns-in-Otc
returns-in-Otc c = ap name_of (sym c.in-Otc.is)

pub returns-in-DropInvalidOtc : goal.returns-in-DropInvalidOtc
returns-in-DropInvalidOtc c = ap name_of (sym c.in-DropInvalidOtc.is)
