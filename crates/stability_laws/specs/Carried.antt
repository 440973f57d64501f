-- The number that goes along a link.
use Rattle.std.specs.Prelude.{ℕ, Option}
use Rattle.net_names.specs.declared.routes.Rel.{Rel}
use Rattle.policy_laws.specs.Policy.{Policy}
use Rattle.stability_laws.specs.Offers.{marked}

-- the number that the receiver, which is `to` to the sender, keeps of an entry that the sender
-- holds with this number (RFC 9234, section 5)
abbrev pub number_carried : Policy → Policy → ℕ → Rel → Option ℕ → Option ℕ
number_carried sender receiver n to otc = marked receiver.marks n to (marked sender.marks n to otc)
