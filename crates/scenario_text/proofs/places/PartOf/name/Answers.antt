use Rattle.std.proofs.Common.{refl}
use Rattle.scenario_text.proofs.places.PartOf.name.Goals as goal

pub returns-in-Prefix : goal.returns-in-Prefix
returns-in-Prefix c = rw c.in-Prefix.is refl

pub returns-in-Number : goal.returns-in-Number
returns-in-Number c = rw c.in-Number.is refl

pub returns-in-Path : goal.returns-in-Path
returns-in-Path c = rw c.in-Path.is refl

pub returns-in-Policy : goal.returns-in-Policy
returns-in-Policy c = rw c.in-Policy.is refl
