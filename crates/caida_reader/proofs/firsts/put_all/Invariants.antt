use Rattle.std.proofs.Common.{◌≡◌, ℕ, take, None, cond}
use Rattle.std.specs.FinMap as fin
use Rattle.caida_reader.specs.Firsts.{relations, FirstMap}
use Rattle.caida_reader.specs.Runs.{Lists}
use Rattle.caida_reader.proofs.SetLemmas.{is_among}
use Rattle.caida_reader.proofs.firsts.put_all.Given as goal

abbrev pub invariant-links : goal.invariant-links
invariant-links l = (pairs : FirstMap) → Lists l.gathered pairs → (pair : ℕ × ℕ) → fin.get l.links pair ≡ cond (is_among pair (take l.link-index l.gathered)) (fin.get (relations pairs) pair) None
