use Rattle.std.proofs.Common.{◌≡◌, length}
use Rattle.net_names.specs.Texts.{asn_of}
use Rattle.scenario_text.specs.Forms.{few_numbers}
use Rattle.scenario_text.proofs.NumberLists.{numbers_in, numbers_on}
use Rattle.scenario_text.proofs.forms.path.Given as goal

abbrev pub invariant-loop-i : goal.invariant-loop-i
invariant-loop-i l = record {
  so_far : numbers_on 64 l.path (numbers_in asn_of l.rest) ≡ few_numbers asn_of l.text;
  count : length l.path ≡ l._i;
}
