use Rattle.std.proofs.Common.{◌≡◌, ◌^◌, ◌<◌, ◌≤◌, ◌-◌, length, take, true}
use Rattle.std.specs.Char.{is_digit}
use Rattle.std.specs.List.{list_all}
use Rattle.std.specs.Str.Parse.{digits_value}
use Rattle.net_names.proofs.digits.read_digits.Given as goal

abbrev pub invariant-loop-len : goal.invariant-loop-len
invariant-loop-len l = record {
  value : l.value ≡ digits_value 10 (take l.len l.text);
  digits : list_all (λ c. is_digit c 10) (take l.len l.text) ≡ true;
  within : l.len ≤ length l.text;
  short : l.len ≤ l.most;
  small : l.value < 10 ^ l.len;
}

abbrev pub decreases-loop-len : goal.decreases-loop-len
decreases-loop-len l = l.most - l.len
