use Rattle.std.proofs.Common.{◌≡◌, ℕ, ◌+◌, ◌≤◌, true, false, length, take, None}
use Rattle.std.specs.Prelude.{IsSome}
use Rattle.net_names.specs.Numbers.{occurs}
use Rattle.route_choice.specs.Rows.{entries_of}
use Rattle.route_choice.specs.Slots.{slot_at, entry_at, entries_at, uses_in, uses_of}
use Rattle.route_choice.proofs.slots.take_rows.Given as goal

abbrev pub invariant-loop-index : goal.invariant-loop-index
invariant-loop-index l = record {
  entries : entries_of l.rows.items ≡ entries_at l.initial.from (take l.index l.ases);
  none : (a : ℕ) → occurs a (take l.index l.ases) ≡ true → entry_at l.from a ≡ None;
  others : (a : ℕ) → occurs a (take l.index l.ases) ≡ false → slot_at l.from a ≡ slot_at l.initial.from a;
  kept : (a : ℕ) → IsSome (slot_at l.initial.from a) → IsSome (slot_at l.from a);
  uses : (k : ℕ) → uses_in (entries_of l.rows.items) k + uses_of l.from k ≡ uses_of l.initial.from k;
  spare : l.from.spare ≡ l.initial.from.spare;
  len : length l.rows.items ≡ l.index;
  room : length l.ases ≤ l.rows.cap;
}
