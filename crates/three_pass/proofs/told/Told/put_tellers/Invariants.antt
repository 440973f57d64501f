use Rattle.std.proofs.Common.{◌≡◌, ℕ, ◌<◌, ◌≤◌, ◌-◌, true, Option, Some, length}
use Rattle.std.specs.Prelude.{All, slice_get, slice_index}
use Rattle.net_names.specs.Numbers.{occurs}
use Rattle.net_names.specs.declared.routes.Rel.{Rel}
use Rattle.as_graph.specs.Neighbours.{asns}
use Rattle.three_pass.specs.declared.told.Note.{Note}
use Rattle.three_pass.specs.Notes.{tos}
use Rattle.three_pass.specs.Told.{AreTrue}
use Rattle.three_pass.proofs.told.Told.put_tellers.Given as goal

abbrev pub invariant-notes : goal.invariant-notes
invariant-notes l = record {
  within : l.count ≤ length l.self.notes.items;
  own : 0 < l.count → slice_index (tos l.self.notes.items) (l.count - 1) ≡ l.fn.asn;
  told : (j : ℕ) (x : Note) → l.count ≤ j → slice_get l.self.notes.items j ≡ Some x → x.to ≡ l.fn.asn → occurs x.from.asn (asns l.looks.neighbours.items) ≡ true;
  others : (b : ℕ) → occurs b (asns l.initial.looks.neighbours.items) ≡ true → occurs b (asns l.looks.neighbours.items) ≡ true;
  each : (w : ℕ → ℕ → Option Rel) → AreTrue w l.self → All (λ x. w l.fn.asn x.asn ≡ Some x.rel) l.initial.looks.neighbours.items → All (λ x. w l.fn.asn x.asn ≡ Some x.rel) l.looks.neighbours.items;
}

abbrev pub decreases-notes : goal.decreases-notes
decreases-notes l = l.count
