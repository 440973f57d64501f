-- What fits in the room of a buffer.
use Rattle.std.proofs.Common.{◌≡◌, ◌≤◌, ◌+◌, ◌-◌, ℕ, List, ◌++◌, sym, ap, ◌∙◌, length, length-append, take, min, nat_le, nat_eq, arith}
use Rattle.std.proofs.lemmas.List.{take_all}
use Rattle.std.proofs.lemmas.Bool.Decides.{nat_tests}
use Rattle.std.proofs.Math.Seq.{take-append-add}

take-min : (n : ℕ) (xs : List ℕ) → take (min (length xs) n) xs ≡ take n xs
take-min n xs = grind (arith, take_all (min (length xs) n) xs, take_all n xs)

-- the bytes that are kept and those that fit
pub take-fits : (room : ℕ) (kept piece : List ℕ) → length kept ≤ room
    → kept ++ take (min (length piece) (room - length kept)) piece ≡ take room (kept ++ piece)
take-fits room kept piece h =
    let all : length kept + (room - length kept) ≡ room = omega arith in
    ap (λ bytes. kept ++ bytes) (take-min (room - length kept) piece)
    ∙ sym (take-append-add kept piece (room - length kept))
    ∙ ap (λ n. take n (kept ++ piece)) all

-- all of the piece fits
pub all_fits : (room : ℕ) (kept piece : List ℕ) → length kept ≤ room
    → nat_eq (min (length piece) (room - length kept)) (length piece) ≡ nat_le (length (kept ++ piece)) room
all_fits room kept piece h = rw (length-append kept piece) (grind (arith, nat_tests))

pub ruleset fitting = (take-fits, all_fits)
