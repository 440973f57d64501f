-- A pair that is marked stays so where a further one is marked.
use Rattle.std.proofs.Common.{◌≡◌, ℕ, ◌<◌, Bool, true, false, List, length, length-set, get_or, set, refl, sym, ap, ◌∙◌, arith, nat_eq, min, max}
use Rattle.std.proofs.lemmas.Bool.{eqb-true, eqb-false}
use Rattle.std.proofs.lemmas.List.{get_or_default, get_or-set_same, get_or-set_other}
use Rattle.std.specs.Int.{bit_at}
use Rattle.std.specs.Int.RustNames.{bit_and, bit_or}
use Rattle.std.proofs.lemmas.Nat.Bits.{bit_at_and, bit_at_or, same_from_bits}
use Rattle.caida_reader.specs.Marks.{word_of, bits_of, IsMarked}

least : (x a n m : ℕ) → x ≡ min (max a n) m → min a m ≡ m → x ≡ m
least x a n m is h = omega (arith, is, h)

kept_bits : (a n m : ℕ) → bit_and a m ≡ m → bit_and (bit_or a n) m ≡ m
kept_bits a n m h = same_from_bits _ _ (λ i.
    least _ (bit_at a i) (bit_at n i) (bit_at m i)
    (bit_at_and (bit_or a n) m i ∙ ap (λ x. min x (bit_at m i)) (bit_at_or a n i))
    (sym (bit_at_and a m i) ∙ ap (λ x. bit_at x i) h))

pub still_marked : (words : List ℕ) (at w bits : ℕ) → w ≡ get_or words at w → at < length words → (pair : ℕ × ℕ) → IsMarked words pair → IsMarked (set words at (bit_or w bits)) pair
still_marked words at w bits is inside pair h within = by_word (nat_eq place at) refl
  where
    place : ℕ
    place = word_of (length words) pair

    same_place : word_of (length (set words at (bit_or w bits))) pair ≡ place
    same_place = ap (λ n. word_of n pair) (length-set words at (bit_or w bits))

    was : bit_and (get_or words place 0) (bits_of pair) ≡ bits_of pair
    was = h (rw (← same_place, ← length-set words at (bit_or w bits)) within)

    by_word : (b : Bool) → nat_eq place at ≡ b → bit_and (get_or (set words at (bit_or w bits)) (word_of (length (set words at (bit_or w bits))) pair) 0) (bits_of pair) ≡ bits_of pair
    by_word true e =
        let same : place ≡ at = eqb-true _ _ e in
        let here : get_or words at 0 ≡ w = get_or_default words at 0 w inside ∙ sym is in
        ap (λ k. bit_and (get_or (set words at (bit_or w bits)) k 0) (bits_of pair)) (same_place ∙ same)
        ∙ ap (λ x. bit_and x (bits_of pair)) (get_or-set_same words at (bit_or w bits) 0 inside)
        ∙ kept_bits w bits (bits_of pair) (rw (same, here) at was)
    by_word false e =
        let other = eqb-false _ _ e in
        ap (λ k. bit_and (get_or (set words at (bit_or w bits)) k 0) (bits_of pair)) same_place
        ∙ ap (λ x. bit_and x (bits_of pair)) (get_or-set_other words at place (bit_or w bits) 0 other) ∙ was
