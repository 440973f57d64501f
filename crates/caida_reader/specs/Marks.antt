-- Marks of pairs, kept as bits of words. They only spare a search.
use Rattle.std.specs.Prelude.{◌≡◌, ℕ, ◌+◌, ◌*◌, ◌/◌, ◌%◌, ◌^◌, ◌<◌, List, length, slice_index}
use Rattle.std.specs.Int.RustNames.{bit_and, bit_or}

-- A number below 2 ^ 64 whose upper bits depend on all of a number (any such number serves).
abbrev pub mixed : ℕ → ℕ
mixed number = number * 0x9e37_79b9_7f4a_7c15 % 2 ^ 64

-- The word, of so many, in which a pair is marked: the pairs of one lower AS are in eight words that stand together.
unfoldable pub word_of : ℕ → ℕ × ℕ → ℕ
word_of count pair = (mixed pair.0 / 2 ^ 32 * (count / 8) % 2 ^ 64) / 2 ^ 32 * 8 + pair.1 % 8

-- One bit of that word: six bits of the mixed number, from this one up, say which.
abbrev pub bit_from : ℕ → ℕ → ℕ
bit_from number shift = 1 * 2 ^ (mixed number / 2 ^ shift % 64) % 2 ^ 64

-- The bits of that word that mark it, three at most.
unfoldable pub bits_of : ℕ × ℕ → ℕ
bits_of pair = bit_or (bit_or (bit_from pair.1 58) (bit_from pair.1 52)) (bit_from pair.1 46)

-- The pair is marked: its bits are set in its word, where that is there.
abbrev pub IsMarked : List ℕ → ℕ × ℕ → Type 0
IsMarked words pair = word_of (length words) pair < length words → bit_and (slice_index words (word_of (length words) pair)) (bits_of pair) ≡ bits_of pair
