-- The sixteen bytes of a number, and the eight groups that they make.
use Rattle.std.proofs.Common.{◌≡◌, ℕ, zero, suc, ◌+◌, ◌*◌, ◌/◌, ◌%◌, ◌^◌, ◌<◌, List, [], ◌∷◌, length, get_or, refl, arith}
use Rattle.std.specs.Int.{w128, byte_at, bytes_high_first, to_be_bytes, from_be_bytes}
use Rattle.std.specs.Net.Addr.{segments_of, octets_of}
use Rattle.std.proofs.Math.Nat.{div-div-eq-div-mul}

byte_small : (i n : ℕ) → byte_at i n < 256
byte_small zero n = omega arith
byte_small (suc i) n = omega arith

-- the bytes of a number are below 256
pub bytes_small : (k n i : ℕ) → get_or (bytes_high_first k n) i 0 < 256
bytes_small zero n i = omega arith
bytes_small (suc k) n zero = byte_small k n
bytes_small (suc k) n (suc i) = bytes_small k n i

-- the groups of bytes have 16 bits
pub groups_small : (octets : List ℕ) → ((k : ℕ) → get_or octets k 0 < 256) → (k : ℕ) → get_or (segments_of octets) k 0 < 2 ^ 16
groups_small [] small k = omega arith
groups_small (a ∷ []) small k = omega arith
groups_small (a ∷ b ∷ octets) small zero = omega (arith, small 0, small 1)
groups_small (a ∷ b ∷ octets) small (suc k) = groups_small octets (λ j. small (suc (suc j))) k

-- the bytes of an even number of bytes are those of the groups that they make
pub octets_of-segments_of : (groups : ℕ) (octets : List ℕ) → length octets ≡ 2 * groups → ((k : ℕ) → get_or octets k 0 < 256) → octets_of (segments_of octets) ≡ octets
octets_of-segments_of zero [] even small = refl
octets_of-segments_of zero (a ∷ octets) even small = absurd (omega (arith, even))
octets_of-segments_of (suc groups) [] even small = refl
octets_of-segments_of (suc groups) (a ∷ []) even small = absurd (omega (arith, even))
octets_of-segments_of (suc groups) (a ∷ b ∷ octets) even small =
    let high : (a * 256 + b) / 256 ≡ a = omega (arith, small 1) in
    let low : (a * 256 + b) % 256 ≡ b = omega (arith, small 1) in
    rw (high, low, octets_of-segments_of groups octets (omega (arith, even)) (λ k. small (suc (suc k)))) refl

byte_and_rest : (n p : ℕ) → n / p ≡ n / p % 256 + n / (p * 256) * 256
byte_and_rest n p = omega (arith, div-div-eq-div-mul n p 256)

-- what is read of the bytes of a number is that number
pub from_be_bytes-to_be_bytes_16 : (n : ℕ) → n < 2 ^ 128 → from_be_bytes w128 (to_be_bytes w128 n) ≡ n
from_be_bytes-to_be_bytes_16 n fits =
    let at = λ (k : ℕ). byte_and_rest n (256 ^ k) in
    omega (arith, fits, at 1, at 2, at 3, at 4, at 5, at 6, at 7, at 8, at 9, at 10, at 11, at 12, at 13, at 14)
