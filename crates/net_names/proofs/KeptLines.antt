-- The lines of a file, one after the other.
use Rattle.std.proofs.Common.{◌≡◌, ℕ, List, [], ◌∷◌, Some, None, Result, Ok, Err, refl, sym}
use Rattle.std.specs.Str.Lines.{strip_carriage_return}
use Rattle.net_names.specs.Lines.{IsLineAndRest, said_on}
use Rattle.net_names.specs.Texts.{cut_at}
use Rattle.net_names.proofs.Cuts.{fields_uncut, fields_cut}

pub line_cut : (bytes line rest : List ℕ) → Some (line, rest) ≡ cut_at 10 bytes → IsLineAndRest bytes (strip_carriage_return line) rest
line_cut bytes line rest c number = rw (fields_cut 10 bytes line rest (sym c)) refl

pub line_uncut : (bytes : List ℕ) → None ≡ cut_at 10 bytes → IsLineAndRest bytes (strip_carriage_return bytes) []
line_uncut bytes c number = rw (fields_uncut 10 bytes (sym c)) refl

-- what the lines say where another is left
pub goes_on : {S X E : Type 0} (says : S → X → Result S E) (said now : S) (line : X) (lines more : List X) (whole : Result S E)
    → lines ≡ line ∷ more → says said line ≡ Ok now → said_on says said lines ≡ whole → said_on says now more ≡ whole
unfolding said_on
goes_on says said now line lines more whole e read so_far = let h = rw (e, read) at so_far in h

pub stops : {S X E : Type 0} (says : S → X → Result S E) (fault : E) (said : S) (line : X) (lines more : List X) (whole : Result S E)
    → lines ≡ line ∷ more → says said line ≡ Err fault → said_on says said lines ≡ whole → whole ≡ Err fault
unfolding said_on
stops says fault said line lines more whole e read so_far = let h = rw (e, read) at so_far in sym h

pub ends : {S X E : Type 0} (says : S → X → Result S E) (said : S) (lines : List X) (whole : Result S E)
    → lines ≡ [] → said_on says said lines ≡ whole → whole ≡ Ok said
unfolding said_on
ends says said lines whole e so_far = let h = rw e at so_far in sym h
