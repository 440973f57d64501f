-- What one line of a relationship file says (CAIDA's AS relationships, serial-1; serial-2 writes a source in the fourth field).
use Rattle.std.specs.Prelude.{ℕ, ◌==◌, ◌<◌, nat_lt, List, ◌∷◌, option_map, unwrap_or, if◌then◌else◌}
use Rattle.std.specs.Str.Lines.{strip_carriage_return}
use Rattle.net_names.specs.Steps.{◌>>=◌}
use Rattle.net_names.specs.Links.{converse}
use Rattle.net_names.specs.Texts.{fields, is_skipped, asn_of, rel_of}
use Rattle.net_names.specs.declared.routes.Rel.{Rel}
use Rattle.caida_reader.specs.declared.line.Line.{Line}
use Rattle.caida_reader.specs.declared.line.Line.TheVariants.{Skipped, Unreadable, SelfLink, Link}

-- The link of a and b, of which b is this to a: the pair with the lower number first, and what the higher AS is to the lower one. Equal numbers make no link.
abbrev pub link : ℕ → ℕ → Rel → Line
link a b r = if a == b then SelfLink else if nat_lt a b then Link a b r else Link b a (converse r)

-- What fields say: an AS number, an AS number and a relation, where all three are readable; further fields are read past (CAIDA AS Relationships, serial-1 and serial-2).
abbrev pub said_by : List (List ℕ) → Line
said_by (first ∷ second ∷ third ∷ further) = unwrap_or
    (asn_of first >>= λ a. asn_of second >>= λ b. option_map (link a b) (rel_of third)) Unreadable
said_by _ = Unreadable

-- What a line says, without one carriage return at its end: nothing where it is skipped, and else what its fields between `|` say.
abbrev pub says : List ℕ → Line
says l = let t = strip_carriage_return l in if is_skipped t then Skipped else said_by (fields 124 t)

-- A link's first AS is the lower one.
abbrev pub IsRising : Line → Type 0
IsRising (Link lo hi rel) = lo < hi
IsRising said = Unit {0}
