-- Texts that begin with a field, and with a line.
use Rattle.std.specs.Prelude.{◌≡◌, ◌⊎◌, ℕ, ◌<◌, ◌≤◌, true, List, [], ◌∷◌, ◌++◌, length, Some, codes}
use Rattle.std.specs.Char.{is_digit}
use Rattle.std.specs.List.{list_all}
use Rattle.net_names.specs.declared.routes.Rel.{Rel}
use Rattle.net_names.specs.declared.routes.Rel.TheVariants.{Customer, Peer}
use Rattle.net_names.specs.Texts.{asn_of}
use Rattle.caida_reader.specs.Lines.{IsOneLine}
use Rattle.caida_reader.specs.Says.{says}
use Rattle.caida_reader.specs.declared.line.Line.{Line}

-- The text begins with a field of digits that says this AS number, and a bar; this stands behind the bar.
pub record BeginsWithAsn (text : List ℕ) (asn : ℕ) (rest : List ℕ) : Type 0 where
  pub field : List ℕ
  pub whole : text ≡ field ++ 124 ∷ rest
  pub some : 0 < length field
  pub positive : 1 ≤ asn
  pub digits : list_all (λ c. is_digit c 10) field ≡ true
  pub value : asn_of field ≡ Some asn

-- The text begins with a line that says this, and a line feed; this stands behind the line feed.
pub record BeginsWithLine (text : List ℕ) (said : Line) (rest : List ℕ) : Type 0 where
  pub line : List ℕ
  pub whole : text ≡ line ++ 10 ∷ rest
  pub one_line : IsOneLine line
  pub value : said ≡ says line

-- The text begins with a relation: -1 for a customer, 0 for a peer (CAIDA AS Relationships, serial-1); this stands behind it.
abbrev pub BeginsWithRel : List ℕ → Rel → List ℕ → Type 0
BeginsWithRel text rel rest = ((rel ≡ Customer) × (text ≡ codes "-1" ++ rest)) ⊎ ((rel ≡ Peer) × (text ≡ codes "0" ++ rest))

-- The text begins with nothing or a bar and further fields, and a line feed; this stands behind the line feed.
pub record BeginsWithFields (text : List ℕ) (rest : List ℕ) : Type 0 where
  pub end : List ℕ
  pub whole : text ≡ end ++ 10 ∷ rest
  pub one_line : IsOneLine end
  pub bar : (end ≡ []) ⊎ ((more : List ℕ) × (end ≡ 124 ∷ more))
