-- What the links of a file are, said of all its lines at once.
use Rattle.std.specs.Prelude.{◌≡◌, ◌≢◌, ℕ, ◌-◌, ◌<◌, ◌≤◌, ◌↔◌, List, [], length, take, All, Contains, IsPermutation, slice_get, Some, Result, Ok, Err, IsOk}
use Rattle.std.specs.FinMap as fin
use Rattle.net_names.specs.Links.{LinkMap}
use Rattle.net_names.specs.Texts.{fields}
use Rattle.net_names.specs.declared.routes.Rel.{Rel}
use Rattle.net_names.specs.Steps.{unless, first_fault}
use Rattle.caida_reader.specs.Value.{said_in, links_in, fault_after, links_of}
use Rattle.caida_reader.specs.declared.line.Line.{Line}
use Rattle.caida_reader.specs.declared.line.Line.TheVariants.{Unreadable, SelfLink, Link}
use Rattle.caida_reader.specs.declared.errors.RelError.{RelError}
use Rattle.caida_reader.specs.declared.errors.RelError.TheVariants as fault
use Rattle.net_names.specs.declared.links.TheConstants.{MOST_LINKS}

-- Lines that have links: each that isn't skipped has the form, each link joins two ASes, no two lines give one pair two relations, and 1,500,000 pairs are given at most.
pub record HasLinks (said : List Line) : Type 0 where
  pub readable : All (λ line. line ≢ Unreadable) said
  pub apart : All (λ line. line ≢ SelfLink) said
  pub agree : (lo hi : ℕ) (rel other : Rel) → Contains said (Link lo hi rel) → Contains said (Link lo hi other) → rel ≡ other
  pub few : fin.len (links_in said) ≤ MOST_LINKS

-- A file is accepted exactly where its lines have links.
abbrev pub AcceptedExactly : Type 0
AcceptedExactly = (bytes : List ℕ) → IsOk (links_of bytes) ↔ HasLinks (said_in bytes)

-- Among the links of an accepted file, a pair has a relation exactly where some line gives it.
abbrev pub GivenExactly : Type 0
GivenExactly = (bytes : List ℕ) (links : LinkMap) → links_of bytes ≡ Ok links → (lo hi : ℕ) (rel : Rel) → (fin.get links (lo, hi) ≡ Some rel) ↔ Contains (said_in bytes) (Link lo hi rel)

-- A file with the lines of an accepted file in another order has the same links.
abbrev pub AnyOrder : Type 0
AnyOrder = (bytes others : List ℕ) (links : LinkMap) → IsPermutation (fields 10 bytes) (fields 10 others) → links_of bytes ≡ Ok links → links_of others ≡ Ok links

-- The number of the line that a fault names; want of memory names none.
abbrev pub line_of : RelError → ℕ
line_of fault.Memory = 0
line_of (fault.Unreadable line) = line
line_of (fault.SelfLink line) = line
line_of (fault.Conflict line earlier) = line
line_of (fault.TooManyLinks line) = line

-- What lines stand for: the links that they give, unless one of them has a fault.
abbrev pub value_of : List Line → Result LinkMap RelError
value_of said = unless (first_fault fault_after [] said) (Ok (links_in said))

-- The fault's line is the first one at which the lines up to it have no links.
pub record IsFirstFaulty (said : List Line) (e : RelError) : Type 0 where
  pub inside : line_of e ≤ length said
  pub before : (line : ℕ) → line < line_of e → IsOk (value_of (take line said))
  pub here : value_of (take (line_of e) said) ≡ Err e

-- The fault of a file names its first faulty line.
abbrev pub FirstFaulty : Type 0
FirstFaulty = (bytes : List ℕ) (e : RelError) → links_of bytes ≡ Err e → IsFirstFaulty (said_in bytes) e

-- The line of this number says this; lines are numbered from 1.
abbrev pub SaysAt : List Line → ℕ → Line → Type 0
SaysAt said line what = (1 ≤ line) × (slice_get said (line - 1) ≡ Some what)

-- No line before this one gives the pair.
abbrev pub NoneBefore : List Line → ℕ → ℕ → ℕ → Type 0
NoneBefore said line lo hi = (earlier : ℕ) (rel : Rel) → earlier < line → SaysAt said earlier (Link lo hi rel) → ⊥

-- A conflict: the line gives another relation than the first line of its pair, which is the earlier one.
pub record IsConflict (said : List Line) (line earlier : ℕ) : Type 0 where
  pub lo : ℕ
  pub hi : ℕ
  pub rel : Rel
  pub other : Rel
  pub here : SaysAt said line (Link lo hi rel)
  pub there : SaysAt said earlier (Link lo hi other)
  pub first : NoneBefore said earlier lo hi
  pub before : earlier < line
  pub differ : rel ≢ other

-- A pair too many: no line before this one gives its pair, and those lines give 1,500,000 others.
pub record IsOneTooMany (said : List Line) (line : ℕ) : Type 0 where
  pub lo : ℕ
  pub hi : ℕ
  pub rel : Rel
  pub here : SaysAt said line (Link lo hi rel)
  pub new : NoneBefore said line lo hi
  pub full : fin.len (links_in (take (line - 1) said)) ≡ MOST_LINKS

-- What a fault says of the lines.
abbrev pub IsCause : List Line → RelError → Type 0
IsCause said fault.Memory = ⊥
IsCause said (fault.Unreadable line) = SaysAt said line Unreadable
IsCause said (fault.SelfLink line) = SaysAt said line SelfLink
IsCause said (fault.Conflict line earlier) = IsConflict said line earlier
IsCause said (fault.TooManyLinks line) = IsOneTooMany said line

-- The fault of a file is one that its lines have.
abbrev pub HasCause : Type 0
HasCause = (bytes : List ℕ) (e : RelError) → links_of bytes ≡ Err e → IsCause (said_in bytes) e
