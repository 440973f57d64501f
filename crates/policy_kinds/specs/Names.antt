-- The names of the kinds.
use Rattle.std.specs.Prelude.{ℕ, ◌==◌, List, [], ◌∷◌, Option, find, codes}
use Rattle.std.specs.Cmp.Lexicographic.{pointwise}
use Rattle.policy_kinds.specs.declared.kind.Kind.{Kind}
use Rattle.policy_kinds.specs.declared.kind.Kind.TheVariants.{Plain, DropInvalid, PreferValid, ProviderFirst, Otc, DropInvalidOtc}
use Rattle.policy_kinds.specs.Kinds.{kind_row}

-- the kind's name
abbrev pub name_of : Kind → List ℕ
name_of k = codes (kind_row k).0

-- all kinds
abbrev pub kinds : List Kind
kinds = Plain ∷ DropInvalid ∷ PreferValid ∷ ProviderFirst ∷ Otc ∷ DropInvalidOtc ∷ []

-- the kind whose name the text is
abbrev pub kind_named : List ℕ → Option Kind
kind_named text = find (λ k. pointwise ◌==◌ text (name_of k)) kinds
