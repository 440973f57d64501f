-- A book that has the policies of some ASes and the plain one for all others.
use Rattle.std.proofs.Common.{◌≡◌, ◌==◌, ◌||◌, ℕ, Bool, true, false, cond, unwrap_or, Option, None, Some, List, [], ◌∷◌, map, refl, ap, ◌∙◌, eqb-true}
use Rattle.std.specs.Prelude.{if◌then◌else◌}
use Rattle.std.specs.FinMap as fin
use Rattle.std.specs.FinMap.Entries.{find}
use Rattle.std.specs.FinSet as set
use Rattle.std.specs.Ordering.{nat_cmp}
use Rattle.std.proofs.lemmas.Cmp.{nat_cmp_total}
use Rattle.net_names.specs.Numbers.{occurs}
use Rattle.policy_kinds.specs.Kinds.{kind_policy}
use Rattle.policy_kinds.specs.declared.kind.Kind.{Kind}
use Rattle.policy_kinds.specs.declared.kind.Kind.TheVariants.{Plain}
use Rattle.stability_laws.specs.Book.{PolicyBook, policy_at}
use Rattle.sim_core.proofs.PolicyEdits.{is_key}

-- the book that gives the ASes of a list these kinds, and all others the plain one
abbrev pub listed_book : List ℕ → (ℕ → Kind) → PolicyBook Kind
listed_book ases kinds = record { rest = Plain; named = fin.from_entries (map (λ a. (a, kinds a)) ases); room = set.empty }

found : (kinds : ℕ → Kind) (a : ℕ) (xs : List ℕ) → find nat_cmp a (map (λ b. (b, kinds b)) xs) ≡ cond (occurs a xs) (Some (kinds a)) None
found kinds a [] = refl
found kinds a (x ∷ xs) = ap (λ t. cond t (Some (kinds x)) (find nat_cmp a (map (λ b. (b, kinds b)) xs))) (is_key a x) ∙ by (x == a) refl (found kinds a xs)
  where
    by : (t : Bool) → (x == a) ≡ t → find nat_cmp a (map (λ b. (b, kinds b)) xs) ≡ cond (occurs a xs) (Some (kinds a)) None → cond t (Some (kinds x)) (find nat_cmp a (map (λ b. (b, kinds b)) xs)) ≡ cond (t || occurs a xs) (Some (kinds a)) None
    by true e rest = ap (λ b. Some (kinds b)) (eqb-true x a e)
    by false e rest = rest

pub listed_kind : (ases : List ℕ) (kinds : ℕ → Kind) (a : ℕ) → policy_at (listed_book ases kinds) a ≡ (if occurs a ases then kinds a else Plain)
listed_kind ases kinds a = ap (λ (o : Option Kind). unwrap_or o Plain) (fin.get-from_entries nat_cmp_total (map (λ b. (b, kinds b)) ases) a ∙ found kinds a ases) ∙ by (occurs a ases)
  where
    by : (t : Bool) → unwrap_or (cond t (Some (kinds a)) None) Plain ≡ cond t (kinds a) Plain
    by true = refl
    by false = refl

-- where none of the ASes marks, nobody does
pub none_marks : (ases : List ℕ) (kinds : ℕ → Kind) → ((a : ℕ) → occurs a ases ≡ true → (kind_policy (kinds a)).marks ≡ false) → (a : ℕ) → (kind_policy (policy_at (listed_book ases kinds) a)).marks ≡ false
none_marks ases kinds none a = ap (λ (k : Kind). (kind_policy k).marks) (listed_kind ases kinds a) ∙ by (occurs a ases) refl
  where
    by : (t : Bool) → occurs a ases ≡ t → (kind_policy (if t then kinds a else Plain)).marks ≡ false
    by true e = none a e
    by false e = refl
