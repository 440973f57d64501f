-- The numbers of one path more.
use Rattle.std.proofs.Common.{◌≡◌, ℕ, Bool, true, false, Option, Some, None, Bor, cond, ap, subst, sym, ◌∙◌}
use Rattle.std.specs.Prelude.{IfSome, option_copied}
use Rattle.std.specs.BTreeMap.{get, is_at}
use Rattle.std.specs.Ordering.{nat_cmp}
use Rattle.std.specs.Cmp.{nat_cmp_total}
use Rattle.std.specs.FinMap.{nat_cmp-IsAntisymmetric}
use Rattle.std.proofs.lemmas.Option.{same_Some}
use Rattle.stability_laws.proofs.KeyLists.{eq_is}
use Rattle.net_names.specs.Numbers.{occurs}
use Rattle.stability_laws.specs.declared.entry.Entry.{Entry}
use Rattle.table_check.specs.declared.long_paths.LongPaths.{LongPaths}
use Rattle.table_check.specs.declared.numbers.Numbers.{Numbers}
use Rattle.table_check.specs.Numbers.{AreNumbers}

same_number : (a n : ℕ) → is_at (nat_cmp a) n ≡ true → n ≡ a
same_number a n e = sym (eq_is nat_cmp_total nat_cmp-IsAntisymmetric a n e)

-- what is kept of an AS after a path of it was put in, and of another one
pub one_path_more : (held : ℕ → Option Entry) (old new : LongPaths) (asn : ℕ) (s : Numbers) (e : Entry)
    → ((n : ℕ) → get nat_cmp new.numbers n ≡ cond (is_at (nat_cmp asn) n) (Some s) (get nat_cmp old.numbers n))
    → held asn ≡ Some e → ((a : ℕ) → occurs a s.sorted.items ≡ occurs a e.path) → AreNumbers held old → AreNumbers held new
one_path_more held old new asn s e put holds are before n t there f fits =
    by (is_at (nat_cmp asn) n) (same_number asn n) (sym (put n) ∙ there)
  where
    by : (b : Bool) → (b ≡ true → n ≡ asn) → cond b (Some s) (get nat_cmp old.numbers n) ≡ Some t → (a : ℕ) → occurs a t.sorted.items ≡ occurs a f.path
    by false h k = before n t k f fits
    by true h k =
        let is : s ≡ t = cc k in
        let path : e ≡ f = same_Some e f (sym holds ∙ ap held (sym (h cc)) ∙ fits) in
        subst (λ (u : Numbers). (a : ℕ) → occurs a u.sorted.items ≡ occurs a f.path) is (subst (λ (g : Entry). (a : ℕ) → occurs a s.sorted.items ≡ occurs a g.path) path are)

-- what is found at an AS
pub kept_of : (long : LongPaths) (asn : ℕ) (found : Option (Bor Numbers)) → option_copied found ≡ get nat_cmp long.numbers asn
    → IfSome found (λ s. (held : ℕ → Option Entry) → AreNumbers held long → (e : Entry) → held asn ≡ Some e → (a : ℕ) → occurs a s.now.sorted.items ≡ occurs a e.path)
kept_of long asn None is = tt
kept_of long asn (Some s) is = λ held are e holds. are asn s.now (sym is) e holds

-- the numbers that were found at an AS are those of what it holds in this routing
pub of_holder : (long : LongPaths) (held : ℕ → Option Entry) (asn : ℕ) (found : Option (Bor Numbers))
    → IfSome found (λ s. (f : ℕ → Option Entry) → AreNumbers f long → (e : Entry) → f asn ≡ Some e → (a : ℕ) → occurs a s.now.sorted.items ≡ occurs a e.path)
    → AreNumbers held long → IfSome found (λ s. (e : Entry) → held asn ≡ Some e → (a : ℕ) → occurs a s.now.sorted.items ≡ occurs a e.path)
of_holder long held asn None known are = tt
of_holder long held asn (Some s) known are = known held are
