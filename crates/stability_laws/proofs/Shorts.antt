-- Routings of short paths.
use Rattle.std.proofs.Common.{◌≡◌, ℕ, ◌<◌, ◌≤◌, ◌-◌, ◌^◌, Bool, true, false, cond, List, [], Option, Some, None, length, sym, ap, subst, ◌∙◌, arith}
use Rattle.std.specs.Ordering.{nat_cmp, eq_by_cmp}
use Rattle.std.specs.Cmp.{nat_cmp_total}
use Rattle.std.specs.FinMap as map
use Rattle.stability_laws.specs.declared.entry.Entry.{Entry}
use Rattle.stability_laws.specs.Short.{HasShortPaths}

none_some : (e : Entry) → None ≡ Some e → length e.path < 2 ^ 32 - 1
none_some e h = absurd cc

-- the routing of no entries
pub short_empty : (es : List (ℕ × Entry)) → es ≡ [] → HasShortPaths (map.from_entries es)
short_empty es is n e h = none_some e (sym (ap (λ xs. map.get (map.from_entries {R = nat_cmp} xs) n) is ∙ map.get-empty nat_cmp n) ∙ h)

put_at : (b : Bool) (x : Entry) (o : Option Entry) (e : Entry) → length x.path ≤ 4294967294 → (o ≡ Some e → length e.path < 2 ^ 32 - 1) → cond b (Some x) o ≡ Some e → length e.path < 2 ^ 32 - 1
put_at true x o e fits rest h = let is : x ≡ e = cc in subst (λ (y : Entry). length y.path < 2 ^ 32 - 1) is (omega (arith, fits))
put_at false x o e fits rest h = rest h

-- one more short path
pub short_insert : (m : map.FinMap nat_cmp Entry) (a : ℕ) (x : Entry) → HasShortPaths m → length x.path ≤ 4294967294 → HasShortPaths (map.insert m a x)
short_insert m a x short fits n e h = put_at (eq_by_cmp nat_cmp n a) x (map.get m n) e fits (short n e) (sym (map.get-insert nat_cmp_total m a x n) ∙ h)

gone_at : (b : Bool) (o : Option Entry) (e : Entry) → (o ≡ Some e → length e.path < 2 ^ 32 - 1) → cond b None o ≡ Some e → length e.path < 2 ^ 32 - 1
gone_at true o e rest h = none_some e h
gone_at false o e rest h = rest h

-- one AS less
pub short_remove : (m : map.FinMap nat_cmp Entry) (a : ℕ) → HasShortPaths m → HasShortPaths (map.remove m a)
short_remove m a short n e h = gone_at (eq_by_cmp nat_cmp n a) (map.get m n) e (short n e) (sym (map.get-remove nat_cmp_total m a n) ∙ h)
