-- The entries of an ordered map of numbers as a finite map.
use Rattle.std.proofs.Common.{◌≡◌, ℕ, cond, List, [], ◌∷◌, Some, None, refl, sym, ap, ◌∙◌}
use Rattle.std.specs.Ordering.{nat_cmp, eq_by_cmp}
use Rattle.std.specs.Cmp.{eq_by_cmp_equiv, nat_cmp_total}
use Rattle.std.specs.Map.{lookup}
use Rattle.std.specs.BTreeMap.{is_at}
use Rattle.std.specs.FinMap as map

module _ {X : Type 0} where
  find_is : (es : List (ℕ × X)) (q : ℕ) → map.find nat_cmp q es ≡ lookup (is_at (nat_cmp q)) es
  find_is [] q = refl
  find_is (e ∷ es) q = ap (cond (is_at (nat_cmp q) e.0) (Some e.1)) (find_is es q)

  -- what the map has at a number
  pub stored_at : (es : List (ℕ × X)) (q : ℕ) → map.get (map.from_entries {R = nat_cmp} es) q ≡ lookup (is_at (nat_cmp q)) es
  stored_at es q = map.get-from_entries nat_cmp_total es q ∙ find_is es q

  -- entries that differ at one number make maps that differ there
  pub stored_put : (es fs : List (ℕ × X)) (a : ℕ) (x : X)
      → ((q : ℕ) → lookup (is_at (nat_cmp q)) fs ≡ cond (is_at (nat_cmp a) q) (Some x) (lookup (is_at (nat_cmp q)) es))
      → map.from_entries {R = nat_cmp} fs ≡ map.insert (map.from_entries es) a x
  stored_put es fs a x h = map.same_map nat_cmp_total map.nat_cmp-IsAntisymmetric _ _ (λ q.
      stored_at fs q ∙ h q ∙ ap (λ b. cond b (Some x) (lookup (is_at (nat_cmp q)) es)) ((eq_by_cmp_equiv nat_cmp_total).symm a q)
      ∙ sym (map.get-insert nat_cmp_total (map.from_entries es) a x q ∙ ap (cond (eq_by_cmp nat_cmp q a) (Some x)) (stored_at es q)))

  -- entries of which those at one number are taken out make a map without it
  pub stored_gone : (es fs : List (ℕ × X)) (a : ℕ)
      → ((q : ℕ) → lookup (is_at (nat_cmp q)) fs ≡ cond (is_at (nat_cmp a) q) None (lookup (is_at (nat_cmp q)) es))
      → map.from_entries {R = nat_cmp} fs ≡ map.remove (map.from_entries es) a
  stored_gone es fs a h = map.same_map nat_cmp_total map.nat_cmp-IsAntisymmetric _ _ (λ q.
      stored_at fs q ∙ h q ∙ ap (λ b. cond b None (lookup (is_at (nat_cmp q)) es)) ((eq_by_cmp_equiv nat_cmp_total).symm a q)
      ∙ sym (map.get-remove nat_cmp_total (map.from_entries es) a q ∙ ap (cond (eq_by_cmp nat_cmp q a) None) (stored_at es q)))
