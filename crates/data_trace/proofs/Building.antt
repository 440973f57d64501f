-- Lists are built from no lists.
use Rattle.std.proofs.Common.{◌≡◌, ◌≢◌, ⊎_elim, ℕ, zero, suc, ◌+◌, ◌<◌, ◌≤◌, Bool, true, false, ◌||◌, Option, Some, None, List, length, refl, sym, ◌∙◌, ap, arith, cond}
use Rattle.std.specs.Prelude.{nat_eq}
use Rattle.std.specs.List.{list_any, range_with_len}
use Rattle.std.proofs.lemmas.Bool.{cases_lt, cases_eq, or_right, eq-eqb}
use Rattle.std.proofs.lemmas.List.{get_or_past}
use Rattle.data_trace.specs.declared.places.PlaceHop.{PlaceHop}
use Rattle.data_trace.specs.declared.places.PlaceHop.TheVariants.{NoRoute}
use Rattle.data_trace.specs.Traces.{IsIn}
use Rattle.data_trace.specs.Marks.{hop_at}
use Rattle.data_trace.specs.Lists.{link_at, target, AreLists, HasLists, owner_but, AreNone}
use Rattle.data_trace.proofs.ListLemmas.{eqb_no}

-- which numbers are among those from a on
pub range_in : (a n x : ℕ) → a ≤ x → x < a + n → IsIn x (range_with_len a n)
range_in a zero x l m = absurd (omega arith)
range_in a (suc n) x l m = ⊎_elim (λ (e : x ≡ a). ap (λ v. v || list_any (nat_eq x) (range_with_len (a + 1) n)) (eq-eqb x a e))
    (λ (ne : x ≢ a). or_right (nat_eq x a) (list_any (nat_eq x) (range_with_len (a + 1) n)) (range_in (a + 1) n x (⊎_elim (λ (k : a < x). omega (arith, k)) (λ (k : x ≤ a). absurd (ne (omega (arith, k, l)))) (cases_lt a x)) (omega (arith, m)))) (cases_eq x a)

pub range_all : (n x : ℕ) → x < n → IsIn x (range_with_len 0 n)
range_all n x l = range_in 0 n x (omega arith) (omega (arith, l))

pub range_apart : (a n x : ℕ) → x < a → list_any (nat_eq x) (range_with_len a n) ≡ false
range_apart a zero x l = refl
range_apart a (suc n) x l =
    let ne : x ≢ a = λ e. absurd (omega (arith, l, e)) in
    ap (λ v. v || list_any (nat_eq x) (range_with_len (a + 1) n)) (eqb_no x a ne) ∙ range_apart (a + 1) n x (omega (arith, l))

none_some : (x : ℕ) → None ≡ Some x → ⊥
none_some x e = cc

-- before any place has joined a list
pub no_lists : (hops : List PlaceHop) (first before after : List (Option ℕ)) → AreNone first (length hops) → AreNone before (length hops) → AreNone after (length hops) → HasLists hops (range_with_len 0 (length hops)) first before after
no_lists hops first before after f b a = record {
  first_len = f.len;
  before_len = b.len;
  after_len = a.len;
  first_below = λ x y e. absurd (none_some y (sym (f.each x) ∙ e));
  before_below = λ x y e. absurd (none_some y (sym (b.each x) ∙ e));
  after_below = λ x y e. absurd (none_some y (sym (a.each x) ∙ e));
  lists = ∣ (λ x. 0, lists) ∣₁;
} where
  none : (x : ℕ) → owner_but hops (range_with_len 0 (length hops)) x ≡ None
  none x = ⊎_elim (λ (l : x < length hops). ap (λ v. cond v None (target (hop_at hops x))) (range_all (length hops) x l)) (λ (g : length hops ≤ x). past g (list_any (nat_eq x) (range_with_len 0 (length hops)))) (cases_lt x (length hops))
    where
      past : length hops ≤ x → (v : Bool) → cond v None (target (hop_at hops x)) ≡ None
      past g true = refl
      past g false = ap target (get_or_past hops x NoRoute g)

  lists : AreLists (owner_but hops (range_with_len 0 (length hops))) (link_at first) (link_at before) (link_at after) (λ x. 0)
  lists = record {
    front = λ x y o n. absurd (none_some y (sym (none x) ∙ o));
    behind = λ x y p o n. absurd (none_some y (sym (none x) ∙ o));
    starts = λ x y e. absurd (none_some x (sym (f.each y) ∙ e));
    goes_on = λ x y z o e. absurd (none_some y (sym (none x) ∙ o));
  }
