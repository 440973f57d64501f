-- Plans of seeds after an edit of an announcement.
use Rattle.std.proofs.Common.{◌≡◌, ◌≢◌, ◌<◌, ◌≤◌, ◌==◌, ◌+◌, ◌-◌, ℕ, suc, nat_le, nat_lt, arith, Bool, true, false, cond, Option, Some, None, List, [], ◌∷◌, length, inl, inr, refl, sym, ap, subst, ◌∙◌}
use Rattle.std.specs.Prelude.{slice_get}
use Rattle.std.proofs.lemmas.Bool.{eqb-true, le-leb, leb-true, ltb-true, or_cases, true≢false}
use Rattle.std.specs.Cmp.{both_ways}
use Rattle.std.specs.Ordering.{eq_by_cmp}
use Rattle.std.proofs.lemmas.Bool.Decides.{nat_tests}
use Rattle.std.specs.FinMap as fin
use Rattle.std.specs.FinSet as set
use Rattle.net_names.specs.Numbers.{occurs}
use Rattle.net_names.specs.Prefixes.{PrefixValue, prefix_cmp}
use Rattle.stability_laws.specs.Plans.{Plan, announced_path, announcement_cmp, announcer_of, announcers_of, announces, with_announcement}
use Rattle.stability_laws.specs.SeedEdits.{IsEditOf, IsEditWithin, edit_asn, edit_prefix, edited, without_announcement}
use Rattle.stability_laws.specs.declared.seed_plan.edits.SeedEdit.{SeedEdit}
use Rattle.stability_laws.specs.declared.seed_plan.edits.SeedEdit.TheVariants.{Announce, Withdraw}
use Rattle.stability_laws.proofs.KeyLists.{eq_is, eq_same, insert_there}
use Rattle.stability_laws.proofs.PlanListings.{announcers_listed}
use Rattle.net_names.specs.Orders.{announcement_total, exact_announcement, exact_prefix, prefix_total}
use Rattle.leak_round.specs.Limits.{IsWithinLimits}
use Rattle.sim_core.proofs.PayloadEdits.{there_unit}
use Rattle.sim_core.proofs.Standing.{stands}

-- ---- what stays

pub edited_prefixes : (p : Plan) (e : SeedEdit) → IsEditOf p e → (edited p e).prefixes ≡ p.prefixes
edited_prefixes p (Announce prefix path) known = insert_there prefix_total exact_prefix p.prefixes prefix (there_unit (fin.get p.prefixes prefix) known)
edited_prefixes p (Withdraw prefix a) known = refl

pub edited_leakers : (p : Plan) (e : SeedEdit) → (edited p e).leakers ≡ p.leakers
edited_leakers p (Announce prefix path) = refl
edited_leakers p (Withdraw prefix a) = refl

apart : (q prefix : PrefixValue) (x a : ℕ) → x ≢ a → eq_by_cmp announcement_cmp (q, x) (prefix, a) ≡ false
apart q prefix x a other = by (eq_by_cmp announcement_cmp (q, x) (prefix, a)) refl
  where
    by : (b : Bool) → eq_by_cmp announcement_cmp (q, x) (prefix, a) ≡ b → b ≡ false
    by false e = refl
    by true e = absurd (other (ap (λ (t : PrefixValue × ℕ). t.1) (eq_is announcement_total exact_announcement (q, x) (prefix, a) e)))

apart_prefix : (q prefix : PrefixValue) (x a : ℕ) → eq_by_cmp prefix_cmp q prefix ≡ false → eq_by_cmp announcement_cmp (q, x) (prefix, a) ≡ false
apart_prefix q prefix x a other = by (eq_by_cmp announcement_cmp (q, x) (prefix, a)) refl
  where
    by : (b : Bool) → eq_by_cmp announcement_cmp (q, x) (prefix, a) ≡ b → b ≡ false
    by false e = refl
    by true e = absurd (true≢false (sym (eq_same prefix_total exact_prefix q prefix (ap (λ (t : PrefixValue × ℕ). t.0) (eq_is announcement_total exact_announcement (q, x) (prefix, a) e))) ∙ other))

-- what the other ASes announce
pub other_paths : (p : Plan) (e : SeedEdit) (x : ℕ) → x ≢ edit_asn e → (q : PrefixValue) → announced_path (edited p e) q x ≡ announced_path p q x
other_paths p (Announce prefix path) x other q =
    fin.get-insert announcement_total p.announced (prefix, announcer_of path) path (q, x) ∙ ap (λ b. cond b (Some path) (fin.get p.announced (q, x))) (apart q prefix x (announcer_of path) other)
other_paths p (Withdraw prefix a) x other q = fin.get-remove announcement_total p.announced (prefix, a) (q, x) ∙ ap (λ b. cond b None (fin.get p.announced (q, x))) (apart q prefix x a other)

-- what is announced of other prefixes
pub other_prefixes : (p : Plan) (e : SeedEdit) (q : PrefixValue) → eq_by_cmp prefix_cmp q (edit_prefix e) ≡ false → (x : ℕ) → announced_path (edited p e) q x ≡ announced_path p q x
other_prefixes p (Announce prefix path) q other x =
    fin.get-insert announcement_total p.announced (prefix, announcer_of path) path (q, x) ∙ ap (λ b. cond b (Some path) (fin.get p.announced (q, x))) (apart_prefix q prefix x (announcer_of path) other)
other_prefixes p (Withdraw prefix a) q other x = fin.get-remove announcement_total p.announced (prefix, a) (q, x) ∙ ap (λ b. cond b None (fin.get p.announced (q, x))) (apart_prefix q prefix x a other)

-- ---- who announces

place : (x : ℕ) (xs : List ℕ) → occurs x xs ≡ true → (i : ℕ) × (slice_get xs i ≡ Some x)
place x [] h = absurd (true≢false (sym h))
place x (y ∷ ys) h = elim (or_cases (y == x) (occurs x ys) h) [
  | inl here ↦ (0, ap (λ z. Some z) (eqb-true y x here))
  | inr later ↦ (let r = place x ys later in (suc r.0, r.1))
]

still : (p q : Plan) (x : ℕ) → ((prefix : PrefixValue) → announced_path q prefix x ≡ announced_path p prefix x) → occurs x (announcers_of p) ≡ true → occurs x (announcers_of q) ≡ true
still p q x same h =
    let at = place x (announcers_of p) h in
    let who = (announcers_listed p).only at.0 x at.1 in
    let there = (announcers_listed q).whole x (record { prefix = who.prefix; path = who.path; announced = same who.prefix ∙ who.announced }) in
    stands x there.0 (announcers_of q) there.1

-- the other ASes announce something where they did before
pub other_announcers : (p : Plan) (e : SeedEdit) (x : ℕ) → x ≢ edit_asn e → occurs x (announcers_of (edited p e)) ≡ occurs x (announcers_of p)
other_announcers p e x other =
    both_ways (occurs x (announcers_of (edited p e))) (occurs x (announcers_of p))
    (still (edited p e) p x (λ q. sym (other_paths p e x other q)))
    (still p (edited p e) x (other_paths p e x other))

-- ---- limits

over : (n most : ℕ) → most < n → nat_lt most n ≡ true
over n most h = grind (arith, nat_tests, h)

within : (n most : ℕ) → n ≤ most → nat_lt most n ≡ false
within n most h = grind (arith, nat_tests, h)

-- how many announcements there are then
len_with : (p : Plan) (prefix : PrefixValue) (path : List ℕ) (known : Bool) → announces p prefix (announcer_of path) ≡ known → fin.len (with_announcement p prefix path).announced ≡ cond known (fin.len p.announced) (fin.len p.announced + 1)
len_with p prefix path known is = fin.len-insert announcement_total p.announced (prefix, announcer_of path) path ∙ ap (λ b. cond b (fin.len p.announced) (fin.len p.announced + 1)) is

pub one_more : (p : Plan) (prefix : PrefixValue) (path : List ℕ) (n : ℕ) → announces p prefix (announcer_of path) ≡ false → n ≡ fin.len p.announced → nat_le 64 n ≡ nat_lt 64 (fin.len (with_announcement p prefix path).announced)
one_more p prefix path n new is = test n (fin.len (with_announcement p prefix path).announced) (len_with p prefix path false new ∙ ap (λ k. k + 1) (sym is))
  where
    test : (k m : ℕ) → m ≡ k + 1 → nat_le 64 k ≡ nat_lt 64 m
    test k m e = both_ways (nat_le 64 k) (nat_lt 64 m) (λ h. over m 64 (omega (arith, leb-true 64 k h, e))) (λ h. le-leb 64 k (omega (arith, ltb-true 64 m h, e)))

pub no_more : (p : Plan) (prefix : PrefixValue) (path : List ℕ) → announces p prefix (announcer_of path) ≡ true → fin.len p.announced ≤ 64 → false ≡ nat_lt 64 (fin.len (with_announcement p prefix path).announced)
no_more p prefix path known few = sym (within (fin.len (with_announcement p prefix path).announced) 64 (subst (λ n. n ≤ 64) (sym (len_with p prefix path true known)) few))

pub len_without : (p : Plan) (prefix : PrefixValue) (a : ℕ) → fin.len p.announced ≤ 64 → fin.len (without_announcement p prefix a).announced ≤ 64
len_without p prefix a few = subst (λ n. n ≤ 64) (sym (fin.len-remove announcement_total p.announced (prefix, a))) (by (announces p prefix a))
  where
    by : (b : Bool) → cond b (fin.len p.announced - 1) (fin.len p.announced) ≤ 64
    by true = omega (arith, few)
    by false = few

short_put : (b : Bool) (path y : List ℕ) (o : Option (List ℕ)) → length path ≤ 64 → ((z : List ℕ) → o ≡ Some z → length z ≤ 64) → cond b (Some path) o ≡ Some y → length y ≤ 64
short_put true path y o short rest is = (let same : path ≡ y = cc in subst (λ (z : List ℕ). length z ≤ 64) same short)
short_put false path y o short rest is = rest y is

short_cut : (b : Bool) (y : List ℕ) (o : Option (List ℕ)) → ((z : List ℕ) → o ≡ Some z → length z ≤ 64) → cond b None o ≡ Some y → length y ≤ 64
short_cut true y o rest is = cc
short_cut false y o rest is = rest y is

pub edited_within : (p : Plan) (e : SeedEdit) → IsWithinLimits p → IsEditOf p e → IsEditWithin 64 e → fin.len (edited p e).announced ≤ 64 → IsWithinLimits (edited p e)
edited_within p e small known within few = record {
  prefixes = subst (λ (s : set.FinSet prefix_cmp). length (fin.keys s) ≤ 32) (sym (edited_prefixes p e known)) small.prefixes;
  announcements = few;
  paths = by e within;
}
  where
    by : (d : SeedEdit) → IsEditWithin 64 d → (q : PrefixValue) (x : ℕ) (y : List ℕ) → announced_path (edited p d) q x ≡ Some y → length y ≤ 64
    by (Announce prefix path) within q x y is =
        let k : PrefixValue × ℕ = (prefix, announcer_of path) in
        short_put (eq_by_cmp announcement_cmp (q, x) k) path y (fin.get p.announced (q, x)) within.1 (small.paths q x) (sym (fin.get-insert announcement_total p.announced k path (q, x)) ∙ is)
    by (Withdraw prefix a) within q x y is =
        short_cut (eq_by_cmp announcement_cmp (q, x) (prefix, a)) y (fin.get p.announced (q, x)) (small.paths q x) (sym (fin.get-remove announcement_total p.announced (prefix, a) (q, x)) ∙ is)
