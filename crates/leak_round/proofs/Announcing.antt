-- An announcement more.
use Rattle.std.proofs.Common.{◌≡◌, ℕ, ◌+◌, ◌<◌, Bool, true, false, ◌==◌, cond, Option, Some, None, List, [], ◌∷◌, ◌++◌, length, refl, sym, ap, subst, ◌∙◌, arith, inl, inr}
use Rattle.std.specs.Prelude.{IsSome, slice_get}
use Rattle.std.proofs.lemmas.Bool.{and_parts, eqb-true, eq-eqb}
use Rattle.std.proofs.lemmas.List.Sums.{fold-append, sum_by_push}
use Rattle.net_names.specs.Prefixes.{PrefixValue}
use Rattle.net_names.specs.contracts.prefixes.PrefixPartialEq.TheImpl as same_prefix
use Rattle.path_pool.specs.declared.path_id.PathId.{PathId}
use Rattle.path_pool.specs.declared.pool.PathPool.{PathPool}
use Rattle.path_pool.specs.Pool.{IsLive, GainsWholePath, SamePaths, list_of, holds_of, live_count}
use Rattle.stability_laws.specs.Plans.{Plan, announced_path}
use Rattle.route_choice.proofs.RoundLemmas.{same_prefixes}
use Rattle.leak_round.specs.declared.announced.Announced.{Announced}
use Rattle.leak_round.specs.Announced.{is_of, own_path, announced_uses, IsAnnouncing, KeepsAnnounced}
use Rattle.leak_round.proofs.Listing.{got_either}

-- a new announcement stands before the others
pub own_path-push : (xs : List Announced) (x : Announced) (prefix : PrefixValue) (a : ℕ) → own_path (xs ++ x ∷ []) prefix a ≡ cond (is_of prefix a x) (Some x.path) (own_path xs prefix a)
own_path-push xs x prefix a = fold-append (λ (found : Option PathId) (y : Announced). cond (is_of prefix a y) (Some y.path) found) None xs (x ∷ [])

pub announced_uses-push : (xs : List Announced) (x : Announced) (k : ℕ) → announced_uses (xs ++ x ∷ []) k ≡ announced_uses xs k + cond (x.path.0 == k) 1 0
announced_uses-push xs x k = sum_by_push (λ (y : Announced). cond (y.path.0 == k) 1 0) xs x

-- the announcement is that of its prefix by its AS
pub is_of-itself : (x : Announced) (prefix : PrefixValue) (a : ℕ) → is_of prefix a x ≡ true → (x.prefix ≡ prefix) × (x.asn ≡ a)
is_of-itself x prefix a e = let parts = and_parts ((same_prefix.ghosts).eq x.prefix prefix) (x.asn == a) e in (same_prefixes x.prefix prefix parts.0, eqb-true x.asn a parts.1)

pub keeps_announced : (xs : List Announced) (x : Announced) → KeepsAnnounced xs (xs ++ x ∷ [])
keeps_announced xs x prefix a h = subst IsSome (sym (own_path-push xs x prefix a)) (by (is_of prefix a x))
  where
    by : (b : Bool) → IsSome (cond b (Some x.path) (own_path xs prefix a))
    by true = refl
    by false = h

module _ (old reserved new : PathPool) (plan : Plan) (xs : List Announced) (x : Announced) (numbers : List ℕ) (h : IsAnnouncing old plan xs) (same : SamePaths old reserved) (made : GainsWholePath reserved new x.path.0 numbers) (more : live_count new ≡ live_count reserved + length numbers) (some : 0 < length numbers) (is : announced_path plan x.prefix x.asn ≡ Some numbers) where
  live_at : (prefix : PrefixValue) (a : ℕ) (id : PathId) (b : Bool) → cond b (Some x.path) (own_path xs prefix a) ≡ Some id → IsLive new id.0
  live_at prefix a id true e = let one : x.path ≡ id = cc in subst (λ (i : PathId). IsLive new i.0) one made.live
  live_at prefix a id false e = made.stays_live id.0 (same.stays_live id.0 (h.live prefix a id e))

  sound_at : (prefix : PrefixValue) (a : ℕ) (id : PathId) (b : Bool) → is_of prefix a x ≡ b → cond b (Some x.path) (own_path xs prefix a) ≡ Some id → announced_path plan prefix a ≡ Some (list_of new id.0)
  sound_at prefix a id true at e =
      let one : x.path ≡ id = cc in
      let (p, q) = is_of-itself x prefix a at in
      sym (λ i. announced_path plan (p i) (q i)) ∙ is ∙ ap (λ (l : List ℕ). Some l) (sym made.list) ∙ ap (λ (i : PathId). Some (list_of new i.0)) one
  sound_at prefix a id false at e =
      let alive = h.live prefix a id e in
      h.sound prefix a id e ∙ ap (λ (l : List ℕ). Some l) (sym (made.lists id.0 (same.stays_live id.0 alive) ∙ same.lists id.0 alive))

  holds_at : (k : ℕ) (b : Bool) → (x.path.0 == k) ≡ b → holds_of new k ≡ announced_uses xs k + cond b 1 0
  holds_at k true e = let one : x.path.0 ≡ k = eqb-true x.path.0 k e in subst (λ i. holds_of new i ≡ announced_uses xs i + 1) one (omega (arith, made.one_hold, made.fresh, same.counts x.path.0, h.holds x.path.0))
  holds_at k false e = omega (arith, made.other_holds k (λ same_id. (let t : (x.path.0 == k) ≡ true = eq-eqb x.path.0 k (sym same_id) in cc)), same.holds k, h.holds k)

  each_at : (place : ℕ) (y : Announced) → slice_get (xs ++ x ∷ []) place ≡ Some y → IsLive new y.path.0 × (announced_path plan y.prefix y.asn ≡ Some (list_of new y.path.0))
  each_at place y at = elim (got_either xs x place y at) [
    | inl before ↦
        let (alive, own) = h.each place y before in
        (made.stays_live y.path.0 (same.stays_live y.path.0 alive), own ∙ ap (λ (l : List ℕ). Some l) (sym (made.lists y.path.0 (same.stays_live y.path.0 alive) ∙ same.lists y.path.0 alive)))
    | inr it ↦ subst (λ (z : Announced). IsLive new z.path.0 × (announced_path plan z.prefix z.asn ≡ Some (list_of new z.path.0))) it (made.live, is ∙ ap (λ (l : List ℕ). Some l) (sym made.list))
  ]

  -- one announcement more stands in the pool
  pub announced_more : IsAnnouncing new plan (xs ++ x ∷ [])
  announced_more = record {
    live = λ prefix a id e. live_at prefix a id (is_of prefix a x) (sym (own_path-push xs x prefix a) ∙ e);
    sound = λ prefix a id e. sound_at prefix a id (is_of prefix a x) refl (sym (own_path-push xs x prefix a) ∙ e);
    each = each_at;
    holds = λ k. holds_at k (x.path.0 == k) refl ∙ sym (announced_uses-push xs x k);
    counts = λ k. omega (arith, made.counts k, same.counts k, h.counts k, more, same.live, some);
  }
