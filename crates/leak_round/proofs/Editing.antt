-- The announcements after an edit.
use Rattle.std.proofs.Common.{◌≡◌, ◌⊎◌, inl, inr, ℕ, zero, suc, ◌+◌, ◌-◌, ◌≤◌, Bool, true, false, not, ◌==◌, cond, Option, Some, None, option_map, List, [], ◌∷◌, ◌++◌, length, refl, sym, ap, subst, ◌∙◌, arith}
use Rattle.std.specs.Prelude.{IsTrue, is_some, slice_get, fold}
use Rattle.std.specs.FinMap as fin
use Rattle.std.specs.Ordering.{eq_by_cmp}
use Rattle.std.proofs.lemmas.Bool.{true≢false, eq-eqb, eqb-true}
use Rattle.std.proofs.lemmas.List.{length-append}
use Rattle.net_names.specs.Prefixes.{PrefixValue}
use Rattle.path_pool.specs.declared.path_id.PathId.{PathId}
use Rattle.path_pool.specs.declared.pool.PathPool.{PathPool}
use Rattle.path_pool.specs.Pool.{IsLive, GainsWholePath, SamePaths, list_of, holds_of}
use Rattle.stability_laws.specs.Plans.{Plan, announcement_cmp, announced_path, announces, announcer_of, has_prefix, with_announcement}
use Rattle.stability_laws.specs.SeedEdits.{without_announcement}
use Rattle.stability_laws.proofs.KeyLists.{eq_is, eq_same, insert_there}
use Rattle.stability_laws.proofs.PlanEdits.{not_without, announced_anew}
use Rattle.net_names.specs.Orders.{prefix_total, exact_prefix, announcement_total, exact_announcement}
use Rattle.route_choice.proofs.Lists.{held_live}
use Rattle.dirty_recompute.specs.Resources.{IsUndone}
use Rattle.leak_round.specs.declared.announced.Announced.{Announced}
use Rattle.leak_round.specs.declared.edited.EditedSeeds.{EditedSeeds}
use Rattle.leak_round.specs.Announced.{is_of, own_path, AreAnnounced}
use Rattle.leak_round.specs.Edited.{others_of, EndsWithPath, AreSeedsOf}
use Rattle.leak_round.specs.Growth.{KeepsPaths}
use Rattle.leak_round.specs.Limits.{IsWithinLimits}
use Rattle.leak_round.proofs.Announcing.{is_of-itself, own_path-push}
use Rattle.leak_round.proofs.Keeping.{announced_kept}
use Rattle.leak_round.proofs.Laying.{itself_at}
use Rattle.leak_round.proofs.Listing.{got_either}

-- where the paths are the same nothing has to be undone
pub undone_same : (old new : PathPool) → SamePaths old new → IsUndone old new
undone_same old new same = record {
  holds = same.holds;
  held_live = λ k some. same.stays_live k (held_live old k some);
  lists = λ k was is. same.lists k was;
}

pub undone_itself : (pool : PathPool) → IsUndone pool pool
undone_itself pool = record { holds = λ k. refl; held_live = λ k some. held_live pool k some; lists = λ k was is. refl }

is_of_own : (x : Announced) → is_of x.prefix x.asn x ≡ true
is_of_own x = rw (itself_at x.prefix.family x.prefix.addr x.prefix.len, eq-eqb x.asn x.asn refl) refl

-- an announcement is that of a prefix by an AS where these are its key
key_is : (x : Announced) (p : PrefixValue) (b : ℕ) → is_of p b x ≡ eq_by_cmp announcement_cmp (p, b) (x.prefix, x.asn)
key_is x p b = by (is_of p b x) (eq_by_cmp announcement_cmp (p, b) (x.prefix, x.asn)) refl refl
  where
    by : (c d : Bool) → is_of p b x ≡ c → eq_by_cmp announcement_cmp (p, b) (x.prefix, x.asn) ≡ d → c ≡ d
    by true true is e = refl
    by false false is e = refl
    by true false is e =
        let (q, r) = is_of-itself x p b is in
        let same : (p, b) ≡ (x.prefix, x.asn) = λ i. (sym q i, sym r i) in
        absurd (true≢false (sym (eq_same announcement_total exact_announcement (p, b) (x.prefix, x.asn) same) ∙ e))
    by false true is e =
        let same : (p, b) ≡ (x.prefix, x.asn) = eq_is announcement_total exact_announcement (p, b) (x.prefix, x.asn) e in
        absurd (true≢false (sym (is_of_own x) ∙ ap (λ (k : PrefixValue × ℕ). is_of k.0 k.1 x) (sym same) ∙ is))

-- the announcements but one
module _ (prefix : PrefixValue) (a : ℕ) where
  abbrev step : PrefixValue → ℕ → Option PathId → Announced → Option PathId
  step p b found x = cond (is_of p b x) (Some x.path) found

  none_own : (xs : List Announced) (before : Option PathId) → fold (step prefix a) before (others_of prefix a xs) ≡ before
  none_own [] before = refl
  none_own (x ∷ xs) before = by (is_of prefix a x) refl (none_own xs before)
    where
      by : (c : Bool) → is_of prefix a x ≡ c → fold (step prefix a) before (others_of prefix a xs) ≡ before → fold (step prefix a) before (cond (not c) (x ∷ others_of prefix a xs) (others_of prefix a xs)) ≡ before
      by true is rest = rest
      by false is rest = ap (λ c. fold (step prefix a) (cond c (Some x.path) before) (others_of prefix a xs)) is ∙ rest

  pub others_own : (p : PrefixValue) (b : ℕ) → ((x : Announced) → is_of prefix a x ≡ true → is_of p b x ≡ false) → (xs : List Announced) (before : Option PathId) → fold (step p b) before (others_of prefix a xs) ≡ fold (step p b) before xs
  others_own p b apart [] before = refl
  others_own p b apart (x ∷ xs) before = by (is_of prefix a x) refl (λ found. others_own p b apart xs found)
    where
      by : (c : Bool) → is_of prefix a x ≡ c → ((found : Option PathId) → fold (step p b) found (others_of prefix a xs) ≡ fold (step p b) found xs)
          → fold (step p b) before (cond (not c) (x ∷ others_of prefix a xs) (others_of prefix a xs)) ≡ fold (step p b) (step p b before x) xs
      by true is rest = rest before ∙ ap (λ c. fold (step p b) (cond c (Some x.path) before) xs) (sym (apart x is))
      by false is rest = rest (step p b before x)

  -- the others announce what they announced
  own_path-others : (xs : List Announced) (p : PrefixValue) (b : ℕ) → own_path (others_of prefix a xs) p b ≡ cond (eq_by_cmp announcement_cmp (p, b) (prefix, a)) None (own_path xs p b)
  own_path-others xs p b = by (eq_by_cmp announcement_cmp (p, b) (prefix, a)) refl
    where
      by : (c : Bool) → eq_by_cmp announcement_cmp (p, b) (prefix, a) ≡ c → own_path (others_of prefix a xs) p b ≡ cond c None (own_path xs p b)
      by true e =
          let same : (p, b) ≡ (prefix, a) = eq_is announcement_total exact_announcement (p, b) (prefix, a) e in
          ap (λ (k : PrefixValue × ℕ). own_path (others_of prefix a xs) k.0 k.1) same ∙ none_own xs None
      by false e = others_own p b (λ x is. (let (q, r) = is_of-itself x prefix a is in key_is x p b ∙ ap (λ (k : PrefixValue × ℕ). eq_by_cmp announcement_cmp (p, b) k) (λ i. (q i, r i)) ∙ e)) xs None

  others_at : (xs : List Announced) (i : ℕ) (x : Announced) → slice_get (others_of prefix a xs) i ≡ Some x → (j : ℕ) × (slice_get xs j ≡ Some x) × (is_of prefix a x ≡ false)
  others_at [] i x at = cc
  others_at (y ∷ xs) i x at = by (is_of prefix a y) refl (λ k is. others_at xs k x is) i at
    where
      Among : List Announced → Type 0
      Among zs = (j : ℕ) × (slice_get zs j ≡ Some x) × (is_of prefix a x ≡ false)

      by : (c : Bool) → is_of prefix a y ≡ c → ((k : ℕ) → slice_get (others_of prefix a xs) k ≡ Some x → Among xs) → (k : ℕ) → slice_get (cond (not c) (y ∷ others_of prefix a xs) (others_of prefix a xs)) k ≡ Some x → Among (y ∷ xs)
      by true is rest k at = let (j, here, other) = rest k at in (suc j, here, other)
      by false is rest zero at = let same : y ≡ x = cc in (0, at, subst (λ (z : Announced). is_of prefix a z ≡ false) same is)
      by false is rest (suc k) at = let (j, here, other) = rest k at in (suc j, here, other)

  length-others : (xs : List Announced) → length (others_of prefix a xs) ≤ length xs
  length-others [] = omega arith
  length-others (x ∷ xs) = by (is_of prefix a x) (length-others xs)
    where
      by : (c : Bool) → length (others_of prefix a xs) ≤ length xs → length (cond (not c) (x ∷ others_of prefix a xs) (others_of prefix a xs)) ≤ suc (length xs)
      by true less = omega (arith, less)
      by false less = omega (arith, less)

  -- where the AS announces the prefix there is one announcement less
  fewer_others : (xs : List Announced) (before : Option PathId) → (fold (step prefix a) before xs ≡ before) ⊎ (length (others_of prefix a xs) + 1 ≤ length xs)
  fewer_others [] before = inl refl
  fewer_others (x ∷ xs) before = by (is_of prefix a x) refl (fewer_others xs before)
    where
      by : (c : Bool) → is_of prefix a x ≡ c → (fold (step prefix a) before xs ≡ before) ⊎ (length (others_of prefix a xs) + 1 ≤ length xs)
          → (fold (step prefix a) (step prefix a before x) xs ≡ before) ⊎ (length (cond (not c) (x ∷ others_of prefix a xs) (others_of prefix a xs)) + 1 ≤ suc (length xs))
      by true is rest = inr (omega (arith, length-others xs))
      by false is (inl e) = inl (ap (λ c. fold (step prefix a) (cond c (Some x.path) before) xs) is ∙ e)
      by false is (inr less) = inr (omega (arith, less))

  module _ (pool : PathPool) (plan : Plan) (xs : List Announced) (h : AreAnnounced pool plan xs) (known : IsTrue (has_prefix plan prefix)) where
    after_at : (p : PrefixValue) (b : ℕ) → announced_path (without_announcement plan prefix a) p b ≡ cond (eq_by_cmp announcement_cmp (p, b) (prefix, a)) None (announced_path plan p b)
    after_at p b = fin.get-remove announcement_total plan.announced (prefix, a) (p, b)

    others_live : (p : PrefixValue) (b : ℕ) (id : PathId) → own_path (others_of prefix a xs) p b ≡ Some id → IsLive pool id.0
    others_live p b id e = by (eq_by_cmp announcement_cmp (p, b) (prefix, a)) (sym (own_path-others xs p b) ∙ e)
      where
        by : (c : Bool) → cond c None (own_path xs p b) ≡ Some id → IsLive pool id.0
        by true e = absurd (let nothing : None ≡ Some id = e in cc)
        by false e = h.live p b id e

    others_paths : (p : PrefixValue) (b : ℕ) → IsTrue (has_prefix plan p) → option_map (λ id. list_of pool id.0) (own_path (others_of prefix a xs) p b) ≡ announced_path (without_announcement plan prefix a) p b
    others_paths p b there = ap (option_map (λ (id : PathId). list_of pool id.0)) (own_path-others xs p b) ∙ by (eq_by_cmp announcement_cmp (p, b) (prefix, a)) ∙ sym (after_at p b)
      where
        by : (c : Bool) → option_map (λ id. list_of pool id.0) (cond c None (own_path xs p b)) ≡ cond c None (announced_path plan p b)
        by true = refl
        by false = h.paths p b there

    others_each : (i : ℕ) (x : Announced) → slice_get (others_of prefix a xs) i ≡ Some x → IsLive pool x.path.0 × (announced_path (without_announcement plan prefix a) x.prefix x.asn ≡ Some (list_of pool x.path.0))
    others_each i x at =
        let (j, here, other) = others_at xs i x at in
        let (alive, own) = h.each j x here in
        (alive, after_at x.prefix x.asn ∙ by other (eq_by_cmp announcement_cmp (x.prefix, x.asn) (prefix, a)) refl ∙ own)
      where
        by : is_of prefix a x ≡ false → (c : Bool) → eq_by_cmp announcement_cmp (x.prefix, x.asn) (prefix, a) ≡ c → cond c None (announced_path plan x.prefix x.asn) ≡ announced_path plan x.prefix x.asn
        by other false e = refl
        by other true e =
            let same : (x.prefix, x.asn) ≡ (prefix, a) = eq_is announcement_total exact_announcement (x.prefix, x.asn) (prefix, a) e in
            absurd (true≢false (sym (is_of_own x) ∙ ap (λ (k : PrefixValue × ℕ). is_of k.0 k.1 x) same ∙ other))

    others_few : length (others_of prefix a xs) ≤ fin.len (fin.remove plan.announced (prefix, a))
    others_few = by (announced_path plan prefix a) refl (fewer_others xs None)
      where
        left : (o : Option (List ℕ)) → announced_path plan prefix a ≡ o → fin.len (fin.remove plan.announced (prefix, a)) ≡ cond (is_some o) (fin.len plan.announced - 1) (fin.len plan.announced)
        left o e = fin.len-remove announcement_total plan.announced (prefix, a) ∙ ap (λ (o : Option (List ℕ)). cond (is_some o) (fin.len plan.announced - 1) (fin.len plan.announced)) e

        by : (o : Option (List ℕ)) → announced_path plan prefix a ≡ o → (own_path xs prefix a ≡ None) ⊎ (length (others_of prefix a xs) + 1 ≤ length xs) → length (others_of prefix a xs) ≤ fin.len (fin.remove plan.announced (prefix, a))
        by None e less = omega (arith, left None e, length-others xs, h.few)
        by (Some path) e (inr less) = omega (arith, left (Some path) e, less, h.few)
        by (Some path) e (inl none) = absurd (let nothing : None ≡ Some path = ap (option_map (λ (id : PathId). list_of pool id.0)) (sym none) ∙ h.paths prefix a known ∙ e in cc)

    -- the others are the announcements of the plan without one
    pub announced_without : AreAnnounced pool (without_announcement plan prefix a) (others_of prefix a xs)
    announced_without = record { live = others_live; each = others_each; paths = others_paths; few = others_few }

-- the plan's prefixes stay where one of them is announced
pub prefixes_with : (plan : Plan) (prefix : PrefixValue) (path : List ℕ) → IsTrue (has_prefix plan prefix) → (with_announcement plan prefix path).prefixes ≡ plan.prefixes
prefixes_with plan prefix path known = insert_there prefix_total exact_prefix plan.prefixes prefix (there (fin.get plan.prefixes prefix) known)
  where
    there : (o : Option (Unit {0})) → IsTrue (is_some o) → o ≡ Some tt
    there None e = absurd (true≢false (sym e))
    there (Some tt) e = refl

-- one announcement more
module _ (pool : PathPool) (plan : Plan) (xs : List Announced) (h : AreAnnounced pool plan xs) (prefix : PrefixValue) (path : List ℕ) (known : IsTrue (has_prefix plan prefix)) (new : announces plan prefix (announcer_of path) ≡ false) (id : PathId) (alive : IsLive pool id.0) (list : list_of pool id.0 ≡ path) where
  abbrev one : Announced
  one = record { prefix = prefix; asn = announcer_of path; path = id }

  with_at : (p : PrefixValue) (b : ℕ) → announced_path (with_announcement plan prefix path) p b ≡ cond (eq_by_cmp announcement_cmp (p, b) (prefix, announcer_of path)) (Some path) (announced_path plan p b)
  with_at p b = fin.get-insert announcement_total plan.announced (prefix, announcer_of path) path (p, b)

  own_at : (p : PrefixValue) (b : ℕ) → own_path (xs ++ one ∷ []) p b ≡ cond (eq_by_cmp announcement_cmp (p, b) (prefix, announcer_of path)) (Some id) (own_path xs p b)
  own_at p b = own_path-push xs one p b ∙ ap (λ c. cond c (Some id) (own_path xs p b)) (key_is one p b)

  added_live : (p : PrefixValue) (b : ℕ) (i : PathId) → own_path (xs ++ one ∷ []) p b ≡ Some i → IsLive pool i.0
  added_live p b i e = by (eq_by_cmp announcement_cmp (p, b) (prefix, announcer_of path)) (sym (own_at p b) ∙ e)
    where
      by : (c : Bool) → cond c (Some id) (own_path xs p b) ≡ Some i → IsLive pool i.0
      by true e = let same : id ≡ i = cc in subst (λ (k : PathId). IsLive pool k.0) same alive
      by false e = h.live p b i e

  added_paths : (p : PrefixValue) (b : ℕ) → IsTrue (has_prefix plan p) → option_map (λ i. list_of pool i.0) (own_path (xs ++ one ∷ []) p b) ≡ announced_path (with_announcement plan prefix path) p b
  added_paths p b there = ap (option_map (λ (i : PathId). list_of pool i.0)) (own_at p b) ∙ by (eq_by_cmp announcement_cmp (p, b) (prefix, announcer_of path)) ∙ sym (with_at p b)
    where
      by : (c : Bool) → option_map (λ i. list_of pool i.0) (cond c (Some id) (own_path xs p b)) ≡ cond c (Some path) (announced_path plan p b)
      by true = ap (λ (l : List ℕ). Some l) list
      by false = h.paths p b there

  added_each : (i : ℕ) (x : Announced) → slice_get (xs ++ one ∷ []) i ≡ Some x → IsLive pool x.path.0 × (announced_path (with_announcement plan prefix path) x.prefix x.asn ≡ Some (list_of pool x.path.0))
  added_each i x at = elim (got_either xs one i x at) [
    | inl before ↦
        let (lives, own) = h.each i x before in
        (lives, with_at x.prefix x.asn ∙ by own (eq_by_cmp announcement_cmp (x.prefix, x.asn) (prefix, announcer_of path)) refl ∙ own)
    | inr it ↦ subst (λ (z : Announced). IsLive pool z.path.0 × (announced_path (with_announcement plan prefix path) z.prefix z.asn ≡ Some (list_of pool z.path.0))) it (alive, with_at prefix (announcer_of path) ∙ here ∙ ap (λ (l : List ℕ). Some l) (sym list))
  ]
    where
      here : cond (eq_by_cmp announcement_cmp (prefix, announcer_of path) (prefix, announcer_of path)) (Some path) (announced_path plan prefix (announcer_of path)) ≡ Some path
      here = ap (λ c. cond c (Some path) (announced_path plan prefix (announcer_of path))) (eq_same announcement_total exact_announcement (prefix, announcer_of path) (prefix, announcer_of path) refl)

      by : announced_path plan x.prefix x.asn ≡ Some (list_of pool x.path.0) → (c : Bool) → eq_by_cmp announcement_cmp (x.prefix, x.asn) (prefix, announcer_of path) ≡ c → cond c (Some path) (announced_path plan x.prefix x.asn) ≡ announced_path plan x.prefix x.asn
      by own false e = refl
      by own true e =
          let same : (x.prefix, x.asn) ≡ (prefix, announcer_of path) = eq_is announcement_total exact_announcement (x.prefix, x.asn) (prefix, announcer_of path) e in
          absurd (true≢false (sym (ap is_some own) ∙ ap (λ (k : PrefixValue × ℕ). announces plan k.0 k.1) same ∙ new))

  added_few : length (xs ++ one ∷ []) ≤ fin.len (fin.insert plan.announced (prefix, announcer_of path) path)
  added_few =
      let more : fin.len (fin.insert plan.announced (prefix, announcer_of path) path) ≡ fin.len plan.announced + 1 = fin.len-insert announcement_total plan.announced (prefix, announcer_of path) path ∙ ap (λ c. cond c (fin.len plan.announced) (fin.len plan.announced + 1)) new in
      omega (arith, more, length-append xs (one ∷ []), h.few)

  pub announced_added : AreAnnounced pool (with_announcement plan prefix path) (xs ++ one ∷ [])
  announced_added = record {
    live = added_live;
    each = added_each;
    paths = λ p b there. added_paths p b (sym (ap (λ s. is_some (fin.get s p)) (prefixes_with plan prefix path known)) ∙ there);
    few = added_few;
  }

-- a path is announced in place of an earlier one
pub announced_instead : (pool : PathPool) (plan : Plan) (xs : List Announced) → AreAnnounced pool plan xs → (prefix : PrefixValue) (path : List ℕ) → IsTrue (has_prefix plan prefix) → (ys : List Announced) → EndsWithPath pool prefix path (others_of prefix (announcer_of path) xs) ys
    → AreAnnounced pool (with_announcement plan prefix path) ys
announced_instead pool plan xs h prefix path known ys last =
    let without = announced_without prefix (announcer_of path) pool plan xs h known in
    let added = announced_added pool (without_announcement plan prefix (announcer_of path)) (others_of prefix (announcer_of path) xs) without prefix path known (not_without plan prefix path) last.id last.live last.list in
    coe 1 0 (i. AreAnnounced pool (sym (announced_anew plan prefix path) i) (last.items i)) added

-- a new path has a hold that no path had
pub whole_gained : (old reserved made : PathPool) (id : PathId) (path : List ℕ) → SamePaths old reserved → GainsWholePath reserved made id.0 path → (k : ℕ) → holds_of made k ≡ holds_of old k + cond (id.0 == k) 1 0
whole_gained old reserved made id path same gains k = by (id.0 == k) refl
  where
    by : (c : Bool) → (id.0 == k) ≡ c → holds_of made k ≡ holds_of old k + cond c 1 0
    by true e = let one : id.0 ≡ k = eqb-true id.0 k e in subst (λ i. holds_of made i ≡ holds_of old i + 1) one (omega (arith, gains.one_hold, gains.fresh, same.counts id.0))
    by false e = omega (arith, gains.other_holds k (λ same_id. (let t : (id.0 == k) ≡ true = eq-eqb id.0 k (sym same_id) in cc)), same.holds k)

-- where a path is announced in place of an earlier one there are no more than 64 others
pub others_fit : (pool : PathPool) (plan : Plan) (xs : List Announced) → AreAnnounced pool plan xs → (prefix : PrefixValue) (path : List ℕ) → IsTrue (has_prefix plan prefix) → IsWithinLimits (with_announcement plan prefix path) → length (others_of prefix (announcer_of path) xs) ≤ 64
others_fit pool plan xs h prefix path known limits =
    let k : PrefixValue × ℕ = (prefix, announcer_of path) in
    let less = (announced_without prefix (announcer_of path) pool plan xs h known).few in
    let more : fin.len (fin.insert (fin.remove plan.announced k) k path) ≡ fin.len (fin.remove plan.announced k) + 1 =
    fin.len-insert announcement_total (fin.remove plan.announced k) k path ∙ ap (λ c. cond c (fin.len (fin.remove plan.announced k)) (fin.len (fin.remove plan.announced k) + 1)) (not_without plan prefix path) in
    let same : fin.len (fin.insert (fin.remove plan.announced k) k path) ≡ fin.len (fin.insert plan.announced k path) = ap (λ (p : Plan). fin.len p.announced) (announced_anew plan prefix path) in
    omega (arith, less, more, same, limits.announcements)

-- so it is where an AS does not announce a prefix any more
pub left_fit : (pool : PathPool) (plan : Plan) (xs : List Announced) → AreAnnounced pool plan xs → (prefix : PrefixValue) (a : ℕ) → IsTrue (has_prefix plan prefix) → IsWithinLimits (without_announcement plan prefix a) → length (others_of prefix a xs) ≤ 64
left_fit pool plan xs h prefix a known limits = omega (arith, (announced_without prefix a pool plan xs h known).few, limits.announcements)

module _ (old new : PathPool) (plan : Plan) (xs : List Announced) (h : AreAnnounced old plan xs) (keeps : KeepsPaths old new) (prefix : PrefixValue) (known : IsTrue (has_prefix plan prefix)) (e : EditedSeeds) (limits : IsWithinLimits e.plan) where
  -- the seeds after a path is announced
  pub seeds_instead : (path : List ℕ) (before : List Announced) → before ≡ others_of prefix (announcer_of path) xs → e.plan ≡ with_announcement plan prefix path → EndsWithPath new prefix path before e.announced.items → AreSeedsOf new plan e
  seeds_instead path before are after last = record {
    prefixes = ap (λ (p : Plan). p.prefixes) after ∙ prefixes_with plan prefix path known;
    limits = limits;
    announced = subst (λ (p : Plan). AreAnnounced new p e.announced.items) (sym after)
        (announced_instead new plan xs (announced_kept old new keeps plan xs h) prefix path known e.announced.items (subst (λ (zs : List Announced). EndsWithPath new prefix path zs e.announced.items) are last));
  }

  -- the seeds after an AS does not announce the prefix any more
  pub seeds_without : (a : ℕ) → e.announced.items ≡ others_of prefix a xs → e.plan ≡ without_announcement plan prefix a → AreSeedsOf new plan e
  seeds_without a are after = record {
    prefixes = ap (λ (p : Plan). p.prefixes) after;
    limits = limits;
    announced = coe 1 0 (i. AreAnnounced new (after i) (are i)) (announced_without prefix a new plan xs (announced_kept old new keeps plan xs h) known);
  }
