-- The part of a plan that an address and the rounds up to one depend on.
use Rattle.std.proofs.Common.{◌≡◌, ℕ, ◌+◌, ◌<◌, ◌≤◌, Bool, true, false, ◌||◌, ◌&&◌, ◌==◌, is_some, cond, Option, None, Some, Result, Ok, Err, OnOk, OnErr, List, length, take, refl, sym, ap, ◌∙◌, arith, eqb-true, true≢false}
use Rattle.std.specs.Prelude.{slice_get, slice_index}
use Rattle.std.specs.FinMap as fin
use Rattle.std.specs.Ordering.{eq_by_cmp}
use Rattle.std.proofs.lemmas.Bool.{and_parts, eq-eqb}
use Rattle.std.proofs.lemmas.List.Folds.{Any-from_list_any}
use Rattle.std.proofs.lemmas.Option.{get_or_from_slice_get, slice_get_within, slice_get-get_or}
use Rattle.net_names.proofs.Pairs.{exact_pair, pairs_total}
use Rattle.net_names.specs.Addresses.{AddrValue}
use Rattle.net_names.specs.Coverage.{holds}
use Rattle.net_names.specs.Links.{pair_cmp}
use Rattle.net_names.specs.Numbers.{occurs}
use Rattle.net_names.specs.Orders.{announcement_total, exact_announcement, exact_prefix, prefix_total}
use Rattle.net_names.specs.Prefixes.{PrefixValue, prefix_cmp}
use Rattle.as_graph.proofs.RowAses.{same_test}
use Rattle.stability_laws.specs.Plans.{IsSound, Plan, announced_path, announcement_cmp, announcer_of, announcers_of, announces, empty_plan, has_prefix, leaks_in, prefixes_of, with_announcement, with_leaker}
use Rattle.stability_laws.proofs.KeyLists.{eq_is, eq_same}
use Rattle.stability_laws.proofs.Leaking.{occurs_more}
use Rattle.stability_laws.proofs.Listing.{at_next, occurs_at, take_next}
use Rattle.stability_laws.proofs.PlanListings.{announcers_listed}
use Rattle.leak_round.specs.Limits.{IsWithinLimits}
use Rattle.trial_world.specs.Fixed.{IsPart}
use Rattle.trial_world.proofs.Subsets.{keys_le, len_le}

-- ---- one announcement more

pub on_ok : {A E P Q : Type 0} (r : Result A E) → (P → Q) → OnOk r P → OnOk r Q
on_ok (Ok x) f p = f p
on_ok (Err e) f p = tt

pub on_err : {A E P : Type 0} (r : Result A E) → P → OnErr r P
on_err (Ok x) p = tt
on_err (Err e) p = p

module _ (whole : Plan) (prefix : PrefixValue) (asn : ℕ) (path : List ℕ) (sound : IsSound whole) (at : announced_path whole prefix asn ≡ Some path) where
  pub first_is : announcer_of path ≡ asn
  first_is = get_or_from_slice_get path 0 asn 0 (sound.starts prefix asn path at)

  pub some_numbers : 1 ≤ length path
  some_numbers = slice_get_within path 0 asn (sound.starts prefix asn path at)

module _ (whole part new : Plan) (prefix : PrefixValue) (asn : ℕ) (path : List ℕ) (sound : IsSound whole) (at : announced_path whole prefix asn ≡ Some path) (is : new ≡ with_announcement part prefix path) where
  path_now : (p : PrefixValue) (a : ℕ) → announced_path new p a ≡ cond (eq_by_cmp announcement_cmp (p, a) (prefix, asn)) (Some path) (announced_path part p a)
  path_now p a =
      ap (λ (t : Plan). announced_path t p a) is
      ∙ fin.get-insert announcement_total part.announced (prefix, slice_index path 0) path (p, a)
      ∙ ap (λ n. cond (eq_by_cmp announcement_cmp (p, a) (prefix, n)) (Some path) (announced_path part p a)) (first_is whole prefix asn path sound at)

  pub here_now : announced_path new prefix asn ≡ announced_path whole prefix asn
  here_now = path_now prefix asn ∙ ap (λ t. cond t (Some path) (announced_path part prefix asn)) (eq_same announcement_total exact_announcement (prefix, asn) (prefix, asn) refl) ∙ sym at

  pub still_announced : (p : PrefixValue) (a : ℕ) → announces part p a ≡ true → announces new p a ≡ true
  still_announced p a h = ap is_some (path_now p a) ∙ by (eq_by_cmp announcement_cmp (p, a) (prefix, asn)) (announced_path part p a) h
    where
      by : (t : Bool) (o : Option (List ℕ)) → is_some o ≡ true → is_some (cond t (Some path) o) ≡ true
      by true o e = refl
      by false o e = e

  pub part_more : (addr : AddrValue) → holds prefix addr ≡ true → IsPart addr whole part → IsPart addr whole new
  part_more addr held old = record {
    announced = λ p a h. by p a (eq_by_cmp announcement_cmp (p, a) (prefix, asn)) refl h;
    known = λ p h. prefixes p (eq_by_cmp prefix_cmp p prefix) refl (sym (ap is_some (ap (λ (t : Plan). fin.get t.prefixes p) is ∙ fin.get-insert prefix_total part.prefixes prefix tt p)) ∙ h);
  }
    where
      by : (p : PrefixValue) (a : ℕ) (t : Bool) → eq_by_cmp announcement_cmp (p, a) (prefix, asn) ≡ t → announces new p a ≡ true → announced_path new p a ≡ announced_path whole p a
      by p a true e h =
          path_now p a ∙ ap (λ b. cond b (Some path) (announced_path part p a)) e ∙ sym at
          ∙ ap (λ (x : PrefixValue × ℕ). fin.get whole.announced x) (sym (eq_is announcement_total exact_announcement (p, a) (prefix, asn) e))
      by p a false e h =
          let now : announced_path new p a ≡ announced_path part p a = path_now p a ∙ ap (λ b. cond b (Some path) (announced_path part p a)) e in
          now ∙ old.announced p a (sym (ap is_some now) ∙ h)

      prefixes : (p : PrefixValue) (t : Bool) → eq_by_cmp prefix_cmp p prefix ≡ t → is_some (cond t (Some (tt {0})) (fin.get part.prefixes p)) ≡ true → (holds p addr ≡ true) × (has_prefix whole p ≡ true)
      prefixes p true e h =
          let same : p ≡ prefix = eq_is prefix_total exact_prefix p prefix e in
          (ap (λ q. holds q addr) same ∙ held, ap (has_prefix whole) same ∙ sound.known prefix asn path at)
      prefixes p false e h = old.known p h

-- what was announced as in the whole plan still is
pub still_same : (addr : AddrValue) (whole part new : Plan) → IsPart addr whole new → ((p : PrefixValue) (a : ℕ) → announces part p a ≡ true → announces new p a ≡ true)
    → (p : PrefixValue) (a : ℕ) → announced_path part p a ≡ announced_path whole p a → announced_path new p a ≡ announced_path whole p a
still_same addr whole part new are more p a same = by (announced_path whole p a) refl (announces new p a) refl
  where
    by : (o : Option (List ℕ)) → announced_path whole p a ≡ o → (t : Bool) → announces new p a ≡ t → announced_path new p a ≡ announced_path whole p a
    by o e true h = are.announced p a h
    by None e false h = none (announced_path new p a) h ∙ sym e
      where
        none : (x : Option (List ℕ)) → is_some x ≡ false → x ≡ None
        none None k = refl
        none (Some path) k = absurd (true≢false k)
    by (Some path) e false h = absurd (true≢false (sym (more p a (ap is_some (same ∙ e))) ∙ h))

-- what the whole plan doesn't announce the part doesn't
pub both_none : (addr : AddrValue) (whole part : Plan) → IsPart addr whole part → (p : PrefixValue) (a : ℕ) → announced_path whole p a ≡ None → announced_path part p a ≡ announced_path whole p a
both_none addr whole part are p a none = by (announced_path part p a) refl
  where
    by : (o : Option (List ℕ)) → announced_path part p a ≡ o → announced_path part p a ≡ announced_path whole p a
    by None e = e ∙ sym none
    by (Some path) e = are.announced p a (ap is_some e)

-- who is not listed announces nothing
pub unlisted : (whole : Plan) (p : PrefixValue) (a : ℕ) → occurs a (announcers_of whole) ≡ false → announced_path whole p a ≡ None
unlisted whole p a away = by (announced_path whole p a) refl
  where
    by : (o : Option (List ℕ)) → announced_path whole p a ≡ o → announced_path whole p a ≡ None
    by None e = e
    by (Some path) e = (let (i, at) = (announcers_listed whole).whole a (record { prefix = p; path = path; announced = e }) in absurd (true≢false (sym (occurs_at (announcers_of whole) i a at) ∙ away)))

-- where each that is listed has its announcements in the part, all have
pub all_announced : (addr : AddrValue) (whole part : Plan) (p : PrefixValue) → IsPart addr whole part → ((a : ℕ) → occurs a (announcers_of whole) ≡ true → announced_path part p a ≡ announced_path whole p a) → (a : ℕ) → announced_path part p a ≡ announced_path whole p a
all_announced addr whole part p are each a = by (occurs a (announcers_of whole)) refl
  where
    by : (t : Bool) → occurs a (announcers_of whole) ≡ t → announced_path part p a ≡ announced_path whole p a
    by true e = each a e
    by false e = both_none addr whole part are p a (unlisted whole p a e)

-- a prefix that the plan has not has no announcement
pub unknown : (whole : Plan) → IsSound whole → (p : PrefixValue) (a : ℕ) → has_prefix whole p ≡ false → announced_path whole p a ≡ None
unknown whole sound p a away = by (announced_path whole p a) refl
  where
    by : (o : Option (List ℕ)) → announced_path whole p a ≡ o → announced_path whole p a ≡ None
    by None e = e
    by (Some path) e = absurd (true≢false (sym (sound.known p a path e) ∙ away))

-- a prefix of the plan stands in its list
pub listed : (whole : Plan) (p : PrefixValue) → has_prefix whole p ≡ true → (i : ℕ) × (slice_get (prefixes_of whole) i ≡ Some p)
listed whole p h =
    let (i, x, less, is, at) = Any-from_list_any (eq_by_cmp prefix_cmp p) (prefixes_of whole) (sym (fin.contains_key-keys whole.prefixes p) ∙ h) in
    (i, slice_get-get_or (prefixes_of whole) i x less ∙ ap Some (is ∙ sym (eq_is prefix_total exact_prefix p x at)))

-- nothing is a part of any plan
pub nothing_is : (addr : AddrValue) (whole part : Plan) → part ≡ empty_plan → IsPart addr whole part
nothing_is addr whole part is = record {
  announced = λ p a h. absurd (true≢false (sym h ∙ ap is_some (ap (λ (t : Plan). announced_path t p a) is ∙ fin.get-empty announcement_cmp (p, a))));
  known = λ p h. absurd (true≢false (sym h ∙ ap is_some (ap (λ (t : Plan). fin.get t.prefixes p) is ∙ fin.get-empty prefix_cmp p)));
}

-- a prefix of a list that holds the address has all its announcements
abbrev pub HasAll : AddrValue → Plan → Plan → PrefixValue → Type 0
HasAll addr whole part p = holds p addr ≡ true → (a : ℕ) → announced_path part p a ≡ announced_path whole p a

module _ (addr : AddrValue) (whole : Plan) (items : List PrefixValue) (place : ℕ) (x : PrefixValue) (at : slice_get items place ≡ Some x) (old : Plan) (before : (i : ℕ) (p : PrefixValue) → i < place → slice_get items i ≡ Some p → HasAll addr whole old p) where
  pub next_held : (new : Plan) → IsPart addr whole new → ((p : PrefixValue) (a : ℕ) → announces old p a ≡ true → announces new p a ≡ true) → ((a : ℕ) → announced_path new x a ≡ announced_path whole x a)
      → (i : ℕ) (p : PrefixValue) → i < place + 1 → slice_get items i ≡ Some p → HasAll addr whole new p
  next_held new are more this = at_next items place x (HasAll addr whole new) at (λ held. this) (λ i y less there held a. still_same addr whole old new are more y a (before i y less there held a))

  pub next_away : holds x addr ≡ false → (i : ℕ) (p : PrefixValue) → i < place + 1 → slice_get items i ≡ Some p → HasAll addr whole old p
  next_away away = at_next items place x (HasAll addr whole old) at (λ held. absurd (true≢false (sym held ∙ away))) before

-- where all prefixes of the list are through, each that holds the address has all its announcements
pub all_held : (addr : AddrValue) (whole part : Plan) (end : ℕ) → IsSound whole → IsPart addr whole part → length (prefixes_of whole) ≤ end → ((i : ℕ) (p : PrefixValue) → i < end → slice_get (prefixes_of whole) i ≡ Some p → HasAll addr whole part p)
    → (p : PrefixValue) (a : ℕ) → holds p addr ≡ true → announced_path part p a ≡ announced_path whole p a
all_held addr whole part end sound are past each p a held = by (has_prefix whole p) refl
  where
    by : (t : Bool) → has_prefix whole p ≡ t → announced_path part p a ≡ announced_path whole p a
    by true e =
        let (i, at) = listed whole p e in
        let within : i < length (prefixes_of whole) = slice_get_within (prefixes_of whole) i p at in
        each i p (omega (arith, within, past)) at held a
    by false e = both_none addr whole part are p a (unknown whole sound p a e)

-- ---- leakers

pub pair_is : (r a s x : ℕ) → eq_by_cmp pair_cmp (r, a) (s, x) ≡ ((r == s) && (x == a))
pair_is r a s x = same_test (eq_by_cmp pair_cmp (r, a) (s, x)) ((r == s) && (x == a)) to back
  where
    to : eq_by_cmp pair_cmp (r, a) (s, x) ≡ true → ((r == s) && (x == a)) ≡ true
    to e = (let same = eq_is pairs_total exact_pair (r, a) (s, x) e in
        λ i. (eq-eqb r s (ap (λ (t : ℕ × ℕ). t.0) same) i) && (eq-eqb x a (sym (ap (λ (t : ℕ × ℕ). t.1) same)) i))

    back : ((r == s) && (x == a)) ≡ true → eq_by_cmp pair_cmp (r, a) (s, x) ≡ true
    back e = (let (one, other) = and_parts (r == s) (x == a) e in
        eq_same pairs_total exact_pair (r, a) (s, x) (λ i. (eqb-true r s one i, sym (eqb-true x a other) i)))

-- of one round alone
pub of_round : (r round : ℕ) (leaks : ℕ → Bool) {b : Bool} → b ≡ leaks round → (r == round && b) ≡ (r == round && leaks r)
of_round r round leaks {b} is = by (r == round) refl
  where
    by : (t : Bool) → (r == round) ≡ t → (t && b) ≡ (t && leaks r)
    by true e = is ∙ ap leaks (sym (eqb-true r round e))
    by false e = refl

module _ (old part new : Plan) (round : ℕ) (xs : List ℕ) (place x : ℕ) (at : slice_get xs place ≡ Some x) (is : new ≡ with_leaker part round x) where
  pub leak_more : ((r a : ℕ) → leaks_in part r a ≡ ((r == round && occurs a (take place xs)) || leaks_in old r a))
      → (r a : ℕ) → leaks_in new r a ≡ ((r == round && occurs a (take (place + 1) xs)) || leaks_in old r a)
  leak_more so_far r a =
      ap (λ (t : Plan). leaks_in t r a) is
      ∙ ap is_some (fin.get-insert pairs_total part.leakers (round, x) tt (r, a))
      ∙ by (eq_by_cmp pair_cmp (r, a) (round, x)) (fin.get part.leakers (r, a))
      ∙ (λ i. pair_is r a round x i || so_far r a i)
      ∙ bools (r == round) (x == a) (occurs a (take place xs)) (leaks_in old r a)
      ∙ ap (λ b. (r == round && b) || leaks_in old r a) (sym (occurs_more (take place xs) (take (place + 1) xs) x (take_next xs place x at) a))
    where
      by : (t : Bool) (o : Option (Unit {0})) → is_some (cond t (Some tt) o) ≡ (t || is_some o)
      by true o = refl
      by false o = refl

      bools : (p q s t : Bool) → ((p && q) || ((p && s) || t)) ≡ ((p && (s || q)) || t)
      bools false q s t = refl
      bools true true true t = refl
      bools true true false t = refl
      bools true false true t = refl
      bools true false false t = refl

-- ---- the part of a plan
pub part_kept : (addr : AddrValue) (whole old new : Plan) → new.announced ≡ old.announced → new.prefixes ≡ old.prefixes → IsPart addr whole old → IsPart addr whole new
part_kept addr whole old new announced prefixes are = record {
  announced = λ p a h. ap (λ m. fin.get m (p, a)) announced ∙ are.announced p a (sym (ap (λ m. is_some (fin.get m (p, a))) announced) ∙ h);
  known = λ p h. are.known p (sym (ap (λ m. is_some (fin.get m p)) prefixes) ∙ h);
}

pub announces_whole : (addr : AddrValue) (whole part : Plan) → IsPart addr whole part → (p : PrefixValue) (a : ℕ) → announces part p a ≡ true → announces whole p a ≡ true
announces_whole addr whole part are p a h = sym (ap is_some (are.announced p a h)) ∙ h

pub leaks_none : (plan : Plan) → plan.leakers ≡ fin.empty → (r a : ℕ) → leaks_in plan r a ≡ false
leaks_none plan is r a = ap (λ m. is_some (fin.get m (r, a))) is ∙ ap is_some (fin.get-empty pair_cmp (r, a))

pub or_none : (b : Bool) {c : Bool} → c ≡ false → (b || c) ≡ b
or_none true none = refl
or_none false none = none

-- it is as small as the whole
pub part_small : (addr : AddrValue) (whole part : Plan) → IsPart addr whole part → IsWithinLimits whole → IsWithinLimits part
part_small addr whole part are small = record {
  prefixes = (let few = keys_le prefix_total exact_prefix part.prefixes whole.prefixes (λ p h. (are.known p h).1) in omega (arith, few, small.prefixes));
  announcements = (let few = len_le announcement_total exact_announcement part.announced whole.announced (λ k h. announces_whole addr whole part are k.0 k.1 h) in omega (arith, few, small.announcements));
  paths = λ p a path at. small.paths p a path (sym (are.announced p a (ap is_some at)) ∙ at);
}
