-- What an edit of a policy makes of a simulation.
use Rattle.std.proofs.Common.{◌≡◌, ◌≢◌, ◌⊎◌, inl, inr, ◌<◌, ◌≤◌, ◌==◌, ◌||◌, ℕ, Bool, true, false, IsTrue, cond, Option, option_map, [], ◌∷◌, None, Some, unwrap_or, refl, sym, ap, subst, ◌∙◌}
use Rattle.std.specs.Ordering.{eq_by_cmp, nat_cmp}
use Rattle.std.proofs.lemmas.Bool.{eq-eqb, eqb-true, true≢false}
use Rattle.std.specs.FinMap as fin
use Rattle.std.specs.FinSet as set
use Rattle.as_graph.specs.Hierarchy.{HasNoProviderCycle, IsRank}
use Rattle.as_graph.specs.Room.{is_room_with}
use Rattle.as_graph.specs.Topology.{Topology, as_count, relation, with_mark}
use Rattle.policy_kinds.specs.declared.kind.Kind.{Kind}
use Rattle.policy_kinds.specs.declared.kind.Kind.TheVariants.{Plain}
use Rattle.stability_laws.specs.Book.{PolicyBook, policy_at}
use Rattle.leak_round.specs.Rounds.{plan_of, round_count}
use Rattle.leak_round.specs.declared.rounds.Rounds.{Rounds}
use Rattle.scenario_text.specs.declared.acts.Edit.{Edit}
use Rattle.scenario_text.specs.declared.acts.Edit.TheVariants.{Policy}
use Rattle.sim_core.specs.Editing.{HasRoomToGive, IsGiven, IsRoomed, IsSmall, IsUnchanged, IsUndone, KeepsRest, ground_of}
use Rattle.sim_core.specs.Edits.{IsEditRefusal, edited, passed_limit, refusal_of_edit}
use Rattle.sim_core.specs.Ground.{DiffersAround, StayIf}
use Rattle.sim_core.specs.Views.{AreRight, world_seen}
use Rattle.sim_core.specs.Steps.{IsTouched}
use Rattle.sim_core.specs.World.{HasCycle, World, graph_of, topology}
use Rattle.sim_core.specs.Loaded.{is_other}
use Rattle.net_names.specs.Links.{LinkMap, converse}
use Rattle.net_names.specs.Numbers.{occurs}
use Rattle.net_names.specs.Prefixes.{PrefixValue}
use Rattle.net_names.specs.declared.routes.Rel.{Rel}
use Rattle.as_places.specs.Places.{PlacedAses}
use Rattle.as_graph.specs.Edits.{LinksAreSound}
use Rattle.origin_validation.specs.Judging.{state_of}
use Rattle.policy_kinds.specs.Kinds.{kind_policy}
use Rattle.rank_order.specs.Ranks.{rank_at}
use Rattle.roa_table.specs.Sets.{Payloads}
use Rattle.stability_laws.specs.Plans.{has_prefix}
use Rattle.sim_core.specs.declared.errors.EditError.{EditError}
use Rattle.sim_core.specs.declared.errors.EditError.TheVariants as refused
use Rattle.sim_core.specs.declared.errors.EditLimit.{EditLimit}
use Rattle.sim_core.specs.declared.errors.EditLimit.TheVariants.{Ases}
use Rattle.sim_core.specs.declared.parts.Parts.{Parts}
use Rattle.sim_core.proofs.LinkEdits.{has_by, limit_ases, rest_both}
use Rattle.sim_core.proofs.PolicyEdits.{get_with, given_back, is_key, kind_is, with_kind}
use Rattle.sim_core.proofs.Standing.{lone}
use Rattle.sim_core.proofs.Doing.{all_undone, begun_belongs, rest_kept, rest_rows, seen_with, small_world, unchanged_world}

-- the world with room for an edit of a policy, and with the policy
pub roomed_world : (old new : Parts) (a : ℕ) → IsRoomed old new a → world_seen new ≡ world_seen old
roomed_world old new a h = seen_with old new old.book.named h.links h.vrps h.named h.rest

pub given_world : (old new : Parts) (a : ℕ) (k : Kind) → IsGiven old new a k → world_seen new ≡ edited (world_seen old) (Policy a k)
given_world old new a k h = seen_with old new (edited (world_seen old) (Policy a k)).kinds h.links h.vrps h.named h.rest

pub begun_world : (old mid new : Parts) (a : ℕ) (k : Kind) → IsRoomed old mid a → IsGiven mid new a k → world_seen new ≡ edited (world_seen old) (Policy a k)
begun_world old mid new a k roomed given = given_world mid new a k given ∙ ap (λ w. edited w (Policy a k)) (roomed_world old mid a roomed)

pub begun_rest : (old mid new : Parts) (a : ℕ) (k : Kind) → IsRoomed old mid a → IsGiven mid new a k → KeepsRest old new
begun_rest old mid new a k roomed given = rest_both old mid new roomed.rest given.rest

-- one AS more than there may be
pub too_many_named : (s : Parts) (a : ℕ) (k : Kind) → fin.len s.graph.links ≤ 1500000 → as_count (topology (edited (world_seen s) (Policy a k))) ≡ as_count (with_mark s.graph a) → 150000 < as_count (with_mark s.graph a) → refusal_of_edit (world_seen s) (Policy a k) ≡ Some (refused.Limit Ases)
too_many_named s a k links same many =
    let ases : 150000 < as_count (topology (edited (world_seen s) (Policy a k))) = subst (λ n. 150000 < n) (sym same) many in
    limit_ases (world_seen s) (Policy a k) refl links s.small.announcements ases

-- the policy that the AS had, given back, gives back the world
pub back_world : (old mid new : Parts) (a : ℕ) (k was : Kind) → was ≡ policy_at old.book a → IsRoomed old mid a → IsGiven mid new a k → edited (world_seen new) (Policy a was) ≡ world_seen old
back_world old mid new a k was is roomed given =
    let plain : was ≡ unwrap_or (fin.get old.book.named a) Plain = is ∙ ap (unwrap_or (fin.get old.book.named a)) old.plain in
    let kinds : with_kind new.book.named a was ≡ old.book.named =
    ap (λ m. with_kind m a was) (given.named ∙ ap (λ m. with_kind m a k) roomed.named) ∙ given_back old.book.named a k was old.other plain in
    λ i. record {
      links = (given.links ∙ roomed.links) i;
      payloads = (given.vrps ∙ roomed.vrps) i;
      kinds = kinds i;
      plan = plan_of ((given.rest.rounds ∙ roomed.rest.rounds) i);
      rounds = round_count ((given.rest.rounds ∙ roomed.rest.rounds) i);
      watched = set.from_list (ap (λ w. w.items) (given.rest.watched ∙ roomed.rest.watched) i);
    }

-- so it is never refused
pub back_accepted : (old mid new same : Parts) (a : ℕ) (k was : Kind) (e : EditError) → was ≡ policy_at old.book a → IsSmall old.graph old.vrps → IsRoomed old mid a → IsGiven mid new a k → IsUnchanged new same → refusal_of_edit (world_seen same) (Policy a was) ≡ Some e → ⊥
back_accepted old mid new same a k was e is small roomed given alike refusal =
    let back = ap (λ w. edited w (Policy a was)) (unchanged_world new same alike) ∙ back_world old mid new a k was is roomed given in
    let none : refusal_of_edit (world_seen same) (Policy a was) ≡ None = ap (option_map refused.Limit) (ap passed_limit back ∙ small_world old small) in
    (let no : None ≡ Some e = sym none ∙ refusal in cc)

pub policy_undone : (old mid new same last : Parts) (a : ℕ) (k was : Kind) → was ≡ policy_at old.book a → IsRoomed old mid a → IsGiven mid new a k → IsUnchanged new same → IsGiven same last a was → IsUndone old last
policy_undone old mid new same last a k was is roomed given alike back =
    all_undone old new same last (begun_rest old mid new a k roomed given) alike back.rest
    (given_world same last a was back ∙ ap (λ w. edited w (Policy a was)) (unchanged_world new same alike) ∙ back_world old mid new a k was is roomed given)

-- ---- who is touched

apart_one : (a x : ℕ) → occurs x (a ∷ []) ≡ false → x ≢ a
apart_one a x free e = true≢false (sym (own_one a x e) ∙ free)
  where
    own_one : (a x : ℕ) → x ≡ a → ((a == x) || false) ≡ true
    own_one a x e = ap (λ t. t || false) (eq-eqb a x (sym e))

same_or : (x y : Bool) → (x ≡ y) ⊎ (x ≢ y)
same_or true true = inl refl
same_or true false = inr true≢false
same_or false true = inr (λ e. true≢false (sym e))
same_or false false = inl refl

-- only the AS differs, and where it begins or ceases to mark its neighbours are touched too

-- a limit alone refuses a policy
limit_refuses : (w : World) (e : Edit) (passed : Option EditLimit) (error : EditError) → refusal_of_edit w e ≡ Some error → option_map refused.Limit passed ≡ Some error → IsEditRefusal w e error
limit_refuses w e None error refusal is = absurd (let none : None ≡ Some error = is in cc)
limit_refuses w e (Some which) error refusal is = let same : refused.Limit which ≡ error = cc in subst (IsEditRefusal w e) same (refusal ∙ ap Some (sym same))

-- a policy that is refused once there is room for it
pub policy_refused : (old mid new : Parts) (a : ℕ) (k : Kind) (e : EditError) → IsRoomed old mid a → refusal_of_edit (world_seen mid) (Policy a k) ≡ Some e → IsUndone mid new → IsEditRefusal (world_seen old) (Policy a k) e × IsUndone old new
policy_refused old mid new a k e roomed refusal undone =
    let world = roomed_world old mid a roomed in
    let is : refusal_of_edit (world_seen old) (Policy a k) ≡ Some e = subst (λ w. refusal_of_edit w (Policy a k) ≡ Some e) world refusal in (
      limit_refuses (world_seen old) (Policy a k) (passed_limit (edited (world_seen old) (Policy a k))) e is is,
      record { world = undone.world ∙ world; same_kept = undone.same_kept ∙ rest_kept old mid roomed.rest; same_rows = undone.same_rows ∙ rest_rows old mid roomed.rest },
    )

pub policy_differs : LinksAreSound → (old mid new : Parts) (a : ℕ) (k : Kind) (touched : PrefixValue → ℕ → Bool) → IsRoomed old mid a → IsGiven mid new a k → ((prefix : PrefixValue) → IsTrue (has_prefix (plan_of old.rounds) prefix) → touched prefix a ≡ true)
    → ((prefix : PrefixValue) (n : ℕ) (r : Rel) → IsTrue (has_prefix (plan_of old.rounds) prefix) → (kind_policy k).marks ≢ (kind_policy (policy_at old.book a)).marks → relation old.graph a n ≡ Some r → touched prefix n ≡ true) → DiffersAround (ground_of old) (ground_of new) new.rounds (a ∷ []) touched
policy_differs sound old mid new a k touched roomed given own around = record {
  presence = λ x free. given.others x (apart_one a x free) ∙ has_by old.graph mid.graph roomed.links roomed.marked x;
  links = λ x n free. same_links x n;
  policies = λ x free. same_policy x (apart_one a x free);
  at_ends = λ prefix x known end. inl (subst (λ y. touched prefix y ≡ true) (lone a x end) (own prefix (before prefix known)));
  marks = λ prefix x n r known free at. marks_at prefix x n r known free at (a == n) refl;
  states = λ prefix x known free there. inr (λ origin is. ap (λ (v : Payloads). state_of v prefix origin) (given.vrps ∙ roomed.vrps));
}
  where
    before : (prefix : PrefixValue) → IsTrue (has_prefix (plan_of new.rounds) prefix) → IsTrue (has_prefix (plan_of old.rounds) prefix)
    before prefix known = ap (λ (r : Rounds). has_prefix (plan_of r) prefix) (sym (begun_rest old mid new a k roomed given).rounds) ∙ known

    same_links : (x n : ℕ) → relation new.graph x n ≡ relation old.graph x n
    same_links x n = ap (λ (l : LinkMap). relation (graph_of l new.graph.marked) x n) (given.links ∙ roomed.links)

    kinds : new.book.named ≡ with_kind old.book.named a k
    kinds = given.named ∙ ap (λ m. with_kind m a k) roomed.named

    same_policy : (x : ℕ) → x ≢ a → policy_at new.book x ≡ policy_at old.book x
    same_policy x other =
        let off : eq_by_cmp nat_cmp x a ≡ false = is_key x a ∙ apart_key (a == x) refl in
        let get : fin.get new.book.named x ≡ fin.get old.book.named x = ap (λ m. fin.get m x) kinds ∙ get_with old.book.named a k x ∙ ap (λ t. cond t (cond (is_other (a, k)) (Some k) None) (fin.get old.book.named x)) off in
        λ i. unwrap_or (get i) ((new.plain ∙ sym old.plain) i)
      where
        apart_key : (t : Bool) → (a == x) ≡ t → (a == x) ≡ false
        apart_key false e = e
        apart_key true e = absurd (other (sym (eqb-true a x e)))

    own_policy : policy_at new.book a ≡ k
    own_policy =
        let on : eq_by_cmp nat_cmp a a ≡ true = is_key a a ∙ eq-eqb a a refl in
        let get : fin.get new.book.named a ≡ cond (is_other (a, k)) (Some k) None = ap (λ m. fin.get m a) kinds ∙ get_with old.book.named a k a ∙ ap (λ t. cond t (cond (is_other (a, k)) (Some k) None) (fin.get old.book.named a)) on in
        (λ i. unwrap_or (get i) (new.plain i)) ∙ kind_is a k

    marks_at : (prefix : PrefixValue) (x n : ℕ) (r : Rel) → IsTrue (has_prefix (plan_of new.rounds) prefix) → touched prefix x ≡ false → relation new.graph x n ≡ Some r → (t : Bool) → (a == n) ≡ t → (kind_policy (policy_at new.book n)).marks ≡ (kind_policy (policy_at old.book n)).marks
    marks_at prefix x n r known free at false off = ap (λ j. (kind_policy j).marks) (same_policy n (λ e. true≢false (sym (eq-eqb a n (sym e)) ∙ off)))
    marks_at prefix x n r known free at true on =
        let here : a ≡ n = eqb-true a n on in
        subst (λ m. (kind_policy (policy_at new.book m)).marks ≡ (kind_policy (policy_at old.book m)).marks) here
        (ap (λ j. (kind_policy j).marks) own_policy ∙ elim (same_or (kind_policy k).marks (kind_policy (policy_at old.book a)).marks) [
          | inl same ↦ same
          | inr differ ↦ (
              let link : relation old.graph x a ≡ Some r = subst (λ m. relation old.graph x m ≡ Some r) (sym here) (sym (same_links x n) ∙ at) in
              let back : relation old.graph a x ≡ Some (converse r) = sound.alike old.graph x a ∙ ap (option_map converse) link in
              absurd (true≢false (sym (around prefix x (converse r) (before prefix known) differ back) ∙ free)))
        ])

pub given_no_cycle : (old mid new : Parts) (a : ℕ) (k : Kind) → IsRoomed old mid a → IsGiven mid new a k → (HasCycle (world_seen old) → ⊥) → HasNoProviderCycle (relation new.graph)
given_no_cycle old mid new a k roomed given none = subst (λ (l : LinkMap). HasNoProviderCycle (relation (graph_of l new.graph.marked))) (sym (given.links ∙ roomed.links)) (λ xs is. none (xs, is))

-- no link differs, so that all ranks stay
pub given_stays : (old mid new : Parts) (a : ℕ) (k : Kind) → IsRoomed old mid a → IsGiven mid new a k → AreRight old → (HasCycle (world_seen old) → ⊥) → (kept : Bool) → StayIf kept new.graph new.ranks
given_stays old mid new a k roomed given right none kept said x =
    subst (λ (l : LinkMap). IsRank (relation (graph_of l new.graph.marked)) x (rank_at new.ranks x)) (sym (given.links ∙ roomed.links)) ((begun_belongs old new right none (begun_rest old mid new a k roomed given)).ranks_are x)

pub touched_policy : (s : Parts) (a : ℕ) (k : Kind) (p : PrefixValue) (x : ℕ) → (x ≡ a) ⊎ (((kind_policy k).marks ≢ (kind_policy (policy_at s.book a)).marks) × (r : Rel) × (relation s.graph a x ≡ Some r)) → IsTouched (world_seen s) (Policy a k) p x
touched_policy s a k p x (inl same) = inl same
touched_policy s a k p x (inr (differ, r, link)) = inr ((λ e. differ (e ∙ ap (λ j. (kind_policy j).marks) (ap (unwrap_or (fin.get s.book.named a)) (sym s.plain)))), r, link)

-- a reader that there was is listed still
still_listed : (old mid new same : Parts) (a : ℕ) (k was : Kind) → was ≡ policy_at old.book a → IsRoomed old mid a → IsGiven mid new a k → IsUnchanged new same → (kind_policy was).reads_state ≡ true → occurs a same.readers.ases ≡ true
still_listed old mid new same a k was is roomed given alike reads =
    subst (λ (r : PlacedAses). occurs a r.ases ≡ true) (sym (alike.readers ∙ given.readers)) (roomed.readers a (old.reading a (ap (λ j. (kind_policy j).reads_state) (sym is) ∙ reads)))

-- the room for the policy that the AS had is there still
pub still_room : (old mid new same : Parts) (a : ℕ) (k was : Kind) → was ≡ policy_at old.book a → IsRoomed old mid a → IsGiven mid new a k → IsUnchanged new same → HasRoomToGive same a was
still_room old mid new same a k was is roomed given alike = record {
  listed = still_listed old mid new same a k was is roomed given alike;
  graph = ap (λ (t : Topology). is_room_with t.room a) alike.graph ∙ (ap (λ r. is_room_with r a) given.room ∙ roomed.graph_room);
  book = subst (λ (r : set.FinSet nat_cmp). IsTrue (set.contains r a)) (sym (ap (λ (b : PolicyBook Kind). b.room) alike.book ∙ given.book_room)) roomed.book_room;
}
