-- Edits of payloads.
use Rattle.std.proofs.Common.{◌≡◌, ◌⊎◌, inl, inr, ◌<◌, ◌≤◌, ◌+◌, ◌-◌, ℕ, Bool, true, false, IsTrue, cond, is_some, Option, None, Some, List, [], ◌∷◌, map, unwrap_or, refl, sym, ap, subst, ◌∙◌, arith}
use Rattle.std.specs.List.{filter, list_any}
use Rattle.std.specs.FinMap.Entries.{by_order}
use Rattle.std.proofs.lemmas.Bool.{true≢false}
use Rattle.std.specs.FinMap as fin
use Rattle.std.specs.Ordering.{eq_by_cmp}
use Rattle.std.specs.declared.cmp.Ordering.{Ordering}
use Rattle.std.specs.declared.cmp.Ordering.TheVariants.{Less, Equal, Greater}
use Rattle.std.specs.Prelude.{if◌then◌else◌, slice_get}
use Rattle.net_names.specs.Coverage.{covers}
use Rattle.net_names.specs.Prefixes.{PrefixValue}
use Rattle.as_graph.specs.Topology.{Topology, as_count, has as has_as, relation}
use Rattle.origin_validation.specs.Judging.{matches, state_of}
use Rattle.policy_kinds.specs.Kinds.{kind_policy}
use Rattle.stability_laws.specs.Plans.{Plan, has_prefix}
use Rattle.policy_kinds.specs.declared.kind.Kind.{Kind}
use Rattle.stability_laws.specs.Book.{PolicyBook, policy_at}
use Rattle.net_names.specs.Orders.{vrp_total, exact_vrp}
use Rattle.net_names.specs.Payloads.{VrpValue, vrp_cmp}
use Rattle.net_names.specs.declared.routes.State.TheVariants.{Invalid, NotFound, Valid}
use Rattle.roa_table.specs.Sets.{Payloads, added, count, has, taken}
use Rattle.leak_round.specs.Changes.{HasChanges}
use Rattle.leak_round.specs.Rounds.{plan_of}
use Rattle.leak_round.specs.declared.rounds.Rounds.{Rounds}
use Rattle.scenario_text.specs.declared.acts.Edit.{Edit}
use Rattle.scenario_text.specs.declared.acts.Edit.TheVariants.{VrpAdd}
use Rattle.sim_core.specs.Editing.{IsSmall, IsUndone, KeepsRest}
use Rattle.sim_core.specs.Edits.{IsAllowed, absent, edited, refusal_of_edit}
use Rattle.sim_core.specs.Families.{Family}
use Rattle.sim_core.specs.Views.{world_seen}
use Rattle.sim_core.specs.Steps.{IsQuick}
use Rattle.sim_core.specs.World.{World, HasCycle, kind_at, topology}
use Rattle.sim_core.specs.declared.errors.EditError.TheVariants as refused
use Rattle.sim_core.specs.declared.errors.EditLimit.TheVariants.{Vrps}
use Rattle.sim_core.specs.Ground.{DiffersAround, Ground, IsOrigin, policy_on}
use Rattle.sim_core.specs.declared.parts.Parts.{Parts}
use Rattle.sim_core.proofs.LinkEdits.{over}
use Rattle.sim_core.proofs.Doing.{allowed_by, no_limit, rest_kept, rest_rows, seen_count, seen_with, within}
use Rattle.net_names.proofs.Shared.{is_equal, none_from}

pub there_unit : (o : Option (Unit {0})) → is_some o ≡ true → o ≡ Some tt
there_unit None h = cc
there_unit (Some x) h = refl

twice : (t : Bool) (o : Option (Unit {0})) → (t ≡ true → o ≡ None) → cond t None (cond t (Some tt) o) ≡ o
twice true o h = sym (h refl)
twice false o h = refl

once : (t : Bool) (o : Option (Unit {0})) → (t ≡ true → o ≡ Some tt) → cond t (Some tt) o ≡ o
once true o h = sym (h refl)
once false o h = refl

at_key : (s : Payloads) (v q : VrpValue) → eq_by_cmp vrp_cmp q v ≡ true → fin.get s q ≡ fin.get s v
at_key s v q e = ap (fin.get s) (exact_vrp q v (is_equal (vrp_cmp q v) e))

-- a new payload, taken out again
pub added_taken : (s : Payloads) (v : VrpValue) → has s v ≡ false → taken (added s v) v ≡ s
added_taken s v none = fin.same_map vrp_total exact_vrp _ _ (λ q.
    fin.get-remove vrp_total (added s v) v q ∙ ap (cond (eq_by_cmp vrp_cmp q v) None) (fin.get-insert vrp_total s v tt q)
    ∙ twice (eq_by_cmp vrp_cmp q v) (fin.get s q) (λ e. at_key s v q e ∙ none_from (fin.get s v) none))

-- a payload that is there
pub added_again : (s : Payloads) (v : VrpValue) → has s v ≡ true → added s v ≡ s
added_again s v there = fin.same_map vrp_total exact_vrp _ _ (λ q.
    fin.get-insert vrp_total s v tt q ∙ once (eq_by_cmp vrp_cmp q v) (fin.get s q) (λ e. at_key s v q e ∙ there_unit (fin.get s v) there))

pub too_many_payloads : (s : Parts) (v : VrpValue) → IsSmall s.graph s.vrps → has s.vrps v ≡ false → count s.vrps ≡ 2000000 → refusal_of_edit (world_seen s) (VrpAdd v) ≡ Some (refused.Limit Vrps)
too_many_payloads s v small none many =
    let one : count (added s.vrps v) ≡ count s.vrps + 1 = fin.len-insert vrp_total s.vrps v tt ∙ ap (λ t. cond t (count s.vrps) (count s.vrps + 1)) none in
    let more : 2000000 < count (added s.vrps v) = omega (arith, one, many) in
    rw (within (fin.len s.graph.links) 1500000 small.links, within (fin.len (plan_of s.rounds).announced) 64 s.small.announcements, within (as_count (topology (world_seen s))) 150000 (subst (λ n. n ≤ 150000) (seen_count s) small.ases), over (count (added s.vrps v)) 2000000 more) refl

abbrev pub with_payloads : World → Payloads → World
with_payloads w payloads = record w { payloads = payloads }

-- nothing has changed
pub vrps_undone : (old new : Parts) → new.graph.links ≡ old.graph.links → new.book.named ≡ old.book.named → new.vrps ≡ old.vrps → KeepsRest old new → IsUndone old new
vrps_undone old new links named vrps rest = record {
  world = seen_with old new old.book.named links vrps named rest;
  same_kept = rest_kept old new rest;
  same_rows = rest_rows old new rest;
}

pub back_vrps : (t : Bool) (s now : Payloads) (v : VrpValue) → now ≡ added s v → t ≡ has s v → cond t now (taken now v) ≡ s
back_vrps true s now v is there = is ∙ added_again s v (sym there)
back_vrps false s now v is there = ap (λ (x : Payloads). taken x v) is ∙ added_taken s v (sym there)

-- ---- the states that a payload changes

by_order_keys : (f : VrpValue → Bool) (o : Ordering) (v w : VrpValue) (ws more : List (VrpValue × Unit {0})) → f v ≡ false → filter f (map (λ e. e.0) more) ≡ filter f (map (λ e. e.0) ws) → filter f (map (λ e. e.0) (by_order o ((v, tt) ∷ (w, tt) ∷ ws) ((w, tt) ∷ ws) ((w, tt) ∷ more))) ≡ filter f (map (λ e. e.0) ((w, tt) ∷ ws))
by_order_keys f Less v w ws more free same = ap (λ t. cond t (v ∷ filter f (w ∷ map (λ e. e.0) ws)) (filter f (w ∷ map (λ e. e.0) ws))) free
by_order_keys f Equal v w ws more free same = refl
by_order_keys f Greater v w ws more free same = ap (λ xs. cond (f w) (w ∷ xs) xs) same

-- who does not pass does not stand among those who pass
put_keys : (f : VrpValue → Bool) (v : VrpValue) (es : List (VrpValue × Unit {0})) → f v ≡ false → filter f (map (λ e. e.0) (fin.put vrp_cmp v tt es)) ≡ filter f (map (λ e. e.0) es)
put_keys f v [] free = ap (λ t. cond t (v ∷ []) []) free
put_keys f v ((w, u) ∷ es) free = by_order_keys f (vrp_cmp v w) v w es (fin.put vrp_cmp v tt es) free (put_keys f v es free)

-- a payload changes no state of a prefix that it does not cover
pub state_elsewhere : (s : Payloads) (v : VrpValue) (p : PrefixValue) (origin : ℕ) → covers v.prefix p ≡ false → state_of (added s v) p origin ≡ state_of s p origin
state_elsewhere s v p origin free = ap (λ (vs : List VrpValue). if list_any (matches p origin) vs then Valid else if is_some (slice_get vs 0) then Invalid else NotFound) (ap (λ es. filter (λ w. covers w.prefix p) (map (λ e. e.0) es)) (fin.entries-insert vrp_total s v tt) ∙ put_keys (λ w. covers w.prefix p) v (fin.entries s) free)

-- a payload that was taken, put in again
pub taken_added : (s : Payloads) (v : VrpValue) → has s v ≡ true → added (taken s v) v ≡ s
taken_added s v there = fin.same_map vrp_total exact_vrp _ _ (λ q.
    fin.get-insert vrp_total (taken s v) v tt q ∙ ap (cond (eq_by_cmp vrp_cmp q v) (Some tt)) (fin.get-remove vrp_total s v q)
    ∙ back (eq_by_cmp vrp_cmp q v) (fin.get s q) (λ e. at_key s v q e ∙ there_unit (fin.get s v) there))
  where
    back : (t : Bool) (o : Option (Unit {0})) → (t ≡ true → o ≡ Some tt) → cond t (Some tt) (cond t None o) ≡ o
    back true o h = sym (h refl)
    back false o h = refl

-- a payload that goes changes no state of a prefix that it does not cover
pub taken_elsewhere : (s : Payloads) (v : VrpValue) (p : PrefixValue) (origin : ℕ) → covers v.prefix p ≡ false → state_of (taken s v) p origin ≡ state_of s p origin
taken_elsewhere s v p origin free = by (has s v) refl
  where
    stays : (t : Bool) (o : Option (Unit {0})) → (t ≡ true → o ≡ None) → cond t None o ≡ o
    stays true o h = sym (h refl)
    stays false o h = refl

    by : (b : Bool) → has s v ≡ b → state_of (taken s v) p origin ≡ state_of s p origin
    by true there = sym (state_elsewhere (taken s v) v p origin free) ∙ ap (λ (x : Payloads). state_of x p origin) (taken_added s v there)
    by false none = ap (λ (x : Payloads). state_of x p origin) (fin.same_map vrp_total exact_vrp (taken s v) s (λ q. fin.get-remove vrp_total s v q ∙ stays (eq_by_cmp vrp_cmp q v) (fin.get s q) (λ e. at_key s v q e ∙ none_from (fin.get s v) none)))

-- only states of origins differ that readers see, and these are touched
pub payload_differs : (g h : Ground) (rounds : Rounds) (touched : PrefixValue → ℕ → Bool) → h.graph ≡ g.graph → h.book ≡ g.book
    → ((p : PrefixValue) → IsTrue (has_prefix (plan_of rounds) p) → (a : ℕ) → has_as h.graph a ≡ true → (policy_on h a).reads_state ≡ true → touched p a ≡ false → (origin : ℕ) → IsOrigin (plan_of rounds) p origin → state_of h.payloads p origin ≡ state_of g.payloads p origin) → DiffersAround g h rounds [] touched
payload_differs g h rounds touched graph book touches = record {
  presence = λ a free. ap (λ (x : Topology). has_as x a) graph;
  links = λ a n free. ap (λ (x : Topology). relation x a n) graph;
  policies = λ a free. ap (λ (b : PolicyBook Kind). policy_at b a) book;
  at_ends = λ p a known end. absurd (true≢false (sym end));
  marks = λ p a n r known free at. ap (λ (b : PolicyBook Kind). (kind_policy (policy_at b n)).marks) book;
  states = λ p a known free there. by p a known free there (policy_on h a).reads_state refl;
}
  where
    by : (p : PrefixValue) (a : ℕ) → IsTrue (has_prefix (plan_of rounds) p) → touched p a ≡ false → has_as h.graph a ≡ true → (r : Bool) → (policy_on h a).reads_state ≡ r
        → ((policy_on h a).reads_state ≡ false) ⊎ ((origin : ℕ) → IsOrigin (plan_of rounds) p origin → state_of h.payloads p origin ≡ state_of g.payloads p origin)
    by p a known free there false reads = inl reads
    by p a known free there true reads = inr (touches p known a there reads free)

-- nothing differs
pub no_changes : (plan : Plan) (rounds : ℕ) (f : Family) → HasChanges plan rounds f f 0
no_changes plan rounds f = ([], λ i j d before last. absurd (omega (arith, last)), refl, λ round prefix a. ((λ c. absurd (omega (arith, c.1))), (λ h. absurd (h.3 refl))))

pub no_steps : (w after : World) (e : Edit) (old new : Family) (n : ℕ) → IsQuick w after e old new n n
no_steps w after e old new n = record { triples = []; apart = tt; counted = λ x h. absurd h; enough = omega arith }

-- the world with other payloads is allowed
pub payload_allowed : (old : Parts) (e : Edit) (vrps : Payloads) → with_payloads (world_seen old) vrps ≡ edited (world_seen old) e → absent (world_seen old) e ≡ None → IsSmall old.graph vrps → (HasCycle (world_seen old) → ⊥) → IsAllowed (world_seen old) e
payload_allowed old e vrps world there small none =
    allowed_by (world_seen old) (with_payloads (world_seen old) vrps) e world there (no_limit (with_payloads (world_seen old) vrps) small.links old.small.announcements (subst (λ n. n ≤ 150000) (seen_count old) small.ases) small.payloads_in) (λ xs cycle. none (xs, cycle))

pub small_taken : (g : Topology) (s : Payloads) (v : VrpValue) → IsSmall g s → IsSmall g (taken s v)
small_taken g s v small = record { links = small.links; ases = small.ases; payloads_in = subst (λ n. n ≤ 2000000) (sym (fin.len-remove vrp_total s v)) (by (has s v)) }
  where
    by : (b : Bool) → cond b (count s - 1) (count s) ≤ 2000000
    by true = omega (arith, small.payloads_in)
    by false = small.payloads_in

-- the policy of an AS in a world is that of the simulation
pub kind_seen : (s : Parts) (a : ℕ) → policy_at s.book a ≡ kind_at (world_seen s) a
kind_seen s a = ap (unwrap_or (fin.get s.book.named a)) s.plain

pub reads_kind : (s : Parts) (a : ℕ) → (kind_policy (policy_at s.book a)).reads_state ≡ true → (kind_policy (kind_at (world_seen s) a)).reads_state ≡ true
reads_kind s a h = ap (λ k. (kind_policy k).reads_state) (sym (kind_seen s a)) ∙ h
