-- What is kept belongs to the edited world, and a refused edit leaves all as it was.
use Rattle.std.proofs.Common.{◌≡◌, ◌≤◌, ℕ, true, nat_le, List, None, option_map, Result, Ok, Err, IfOk, IfErr, OnOk, OnErr, unwrap_or, refl, sym, ap, subst, ◌∙◌, arith}
use Rattle.std.specs.Ordering.{nat_cmp}
use Rattle.std.proofs.lemmas.Bool.{eq-eqb, eqb-true}
use Rattle.std.proofs.lemmas.Bool.Decides.{nat_tests}
use Rattle.std.specs.FinMap as fin
use Rattle.std.specs.FinSet as set
use Rattle.net_names.specs.Addresses.{AddrValue}
use Rattle.as_graph.specs.Hierarchy.{HasNoProviderCycle, IsProviderCycle}
use Rattle.as_graph.specs.Topology.{as_count, relation}
use Rattle.as_graph.proofs.Links.{relation_self}
use Rattle.roa_table.specs.Sets.{count}
use Rattle.leak_round.specs.Changes.{HasChanges}
use Rattle.leak_round.specs.Rounds.{kept as kept_rounds, plan_of, round_count}
use Rattle.leak_round.specs.declared.rounds.Rounds.{Rounds}
use Rattle.policy_kinds.specs.declared.kind.Kind.{Kind}
use Rattle.rank_order.specs.Ranks.{rank_at}
use Rattle.scenario_text.specs.declared.acts.Edit.{Edit}
use Rattle.sim_core.specs.Editing.{IsChanged, IsDone, IsEdited, IsSmall, IsUnchanged, IsUndone, KeepsRest, ground_of}
use Rattle.sim_core.specs.Edits.{IsAllowed, IsEditRefusal, absent, edited, passed_limit}
use Rattle.sim_core.specs.Ground.{AreSeenAlike, BelongTo, Ground}
use Rattle.sim_core.specs.Kept.{IsKept, Kept}
use Rattle.sim_core.specs.Views.{AreRight, IsCounted, kept, rows_seen, world_seen}
use Rattle.sim_core.specs.Watching.{AreWatchRows, end_at, rows_in, watch_at}
use Rattle.sim_core.specs.World.{World, HasCycle, topology}
use Rattle.sim_core.specs.declared.editing.Changed.{Changed}
use Rattle.sim_core.specs.declared.errors.EditError.{EditError}
use Rattle.sim_core.specs.declared.errors.EditError.TheVariants as refused
use Rattle.sim_core.specs.declared.parts.Parts.{Parts}
use Rattle.sim_core.proofs.Loads.{ones_of_world, only_ones}
use Rattle.sim_core.proofs.Rows.{ended_rows, kept_by_rows, rank_of_stub, rows_alone, stub_of_rank}
use Rattle.sim_core.proofs.Watches.{rows_kept, rows_right, seen_rows}

-- the ASes of a simulation's graph are those of its world
pub seen_count : (s : Parts) → as_count s.graph ≡ as_count (topology (world_seen s))
seen_count s = ap as_count s.named

-- what a simulation keeps belongs to its graph, payloads and policies
pub belongs : (s : Parts) → AreRight s → (HasCycle (world_seen s) → ⊥) → BelongTo (ground_of s) s.ranks s.rounds s.watches.items
belongs s is none = record {
  no_cycle = λ xs cycle. none (xs, cycle);
  ranks_are = is.is_kept.ranks;
  rounds_are = ones_of_world s.graph s.vrps s.book s.rounds s.watched.items s.named s.plain is.is_kept.routings;
  watching = rows_kept s.graph s.vrps s.book s.rounds s.watched.items s.watches.items s.named s.plain s.once s.watching is.rows;
}

-- an edit is done where what is kept belongs to the edited world
pub edit_done : (old new : Parts) (e : Edit) (routes : ℕ) → world_seen new ≡ edited (world_seen old) e → IsAllowed (world_seen old) e → BelongTo (ground_of new) new.ranks new.rounds new.watches.items
    → HasChanges (plan_of new.rounds) (round_count new.rounds) (kept_rounds old.rounds) (kept_rounds new.rounds) routes → IsDone old new e routes
edit_done old new e routes world allowed belong changed = record {
  world = world;
  allowed = allowed;
  right =
      let rows = rows_right new.graph new.vrps new.book new.rounds new.watched.items new.watches.items new.named new.plain new.watching belong.watching in
      record {
        is_kept = kept_by_rows (world_seen new) (kept_rounds new.rounds) (rank_at new.ranks) (rows_seen new) (only_ones new.graph new.vrps new.book (plan_of new.rounds) (round_count new.rounds) new.rounds new.watched.items new.named new.plain belong.rounds_are) belong.ranks_are rows;
        rows = rows;
      };
  changed = changed;
}

-- nothing of a world changed with what is kept
changed_world : (mid new : Parts) → new.graph ≡ mid.graph → new.vrps ≡ mid.vrps → new.book ≡ mid.book → new.watched ≡ mid.watched → plan_of new.rounds ≡ plan_of mid.rounds → round_count new.rounds ≡ round_count mid.rounds → world_seen new ≡ world_seen mid
changed_world mid new graph vrps book watched plan count = λ i. record {
  links = (graph i).links;
  payloads = vrps i;
  kinds = (book i).named;
  plan = plan i;
  rounds = count i;
  watched = set.from_list (ap (λ w. w.items) watched i);
}

-- an edit was begun, and what is kept taken to its world
pub changed_done : (old mid new : Parts) (e : Edit) (routes : ℕ) → world_seen mid ≡ edited (world_seen old) e → KeepsRest old mid → IsAllowed (world_seen old) e → IsChanged mid new None routes → IsDone old new e routes
changed_done old mid new e routes world rest allowed is =
    edit_done old new e routes (changed_world mid new is.graph is.vrps is.book is.watched is.plan is.count ∙ world) allowed
    (subst (λ (g : Ground). BelongTo g new.ranks new.rounds new.watches.items) (λ i. record { graph = sym is.graph i; payloads = sym is.vrps i; book = sym is.book i }) is.belong)
    (subst (λ (r : Rounds). HasChanges (plan_of new.rounds) (round_count new.rounds) (kept_rounds r) (kept_rounds new.rounds) routes) rest.rounds is.changed)

-- the policies that are named are others, and all else that is seen of a world stands
pub seen_with : (old new : Parts) (kinds : fin.FinMap nat_cmp Kind) → new.graph.links ≡ old.graph.links → new.vrps ≡ old.vrps → new.book.named ≡ kinds → KeepsRest old new → world_seen new ≡ record (world_seen old) { kinds = kinds }
seen_with old new kinds links vrps named rest = λ i. record {
  links = links i;
  payloads = vrps i;
  kinds = named i;
  plan = plan_of (rest.rounds i);
  rounds = round_count (rest.rounds i);
  watched = set.from_list (ap (λ w. w.items) rest.watched i);
}

-- what is kept stands
pub rest_rows : (old new : Parts) → KeepsRest old new → rows_seen new ≡ rows_seen old
rest_rows old new rest = λ i round addr. rows_in (watch_at (ap (λ w. w.items) rest.watches i) (ap (λ w. w.items) rest.watched i) round addr)

pub rest_kept : (old new : Parts) → KeepsRest old new → kept new ≡ kept old
rest_kept old new rest = λ i. record { routings = kept_rounds (rest.rounds i); ranks = λ a. unwrap_or (fin.get (rest.ranks i).by_as a) 0; ends = λ round addr. end_at (rest_rows old new rest i round addr) }

alike_rows : (old new : Parts) → new.watched ≡ old.watched → AreSeenAlike old.ranks new.ranks old.rounds new.rounds old.watches.items new.watches.items → rows_seen new ≡ rows_seen old
alike_rows old new watched alike = λ i round addr. (seen_rows old.watches.items new.watches.items new.watched.items round addr alike.watches ∙ ap (λ (addrs : List AddrValue). rows_in (watch_at old.watches.items addrs round addr)) (ap (λ w. w.items) watched)) i

alike_kept : (old new : Parts) → new.watched ≡ old.watched → AreSeenAlike old.ranks new.ranks old.rounds new.rounds old.watches.items new.watches.items → kept new ≡ kept old
alike_kept old new watched alike = λ i. record {
  routings = λ round prefix a. alike.routings round prefix a i;
  ranks = λ a. unwrap_or (fin.get (alike.ranks i) a) 0;
  ends = λ round addr. end_at (alike_rows old new watched alike i round addr);
}

-- a simulation that is seen as it was has its world and keeps the same
pub unchanged_world : (old new : Parts) → IsUnchanged old new → world_seen new ≡ world_seen old
unchanged_world old new is = changed_world old new is.graph is.vrps is.book is.watched is.alike.plan is.alike.count

pub unchanged_kept : (old new : Parts) → IsUnchanged old new → kept new ≡ kept old
unchanged_kept old new is = alike_kept old new is.watched is.alike

unchanged_rows : (old new : Parts) → IsUnchanged old new → rows_seen new ≡ rows_seen old
unchanged_rows old new is = alike_rows old new is.watched is.alike

pub unchanged : (old new : Parts) → IsUnchanged old new → IsUndone old new
unchanged old new is = record { world = unchanged_world old new is; same_kept = unchanged_kept old new is; same_rows = unchanged_rows old new is }

-- so is one that stands
pub as_it_was : (s : Parts) → IsUndone s s
as_it_was s = record { world = refl; same_kept = refl; same_rows = refl }

-- what is right is counted right
pub counted_right : (s : Parts) → AreRight s → IsCounted s
counted_right s right = record {
  stubs = λ a. (
    λ h. stub_of_rank (relation s.graph) a (rank_at s.ranks a) (relation_self s.graph a) (right.is_kept.ranks a) (eqb-true (rank_at s.ranks a) 0 h),
    λ none. eq-eqb (rank_at s.ranks a) 0 (rank_of_stub (relation s.graph) a (rank_at s.ranks a) (right.is_kept.ranks a) none),
  );
  rows = λ round addr there watched. rows_alone _ _ _ _ (right.rows round addr there watched);
}

-- and with what is kept that is right again
pub right_by : (s : Parts) → IsCounted s → IsKept (world_seen s) (kept s) → AreRight s
right_by s counted is = record {
  is_kept = is;
  rows = λ round addr there watched. ended_rows _ _ _ _ (counted.rows round addr there watched) (λ a. is.ends round addr a there watched);
}

-- what is right stays so
pub still : (old new : Parts) → IsUndone old new → AreRight old → AreRight new
still old new undone right = record {
  is_kept = coe 1 0 (i. IsKept (undone.world i) (undone.same_kept i)) right.is_kept;
  rows = coe 1 0 (i. AreWatchRows (undone.world i) (undone.same_kept i).routings (undone.same_rows i)) right.rows;
}

pub still_acyclic : (old new : Parts) → IsUndone old new → (HasCycle (world_seen old) → ⊥) → HasCycle (world_seen new) → ⊥
still_acyclic old new undone none = subst (λ (w : World). HasCycle w → ⊥) (sym undone.world) none

-- so is one whose links, payloads, policies and addresses are as they were
pub seen_undone : (old new : Parts) → new.graph.links ≡ old.graph.links → new.vrps ≡ old.vrps → new.book ≡ old.book → new.watched ≡ old.watched → AreSeenAlike old.ranks new.ranks old.rounds new.rounds old.watches.items new.watches.items → IsUndone old new
seen_undone old new links vrps book watched alike = record {
  world = λ i. record {
    links = links i;
    payloads = vrps i;
    kinds = (book i).named;
    plan = alike.plan i;
    rounds = alike.count i;
    watched = set.from_list (ap (λ w. w.items) watched i);
  };
  same_kept = alike_kept old new watched alike;
  same_rows = alike_rows old new watched alike;
}

-- an edit that was begun, not carried on and taken back
pub all_undone : (old mid same last : Parts) → KeepsRest old mid → IsUnchanged mid same → KeepsRest same last → world_seen last ≡ world_seen old → IsUndone old last
all_undone old mid same last first alike second world = record {
  world = world;
  same_kept = rest_kept same last second ∙ unchanged_kept mid same alike ∙ rest_kept old mid first;
  same_rows = rest_rows same last second ∙ unchanged_rows mid same alike ∙ rest_rows old mid first;
}

pub within : (n most : ℕ) → n ≤ most → nat_le n most ≡ true
within n most h = grind (arith, nat_tests, h)

-- a world that no limit refuses
pub no_limit : (w : World) → fin.len w.links ≤ 1500000 → fin.len w.plan.announced ≤ 64 → as_count (topology w) ≤ 150000 → count w.payloads ≤ 2000000 → passed_limit w ≡ None
no_limit w links announcements ases payloads =
    rw (within (fin.len w.links) 1500000 links, within (fin.len w.plan.announced) 64 announcements, within (as_count (topology w)) 150000 ases, within (count w.payloads) 2000000 payloads) refl

pub small_world : (s : Parts) → IsSmall s.graph s.vrps → passed_limit (world_seen s) ≡ None
small_world s small = no_limit (world_seen s) small.links s.small.announcements (subst (λ n. n ≤ 150000) (seen_count s) small.ases) small.payloads_in

pub allowed_by : (w after : World) (e : Edit) → after ≡ edited w e → absent w e ≡ None → passed_limit after ≡ None → HasNoProviderCycle (relation (topology after)) → IsAllowed w e
allowed_by w after e world there small none = (
  rw there (ap (option_map refused.Limit) (ap passed_limit (sym world) ∙ small)),
  λ cycle. none cycle.0 (subst (λ (x : World). IsProviderCycle (relation (topology x)) cycle.0) (sym world) cycle.1),
)

-- what was kept before an edit was begun belongs to the ground before it
pub begun_belongs : (old mid : Parts) → AreRight old → (HasCycle (world_seen old) → ⊥) → KeepsRest old mid → BelongTo (ground_of old) mid.ranks mid.rounds mid.watches.items
begun_belongs old mid is none rest =
    let was = belongs old is none in
    coe 1 0 (i. BelongTo (ground_of old) (rest.ranks i) (rest.rounds i) (ap (λ w. w.items) rest.watches i)) was

-- an edit of a simulation that is seen as another is one of that
pub edited_from : (old mid new : Parts) (e : Edit) (r : Result Changed EditError) → IsUnchanged old mid → IsEdited mid new e r → IsEdited old new e r
edited_from old mid new e (Ok changed) alike h =
    let world = unchanged_world old mid alike in
    record {
      world = h.world ∙ ap (λ w. edited w e) world;
      allowed = subst (λ w. IsAllowed w e) world h.allowed;
      right = h.right;
      changed = subst (λ (k : Kept). HasChanges (world_seen new).plan (world_seen new).rounds k.routings (kept new).routings changed.routes) (unchanged_kept old mid alike) h.changed;
    }
edited_from old mid new e (Err error) alike h =
    let world = unchanged_world old mid alike in
    (subst (λ w. IsEditRefusal w e error) world h.0, record { world = h.1.world ∙ world; same_kept = h.1.same_kept ∙ unchanged_kept old mid alike; same_rows = h.1.same_rows ∙ unchanged_rows old mid alike })

-- what an edit comes to, clause by clause
pub on_done : {P : Type 0} (old new : Parts) (e : Edit) (r : Result Changed EditError) → IsEdited old new e r → ((routes : ℕ) → IsDone old new e routes → P) → OnOk r P
on_done old new e (Ok changed) h f = f changed.routes h
on_done old new e (Err error) h f = tt

pub if_done : (old new : Parts) (e : Edit) (r : Result Changed EditError) → IsEdited old new e r → IfOk r (λ (c : Changed). HasChanges (world_seen new).plan (world_seen new).rounds (kept old).routings (kept new).routings c.routes)
if_done old new e (Ok changed) h = h.changed
if_done old new e (Err error) h = tt

pub if_refused : (old new : Parts) (e : Edit) (r : Result Changed EditError) → IsEdited old new e r → IfErr r (IsEditRefusal (world_seen old) e)
if_refused old new e (Ok changed) h = tt
if_refused old new e (Err error) h = h.0

pub on_undone : {P : Type 0} (old new : Parts) (e : Edit) (r : Result Changed EditError) → IsEdited old new e r → (IsUndone old new → P) → OnErr r P
on_undone old new e (Ok changed) h f = tt
on_undone old new e (Err error) h f = f h.1

-- what is right before an edit is so after it
pub right_after : (old new : Parts) (e : Edit) (r : Result Changed EditError) → IsEdited old new e r → AreRight old → AreRight new
right_after old new e (Ok changed) h right = h.right
right_after old new e (Err error) h right = still old new h.1 right
