-- Edits of links.
use Rattle.std.proofs.Common.{◌≡◌, ◌≢◌, ◌⊎◌, inl, inr, ◌<◌, ◌≤◌, ◌+◌, ◌==◌, ◌||◌, ℕ, Bool, true, false, cond, nat_lt, nat_le, take, List, is_some, Option, None, Some, [], ◌∷◌, Result, Ok, Err, OnOk, OnErr, refl, sym, ap, subst, ◌∙◌, arith}
use Rattle.std.specs.Prelude.{IfNone, IfSome}
use Rattle.std.specs.Option.{option_map}
use Rattle.std.proofs.lemmas.Bool.{cases_Bool, eqb-true, true≢false}
use Rattle.std.specs.Ordering.{nat_cmp}
use Rattle.std.proofs.lemmas.Bool.Decides.{nat_tests}
use Rattle.std.specs.FinMap as fin
use Rattle.std.specs.FinSet as set
use Rattle.net_names.specs.Links.{LinkMap, converse}
use Rattle.net_names.specs.declared.routes.Rel.{Rel}
use Rattle.net_names.specs.declared.routes.Rel.TheVariants.{Customer, Peer, Provider}
use Rattle.net_names.proofs.Pairs.{pairs_total}
use Rattle.as_graph.specs.declared.error.GraphError.{GraphError}
use Rattle.as_graph.specs.declared.error.GraphError.TheVariants as graph_error
use Rattle.as_graph.specs.Edits.{AsesAreKept, EditsAreUndone, LinksAreSet, LinksAreSound, LinksAreTaken, with_link, without_link}
use Rattle.as_graph.specs.Hierarchy.{HasNoProviderCycle, IsProviderCycle}
use Rattle.as_graph.specs.Refusals.{IsLinkRefusal}
use Rattle.as_graph.specs.Topology.{Topology, as_count, has, relation}
use Rattle.stability_laws.specs.Plans.{announces}
use Rattle.leak_round.specs.Rounds.{plan_of, round_count}
use Rattle.leak_round.specs.declared.rounds.Rounds.{Rounds}
use Rattle.scenario_text.specs.declared.acts.Edit.{Edit}
use Rattle.scenario_text.specs.declared.acts.Edit.TheVariants.{Link}
use Rattle.sim_core.specs.Editing.{BeginsWithLink, HasLinks, IsLinkStop, IsSmall, IsUnchanged, IsUndone, KeepsRest, ground_of, links_with}
use Rattle.sim_core.specs.Edits.{IsEditRefusal, absent, edited, refusal_of_edit}
use Rattle.sim_core.specs.Ground.{BelongTo, DiffersAtPair, Ground, StayIf}
use Rattle.rank_order.specs.Ranks.{rank_at}
use Rattle.rank_order.specs.Staying.{RanksStay, StayWith}
use Rattle.sim_core.proofs.Announcers.{announcer_there}
use Rattle.sim_core.specs.Views.{AreRight, world_seen}
use Rattle.sim_core.specs.World.{World, HasCycle, graph_of, topology}
use Rattle.sim_core.specs.declared.errors.EditError.{EditError}
use Rattle.sim_core.specs.declared.errors.EditError.TheVariants as refused
use Rattle.sim_core.specs.declared.errors.EditLimit.TheVariants.{Links, Announcements, Ases}
use Rattle.sim_core.specs.declared.parts.Parts.{Parts}
use Rattle.sim_core.proofs.CycleLemmas.{new_below, none_below, without_below}
use Rattle.sim_core.proofs.Doing.{all_undone, begun_belongs, unchanged_world, within}

-- the world with these links
pub links_world : (old new : Parts) (a b : ℕ) (links : LinkMap) → HasLinks old new a b links → world_seen new ≡ record (world_seen old) { links = links }
links_world old new a b links h = λ i. record {
  links = h.are i;
  payloads = h.vrps i;
  kinds = (h.book i).named;
  plan = plan_of (h.rest.rounds i);
  rounds = round_count (h.rest.rounds i);
  watched = set.from_list (ap (λ w. w.items) h.rest.watched i);
}

-- ---- limits

pub over : (n most : ℕ) → most < n → nat_le n most ≡ false
over n most h = grind (arith, nat_tests, h)

-- the first limit that is passed is that of ASes
pub limit_ases : (w : World) (e : Edit) → absent w e ≡ None → fin.len (edited w e).links ≤ 1500000 → fin.len (edited w e).plan.announced ≤ 64 → 150000 < as_count (topology (edited w e)) → refusal_of_edit w e ≡ Some (refused.Limit Ases)
limit_ases w e there links announcements ases =
    rw (there, within (fin.len (edited w e).links) 1500000 links, within (fin.len (edited w e).plan.announced) 64 announcements, over (as_count (topology (edited w e))) 150000 ases) refl

pub limit_announcements : (w : World) (e : Edit) → absent w e ≡ None → fin.len (edited w e).links ≤ 1500000 → nat_lt 64 (fin.len (edited w e).plan.announced) ≡ true → refusal_of_edit w e ≡ Some (refused.Limit Announcements)
limit_announcements w e there links more =
    let over : nat_le (fin.len (edited w e).plan.announced) 64 ≡ false = grind (arith, nat_tests, more) in
    rw (there, within (fin.len (edited w e).links) 1500000 links, over) refl

unfound : {X : Type 0} (o : Option X) → o ≡ None → is_some o ≡ false
unfound o e = ap is_some e

of_map : (o : Option Rel) → option_map converse o ≡ None → o ≡ None
of_map None h = refl
of_map (Some r) h = cc

-- a new link is one more
pub len_new : (g : Topology) (a b : ℕ) (r : Rel) → a ≢ b → relation g a b ≡ None → fin.len (with_link g a b r).links ≡ fin.len g.links + 1
len_new g a b r apart none = elim (cases_Bool (nat_lt a b)) [
  | inl less ↦ ap fin.len (ap (λ t. cond t (fin.insert g.links (a, b) r) (fin.insert g.links (b, a) (converse r))) less) ∙ one (a, b) r (sym (ap (λ t. cond t (fin.get g.links (a, b)) (cond (nat_lt b a) (option_map converse (fin.get g.links (b, a))) None)) less) ∙ none)
  | inr more ↦ (let above : nat_lt b a ≡ true = over_apart a b apart more in
      ap fin.len (ap (λ t. cond t (fin.insert g.links (a, b) r) (fin.insert g.links (b, a) (converse r))) more) ∙ one (b, a) (converse r) (of_map (fin.get g.links (b, a))
      (sym ((λ i. cond (more i) (fin.get g.links (a, b)) (cond (above i) (option_map converse (fin.get g.links (b, a))) None))) ∙ none)))
]
  where
    one : (k : ℕ × ℕ) (s : Rel) → fin.get g.links k ≡ None → fin.len (fin.insert g.links k s) ≡ fin.len g.links + 1
    one k s e = fin.len-insert pairs_total g.links k s ∙ ap (λ t. cond t (fin.len g.links) (fin.len g.links + 1)) (unfound (fin.get g.links k) e)

    over_apart : (a b : ℕ) → a ≢ b → nat_lt a b ≡ false → nat_lt b a ≡ true
    over_apart a b apart h = grind (arith, nat_tests, apart, h)

pub seen_linked : (s : Parts) (a b : ℕ) (r : Rel) → as_count (with_link s.graph a b r) ≡ as_count (topology (edited (world_seen s) (Link a b r)))
seen_linked s a b r = ap (λ (g : Topology). as_count (with_link g a b r)) s.named

pub too_many_links : (s : Parts) (a b : ℕ) (r : Rel) → a ≢ b → relation s.graph a b ≡ None → 1500000 ≤ fin.len s.graph.links → refusal_of_edit (world_seen s) (Link a b r) ≡ Some (refused.Limit Links)
too_many_links s a b r apart none many =
    let more : 1500000 < fin.len (edited (world_seen s) (Link a b r)).links = omega (arith, len_new s.graph a b r apart none, many) in
    rw (over (fin.len (edited (world_seen s) (Link a b r)).links) 1500000 more) refl

pub too_many_ases : (s : Parts) (a b : ℕ) (r : Rel) → a ≢ b → relation s.graph a b ≡ None → fin.len s.graph.links < 1500000 → 150000 < as_count (with_link s.graph a b r) → refusal_of_edit (world_seen s) (Link a b r) ≡ Some (refused.Limit Ases)
too_many_ases s a b r apart none few many =
    let links : fin.len (edited (world_seen s) (Link a b r)).links ≤ 1500000 = omega (arith, len_new s.graph a b r apart none, few) in
    let ases : 150000 < as_count (topology (edited (world_seen s) (Link a b r))) = subst (λ n. 150000 < n) (seen_linked s a b r) many in
    limit_ases (world_seen s) (Link a b r) refl links s.small.announcements ases

-- ---- undoing

-- nothing but the links is looked at
pub back_linked : EditsAreUndone → (g : Topology) (a b : ℕ) (r : Rel) → a ≢ b → (mid : Topology) → mid.links ≡ (with_link g a b r).links → (o : Option Rel) → relation g a b ≡ o → links_with mid a b o ≡ g.links
back_linked undone g a b r apart mid are None is =
    ap (λ (l : LinkMap). (without_link (graph_of l mid.marked) a b).links) are ∙ ap (λ (t : Topology). t.links) (undone.new_link g a b r apart is)
back_linked undone g a b r apart mid are (Some s) is =
    ap (λ (l : LinkMap). (with_link (graph_of l mid.marked) a b s).links) are ∙ ap (λ (t : Topology). t.links) (undone.other_link g a b r s apart is)

pub back_cut : EditsAreUndone → (g : Topology) (a b : ℕ) (r : Rel) → a ≢ b → (mid : Topology) → mid.links ≡ (without_link g a b).links → relation g a b ≡ Some r → links_with mid a b (Some r) ≡ g.links
back_cut undone g a b r apart mid are is =
    ap (λ (l : LinkMap). (with_link (graph_of l mid.marked) a b r).links) are ∙ ap (λ (t : Topology). t.links) (undone.lost_link g a b r apart is)

pub rest_both : (old mid new : Parts) → KeepsRest old mid → KeepsRest mid new → KeepsRest old new
rest_both old mid new p q = record { ranks = q.ranks ∙ p.ranks; rounds = q.rounds ∙ p.rounds; watched = q.watched ∙ p.watched; watches = q.watches ∙ p.watches }

-- links that were changed and changed back
pub links_undone : (old mid same new : Parts) (a b : ℕ) (links back : LinkMap) → HasLinks old mid a b links → IsUnchanged mid same → HasLinks same new a b back → back ≡ old.graph.links → IsUndone old new
links_undone old mid same new a b links back first alike second is =
    all_undone old mid same new first.rest alike second.rest
    (links_world same new a b back second ∙ (λ i. record (world_seen same) { links = is i }) ∙ ap (λ (w : World). record w { links = old.graph.links }) (unchanged_world mid same alike) ∙ ap (λ (w : World). record w { links = old.graph.links }) (links_world old mid a b links first))

-- a pair with a link takes another one
pub fits_linked : (g : Topology) (a b : ℕ) (r : Rel) → relation g a b ≡ Some r → (s : Rel) (e : GraphError) → IsLinkRefusal g a b s e → ⊥
fits_linked g a b r is s graph_error.Memory h = (let e : None ≡ Some r = sym h.0 ∙ is in cc)
fits_linked g a b r is s graph_error.TooManyLinks h = (let e : None ≡ Some r = sym h.0 ∙ is in cc)
fits_linked g a b r is s graph_error.TooManyAses h = (let e : None ≡ Some r = sym h.0 ∙ is in cc)

pub fits_any : (g : Topology) (a b : ℕ) (r : Rel) → relation g a b ≡ Some r → (o : Option Rel) → IfSome o (λ s. (e : GraphError) → IsLinkRefusal g a b s e → ⊥)
fits_any g a b r is None = tt
fits_any g a b r is (Some s) = fits_linked g a b r is s

-- ---- a new link

-- what begins with a link has its provider and then its customer
begins : (a b : ℕ) (r : Rel) (xs : List ℕ) → BeginsWithLink (Link a b r) xs → (x y : ℕ) × (take 2 xs ≡ x ∷ y ∷ []) × ((Link a b r ≡ Link x y Customer) ⊎ (Link a b r ≡ Link y x Provider))
begins a b Customer xs h = (a, b, ap (take 2) h.1, inl refl)
begins a b Provider xs h = (b, a, ap (take 2) h.1, inr refl)
begins a b Peer xs h = absurd h

-- a link that is not kept is refused
pub link_stopped : (w : World) (graph : Topology) (a b : ℕ) (r : Rel) (e : EditError) → refusal_of_edit w (Link a b r) ≡ None → relation graph ≡ relation (topology (edited w (Link a b r))) → IsLinkStop graph a b r e → IsEditRefusal w (Link a b r) e
link_stopped w graph a b r refused.Memory none same h = tt
link_stopped w graph a b r (refused.AbsentLink lo hi) none same h = absurd h
link_stopped w graph a b r (refused.AbsentVrp vrp) none same h = absurd h
link_stopped w graph a b r (refused.UnknownPrefix prefix) none same h = absurd h
link_stopped w graph a b r (refused.AbsentAnnouncement prefix x) none same h = absurd h
link_stopped w graph a b r (refused.Limit which) none same h = absurd h
link_stopped w graph a b r (refused.ProviderCycle cycle) none same h = (let first = begins a b r cycle h.1 in (none, subst (λ v. IsProviderCycle v cycle) same h.0, first.0, first.1, first.2, first.3))

-- ASes of a graph are those of its links and marks
pub has_by : (g h : Topology) → h.links ≡ g.links → h.marked ≡ g.marked → (a : ℕ) → has h a ≡ has g a
has_by g h links marked a = λ i. has (graph_of (links i) (marked i)) a

-- an edit of a pair's link changes nothing at other ASes
pair_links : LinksAreSet → LinksAreTaken → (g : Topology) (a b : ℕ) (o : Option Rel) → a ≢ b → (x n : ℕ) → x ≢ a → x ≢ b → (links : LinkMap) → links ≡ links_with g a b o → relation (graph_of links g.marked) x n ≡ relation g x n
pair_links setting taken g a b None apart x n not_a not_b links is = ap (λ (l : LinkMap). relation (graph_of l g.marked) x n) is ∙ taken.others g a b x n (λ p. not_a p.0) (λ p. not_b p.0)
pair_links setting taken g a b (Some r) apart x n not_a not_b links is = ap (λ (l : LinkMap). relation (graph_of l g.marked) x n) is ∙ setting.others g a b r x n apart (λ p. not_a p.0) (λ p. not_b p.0)

pair_ases : AsesAreKept → (g : Topology) (a b : ℕ) (o : Option Rel) (x : ℕ) → x ≢ a → x ≢ b → (links : LinkMap) → links ≡ links_with g a b o → has (graph_of links g.marked) x ≡ has g x
pair_ases ases g a b None x not_a not_b links is = ap (λ (l : LinkMap). has (graph_of l g.marked) x) is ∙ ases.other_ends g a b x not_a not_b
pair_ases ases g a b (Some r) x not_a not_b links is =
    ap (λ (l : LinkMap). has (graph_of l g.marked) x) is ∙ (ases.linked g a b r x ∙ (λ i. unlike x a not_a i || (unlike x b not_b i || has g x)))
  where
    unlike : (u v : ℕ) → u ≢ v → (u == v) ≡ false
    unlike u v other = by (u == v) refl
      where
        by : (t : Bool) → (u == v) ≡ t → t ≡ false
        by true e = absurd (other (eqb-true u v e))
        by false e = refl

-- so that only the pair differs
pub link_differs : LinksAreSet → LinksAreTaken → AsesAreKept → (old mid : Parts) (a b : ℕ) (o : Option Rel) → a ≢ b → HasLinks old mid a b (links_with old.graph a b o) → DiffersAtPair (ground_of old) (ground_of mid) (plan_of mid.rounds) a b
link_differs setting taken ases old mid a b o apart h = record {
  presence = λ x not_a not_b. ap (λ (m : set.FinSet nat_cmp). has (graph_of mid.graph.links m) x) h.marked ∙ pair_ases ases old.graph a b o x not_a not_b mid.graph.links h.are;
  links = λ x n not_a not_b. pair_links setting taken old.graph a b o apart x n not_a not_b mid.graph.links h.are;
  book = h.book;
  payloads = h.vrps;
  announcers = λ prefix x there. announcer_there old.graph (plan_of old.rounds) old.book.named old.named prefix x (ap (λ (r : Rounds). announces (plan_of r) prefix x) (sym h.rest.rounds) ∙ there);
}

-- what is kept belongs to the world before the edit, from which the new one differs at the pair alone
pub link_begun : LinksAreSet → LinksAreTaken → AsesAreKept → (old mid : Parts) (a b : ℕ) (o : Option Rel) → AreRight old → (HasCycle (world_seen old) → ⊥) → a ≢ b → HasLinks old mid a b (links_with old.graph a b o)
    → (was : Ground) × BelongTo was mid.ranks mid.rounds mid.watches.items × DiffersAtPair was (ground_of mid) (plan_of mid.rounds) a b
link_begun setting taken ases old mid a b o right none apart h = (ground_of old, begun_belongs old mid right none h.rest, link_differs setting taken ases old mid a b o apart h)

-- the ranks stay where those of the pair bear the edit
pub link_stays : LinksAreSet → LinksAreTaken → AsesAreKept → RanksStay → (old mid : Parts) (a b : ℕ) (o : Option Rel) → AreRight old → (HasCycle (world_seen old) → ⊥) → a ≢ b → HasLinks old mid a b (links_with old.graph a b o) → (was is : Option Rel) → was ≡ relation old.graph a b → relation mid.graph a b ≡ is
    → (kept : Bool) → (kept ≡ true → StayWith (rank_at mid.ranks a) (rank_at mid.ranks b) was is) → StayIf kept mid.graph mid.ranks
link_stays setting taken ases stay old mid a b o right none apart h was is before after kept bear said =
    stay old.graph mid.graph (rank_at mid.ranks) a b (begun_belongs old mid right none h.rest).no_cycle (begun_belongs old mid right none h.rest).ranks_are (link_differs setting taken ases old mid a b o apart h).links
    (coe 0 1 (i. StayWith (rank_at mid.ranks a) (rank_at mid.ranks b) (before i) (sym after i)) (bear said))

-- the new link is there
pub linked_now : LinksAreSet → (old mid : Parts) (a b : ℕ) (r : Rel) → a ≢ b → HasLinks old mid a b (links_with old.graph a b (Some r)) → relation mid.graph a b ≡ Some r
linked_now setting old mid a b r apart h = ap (λ (l : LinkMap). relation (graph_of l mid.graph.marked) a b) h.are ∙ setting.at old.graph a b r apart

-- without its link the pair takes it again
pub fits_cut : EditsAreUndone → (old mid : Parts) (a b : ℕ) → a ≢ b → HasLinks old mid a b (links_with old.graph a b None) → relation mid.graph a b ≡ None → IsSmall old.graph old.vrps → (r : Rel) → relation old.graph a b ≡ Some r → (e : GraphError) → IsLinkRefusal mid.graph a b r e → ⊥
fits_cut undone old mid a b apart h none small r is graph_error.Memory refusal = true≢false (sym h.room ∙ refusal.1)
fits_cut undone old mid a b apart h none small r is graph_error.TooManyLinks refusal =
    let back = ap fin.len (back_cut undone old.graph a b r apart mid.graph h.are is) in
    let one = len_new mid.graph a b r apart none in
    let many : 1500000 ≤ fin.len mid.graph.links = refusal.1 in
    omega (arith, back, one, many, small.links)
fits_cut undone old mid a b apart h none small r is graph_error.TooManyAses refusal =
    let same : as_count (with_link mid.graph a b r) ≡ as_count old.graph = λ i. as_count (graph_of (back_cut undone old.graph a b r apart mid.graph h.are is i) (h.marked i)) in
    let many : 150000 < as_count (with_link mid.graph a b r) = refusal.2 in
    omega (arith, same, many, small.ases)

pub fits_back : EditsAreUndone → (old mid : Parts) (a b : ℕ) → a ≢ b → HasLinks old mid a b (links_with old.graph a b None) → relation mid.graph a b ≡ None → IsSmall old.graph old.vrps → (o : Option Rel) → relation old.graph a b ≡ o → IfSome o (λ r. (e : GraphError) → IsLinkRefusal mid.graph a b r e → ⊥)
fits_back undone old mid a b apart h none small None is = tt
fits_back undone old mid a b apart h none small (Some r) is = fits_cut undone old mid a b apart h none small r is

pub back_any : EditsAreUndone → (g : Topology) (a b : ℕ) → a ≢ b → (mid : Topology) → mid.links ≡ (without_link g a b).links → relation g a b ≢ None → (o : Option Rel) → relation g a b ≡ o → links_with mid a b o ≡ g.links
back_any undone g a b apart mid are there None is = absurd (there is)
back_any undone g a b apart mid are there (Some r) is = back_cut undone g a b r apart mid are is

pub cut_none : LinksAreTaken → (old mid : Parts) (a b : ℕ) → HasLinks old mid a b (links_with old.graph a b None) → relation mid.graph a b ≡ None
cut_none taken old mid a b h = ap (λ (l : LinkMap). relation (graph_of l mid.graph.marked) a b) h.are ∙ taken.at old.graph a b

pub absent_cut : (o : Option Rel) (e : EditError) → o ≢ None → cond (is_some o) None (Some e) ≡ None
absent_cut None e there = absurd (there refl)
absent_cut (Some r) e there = refl

pub if_none_any : {P : Type 0} (o : Option Rel) → P → IfNone o P
if_none_any None h = h
if_none_any (Some r) h = tt

pub if_none_some : (P : Type 0) (o other : Option Rel) → other ≢ None → other ≡ o → IfNone o P
if_none_some P None other there is = absurd (there is)
if_none_some P (Some r) other there is = tt

pub from_none : {P : Type 0} (o : Option Rel) → IfNone o P → o ≡ None → P
from_none None h is = h
from_none (Some r) h is = cc

pub unlinked : {E : Type 0} (r : Result (Unit {0}) E) (g new : Topology) (a b : ℕ) → OnOk r (new ≡ without_link g a b) → OnErr r (relation g a b ≡ None) → relation g a b ≢ None → new ≡ without_link g a b
unlinked (Ok x) g new a b ok absent there = ok
unlinked (Err e) g new a b ok absent there = absurd (there absent)

-- a graph with a new link has no provider cycle without the pair's link
pub there_none : LinksAreSound → LinksAreSet → LinksAreTaken → (old mid : Parts) (a b : ℕ) (r : Rel) → a ≢ b → (p c : ℕ) → ((p ≡ a) × (c ≡ b)) ⊎ ((p ≡ b) × (c ≡ a)) → HasLinks old mid a b (links_with old.graph a b (Some r)) → (HasCycle (world_seen old) → ⊥) → HasNoProviderCycle (relation (without_link mid.graph p c))
there_none sound setting taken old mid a b r apart p c pair h none =
    none_below (relation (without_link mid.graph p c)) (relation old.graph)
    (λ x y e. new_below sound setting taken old.graph a b p c r apart pair x y (subst (λ (l : LinkMap). relation (without_link (graph_of l mid.graph.marked) p c) x y ≡ Some Customer) h.are e))
    (λ xs is. none (xs, is))

-- so has a graph that lost a link
pub cut_no_cycle : LinksAreSound → LinksAreSet → LinksAreTaken → (old mid : Parts) (a b : ℕ) → HasLinks old mid a b (links_with old.graph a b None) → (HasCycle (world_seen old) → ⊥) → HasNoProviderCycle (relation mid.graph)
cut_no_cycle sound setting taken old mid a b h none =
    none_below (relation mid.graph) (relation old.graph)
    (λ x y e. without_below sound setting taken old.graph a b x y (subst (λ (l : LinkMap). relation (graph_of l mid.graph.marked) x y ≡ Some Customer) h.are e))
    (λ xs is. none (xs, is))

-- a pair with a link is two ASes
pub cut_apart : LinksAreSound → (s : Parts) (a b : ℕ) → relation s.graph a b ≢ None → a ≢ b
cut_apart sound s a b there same = there (subst (λ (x : ℕ). relation s.graph a x ≡ None) same (sound.to_itself s.graph a))
