-- After an update the rows are right.
use Rattle.std.proofs.Common.{◌≡◌, ◌⊎◌, inl, inr, ⊎_elim, ℕ, ◌<◌, ◌≤◌, true, false, Some, None, List, [], ◌∷◌, length, refl, sym, ◌∙◌, ap, subst, arith, cond, true≢false}
use Rattle.std.specs.Prelude.{nat_eq}
use Rattle.std.specs.List.{IsDistinct}
use Rattle.std.proofs.lemmas.Bool.{cases_lt, cases_Bool}
use Rattle.std.proofs.lemmas.List.{get_or_past}
use Rattle.net_names.specs.Numbers.{occurs}
use Rattle.as_graph.specs.Topology.{Topology, has}
use Rattle.data_trace.specs.declared.kinds.Hop.{Hop}
use Rattle.data_trace.specs.declared.kinds.Hop.TheVariants as hop
use Rattle.data_trace.specs.declared.places.PlaceHop.{PlaceHop}
use Rattle.data_trace.specs.declared.places.PlaceHop.TheVariants.{NoRoute, Here, To}
use Rattle.data_trace.specs.declared.places.Mark.{Mark}
use Rattle.data_trace.specs.declared.places.Group.{Group}
use Rattle.data_trace.specs.Marks.{hop_at, next_of, IsWithin, AreEnds}
use Rattle.data_trace.specs.Watches.{Row, AreRows, IsRowOf}
use Rattle.data_trace.specs.Columns.{name_at, named, fresh, group_at, here_at, row, rows, AreHops, AreGroups, IsGroup}
use Rattle.data_trace.specs.Kept.{KeepsHops, KeepsGroups}
use Rattle.data_trace.specs.Comes.{Comes}
use Rattle.data_trace.proofs.Placing.{one_place, occurs_at}
use Rattle.data_trace.proofs.Seen.{fresh_is}
use Rattle.data_trace.proofs.Rows.{row_there, listed_in, listed_there, are_rows}

-- next hops name the same ASes where places stay
named_same : (old new : List ℕ) (h : PlaceHop) → ((y : ℕ) → h ≡ To y → name_at new y ≡ name_at old y) → named new h ≡ named old h
named_same old new NoRoute same = refl
named_same old new Here same = refl
named_same old new (To y) same = ap hop.To (same y refl)

pub named_none : (keys : List ℕ) (h : PlaceHop) → named keys h ≡ hop.NoRoute → h ≡ NoRoute
named_none keys NoRoute e = refl
named_none keys Here e = cc
named_none keys (To y) e = cc

-- a graph that has no AS
pub none_there : (g : Topology) (all : List ℕ) → length all ≡ 0 → ((a : ℕ) → occurs a all ≡ has g a) → (a : ℕ) → has g a ≡ false
none_there g [] n listed a = sym (listed a)
none_there g (x ∷ xs) n listed a = absurd (omega (arith, n))

none_some : (r : Row) → None ≡ Some r → ⊥
none_some r e = cc

-- without places there are no rows
pub no_rows : (g : Topology) (next : ℕ → Hop) (label : ℕ → ℕ) (ases : List ℕ) (hops : List PlaceHop) (marks : List Mark) (groups : List Group) → ases ≡ [] → ((a : ℕ) → has g a ≡ false) → AreRows g next label (rows ases hops marks groups)
unfolding IsDistinct
no_rows g next label ases hops marks groups e none =
    subst (λ (ks : List ℕ). AreRows g next label (rows ks hops marks groups)) (sym e) (record { listed = λ a. sym (none a); apart = tt; right = λ place r q. absurd (none_some r q) })

-- The watch at the places of `old` becomes that at the places of `new`: next hops outside `changed` and `regrouped` and groups outside `regrouped` were right.
pub record IsUpdate (g : Topology) (next : ℕ → Hop) (label : ℕ → ℕ) (changed regrouped old new : List ℕ) (hops hops' : List PlaceHop) (marks : List Mark) (groups groups' : List Group) : Type 0 where
  pub inside : (a b : ℕ) → next a ≡ hop.To b → has g b ≡ true
  pub comes : Comes g regrouped old new
  pub apart : IsDistinct nat_eq old
  pub hops_len : length hops ≡ length old
  pub within : IsWithin hops
  pub absent : (x : ℕ) → here_at groups x ≡ false → hop_at hops x ≡ NoRoute
  pub keeps_hops : KeepsHops g next changed regrouped (rows old hops marks groups)
  pub keeps_groups : KeepsGroups g label regrouped (rows old hops marks groups)
  pub hops_same : (x : ℕ) → hop_at hops' x ≡ hop_at hops x
  pub groups_same : (x : ℕ) → group_at groups' x ≡ group_at groups x

module _ {g : Topology} {next : ℕ → Hop} {label : ℕ → ℕ} {changed regrouped old new : List ℕ} {hops hops' : List PlaceHop} {marks : List Mark} {groups groups' : List Group} (u : IsUpdate g next label changed regrouped old new hops hops' marks groups groups') where
  -- an AS that is not in the list had its place before
  old_place : (x : ℕ) → x < length new → occurs (name_at new x) regrouped ≡ false → x < length old
  old_place x l o = ⊎_elim (λ k. k) (λ (k : length old ≤ x). absurd (true≢false (sym (u.comes.among x k l) ∙ o))) (cases_lt x (length old))

  -- every AS of the graph has a place
  pub all_there : (a : ℕ) → has g a ≡ true → occurs a new ≡ true
  all_there a h = ⊎_elim (λ (o : occurs a regrouped ≡ true). u.comes.there a o h) (λ (o : occurs a regrouped ≡ false). kept o) (cases_Bool (occurs a regrouped))
    where
      kept : occurs a regrouped ≡ false → occurs a new ≡ true
      kept o =
          let q : (x : ℕ) × (x < length old) × (here_at groups x ≡ true) × (name_at old x ≡ a) = listed_in old hops marks groups a (u.keeps_groups.presence a o ∙ h) in
          subst (λ b. occurs b new ≡ true) (u.comes.stay q.0 q.1 ∙ q.3) (occurs_at new q.0 (omega (arith, q.1, u.comes.more)))

  -- a place of the old watch whose AS is not in the list is there exactly where the AS is in the graph
  still_here : (x : ℕ) → x < length old → occurs (name_at old x) regrouped ≡ false → here_at groups x ≡ has g (name_at old x)
  still_here x l o = by (cases_Bool (here_at groups x)) (cases_Bool (has g (name_at old x)))
    where
      by : (here_at groups x ≡ true) ⊎ (here_at groups x ≡ false) → (has g (name_at old x) ≡ true) ⊎ (has g (name_at old x) ≡ false) → here_at groups x ≡ has g (name_at old x)
      by (inl h) k = h ∙ sym (sym (u.keeps_groups.presence (name_at old x) o) ∙ listed_there old hops marks groups x l h)
      by (inr h) (inr k) = h ∙ sym k
      by (inr h) (inl k) =
          let q : (y : ℕ) × (y < length old) × (here_at groups y ≡ true) × (name_at old y ≡ name_at old x) = listed_in old hops marks groups (name_at old x) (u.keeps_groups.presence (name_at old x) o ∙ k) in
          absurd (true≢false (sym q.2 ∙ ap (here_at groups) (one_place old q.0 x u.apart q.1 l q.3) ∙ h))

  -- the next hops outside the two lists are right already
  pub hops_right : (x : ℕ) → x < length new → occurs (name_at new x) changed ≡ false → occurs (name_at new x) regrouped ≡ false → named new (hop_at hops' x) ≡ fresh g next (name_at new x)
  hops_right x l c o = ap (named new) (u.hops_same x) ∙ named_same old new (hop_at hops x) (λ y e. u.comes.stay y (omega (arith, u.within x y e, u.hops_len))) ∙ right ∙ ap (fresh g next) (sym (u.comes.stay x k))
    where
      k : x < length old
      k = old_place x l o

      same : name_at new x ≡ name_at old x
      same = u.comes.stay x (old_place x l o)

      out : occurs (name_at old x) regrouped ≡ false
      out = ap (λ a. occurs a regrouped) (sym (u.comes.stay x (old_place x l o))) ∙ o

      right : named old (hop_at hops x) ≡ fresh g next (name_at old x)
      right = by (cases_Bool (has g (name_at old x)))
        where
          by : (has g (name_at old x) ≡ true) ⊎ (has g (name_at old x) ≡ false) → named old (hop_at hops x) ≡ fresh g next (name_at old x)
          by (inl h) = u.keeps_hops (name_at old x) (row old hops marks groups x) h (ap (λ a. occurs a changed) (sym same) ∙ c) out (row_there old hops marks groups x k (still_here x k out ∙ h)) ∙ sym (fresh_is g next u.inside (name_at old x) h)
          by (inr h) = ap (named old) (u.absent x (still_here x k out ∙ h)) ∙ sym (ap (λ v. cond v (next (name_at old x)) hop.NoRoute) h)

  module _ (groups'' : List Group) (gs_len : length groups'' ≡ length new) (gs_new : (x : ℕ) → x < length new → occurs (name_at new x) regrouped ≡ true → IsGroup g label (name_at new x) (group_at groups'' x))
      (gs_old : (x : ℕ) → x < length new → occurs (name_at new x) regrouped ≡ false → group_at groups'' x ≡ group_at groups' x) where
    kept_group : (x : ℕ) → x < length new → occurs (name_at new x) regrouped ≡ false → IsGroup g label (name_at new x) (group_at groups'' x)
    kept_group x l o = subst (λ (t : Group). IsGroup g label (name_at new x) t) (sym (gs_old x l o ∙ u.groups_same x)) (subst (λ a. IsGroup g label a (group_at groups x)) (sym (u.comes.stay x (old_place x l o))) (record {
      here = still_here x (old_place x l o) out;
      stub = λ h. u.keeps_groups.stub (name_at old x) (row old hops marks groups x) out (there h);
      label_is = λ h. u.keeps_groups.group (name_at old x) (row old hops marks groups x) out (there h);
    }))
      where
        out : occurs (name_at old x) regrouped ≡ false
        out = ap (λ a. occurs a regrouped) (sym (u.comes.stay x (old_place x l o))) ∙ o

        there : has g (name_at old x) ≡ true → IsRowOf (rows old hops marks groups) (name_at old x) (row old hops marks groups x)
        there h = row_there old hops marks groups x (old_place x l o) (still_here x (old_place x l o) out ∙ h)

    pub all_grouped : AreGroups g label new groups''
    all_grouped = record { len = gs_len; each = λ x l. ⊎_elim (λ (o : occurs (name_at new x) regrouped ≡ true). gs_new x l o) (λ (o : occurs (name_at new x) regrouped ≡ false). kept_group x l o) (cases_Bool (occurs (name_at new x) regrouped)) }

    -- the AS of a place that is gone has no route
    pub gone_has_none : (hops'' : List PlaceHop) → AreHops (fresh g next) new hops'' → (x : ℕ) → here_at groups'' x ≡ false → hop_at hops'' x ≡ NoRoute
    gone_has_none hops'' h x f = ⊎_elim (λ (l : x < length new). named_none new (hop_at hops'' x) (h.follows x l ∙ ap (λ v. cond v (next (name_at new x)) hop.NoRoute) (sym (all_grouped.each x l).here ∙ f)))
        (λ (k : length new ≤ x). get_or_past hops'' x NoRoute (omega (arith, k, h.len))) (cases_lt x (length new))

    pub updated_rows : (hops'' : List PlaceHop) (marks'' : List Mark) → IsDistinct nat_eq new → AreHops (fresh g next) new hops'' → AreEnds (next_of hops'') (length hops'') marks'' → AreRows g next label (rows new hops'' marks'' groups'')
    updated_rows hops'' marks'' d h ends = are_rows g next label new hops'' marks'' groups'' (record { listed = all_there; apart = d }) h u.inside all_grouped ends
