-- The rows of a watch that begins with an index.
use Rattle.std.proofs.Common.{◌≡◌, ℕ, ◌<◌, true, List, length, sym, ◌∙◌, subst}
use Rattle.std.specs.Prelude.{nat_eq}
use Rattle.std.specs.List.{IsDistinct}
use Rattle.as_graph.specs.Topology.{Topology, has}
use Rattle.data_trace.specs.declared.kinds.Hop.{Hop}
use Rattle.data_trace.specs.declared.kinds.Hop.TheVariants as hop
use Rattle.data_trace.specs.declared.places.PlaceHop.{PlaceHop}
use Rattle.data_trace.specs.declared.places.Group.{Group}
use Rattle.data_trace.specs.declared.index.WatchIndex.{WatchIndex}
use Rattle.data_trace.specs.declared.watch.Watch.{Watch}
use Rattle.data_trace.specs.Watches.{AreRows}
use Rattle.data_trace.specs.Columns.{name_at, fresh, AreAses, AreHops, AreGroups}
use Rattle.data_trace.specs.Indexes.{has_as, IsIndexOf}
use Rattle.data_trace.specs.Views.{rows_of}
use Rattle.data_trace.proofs.Placing.{occurs_at}
use Rattle.data_trace.proofs.Seen.{fresh_is}
use Rattle.data_trace.proofs.Rows.{are_rows}

module _ (index : WatchIndex) (next : ℕ → Hop) (inside : (a b : ℕ) → next a ≡ hop.To b → has_as index b ≡ true) (apart : IsDistinct nat_eq index.ases.ases) (hops : List PlaceHop) (are : AreHops next index.ases.ases hops) where
  -- a watch with the ASes and groups of the index and these next hops has the rows of each graph whose index it is
  pub index_rows : (w : Watch) → w.ases.ases ≡ index.ases.ases → w.columns.hops.items ≡ hops → w.columns.groups.items ≡ index.groups.items → (g : Topology) (label : ℕ → ℕ) → IsIndexOf g label index → AreRows g next label (rows_of w)
  index_rows w same_ases same_hops same_groups g label is =
      let keys : List ℕ = index.ases.ases in
      let stays : (a b : ℕ) → next a ≡ hop.To b → has g b ≡ true = λ a b e. sym (is.listed b) ∙ inside a b e in
      let here : (x : ℕ) → x < length keys → has g (name_at keys x) ≡ true = λ x l. sym (is.listed (name_at keys x)) ∙ occurs_at keys x l in
      let ases : AreAses g keys = record { listed = λ a h. is.listed a ∙ h; apart = apart } in
      let sent : AreHops (fresh g next) keys hops = record { len = are.len; within = are.within; follows = λ x l. are.follows x l ∙ sym (fresh_is g next stays (name_at keys x) (here x l)) } in
      are_rows g next label w.ases.ases w.columns.hops.items w.columns.marks.items w.columns.groups.items
      (subst (λ (ks : List ℕ). AreAses g ks) (sym same_ases) ases)
      (subst (λ (ks : List ℕ). AreHops (fresh g next) ks w.columns.hops.items) (sym same_ases) (subst (λ (hs : List PlaceHop). AreHops (fresh g next) keys hs) (sym same_hops) sent))
      stays
      (subst (λ (ks : List ℕ). AreGroups g label ks w.columns.groups.items) (sym same_ases) (subst (λ (gs : List Group). AreGroups g label keys gs) (sym same_groups) is.groups))
      w.ends
