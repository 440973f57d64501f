use Rattle.std.proofs.Common.{◌≡◌, ◌++◌, List, map, sym, ap, ◌∙◌, subst, append_assoc}
use Rattle.std.specs.FinMap as fin
use Rattle.std.specs.List.Sorted.{IsPermutation}
use Rattle.std.proofs.lemmas.List.Sorted.{IsPermutation-trans, IsPermutation-append_right}
use Rattle.std.proofs.lemmas.Result.{IfOk-weaker}
use Rattle.net_names.specs.declared.links.Link.{Link}
use Rattle.caida_reader.specs.Entries.{entry_of}
use Rattle.caida_reader.specs.Firsts.{FirstMap}
use Rattle.caida_reader.specs.Runs.{joined, all_turned, turned, link_of, Lists, AreApart}
use Rattle.caida_reader.specs.declared.entry.Entry.{Entry}
use Rattle.caida_reader.proofs.RunLemmas.{Entry as Pair}
use Rattle.caida_reader.proofs.ListLemmas.{lists-entries, lists-all_turned, lists-joined}
use Rattle.caida_reader.proofs.MergeLemmas.{map-map}
use Rattle.caida_reader.proofs.SetLemmas.{lists-permuted}
use Rattle.caida_reader.proofs.runs.Runs.links.Goals as goal

-- the links of both runs and further ones, as they are merged
module _ (rising exchanged : FirstMap) (front behind : List Entry) (is_front : map entry_of front ≡ fin.entries rising) (is_behind : map entry_of behind ≡ fin.entries exchanged) where
  listed : AreApart rising (all_turned exchanged) → (further back sorted links : List Link) (more : FirstMap) → back ≡ map (λ e. link_of (turned (entry_of e))) behind ++ further → IsPermutation back sorted
      → IsPermutation (map link_of (map entry_of front) ++ sorted) links → AreApart (joined rising (all_turned exchanged)) more → Lists further more → Lists links (joined (joined rising (all_turned exchanged)) more)
  listed apart further back sorted links more is moved merged away lists =
      let ends = map (λ e. link_of (turned e)) (fin.entries exchanged) in
      let both = lists-joined (map link_of (fin.entries rising)) ends rising (all_turned exchanged) apart (lists-entries rising) (lists-all_turned exchanged) in
      let all = lists-joined (map link_of (fin.entries rising) ++ ends) further (joined rising (all_turned exchanged)) more away both lists in
      let their : back ≡ ends ++ further = is ∙ ap (λ (xs : List Link). xs ++ further) (sym (map-map entry_of (λ e. link_of (turned e)) behind) ∙ ap (map (λ e. link_of (turned e))) is_behind) in
      let whole : (map link_of (fin.entries rising) ++ ends) ++ further ≡ map link_of (map entry_of front) ++ back =
      append_assoc (map link_of (fin.entries rising)) ends further ∙ ap (λ (xs : List Link). map link_of (fin.entries rising) ++ xs) (sym their) ∙ ap (λ (es : List Pair). map link_of es ++ back) (sym is_front) in
      lists-permuted _ links _ (IsPermutation-trans _ _ links (IsPermutation-append_right (map link_of (map entry_of front)) back sorted moved) merged)
      (subst (λ (xs : List Link). Lists xs (joined (joined rising (all_turned exchanged)) more)) whole all)

pub returns : goal.returns
returns c =
    let rising = c.self.inside.rising in
    let exchanged = c.self.inside.turned in
    let front = c.as_slice-2.result.now in
    let sorted = c.sort_unstable_by_key.new.self.items in
    IfOk-weaker c.merge.result (λ links. IsPermutation (map link_of (map entry_of front) ++ c.deref.result.now) links.items) (λ links. (more : FirstMap) → AreApart c.args.self.now more → Lists c.args.further.now more → Lists links.items (joined c.args.self.now more))
    (λ links merged more away lists. subst (λ (m : FirstMap). Lists links.items (joined m more)) c.self.view_is
    (listed rising exchanged front c.as_slice.result.now c.as_slice-2.ensures c.as_slice.ensures c.self.invariant.apart c.args.further.now c.in_ok-back.back.items sorted links.items more c.in_ok-back.ensures (IsPermutation-trans _ _ sorted c.in_ok-deal_by_number.ensures.all c.sort_unstable_by_key.ensures.permutation)
    (subst (λ (xs : List Link). IsPermutation (map link_of (map entry_of front) ++ xs) links.items) c.deref.ensures.value merged)
    (subst (λ (m : FirstMap). AreApart m more) (sym c.self.view_is) away) lists))
    c.merge.ensures
