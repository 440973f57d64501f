-- The ASes that are touched prefix by prefix.
use Rattle.std.proofs.Common.{◌≡◌, ◌∙◌, ◌⊎◌, inl, inr, ◌<◌, ◌+◌, ℕ, zero, suc, Bool, true, false, List, Some, refl, sym, ap, subst, arith, ◌==◌, Option, None, is_some, unwrap_or, cond}
use Rattle.std.specs.Prelude.{slice_get}
use Rattle.std.specs.FinMap as fin
use Rattle.std.specs.FinSet as set
use Rattle.std.proofs.lemmas.Bool.{eqb-true, or_right, true≢false}
use Rattle.std.proofs.lemmas.Cmp.{nat_cmp_total}
use Rattle.net_names.specs.Numbers.{occurs}
use Rattle.as_graph.specs.Topology.{Topology, has}
use Rattle.policy_kinds.specs.declared.kind.Kind.TheVariants.{Plain}
use Rattle.sim_core.specs.World.{graph_of, named}
use Rattle.sim_core.proofs.PolicyEdits.{Kinds, leakers, is_key, named_by, occurs_keys}
use Rattle.sim_core.proofs.Unnamed.{named_there}
use Rattle.net_names.specs.Payloads.{VrpValue}
use Rattle.roa_table.specs.Sets.{Payloads}
use Rattle.stability_laws.specs.Plans.{Plan, announcers_of}
use Rattle.sim_core.specs.Ground.{AreReadersTouched}
use Rattle.net_names.specs.Coverage.{covers}
use Rattle.net_names.specs.Prefixes.{PrefixValue}
use Rattle.policy_kinds.specs.Kinds.{kind_policy}
use Rattle.policy_kinds.specs.declared.kind.Kind.{Kind}
use Rattle.stability_laws.specs.Book.{PolicyBook, policy_at}
use Rattle.leak_round.specs.Touched.{touches}
use Rattle.leak_round.specs.declared.touched.Touched.{Touched}

-- the policy of the AS reads the states
abbrev pub Reads : PolicyBook Kind → ℕ → Type 0
Reads book a = (kind_policy (policy_at book a)).reads_state ≡ true

pub more_read : (old new : Touched) (outer : PrefixValue) (book : PolicyBook Kind) → ((p : PrefixValue) (a : ℕ) → touches old p a ≡ true → (covers outer p ≡ true) × Reads book a) → ((p : PrefixValue) (a : ℕ) → touches new p a ≡ true → touches old p a ≡ false → (covers outer p ≡ true) × Reads book a)
    → (p : PrefixValue) (a : ℕ) → touches new p a ≡ true → (covers outer p ≡ true) × Reads book a
more_read old new outer book before later p a h = by (touches old p a) refl
  where
    by : (t : Bool) → touches old p a ≡ t → (covers outer p ≡ true) × Reads book a
    by true e = before p a e
    by false e = later p a h e

-- a place below one more is below, or the last
pub place_or : (k n : ℕ) → k < n + 1 → (k < n) ⊎ (k ≡ n)
place_or zero zero h = inr refl
place_or zero (suc n) h = inl (omega arith)
place_or (suc k) zero h = absurd (omega (arith, h))
place_or (suc k) (suc n) h = elim (place_or k n (omega (arith, h))) [ inl l ↦ inl (omega (arith, l)) | inr s ↦ inr (ap suc s) ]

pub more_covered : (readers : List ℕ) (book : PolicyBook Kind) (vrps : Payloads) (v : VrpValue) (plan : Plan) (xs : List PrefixValue) (i : ℕ) (q : PrefixValue) (old new : Touched) → slice_get xs i ≡ Some q
    → ((place : ℕ) (p : PrefixValue) → place < i → slice_get xs place ≡ Some p → AreReadersTouched readers book vrps v plan p (touches old p)) → ((p : PrefixValue) (a : ℕ) → touches old p a ≡ true → touches new p a ≡ true)
    → AreReadersTouched readers book vrps v plan q (touches new q) → (place : ℕ) (p : PrefixValue) → place < i + 1 → slice_get xs place ≡ Some p → AreReadersTouched readers book vrps v plan p (touches new p)
more_covered readers book vrps v plan xs i q old new at before more here place p less there = elim (place_or place i less) [
  | inl earlier ↦ (λ a present reads free origin is. before place p earlier there a present reads (untouched (touches old p a) a refl free) origin is)
  | inr last ↦ (
      let one : Some q ≡ Some p = sym at ∙ (ap (slice_get xs) (sym last) ∙ there) in
      let same : q ≡ p = cc in
      subst (λ (r : PrefixValue). AreReadersTouched readers book vrps v plan r (touches new r)) same here)
]
  where
    untouched : (t : Bool) → (a : ℕ) → touches old p a ≡ t → touches new p a ≡ false → touches old p a ≡ false
    untouched false a e free = e
    untouched true a e free = absurd (true≢false (sym (more p a e) ∙ free))

-- who reads the states is named, so that a graph with the marks of all who are has it
pub reader_there : (graph : Topology) (plan : Plan) (book : PolicyBook Kind) (a : ℕ) → graph_of graph.links graph.marked ≡ graph_of graph.links (set.from_list (named plan book.named)) → book.rest ≡ Plain → Reads book a → has graph a ≡ true
reader_there graph plan book a is rest reads = named_there graph plan book.named a is (named_by plan book.named a ∙ or_right (occurs a (announcers_of plan)) _ (or_right (occurs a (leakers plan)) _ (occurs_keys book.named a ∙ by (fin.get book.named a) refl)))
  where
    by : (o : Option Kind) → fin.get book.named a ≡ o → is_some (fin.get book.named a) ≡ true
    by (Some k) e = ap is_some e
    by None e = absurd (true≢false (sym reads ∙ (λ i. (kind_policy (unwrap_or (e i) (rest i))).reads_state)))

-- the readers with another policy of an AS
pub reading_with : (named now : Kinds) (rest : Kind) (a : ℕ) (k : Kind) (readers : List ℕ) → now ≡ fin.insert named a k → ((x : ℕ) → (kind_policy (unwrap_or (fin.get named x) rest)).reads_state ≡ true → occurs x readers ≡ true) → ((kind_policy k).reads_state ≡ true → occurs a readers ≡ true)
    → (x : ℕ) → (kind_policy (unwrap_or (fin.get now x) rest)).reads_state ≡ true → occurs x readers ≡ true
reading_with named now rest a k readers is before own x reads = by (a == x) refl (ap (λ (m : Kinds). (kind_policy (unwrap_or (fin.get m x) rest)).reads_state) (sym is) ∙ reads)
  where
    get_at : (t : Bool) → (a == x) ≡ t → fin.get (fin.insert named a k) x ≡ cond t (Some k) (fin.get named x)
    get_at t e = fin.get-insert nat_cmp_total named a k x ∙ ap (λ b. cond b (Some k) (fin.get named x)) (is_key x a ∙ e)

    by : (t : Bool) → (a == x) ≡ t → (kind_policy (unwrap_or (fin.get (fin.insert named a k) x) rest)).reads_state ≡ true → occurs x readers ≡ true
    by true e r = subst (λ y. occurs y readers ≡ true) (eqb-true a x e) (own (ap (λ o. (kind_policy (unwrap_or o rest)).reads_state) (sym (get_at true e)) ∙ r))
    by false e r = before x (ap (λ o. (kind_policy (unwrap_or o rest)).reads_state) (sym (get_at false e)) ∙ r)

pub reading_without : (named now : Kinds) (rest : Kind) (a : ℕ) (readers : List ℕ) → now ≡ fin.remove named a → rest ≡ Plain → ((x : ℕ) → (kind_policy (unwrap_or (fin.get named x) rest)).reads_state ≡ true → occurs x readers ≡ true)
    → (x : ℕ) → (kind_policy (unwrap_or (fin.get now x) rest)).reads_state ≡ true → occurs x readers ≡ true
reading_without named now rest a readers is plain before x reads = by (a == x) refl (ap (λ (m : Kinds). (kind_policy (unwrap_or (fin.get m x) rest)).reads_state) (sym is) ∙ reads)
  where
    get_at : (t : Bool) → (a == x) ≡ t → fin.get (fin.remove named a) x ≡ cond t None (fin.get named x)
    get_at t e = fin.get-remove nat_cmp_total named a x ∙ ap (λ b. cond b None (fin.get named x)) (is_key x a ∙ e)

    by : (t : Bool) → (a == x) ≡ t → (kind_policy (unwrap_or (fin.get (fin.remove named a) x) rest)).reads_state ≡ true → occurs x readers ≡ true
    by true e r = absurd (true≢false (sym (ap (λ o. (kind_policy (unwrap_or o rest)).reads_state) (sym (get_at true e)) ∙ r) ∙ ap (λ j. (kind_policy j).reads_state) plain))
    by false e r = before x (ap (λ o. (kind_policy (unwrap_or o rest)).reads_state) (sym (get_at false e)) ∙ r)
