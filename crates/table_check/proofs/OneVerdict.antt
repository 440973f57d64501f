-- A table has one verdict.
use Rattle.std.proofs.Common.{◌≡◌, ◌⊎◌, inl, inr, ℕ, suc, ◌<◌, Bool, true, false, Option, refl, sym, ap, ◌∙◌, arith}
use Rattle.std.proofs.lemmas.Bool.{cases_eq, cases_lt}
use Rattle.net_names.specs.declared.routes.State.{State}
use Rattle.policy_laws.specs.Policy.{Policy, RanksOffers}
use Rattle.as_graph.specs.Topology.{Topology}
use Rattle.stability_laws.specs.Book.{PolicyBook, policy_at}
use Rattle.stability_laws.specs.declared.entry.Entry.{Entry}
use Rattle.stability_laws.specs.Offers.{Setting, offer}
use Rattle.stability_laws.specs.Plans.{Plan}
use Rattle.stability_laws.specs.Rounds.{seeds_of}
use Rattle.stability_laws.specs.World.{setting}
use Rattle.stability_laws.proofs.Local.{one_right}
use Rattle.table_check.specs.declared.tables.Tables.{Tables}
use Rattle.table_check.specs.declared.verdict.Verdict.TheVariants.{Stable, Wrong}
use Rattle.table_check.specs.Rows.{held_by}
use Rattle.table_check.specs.Checked.{IsFirstWrong, IsRightIn}
use Rattle.table_check.specs.Laws.{OneVerdict}

module _ (w : Setting) (plan : Plan) (t : Tables) (b c a d : ℕ) (x y : Option Entry) (h : IsFirstWrong w plan t b a x) (k : IsFirstWrong w plan t c d y) where
  -- neither stands before the other
  none_before : (b < c) ⊎ ((b ≡ c) × (a < d)) → ⊥
  none_before earlier = h.wrong (k.first b a earlier)

-- two first faults stand at one place
one_place : (w : Setting) (plan : Plan) (t : Tables) (b c a d : ℕ) (x y : Option Entry) → IsFirstWrong w plan t b a x → IsFirstWrong w plan t c d y → (b ≡ c) × (a ≡ d)
one_place w plan t b c a d x y h k = elim (cases_eq b c) [
  | inl same ↦ elim (cases_eq a d) [
    | inl at ↦ (same, at)
    | inr other ↦ elim (cases_lt a d) [
      | inl less ↦ absurd (none_before w plan t b c a d x y h k (inr (same, less)))
      | inr rest ↦ absurd (none_before w plan t c b d a y x k h (inr (sym same, omega (arith, rest, other))))
    ]
  ]
  | inr other ↦ elim (cases_lt b c) [
    | inl less ↦ absurd (none_before w plan t b c a d x y h k (inl less))
    | inr rest ↦ absurd (none_before w plan t c b d a y x k h (inl (omega (arith, rest, other))))
  ]
]

module _ {P : Type 0} (meaning : P → Policy) (ranks : (p : P) → RanksOffers (meaning p)) where
  -- an AS is right with one entry
  one_entry : (w : Topology) (book : PolicyBook P) (state : ℕ → State) (plan : Plan) (t : Tables) (before a : ℕ) (x y : Option Entry)
      → IsRightIn (setting meaning w book state) plan t before a x → IsRightIn (setting meaning w book state) plan t before a y → x ≡ y
  one_entry w book state plan t before a x y h k = by ((setting meaning w book state).has a) refl
    where
      by : (b : Bool) → (setting meaning w book state).has a ≡ b → x ≡ y
      by true is = one_right (meaning (policy_at book a)) (ranks (policy_at book a)) (seeds_of plan (suc before) t.prefix (held_by t.rows before) a) (λ n. offer (setting meaning w book state) (held_by t.rows (suc before)) n a) x y (h.0 is) (k.0 is)
      by false is = h.1 is ∙ sym (k.1 is)

  pub one_verdict : OneVerdict meaning
  one_verdict w book state plan t Stable Stable h k = refl
  one_verdict w book state plan t Stable (Wrong round d y) h k = absurd (k.2.wrong (h k.0 d k.2.within))
  one_verdict w book state plan t (Wrong round a x) Stable h k = absurd (h.2.wrong (k h.0 a h.2.within))
  one_verdict w book state plan t (Wrong round a x) (Wrong other d y) h k =
      let at = one_place (setting meaning w book state) plan t h.0 k.0 a d x y h.2 k.2 in
      let moved : IsRightIn (setting meaning w book state) plan t h.0 a y = coe 1 0 (i. IsRightIn (setting meaning w book state) plan t (at.0 i) (at.1 i) y) k.2.answer in
      let rounds : round ≡ other = h.1 ∙ ap (λ n. suc n) at.0 ∙ sym k.1 in
      let entries = one_entry w book state plan t h.0 a x y h.2.answer moved in
      λ i. Wrong (rounds i) (at.1 i) (entries i)
