-- What the check of a printed table comes to: over what a world lends, and in one text alone.
use Rattle.std.proofs.Common.{◌≡◌, ◌↔◌, ◌≤◌, inl, inr, ℕ, suc, Bool, true, false, Option, Some, None, List, [], ◌∷◌, length, slice_get, if◌then◌else◌, refl, sym, ap, subst, ◌∙◌, arith}
use Rattle.std.proofs.lemmas.Option.{slice_get_cases}
use Rattle.clap.specs.Walk.{Text}
use Rattle.as_graph.specs.Topology.{Topology}
use Rattle.origin_validation.specs.Judging.{state_of}
use Rattle.policy_kinds.specs.Kinds.{kind_policy}
use Rattle.policy_kinds.specs.declared.kind.Kind.{Kind}
use Rattle.roa_table.specs.Sets.{Payloads}
use Rattle.sim_core.specs.Kept.{Kept, IsKept}
use Rattle.sim_core.specs.Lent.{IsBookOf, IsGraphOf, LentIsSetting}
use Rattle.sim_core.specs.World.{HasCycle, World, setting_of, topology}
use Rattle.stability_laws.specs.Book.{PolicyBook}
use Rattle.stability_laws.specs.Offers.{Setting}
use Rattle.stability_laws.specs.Plans.{Plan, has_prefix}
use Rattle.stability_laws.specs.World.{setting}
use Rattle.table_check.specs.Checked.{IsAccepted, IsVerdict}
use Rattle.table_check.specs.Laws.{AcceptedAreRounds, IsTableOf, OneVerdict}
use Rattle.table_check.specs.Rows.{held_by}
use Rattle.table_check.specs.declared.tables.Tables.{Tables}
use Rattle.table_check.specs.declared.verdict.Verdict.{Verdict}
use Rattle.table_check.specs.declared.verdict.Verdict.TheVariants.{Stable, Wrong}
use Rattle.asprop_run.specs.Checking.{IsCheckText}
use Rattle.asprop_run.proofs.Facts.{wrong_rows}
use Rattle.asprop_run.specs.Settling.{said}
use Rattle.asprop_run.specs.Task.{outside}
use Rattle.asprop_run.proofs.OneSettling.{book_of}
use Rattle.task_reading.specs.Jobs.{Job, tables_job}

-- the first job is a printed table: what is outside is its first section that is none of the world's
pub tables_first : (w : World) (jobs : List Job) (t : Tables) (line : Option ℕ) → Some (tables_job t) ≡ slice_get jobs 0 → line ≡ slice_get t.starts (if has_prefix w.plan t.prefix then w.rounds else 0) → line ≡ outside w jobs
tables_first w [] t line first is = cc
tables_first w (job ∷ jobs) t line first is =
    let same : job ≡ tables_job t = (let first : Some (tables_job t) ≡ Some job = first in cc) in
    subst (λ (j : Job). line ≡ outside w (j ∷ jobs)) (sym same) is

-- what the check of what is lent tells is what it tells of the world
pub verdict_in : LentIsSetting → (w : World) (t : Tables) (g : Topology) (book : PolicyBook Kind) (payloads : Payloads) (plan : Plan) (v : Verdict)
    → IsGraphOf w g → IsBookOf w book → payloads ≡ w.payloads → plan ≡ w.plan
    → IsVerdict (setting kind_policy g book (state_of payloads t.prefix)) plan t v → IsVerdict (setting_of w t.prefix) w.plan t v
verdict_in lent w t g book payloads plan v is_graph is_book same_payloads same_plan h =
    let here : setting kind_policy g book (state_of payloads t.prefix) ≡ setting_of w t.prefix =
    ap (λ (p : Payloads). setting kind_policy g book (state_of p t.prefix)) same_payloads ∙ lent w g book is_graph is_book t.prefix in
    subst (λ (x : Setting × Plan). IsVerdict x.0 x.1 t v) (λ i. (here i, same_plan i)) h

-- whether what is told is that the table is wrong, and its text
abbrev is_wrong : Verdict → Bool
is_wrong Stable = false
is_wrong (Wrong round a right) = true

abbrev text_of : Tables → Verdict → Text
text_of t Stable = said "stable" true
text_of t (Wrong round a right) = wrong_rows round a (held_by t.rows round a) right

-- a text of the check tells something
told : (w : World) (t : Tables) (wrong : Bool) (s : Text) → IsCheckText w t wrong s → (v : Verdict) × IsVerdict (setting_of w t.prefix) w.plan t v × (wrong ≡ is_wrong v) × (s ≡ text_of t v)
told w t false s h = (Stable, h.0, refl, h.1)
told w t true s h = (Wrong (suc h.0) h.1 h.2, (h.0, refl, h.3), refl, h.4)

-- two texts of the check of a table
pub one_check_text : OneVerdict kind_policy → (w : World) (t : Tables) (r q : Bool) (s u : Text) → IsCheckText w t r s → IsCheckText w t q u → (r ≡ q) × (s ≡ u)
one_check_text one w t r q s u g h =
    let x = told w t r s g in
    let y = told w t q u h in
    let same : x.0 ≡ y.0 = one (topology w) (book_of w) (state_of w.payloads t.prefix) w.plan t x.0 y.0 x.1 y.1 in
    (x.2 ∙ ap is_wrong same ∙ sym y.2, x.3 ∙ ap (text_of t) same ∙ sym y.3)

-- a list has no more elements than the place of one that it has not
no_more : (xs : List ℕ) (i : ℕ) → slice_get xs i ≡ None → length xs ≤ i
no_more xs i none = elim (slice_get_cases xs i).1 [
  | inl there ↦ absurd (let f : None ≡ Some there.0 = sym none ∙ there.2 in cc)
  | inr past ↦ past.0
]

module _ (law : AcceptedAreRounds kind_policy) (w : World) (k : Kept) (t : Tables) (none : HasCycle w → ⊥) (is : IsKept w k) where
  accepted_by : (known : Bool) → has_prefix w.plan t.prefix ≡ known → slice_get t.starts (if known then w.rounds else 0) ≡ None
      → IsAccepted (setting_of w t.prefix) w.plan t ↔ IsTableOf k.routings t
  accepted_by true known inside =
      law (topology w) (book_of w) (λ p. state_of w.payloads p) w.plan w.rounds k.routings t (λ cycle is_cycle. none (cycle, is_cycle)) is.routings.is known (no_more t.starts w.rounds inside)
  accepted_by false unknown inside =
      let empty : length t.starts ≤ 0 = no_more t.starts 0 inside in (
        λ _ before within. absurd (omega (arith, within, empty)),
        λ _ before a within. absurd (omega (arith, within, empty)),
      )

  -- a table that is inside the world is accepted exactly where it is that of what is kept
  accepted_where_kept : outside w (tables_job t ∷ []) ≡ None → IsAccepted (setting_of w t.prefix) w.plan t ↔ IsTableOf k.routings t
  accepted_where_kept inside = accepted_by (has_prefix w.plan t.prefix) refl inside

  -- so is what the check says of it
  pub kept_where_right : outside w (tables_job t ∷ []) ≡ None → (refused : Bool) (text : Text) → IsCheckText w t refused text → (refused ≡ false) ↔ IsTableOf k.routings t
  kept_where_right inside false text h = (λ _. (accepted_where_kept inside).0 h.0, λ _. refl)
  kept_where_right inside true text h = (λ no. absurd (let f : true ≡ false = no in cc), λ kept. absurd (h.3.wrong ((accepted_where_kept inside).1 kept h.0 h.1 h.3.within)))
