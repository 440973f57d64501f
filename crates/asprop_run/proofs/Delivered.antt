-- What deliveries come to: over what a world lends, in one text alone, and where they end.
use Rattle.std.proofs.Common.{◌≡◌, ◌≤◌, ◌-◌, ◌⊎◌, ◌*◌, ◌^◌, ◌++◌, inl, inr, ℕ, Bool, IsTrue, ◌↔◌, ◌==◌, true, false, not, is_some, Option, Some, None, List, length, slice_get, ◌&&◌, if◌then◌else◌, refl, sym, ap, subst, ◌∙◌}
use Rattle.std.proofs.lemmas.Bool.{eq-eqb, false≢true, ne_eqb}
use Rattle.std.specs.Prelude.{filter}
use Rattle.std.specs.FinMap as fin
use Rattle.std.specs.Ordering.{nat_cmp}
use Rattle.clap.specs.Walk.{Text}
use Rattle.as_graph.specs.Topology.{Topology, as_count, has, relation}
use Rattle.as_graph.proofs.Links.{relation_mutual}
use Rattle.message_sim.specs.Laws.{IsSettled, TurnsSettle}
use Rattle.message_sim.specs.Messages.{IsQuiet, IsStart, MessageNet}
use Rattle.message_sim.specs.Nets.{queued_in}
use Rattle.message_sim.specs.Turns.{AreTurns, first_foreign_in, turns_of}
use Rattle.message_sim.specs.declared.steps.Deliveries.{Deliveries}
use Rattle.message_sim.proofs.NoneQueued.{none_where_quiet, quiet_where_none, turns_on_links}
use Rattle.message_sim.proofs.OneNet.{one_start, one_turns}
use Rattle.message_sim.proofs.Settling.{start_on_links}
use Rattle.origin_validation.specs.Judging.{state_of}
use Rattle.policy_kinds.specs.KindLaws.{kind_ranks_offers}
use Rattle.policy_kinds.specs.Kinds.{kind_policy}
use Rattle.policy_kinds.specs.declared.kind.Kind.{Kind}
use Rattle.reports.specs.Rows.{table}
use Rattle.roa_table.specs.Sets.{Payloads}
use Rattle.sim_core.specs.Kept.{Kept, IsKept}
use Rattle.sim_core.specs.Lent.{IsBookOf, IsGraphOf, LentIsSetting, NoOtherIsStable, seeds_kept}
use Rattle.sim_core.specs.World.{HasCycle, World, has_round, kind_at, setting_of, topology}
use Rattle.sim_core.proofs.Unnamed.{gone_unnamed, unseeded}
use Rattle.stability_laws.specs.Book.{PolicyBook}
use Rattle.stability_laws.specs.EntryTexts.{entry_row}
use Rattle.stability_laws.specs.Laws.{IsHeight}
use Rattle.stability_laws.specs.Offers.{Setting}
use Rattle.stability_laws.specs.Plans.{has_prefix}
use Rattle.stability_laws.specs.Stable.{IsStable}
use Rattle.stability_laws.specs.World.{setting}
use Rattle.stability_laws.specs.declared.entry.Seed.{Seed}
use Rattle.asprop_run.specs.Delivering.{IsNetText, message_rows}
use Rattle.asprop_run.specs.Inside.{IsInside}
use Rattle.asprop_run.specs.Task.{outside}
use Rattle.asprop_run.proofs.Acting.{by_first, lent_here}
use Rattle.asprop_run.proofs.Named.{deliveries_named}
use Rattle.asprop_run.proofs.OneSettling.{book_of, one_seeds}
use Rattle.task_reading.specs.Jobs.{Job, messages_job}

-- what comes of turns over what is lent is what comes of them in the world
pub delivered_in : LentIsSetting → (w : World) (k : Kept) (d : Deliveries) (g : Topology) (book : PolicyBook Kind) (payloads : Payloads) (seeds : fin.FinMap nat_cmp Seed) (x y : MessageNet) (made : ℕ)
    → IsGraphOf w g → IsBookOf w book → payloads ≡ w.payloads → ((a : ℕ) → fin.get seeds a ≡ seeds_kept w k d.round d.prefix a)
    → IsStart (setting kind_policy g book (state_of payloads d.prefix)) (fin.get seeds) x
    → AreTurns (setting kind_policy g book (state_of payloads d.prefix)) (fin.get seeds) (turns_of d.steps) x made y
    → IsStart (setting_of w d.prefix) (seeds_kept w k d.round d.prefix) x × AreTurns (setting_of w d.prefix) (seeds_kept w k d.round d.prefix) (turns_of d.steps) x made y
delivered_in lent w k d g book payloads seeds x y made is_graph is_book same_payloads same_seeds start run =
    let here = lent_here lent w k d.round d.prefix g book payloads seeds is_graph is_book same_payloads same_seeds in
    subst (λ (t : Setting × (ℕ → Option Seed)). IsStart t.0 t.1 x × AreTurns t.0 t.1 (turns_of d.steps) x made y) (λ i. (here.0 i, here.1 i)) (start, run)

quiet_by : (quiet : Bool) (queued : ℕ) → (quiet ≡ true → queued ≡ 0) → (queued ≡ 0 → quiet ≡ true) → quiet ≡ (queued == 0)
quiet_by true queued none all = sym (eq-eqb queued 0 (none refl))
quiet_by false queued none all = sym (ne_eqb queued 0 (λ is. false≢true (all is)))

-- whether no message is under way is whether their number is 0
pub quiet_is_none : (w : World) (d : Deliveries) (seeds : ℕ → Option Seed) (x y : MessageNet) (made : ℕ) (quiet : Bool) → IsStart (setting_of w d.prefix) seeds x
    → AreTurns (setting_of w d.prefix) seeds (turns_of d.steps) x made y → (IsTrue quiet ↔ IsQuiet y) → quiet ≡ (queued_in (topology w) y == 0)
quiet_is_none w d seeds x y made quiet start run is =
    let here : Setting = setting_of w d.prefix in
    let both = relation_mutual (topology w) in
    let on = turns_on_links here seeds both (turns_of d.steps) x y made run (start_on_links here seeds both x start) in
    quiet_by quiet (queued_in (topology w) y) (λ so. none_where_quiet (topology w) y (is.0 so)) (λ none. is.1 (quiet_where_none (topology w) y on none))

-- the first job is one of deliveries whose round and prefix are there: what is outside is the first link that is none
pub unlinked_first : (w : World) (jobs : List Job) (d : Deliveries) (line : Option ℕ) → Some (messages_job d) ≡ slice_get jobs 0 → (has_round w d.round && has_prefix w.plan d.prefix) ≡ true
    → line ≡ first_foreign_in (relation (topology w)) d.steps → line ≡ outside w jobs
unlinked_first w jobs d line first there is =
    by_first w jobs (messages_job d) line first (λ rest. is ∙ ap (λ b. if b then first_foreign_in (relation (topology w)) d.steps else Some d.for_line) (sym there))

module _ (w : World) (d : Deliveries) (there : has_round w d.round ≡ true) (known : has_prefix w.plan d.prefix ≡ true) where
  -- two texts of what deliveries come to
  pub one_net_text : (s t : Text) → IsNetText w d s → IsNetText w d t → s ≡ t
  one_net_text s t g h =
      let here : Setting = setting_of w d.prefix in
      let seeds : ℕ → Option Seed = seeds_kept w g.0 d.round d.prefix in
      let same_seeds : seeds_kept w h.0 d.round d.prefix ≡ seeds = sym (one_seeds w g.0 h.0 g.1 h.1 d.round d.prefix there known) in
      let start = subst (λ (seeds : ℕ → Option Seed). IsStart here seeds h.2) same_seeds h.5.0 in
      let first : g.2 ≡ h.2 = one_start here seeds g.2 h.2 g.5.0 start in
      let run = subst (λ (seeds : ℕ → Option Seed). AreTurns here seeds (turns_of d.steps) h.2 h.4 h.3) same_seeds h.5.1 in
      let ends = one_turns here (λ a. kind_ranks_offers (kind_at w a)) seeds (turns_of d.steps) g.2 g.3 h.3 g.4 h.4 g.5.1 (subst (λ (u : MessageNet). AreTurns here seeds (turns_of d.steps) u h.4 h.3) (sym first) run) in
      g.5.2 ∙ ((λ i. table (topology w) (λ a. entry_row a ((ends.1 i).choice a)) ++ message_rows (ends.0 i) (queued_in (topology w) (ends.1 i))) ∙ sym h.5.2)

module _ (settles : TurnsSettle kind_policy) (only : NoOtherIsStable) (w : World) (none : HasCycle w → ⊥) (d : Deliveries) (inside : IsInside w (messages_job d)) (height : ℕ) (high : IsHeight (topology w) height) where
  -- seeds stand at ASes alone
  seeds_at_ases : (k : Kept) (a : ℕ) → has (topology w) a ≡ false → seeds_kept w k d.round d.prefix a ≡ None
  seeds_at_ases k a gone = unseeded w.plan w.kinds a (gone_unnamed (topology w) w.plan w.kinds a refl gone) d.round d.prefix (k.routings (d.round - 1) d.prefix)

  -- turns that end in silence, or of which enough name no link, leave the routing that is kept
  settled_net : (k l : Kept) → IsKept w k → IsKept w l → (x y : MessageNet) (made : ℕ) → IsStart (setting_of w d.prefix) (seeds_kept w k d.round d.prefix) x
      → AreTurns (setting_of w d.prefix) (seeds_kept w k d.round d.prefix) (turns_of d.steps) x made y
      → (queued_in (topology w) y ≡ 0) ⊎ (as_count (topology w) ^ (2 * height) ≤ length (filter (λ t. not (is_some t)) (turns_of d.steps)))
      → ((a : ℕ) → y.choice a ≡ l.routings d.round d.prefix a) × (queued_in (topology w) y ≡ 0)
  settled_net k l kk ll x y made start run why =
      let there = (deliveries_named w d inside.0).0 in
      let here : Setting = setting_of w d.prefix in
      let seeds = seeds_kept w k d.round d.prefix in
      let both = relation_mutual (topology w) in
      let on = turns_on_links here seeds both (turns_of d.steps) x y made run (start_on_links here seeds both x start) in
      let ends : IsSettled here seeds y = settles (topology w) (book_of w) (state_of w.payloads d.prefix) seeds height made (turns_of d.steps) x y (λ cycle is. none (cycle, is)) high (seeds_at_ases k) start run
      (elim why [ inl quiet ↦ inr (quiet_where_none (topology w) y on quiet) | inr enough ↦ inl enough ]) in
      let stable = subst (λ (seeds : ℕ → Option Seed). IsStable here seeds y.choice) (one_seeds w k l kk ll d.round d.prefix there.0 there.1) ends.stable in
      (only w l d.round d.prefix none ll there.0 there.1 y.choice stable, none_where_quiet (topology w) y ends.quiet)

  -- the text of deliveries that end so is that of the routes, and then what is said of the messages
  pub settled_net_text : (l : Kept) (text answer : Text) → IsKept w l → IsNetText w d text → answer ≡ table (topology w) (λ a. entry_row a (l.routings d.round d.prefix a))
      → (rows : Text) × (made queued : ℕ) × (text ≡ rows ++ message_rows made queued)
      × ((queued ≡ 0) ⊎ (as_count (topology w) ^ (2 * height) ≤ length (filter (λ t. not (is_some t)) (turns_of d.steps))) → (rows ≡ answer) × (queued ≡ 0))
  settled_net_text l text answer ll h is = (
    table (topology w) (λ a. entry_row a (h.3.choice a)),
    h.4,
    queued_in (topology w) h.3,
    h.5.2,
    λ why. (let ends = settled_net h.0 l h.1 ll h.2 h.3 h.4 h.5.0 h.5.1 why in ((λ i. table (topology w) (λ a. entry_row a (ends.0 a i))) ∙ sym is, ends.1)),
  )
