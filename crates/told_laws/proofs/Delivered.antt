-- How many messages turns take out, and what their text says.
use Rattle.std.proofs.Common.{◌≡◌, ◌≤◌, ◌-◌, ◌*◌, ◌^◌, ◌++◌, ◌⊎◌, inl, inr, ℕ, Bool, false, not, is_some, Option, None, List, [], ◌∷◌, length, refl, sym, subst, ◌∙◌}
use Rattle.std.specs.Prelude.{filter}
use Rattle.clap.specs.Walk.{Text}
use Rattle.net_names.specs.declared.routes.State.{State}
use Rattle.policy_laws.specs.Policy.{Policy}
use Rattle.as_graph.specs.Topology.{Topology, as_count, has, relation}
use Rattle.as_graph.specs.Hierarchy.{HasNoProviderCycle}
use Rattle.as_graph.proofs.Links.{relation_mutual}
use Rattle.stability_laws.specs.declared.entry.Seed.{Seed}
use Rattle.stability_laws.specs.Book.{PolicyBook}
use Rattle.stability_laws.specs.Laws.{IsHeight}
use Rattle.stability_laws.specs.World.{setting}
use Rattle.stability_laws.specs.EntryTexts.{entry_row}
use Rattle.stability_laws.specs.Offers.{Setting}
use Rattle.stability_laws.specs.Stable.{IsStable}
use Rattle.message_sim.specs.Laws.{DeliveriesSettle, IsSettled, TurnsSettle}
use Rattle.message_sim.specs.Messages.{MessageNet, IsStart}
use Rattle.message_sim.specs.Nets.{queued_in}
use Rattle.message_sim.specs.Turns.{AreTurns, turns_of}
use Rattle.message_sim.specs.declared.steps.Deliveries.{Deliveries}
use Rattle.message_sim.proofs.NoneQueued.{none_where_quiet, quiet_where_none, turns_on_links}
use Rattle.message_sim.proofs.Settling.{start_on_links}
use Rattle.message_sim.proofs.Turning.{true_turns}
use Rattle.origin_validation.specs.Judging.{state_of}
use Rattle.policy_kinds.specs.Kinds.{kind_policy}
use Rattle.reports.specs.Rows.{table}
use Rattle.scenario_text.specs.declared.acts.Act.TheVariants as act
use Rattle.scenario_text.specs.declared.acts.Query.TheVariants.{Routes}
use Rattle.sim_core.specs.Kept.{Kept, IsKept}
use Rattle.sim_core.specs.Lent.{NoOtherIsStable, seeds_kept}
use Rattle.sim_core.specs.World.{HasCycle, World, setting_of, topology}
use Rattle.sim_core.proofs.Unnamed.{gone_unnamed, unseeded}
use Rattle.task_reading.specs.Jobs.{line_job, messages_job}
use Rattle.asprop_run.specs.Delivering.{IsNetText, message_rows}
use Rattle.asprop_run.specs.Replies.{AnswersJob}
use Rattle.asprop_run.specs.Task.{outside}
use Rattle.asprop_run.proofs.Named.{deliveries_named}
use Rattle.asprop_run.proofs.OneSettling.{book_of, one_seeds}
use Rattle.asprop_run.proofs.Settled.{routes_rows}
use Rattle.told_laws.specs.Delivered.{TurnsAreFew}

-- each delivery among turns is a true one, and of these there are few
pub few_turns : {P : Type 0} (meaning : P → Policy) → DeliveriesSettle meaning → (g : Topology) (book : PolicyBook P) (state : ℕ → State) (seeds : ℕ → Option Seed) (height made : ℕ) (turns : List (Option (ℕ × ℕ))) (x y : MessageNet)
    → HasNoProviderCycle (relation g) → IsHeight g height → ((a : ℕ) → has g a ≡ false → seeds a ≡ None) → IsStart (setting meaning g book state) seeds x → AreTurns (setting meaning g book state) seeds turns x made y
    → made ≤ as_count g ^ (2 * height)
few_turns meaning settles g book state seeds height made turns x y no_cycle high only start run =
    let w = setting meaning g book state in
    let (links, len, true_run) = true_turns w seeds (relation_mutual g) turns x y made (start_on_links w seeds (relation_mutual g) x start) run in
    subst (λ n. n ≤ as_count g ^ (2 * height)) len (settles g book state seeds height x y links no_cycle high only start true_run).0

module _ (settles : TurnsSettle kind_policy) (few : TurnsAreFew kind_policy) (only : NoOtherIsStable) (w : World) (none : HasCycle w → ⊥) (d : Deliveries) (inside : outside w (messages_job d ∷ []) ≡ None) (height : ℕ) (high : IsHeight (topology w) height) where
  -- as many turns as this name no link
  abbrev AreMany : Type 0
  AreMany = as_count (topology w) ^ (2 * height) ≤ length (filter (λ t. not (is_some t)) (turns_of d.steps))

  seeds_at_ases : (k : Kept) (a : ℕ) → has (topology w) a ≡ false → seeds_kept w k d.round d.prefix a ≡ None
  seeds_at_ases k a gone = unseeded w.plan w.kinds a (gone_unnamed (topology w) w.plan w.kinds a refl gone) d.round d.prefix (k.routings (d.round - 1) d.prefix)

  -- turns that end in silence, or of which enough name no link, leave the routing that is kept
  settled_net : (k l : Kept) → IsKept w k → IsKept w l → (x y : MessageNet) (made : ℕ) → IsStart (setting_of w d.prefix) (seeds_kept w k d.round d.prefix) x
      → AreTurns (setting_of w d.prefix) (seeds_kept w k d.round d.prefix) (turns_of d.steps) x made y → (queued_in (topology w) y ≡ 0) ⊎ AreMany
      → ((a : ℕ) → y.choice a ≡ l.routings d.round d.prefix a) × (queued_in (topology w) y ≡ 0)
  settled_net k l kk ll x y made start run why =
      let there = (deliveries_named w d inside).0 in
      let here : Setting = setting_of w d.prefix in
      let seeds = seeds_kept w k d.round d.prefix in
      let both = relation_mutual (topology w) in
      let on = turns_on_links here seeds both (turns_of d.steps) x y made run (start_on_links here seeds both x start) in
      let ends : IsSettled here seeds y = settles (topology w) (book_of w) (state_of w.payloads d.prefix) seeds height made (turns_of d.steps) x y (λ cycle is. none (cycle, is)) high (seeds_at_ases k) start run
      (elim why [ inl quiet ↦ inr (quiet_where_none (topology w) y on quiet) | inr enough ↦ inl enough ]) in
      let stable = subst (λ (seeds : ℕ → Option Seed). IsStable here seeds y.choice) (one_seeds w k l kk ll d.round d.prefix there.0 there.1) ends.stable in
      (only w l d.round d.prefix none ll there.0 there.1 y.choice stable, none_where_quiet (topology w) y ends.quiet)

  -- the text of deliveries
  pub soon : (text : Text) → IsNetText w d text → (rows : Text) × (made queued : ℕ) × (text ≡ rows ++ message_rows made queued) × (made ≤ as_count (topology w) ^ (2 * height))
      × ((later : World) (number : ℕ) (routes : Text) (other : Bool) → AnswersJob w (line_job false (record { number = number; act = act.Query (Routes d.round d.prefix) })) routes other later →
      (queued ≡ 0) ⊎ AreMany → (rows ≡ routes) × (queued ≡ 0))
  soon text h = (
    table (topology w) (λ a. entry_row a (h.3.choice a)),
    h.4,
    queued_in (topology w) h.3,
    h.5.2,
    few (topology w) (book_of w) (state_of w.payloads d.prefix) (seeds_kept w h.0 d.round d.prefix) height h.4 (turns_of d.steps) h.2 h.3 (λ cycle is. none (cycle, is)) high (seeds_at_ases h.0) h.5.0 h.5.1,
    λ later number routes other asked why. (
        let there = (deliveries_named w d inside).0 in
        let ends = settled_net h.0 asked.0 h.1 asked.1 h.2 h.3 h.4 h.5.0 h.5.1 why in
        ((λ i. table (topology w) (λ a. entry_row a (ends.0 a i))) ∙ sym (asked.4 ∙ routes_rows w asked.0 asked.2 d.round d.prefix other later there.0 there.1 asked.3), ends.1)
        ),
  )
