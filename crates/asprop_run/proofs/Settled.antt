-- Enough activations in any order end in the routing that is kept.
use Rattle.std.proofs.Common.{◌≡◌, ◌≤◌, ◌+◌, ◌-◌, ℕ, Bool, true, false, Option, Some, None, ◌++◌, sym, ap, subst, ◌∙◌}
use Rattle.std.specs.FinMap as fin
use Rattle.clap.specs.Walk.{Text}
use Rattle.activations.specs.Named.{AreSound, asns_of}
use Rattle.net_names.specs.Numbers.{occurs}
use Rattle.net_names.specs.Prefixes.{PrefixValue}
use Rattle.activations.specs.Pieces.{IsMostPieces}
use Rattle.activations.specs.declared.acts.Acts.{Acts}
use Rattle.activations.proofs.Sound.{none_foreign, nothing_outside, only_ases}
use Rattle.as_graph.specs.Topology.{has}
use Rattle.origin_validation.specs.Judging.{state_of}
use Rattle.policy_kinds.specs.Kinds.{kind_policy}
use Rattle.reports.specs.Rows.{table}
use Rattle.scenario_text.specs.declared.acts.Act.TheVariants as act
use Rattle.scenario_text.specs.declared.acts.Query.TheVariants.{Routes}
use Rattle.sim_core.specs.Kept.{Kept, IsKept}
use Rattle.sim_core.specs.Lent.{NoOtherIsStable}
use Rattle.sim_core.specs.World.{HasCycle, World, has_round, setting_of, topology}
use Rattle.stability_laws.specs.AnyOrder.{AnyOrderSettles, IsActivated}
use Rattle.stability_laws.specs.EntryTexts.{entry_row}
use Rattle.stability_laws.specs.Laws.{IsHeight}
use Rattle.stability_laws.specs.Plans.{has_prefix}
use Rattle.stability_laws.specs.Rounds.{seeds_of}
use Rattle.stability_laws.specs.Stable.{IsStable}
use Rattle.stability_laws.specs.declared.entry.Entry.{Entry}
use Rattle.stability_laws.specs.declared.entry.Seed.{Seed}
use Rattle.asprop_run.specs.Inside.{IsInside}
use Rattle.asprop_run.specs.Replies.{IsReply}
use Rattle.asprop_run.specs.Settling.{IsActsText, acts_rows}
use Rattle.asprop_run.proofs.Named.{acts_named}
use Rattle.asprop_run.proofs.OneSettling.{book_of, one_height, one_most, one_seeds}
use Rattle.task_reading.specs.Jobs.{acts_job}

-- a query for routes that are there is answered by their rows
pub routes_rows : (w : World) (l : Kept) (answer : Text) (round : ℕ) (prefix : PrefixValue) (refused : Bool) (after : World) → has_round w round ≡ true → has_prefix w.plan prefix ≡ true
    → IsReply w l (act.Query (Routes round prefix)) answer refused after → answer ≡ table (topology w) (λ a. entry_row a (l.routings round prefix a))
routes_rows w l answer round prefix false after there known h = h.1
routes_rows w l answer round prefix true after there known h = absurd (let none : None ≡ Some h.0 = (rw (there, known) at h.1) in cc)

module _ (settles : AnyOrderSettles kind_policy) (only : NoOtherIsStable) (w : World) (none : HasCycle w → ⊥) (acts : Acts) (inside : IsInside w (acts_job acts)) (sound : AreSound acts)
    (pieces height : ℕ) (most : IsMostPieces (has (topology w)) acts.list pieces) (high : IsHeight (topology w) height) (enough : height + height ≤ pieces) where
  abbrev seeds_by : Kept → ℕ → Option Seed
  seeds_by kept = seeds_of w.plan acts.round acts.prefix (kept.routings (acts.round - 1) acts.prefix)

  -- all that are named are ASes
  named : (a : ℕ) → occurs a (asns_of acts.named) ≡ true → has (topology w) a ≡ true
  named = none_foreign (has (topology w)) acts.named (sym ((acts_named w acts inside.0).1))

  -- the routing after the activations is stable
  ends_stable : (seeds : ℕ → Option Seed) (f : ℕ → Option Entry) → IsActivated (setting_of w acts.prefix) seeds acts.list (fin.get acts.held) f → IsStable (setting_of w acts.prefix) seeds f
  ends_stable seeds f run =
      settles (topology w) (book_of w) (state_of w.payloads acts.prefix) seeds height acts.list (fin.get acts.held) f
      (λ cycle is. none (cycle, is)) high (only_ases (has (topology w)) acts sound named) ((most (height + height)).1 enough) (nothing_outside (has (topology w)) acts sound named) run

  -- the text of the activations is that of the routes and what is said of the list
  pub settled_text : (l : Kept) (text answer : Text) → IsKept w l → IsActsText w acts text
      → answer ≡ table (topology w) (λ a. entry_row a (l.routings acts.round acts.prefix a)) → text ≡ answer ++ acts_rows pieces height true
  settled_text l text answer y h is =
      let there = (acts_named w acts inside.0).0 in
      let k : Kept = h.0 in
      let f : ℕ → Option Entry = h.2 in
      let good : IsStable (setting_of w acts.prefix) (seeds_by k) f = ends_stable (seeds_by k) f h.6.0 in
      let other : IsStable (setting_of w acts.prefix) (seeds_by l) f = subst (λ (seeds : ℕ → Option Seed). IsStable (setting_of w acts.prefix) seeds f) (one_seeds w k l h.1 y acts.round acts.prefix there.0 there.1) good in
      let same : (a : ℕ) → f a ≡ l.routings acts.round acts.prefix a = only w l acts.round acts.prefix none y there.0 there.1 f other in
      let settled : h.5 ≡ true = h.6.3.1 good in
      let p : h.3 ≡ pieces = one_most (has (topology w)) acts.list h.3 pieces h.6.2 most in
      let q : h.4 ≡ height = one_height (topology w) h.4 height h.6.1 high in
      h.6.4 ∙ (λ i. table (topology w) (λ a. entry_row a (same a i)) ++ acts_rows (p i) (q i) (settled i)) ∙ ap (λ t. t ++ acts_rows pieces height true) (sym is)
