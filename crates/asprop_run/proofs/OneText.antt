-- Two texts that answer the same jobs.
use Rattle.std.proofs.Common.{◌≡◌, ◌⊎◌, inl, inr, ◌||◌, ℕ, Bool, true, false, [], ◌∷◌, ◌++◌, Some, None, codes, decimal, refl, sym, ◌∙◌, ap, ap₂, subst}
use Rattle.clap.specs.Walk.{Text}
use Rattle.scenario_text.specs.LineValues.{LineValue}
use Rattle.scenario_text.specs.declared.acts.Act.{Act}
use Rattle.scenario_text.specs.declared.acts.Act.TheVariants as act
use Rattle.scenario_text.specs.declared.acts.Edit.{Edit}
use Rattle.sim_core.specs.World.{World}
use Rattle.sim_core.specs.Kept.{Kept, IsKept}
use Rattle.sim_core.specs.Edits.{HasChanges, IsAllowed, IsReason, edited}
use Rattle.sim_core.specs.declared.errors.EditError.{EditError}
use Rattle.sim_core.specs.declared.errors.EditError.TheVariants as edit
use Rattle.sim_core.specs.Laws.{IsCycle, OneAnswer, OneCount, OneReason}
use Rattle.asprop_run.specs.Inside.{IsInside}
use Rattle.asprop_run.specs.Laws.{IsOneButForCycle, OneText, TellsCycle}
use Rattle.asprop_run.specs.Refusals.{edit_refusal, refusal_text}
use Rattle.asprop_run.specs.Replies.{AnswersJob, AnswersJobs, IsReply, head}
use Rattle.asprop_run.proofs.Checked.{one_check_text}
use Rattle.asprop_run.proofs.Delivered.{one_net_text}
use Rattle.asprop_run.proofs.Named.{acts_named, deliveries_named}
use Rattle.asprop_run.proofs.OneSettling.{one_acts_text}
use Rattle.task_reading.specs.Jobs.{Job, acts_job, counts_job, line_job, messages_job, sweep_job, tables_job}
use Rattle.policy_kinds.specs.Kinds.{kind_policy}
use Rattle.stability_laws.specs.Laws.{OneAnswer as OneRight}
use Rattle.table_check.specs.Laws.{OneVerdict}
use Rattle.trial_world.specs.Laws.{OneSweptText}

-- two replies to one line are the same, or both are the refusal of its edit for a provider cycle
abbrev SameReply : World → Act → Text → Text → Type 0
SameReply w a s t = (s ≡ t) ⊎ ((e : Edit) × (a ≡ act.Edit e) × TellsCycle w e [] s × TellsCycle w e [] t)

-- two texts of one job: both refuse or neither does, both leave one world, and they are alike
record Agree (alike : Type 0) (r q : Bool) (x y : World) : Type 0 where
  refused : r ≡ q
  after : x ≡ y
  text : alike

-- an edit with a reason to be refused is not allowed
not_allowed : (w : World) (e : Edit) (x : EditError) → IsReason w e x → IsAllowed w e → ⊥
not_allowed w e edit.Memory h a = let f = a.0 in cc
not_allowed w e (edit.AbsentLink lo hi) h a = let f = a.0 in cc
not_allowed w e (edit.AbsentVrp vrp) h a = let f = a.0 in cc
not_allowed w e (edit.UnknownPrefix prefix) h a = let f = a.0 in cc
not_allowed w e (edit.AbsentAnnouncement prefix asn) h a = let f = a.0 in cc
not_allowed w e (edit.Limit which) h a = let f = a.0 in cc
not_allowed w e (edit.ProviderCycle cycle) h a = a.1 (cycle, h.1)

-- the refusal for a provider cycle, behind nothing
tells : (w : World) (e : Edit) (x : EditError) (s : Text) → IsReason w e x → s ≡ edit_refusal x → IsCycle x → TellsCycle w e [] s
tells w e x s h a c = (c.0, subst (IsReason w e) c.1 h, a ∙ ap edit_refusal c.1)

-- the texts of two reasons
refusal_agrees : (w : World) (e : Edit) (x y : EditError) (s t : Text) → IsReason w e x → IsReason w e y → s ≡ edit_refusal x → t ≡ edit_refusal y → (x ≡ y) ⊎ (IsCycle x × IsCycle y) → SameReply w (act.Edit e) s t
refusal_agrees w e x y s t h g a b (inl same) = inl (a ∙ ap edit_refusal same ∙ sym b)
refusal_agrees w e x y s t h g a b (inr cycles) = inr (e, refl, tells w e x s h a cycles.0, tells w e y t g b cycles.1)

-- the same behind a head line
behind : (w : World) (e : Edit) (front s t : Text) → TellsCycle w e [] s → t ≡ front ++ s → TellsCycle w e front t
behind w e front s t h is = (h.0, h.1, is ∙ ap (λ text. front ++ text) h.2)

-- the entries that differ, counted over one world after the edit
same_count : OneCount → (w : World) (e : Edit) (k l now then : Kept) (m n : ℕ) (x y : World) → IsAllowed w e → IsKept w k → IsKept w l → x ≡ edited w e → y ≡ edited w e → IsKept x now → IsKept y then
    → HasChanges x.plan x.rounds k.routings now.routings m → HasChanges y.plan y.rounds l.routings then.routings n → m ≡ n
same_count count w e k l now then m n x y allowed is others p q here there a b =
    count w e k l now then m n allowed.0 is others (subst (λ x. IsKept x now) p here) (subst (λ y. IsKept y then) q there)
    (subst (λ (x : World). HasChanges x.plan x.rounds k.routings now.routings m) p a) (subst (λ (y : World). HasChanges y.plan y.rounds l.routings then.routings n) q b)

module _ (answer : OneAnswer) (count : OneCount) (reason : OneReason) (right : OneRight kind_policy) (verdict : OneVerdict kind_policy) (swept : OneSweptText) where
  -- two texts of what is told for what a line asks
  reply_agrees : (w : World) (k l : Kept) (a : Act) (s t : Text) (r q : Bool) (x y : World) → IsKept w k → IsKept w l → IsReply w k a s r x → IsReply w l a t q y → Agree (SameReply w a s t) r q x y
  reply_agrees w k l (act.Query a) s t false false x y is others h g = record { refused = refl; after = h.2 ∙ sym g.2; text = inl (answer w k l a s t is others h.0 h.1 g.1) }
  reply_agrees w k l (act.Query a) s t false true x y is others h g = absurd (let f : None ≡ Some g.0 = sym h.0 ∙ g.1 in cc)
  reply_agrees w k l (act.Query a) s t true false x y is others h g = absurd (let f : None ≡ Some h.0 = sym g.0 ∙ h.1 in cc)
  reply_agrees w k l (act.Query a) s t true true x y is others h g =
      let same : h.0 ≡ g.0 = (let f : Some h.0 ≡ Some g.0 = sym h.1 ∙ g.1 in cc) in
      record { refused = refl; after = h.3 ∙ sym g.3; text = inl (h.2 ∙ ap refusal_text same ∙ sym g.2) }
  reply_agrees w k l (act.Edit e) s t false false x y is others h g =
      let same : h.4 ≡ g.4 = same_count count w e k l h.2 g.2 h.4 g.4 x y h.0 is others h.1 g.1 h.3 g.3 h.5 g.5 in
      record { refused = refl; after = h.1 ∙ sym g.1; text = inl (h.6 ∙ ap (λ n. codes "ok " ++ (decimal n ++ 10 ∷ [])) same ∙ sym g.6) }
  reply_agrees w k l (act.Edit e) s t false true x y is others h g = absurd (not_allowed w e g.0 g.1 h.0)
  reply_agrees w k l (act.Edit e) s t true false x y is others h g = absurd (not_allowed w e h.0 h.1 g.0)
  reply_agrees w k l (act.Edit e) s t true true x y is others h g =
      record { refused = refl; after = h.3 ∙ sym g.3; text = refusal_agrees w e h.0 g.0 s t h.1 g.1 h.2 g.2 (reason w e h.0 g.0 h.1 g.1) }

  -- two answers to a line
  line_agrees : (heads : Bool) (w : World) (line : LineValue) (s t : Text) (r q : Bool) (x y : World) → AnswersJob w (line_job heads line) s r x → AnswersJob w (line_job heads line) t q y → Agree (IsOneButForCycle w (line_job heads line) s t) r q x y
  line_agrees heads w line s t r q x y h g =
      let front : Text = head heads line.number in
      let reply = reply_agrees w h.0 g.0 line.act h.2 g.2 r q x y h.1 g.1 h.3 g.3 in
      record {
        refused = reply.refused;
        after = reply.after;
        text = elim reply.text [
          | inl same ↦ inl (h.4 ∙ ap (λ text. front ++ text) same ∙ sym g.4)
          | inr both ↦ inr (both.0, both.1, behind w both.0 front h.2 s both.2 h.4, behind w both.0 front g.2 t both.3 g.4)
        ];
      }

  -- two answers to a job
  job_agrees : (w : World) (job : Job) (s t : Text) (r q : Bool) (x y : World) → IsInside w job → AnswersJob w job s r x → AnswersJob w job t q y → Agree (IsOneButForCycle w job s t) r q x y
  job_agrees w counts_job s t r q x y inside h g = record { refused = h.0 ∙ sym g.0; after = h.1 ∙ sym g.1; text = h.2 ∙ sym g.2 }
  job_agrees w (line_job heads line) s t r q x y inside h g = line_agrees heads w line s t r q x y h g
  job_agrees w (acts_job acts) s t r q x y inside h g =
      let named = (acts_named w acts inside.0).0 in
      record { refused = h.0 ∙ sym g.0; after = h.1 ∙ sym g.1; text = one_acts_text right w acts named.0 named.1 s t h.2 g.2 }
  job_agrees w (messages_job d) s t r q x y inside h g =
      let named = (deliveries_named w d inside.0).0 in
      record { refused = h.0 ∙ sym g.0; after = h.1 ∙ sym g.1; text = one_net_text w d named.0 named.1 s t h.2 g.2 }
  job_agrees w (sweep_job line) s t r q x y inside h g = record { refused = h.0 ∙ sym g.0; after = h.1 ∙ sym g.1; text = swept w line s t inside.1 inside.0 h.2 g.2 }
  job_agrees w (tables_job tables) s t r q x y inside h g =
      let same = one_check_text verdict w tables r q s t h.1 g.1 in
      record { refused = same.0; after = h.0 ∙ sym g.0; text = same.1 }

  -- job by job, both texts go on in the same world
  pub one_text : OneText
  one_text w [] s t r q inside h g = (h.1 ∙ sym g.1, (h.0, g.0))
  one_text w (job ∷ jobs) s t r q inside h g =
      let first = job_agrees w job h.0 g.0 h.2 g.2 h.4 g.4 inside.0 h.5 g.5 in
      let more = one_text h.4 jobs h.1 g.1 h.3 g.3 (inside.1 h.0 h.2 h.4 h.5) h.6 (subst (λ after. AnswersJobs after jobs g.1 g.3) (sym first.after) g.6) in
      (h.8 ∙ ap₂ (λ a b. a || b) first.refused more.0 ∙ sym g.8, (h.0, g.0, h.1, g.1, h.2, h.4, h.5, first.text, more.1, h.7, g.7))
