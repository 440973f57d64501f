-- The tables at the start keep what they keep.
use Rattle.std.proofs.Common.{◌≡◌, ◌≢◌, ◌<◌, ◌≤◌, ℕ, Bool, true, false, cond, is_some, Option, Some, None, option_map, List, [], length, refl, sym, ◌∙◌, ap, subst}
use Rattle.std.specs.Prelude.{slice_get}
use Rattle.std.specs.Map.{lookup}
use Rattle.std.specs.BTreeSet.{contains}
use Rattle.net_names.specs.declared.routes.Rel.{Rel}
use Rattle.net_names.specs.Links.{pair_cmp, converse}
use Rattle.net_names.specs.Numbers.{occurs}
use Rattle.policy_laws.specs.Policy.{Policy}
use Rattle.as_graph.proofs.Chains.{IsMutual}
use Rattle.stability_laws.specs.declared.entry.Entry.{Entry}
use Rattle.stability_laws.specs.declared.entry.Seed.{Seed}
use Rattle.stability_laws.specs.Entries.{seed_entry}
use Rattle.stability_laws.specs.Offers.{Setting, Offer, offer_given}
use Rattle.message_sim.specs.declared.line.Line.{Line}
use Rattle.message_sim.specs.declared.tables.NetState.{NetState}
use Rattle.message_sim.specs.Messages.{sent_given, IsStart}
use Rattle.message_sim.specs.Nets.{chosen, received_on, queue_on, waiting_in}
use Rattle.message_sim.specs.Rows.{link_eq, choice_at, best_at, best_on, queue_at}
use Rattle.message_sim.specs.Best.{IsHeldBy, offers_now}
use Rattle.message_sim.specs.Starts.{AreFirstChoices, AreNoBests, line_at_start, first_queue}
use Rattle.message_sim.specs.Kept.{net_in, IsKept}
use Rattle.message_sim.proofs.Parts.{told_first}
use Rattle.message_sim.proofs.Quiet.{start_agrees, no_offer}
use Rattle.message_sim.proofs.Lines.{place_of}
use Rattle.message_sim.proofs.Values.{link_is}

no_received : (p : Policy) (r : Option Rel) (held : Option Entry) → received_on (line_at_start p r held) ≡ None
no_received p None held = refl
no_received p (Some r) held = refl

line_there : (p : Policy) (r : Option Rel) (held : Option Entry) → is_some (line_at_start p r held) ≡ is_some r
line_there p None held = refl
line_there p (Some r) held = refl

first_queues : (p : Policy) (r s : Option Rel) (held : Option Entry) → s ≡ option_map converse r → queue_on (line_at_start p r held) ≡ first_queue (sent_given p s held)
first_queues p None s held e = sym (ap (λ t. first_queue (sent_given p t held)) e)
first_queues p (Some r) s held e = sym (ap (λ t. first_queue (sent_given p t held)) e)

held_first : (p : Policy) (seed : Option Seed) (offers : ℕ → Option Offer) → ((n : ℕ) → offers n ≡ None) → IsHeldBy p seed offers None (option_map seed_entry seed)
held_first p None offers none = (none, refl)
held_first p (Some s) offers none = refl

module _ (w : Setting) (seeds : ℕ → Option Seed) (turns : IsMutual w.relation) (only : (a : ℕ) → w.has a ≡ false → seeds a ≡ None) (ases : List ℕ) (listed : (a : ℕ) → occurs a ases ≡ w.has a) (rows : List ℕ) (listed' : (a : ℕ) → occurs a rows ≡ w.has a) (t : NetState)
    (choices : AreFirstChoices ases seeds t.choices.entries) (bests : AreNoBests rows t.bests.entries)
    (lines : (n a : ℕ) → lookup (link_eq (n, a)) t.lines.entries ≡ line_at_start (w.policy n) (w.relation a n) (choice_at t.choices.entries n)) where
  choice_first : (a : ℕ) → choice_at t.choices.entries a ≡ option_map seed_entry (seeds a)
  choice_first a = ap chosen (choices a ∙ ap (λ b. cond b (Some (option_map seed_entry (seeds a))) None) (listed a)) ∙ by (w.has a) refl
    where
      by : (b : Bool) → w.has a ≡ b → chosen (cond b (Some (option_map seed_entry (seeds a))) None) ≡ option_map seed_entry (seeds a)
      by true e = refl
      by false e = sym (ap (option_map seed_entry) (only a e))

  pub starts : IsStart w seeds (net_in t.choices.entries t.lines.entries)
  starts = record {
    choices = choice_first;
    received = λ n a. ap received_on (lines n a) ∙ no_received (w.policy n) (w.relation a n) (choice_at t.choices.entries n);
    queues = λ n a. told_first (sent_given (w.policy n) (w.relation n a) (choice_at t.choices.entries n)) (queue_at t.lines.entries n a) (ap queue_on (lines n a) ∙ first_queues (w.policy n) (w.relation a n) (w.relation n a) (choice_at t.choices.entries n) (turns a n));
  }

  best_first : (a : ℕ) → best_at t.bests.entries a ≡ None
  best_first a = ap best_on (bests a) ∙ by (occurs a rows)
    where
      by : (b : Bool) → best_on (cond b (Some None) None) ≡ None
      by true = refl
      by false = refl

  pub starts_kept : ((k : ℕ) → k < length t.lines.entries → (e : (ℕ × ℕ) × Line) → slice_get t.lines.entries k ≡ Some e → e.1.queue ≢ [] → contains pair_cmp t.waiting e.0 ≡ true) → t.queued ≡ waiting_in t.lines.entries → t.queued ≤ 4611686018427387904 → IsKept w seeds t
  starts_kept noted counted few = record {
    agrees = start_agrees w seeds only (net_in t.choices.entries t.lines.entries) starts;
    choice_rows = λ a here. ap is_some (choices a ∙ ap (λ b. cond b (Some (option_map seed_entry (seeds a))) None) (listed a ∙ here));
    best_rows = λ a here. ap is_some (bests a ∙ ap (λ b. cond b (Some None) None) (listed' a ∙ here));
    held = λ a here. coe 0 1 (i. IsHeldBy (w.policy a) (seeds a) (offers_now w t.lines.entries a) (sym (best_first a) i) (sym (choice_first a) i))
        (held_first (w.policy a) (seeds a) (offers_now w t.lines.entries a)
        (λ n. ap (offer_given (w.policy n) (w.policy a) w.state n a (w.relation a n)) (starts.received n a) ∙ no_offer w seeds (w.policy n) (w.policy a) n a (w.relation a n)));
    linked = λ n a. ap is_some (lines n a) ∙ line_there (w.policy n) (w.relation a n) (choice_at t.choices.entries n);
    waits = λ n a ne. waits_at n a (lookup (link_eq (n, a)) t.lines.entries) refl ne;
    counted = counted;
    few = few;
  }
    where
      waits_at : (n a : ℕ) (o : Option Line) → o ≡ lookup (link_eq (n, a)) t.lines.entries → queue_on (lookup (link_eq (n, a)) t.lines.entries) ≢ [] → contains pair_cmp t.waiting (n, a) ≡ true
      waits_at n a None e ne = absurd (ne (sym (ap queue_on e)))
      waits_at n a (Some l) e ne =
          let (k, x, lt, at, passes) = place_of (link_eq (n, a)) t.lines.entries l e in
          subst (λ q. contains pair_cmp t.waiting q ≡ true) (sym (link_is (n, a) x passes)) (noted k lt (x, l) at (λ none. ne (sym (ap queue_on e) ∙ none)))
