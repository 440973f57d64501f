-- The ends of an edited link: who of them is not touched is right still.
use Rattle.std.proofs.Common.{◌≡◌, ◌≢◌, ◌⊎◌, inl, inr, ◌<◌, ◌==◌, ◌||◌, ◌&&◌, ℕ, zero, suc, nat_lt, Bool, true, false, IsTrue, Option, None, Some, [], ◌∷◌, refl, sym, ap, subst, ◌∙◌, arith}
use Rattle.std.specs.FinMap as fin
use Rattle.std.proofs.lemmas.Bool.{cases_Bool, eq-eqb, eqb-true, true≢false}
use Rattle.net_names.specs.Numbers.{occurs}
use Rattle.net_names.specs.Prefixes.{PrefixValue}
use Rattle.net_names.specs.declared.routes.Rel.{Rel}
use Rattle.net_names.specs.declared.routes.State.{State}
use Rattle.as_graph.specs.Edits.{LinksAreSound}
use Rattle.as_graph.specs.Topology.{Topology, has, relation}
use Rattle.origin_validation.specs.Judging.{state_of}
use Rattle.policy_kinds.specs.Kinds.{kind_policy}
use Rattle.policy_kinds.specs.declared.kind.Kind.{Kind}
use Rattle.roa_table.specs.Sets.{Payloads}
use Rattle.stability_laws.specs.Book.{PolicyBook, policy_at}
use Rattle.stability_laws.specs.Laws.{PathsGoOn}
use Rattle.stability_laws.specs.Offers.{offer, offer_given}
use Rattle.stability_laws.specs.Plans.{IsSound, Plan, announced_path, announces, has_prefix}
use Rattle.stability_laws.specs.Rounds.{AreRounds, seed_given, seeds_of}
use Rattle.stability_laws.specs.Stable.{IsRight, IsRightGiven}
use Rattle.stability_laws.specs.World.{setting}
use Rattle.stability_laws.specs.declared.entry.Entry.{Entry}
use Rattle.stability_laws.specs.declared.entry.Seed.{Seed}
use Rattle.leak_round.specs.Rounds.{kept, plan_of, round_count}
use Rattle.leak_round.specs.Staying.{StaysRight}
use Rattle.leak_round.specs.Touched.{touches}
use Rattle.leak_round.specs.declared.rounds.Rounds.{Rounds}
use Rattle.leak_round.specs.declared.touched.Touched.{Touched}
use Rattle.rank_order.proofs.Unmoved.{links_at}
use Rattle.sim_core.specs.Families.{Family}
use Rattle.sim_core.specs.Ground.{DiffersAround, DiffersAtPair, Ground, IsRightOn}
use Rattle.sim_core.proofs.Grounds.{seller}
use Rattle.net_names.proofs.Shared.{none_from}

-- who is none of the pair
off_pair : (t s : Bool) → (t || (s || false)) ≡ false → (t ≡ false) × (s ≡ false)
off_pair true s h = cc
off_pair false true h = cc
off_pair false false h = (refl, refl)

apart_pair : (a b x : ℕ) → occurs x (a ∷ b ∷ []) ≡ false → (x ≢ a) × (x ≢ b)
apart_pair a b x free =
    let off = off_pair (a == x) (b == x) free in
    ((λ e. true≢false (sym (eq-eqb a x (sym e)) ∙ off.0)), (λ e. true≢false (sym (eq-eqb b x (sym e)) ∙ off.1)))

-- who is one of the pair
pub pair_end : (a b x : ℕ) → occurs x (a ∷ b ∷ []) ≡ true → (x ≡ a) ⊎ (x ≡ b)
pair_end a b x there = by (a == x) refl (b == x) refl there
  where
    by : (t : Bool) → (a == x) ≡ t → (s : Bool) → (b == x) ≡ s → (t || (s || false)) ≡ true → (x ≡ a) ⊎ (x ≡ b)
    by true e s f h = inl (sym (eqb-true a x e))
    by false e true f h = inr (sym (eqb-true b x f))
    by false e false f h = cc

-- ---- who is no AS

silent_seed : (leaks : Bool) → seed_given None leaks None ≡ None
silent_seed true = refl
silent_seed false = refl

-- who announces nothing and held nothing in the round before has no seed
no_seed : (plan : Plan) (g : Family) (prefix : PrefixValue) (a before : ℕ) → announces plan prefix a ≡ false → ((r : ℕ) → r < before → g (suc r) prefix a ≡ None) → seeds_of plan (suc before) prefix (g before prefix) a ≡ None
no_seed plan g prefix a zero silent held = ap (λ o. seed_given o (nat_lt 1 1 && fin.contains_key plan.leakers (1, a)) (g 0 prefix a)) (none_from (announced_path plan prefix a) silent)
no_seed plan g prefix a (suc k) silent held =
    (λ i. seed_given (none_from (announced_path plan prefix a) silent i) (nat_lt 1 (suc (suc k)) && fin.contains_key plan.leakers (suc (suc k), a)) (held k (omega arith) i))
    ∙ silent_seed (nat_lt 1 (suc (suc k)) && fin.contains_key plan.leakers (suc (suc k), a))

-- who is no AS, and announces nothing, is right with nothing
absent_right : LinksAreSound → (v : Topology) (book : PolicyBook Kind) (state : PrefixValue → ℕ → State) (plan : Plan) (count : ℕ) (g : Family) → AreRounds (λ p. setting kind_policy v book (state p)) plan count g → (prefix : PrefixValue) → IsTrue (has_prefix plan prefix) → (a : ℕ) → has v a ≡ false → announces plan prefix a ≡ false → (before : ℕ) → before < count
    → IsRight (setting kind_policy v book (state prefix)) (seeds_of plan (suc before) prefix (g before prefix)) (g (suc before) prefix) a
absent_right sound v book state plan count g are prefix known a out silent before less =
    subst (λ (t : Option Seed × Option Entry). IsRightGiven (kind_policy (policy_at book a)) t.0 (λ n. offer (setting kind_policy v book (state prefix)) (g (suc before) prefix) n a) t.1) (λ i. (sym seed i, sym held i)) none
  where
    held : g (suc before) prefix a ≡ None
    held = (are before prefix less known).only_ases a out

    seed : seeds_of plan (suc before) prefix (g before prefix) a ≡ None
    seed = no_seed plan g prefix a before silent (λ r low. (are r prefix (omega (arith, low, less)) known).only_ases a out)

    by : (n : ℕ) (l : Option Rel) → relation v a n ≡ l → offer (setting kind_policy v book (state prefix)) (g (suc before) prefix) n a ≡ None
    by n None is = ap (λ l. offer_given (kind_policy (policy_at book n)) (kind_policy (policy_at book a)) (state prefix) n a l (g (suc before) prefix n)) is
    by n (Some r) is = absurd (true≢false (sym (seller sound v a n r is) ∙ out))

    none : (n : ℕ) → offer (setting kind_policy v book (state prefix)) (g (suc before) prefix) n a ≡ None
    none n = by n (relation v a n) refl

-- ---- the ends

-- the AS is touched for the prefix, or it is in the graph and stays right in each round
abbrev Settled : Ground → Rounds → Touched → PrefixValue → ℕ → ℕ → Type 0
Settled new rounds t prefix a end = (touches t prefix a ≡ true) ⊎ ((has new.graph a ≡ true) × ((before : ℕ) → before < round_count rounds → StaysRight (λ v. setting kind_policy v new.book (state_of new.payloads prefix)) new.graph (kept rounds (suc before) prefix) a end))

module _ (old new : Ground) (rounds : Rounds) (sound : LinksAreSound) (go_on : PathsGoOn kind_policy) (plan_sound : IsSound (plan_of rounds)) where
  -- who was right in each round, or no AS, and stays right, is so on the new ground
  settled_at : (a end : ℕ) → old.book ≡ new.book → old.payloads ≡ new.payloads → ((prefix : PrefixValue) → IsTrue (announces (plan_of rounds) prefix a) → has old.graph a ≡ true) → ((n : ℕ) → n ≢ end → relation old.graph a n ≡ relation new.graph a n) → AreRounds (λ p. setting kind_policy old.graph old.book (state_of old.payloads p)) (plan_of rounds) (round_count rounds) (kept rounds) → (t : Touched) (prefix : PrefixValue) → IsTrue (has_prefix (plan_of rounds) prefix)
      → Settled new rounds t prefix a end → (touches t prefix a ≡ true) ⊎ IsRightOn new rounds prefix a
  settled_at a end book payloads announcer links before_are t prefix known (inl there) = inl there
  settled_at a end book payloads announcer links before_are t prefix known (inr (there, stays)) = inr (record {
    right = λ before less _. stays before less old.graph (seeds_of (plan_of rounds) (suc before) prefix (kept rounds before prefix)) links
        (λ n e held. (go_on old.graph new.book (state_of new.payloads) (plan_of rounds) (round_count rounds) (kept rounds) plan_sound are before prefix less known n e held).0)
        (was before less);
    none = λ before less out. absurd (true≢false (sym there ∙ out));
  })
    where
      are : AreRounds (λ p. setting kind_policy old.graph new.book (state_of new.payloads p)) (plan_of rounds) (round_count rounds) (kept rounds)
      are = subst (λ (g : PolicyBook Kind × Payloads). AreRounds (λ p. setting kind_policy old.graph g.0 (state_of g.1 p)) (plan_of rounds) (round_count rounds) (kept rounds)) (λ i. (book i, payloads i)) before_are

      silent : has old.graph a ≡ false → announces (plan_of rounds) prefix a ≡ false
      silent out = elim (cases_Bool (announces (plan_of rounds) prefix a)) [ inl is ↦ absurd (true≢false (sym (announcer prefix is) ∙ out)) | inr is ↦ is ]

      was : (before : ℕ) → before < round_count rounds → IsRight (setting kind_policy old.graph new.book (state_of new.payloads prefix)) (seeds_of (plan_of rounds) (suc before) prefix (kept rounds before prefix)) (kept rounds (suc before) prefix) a
      was before less = elim (cases_Bool (has old.graph a)) [
        | inl there_before ↦ (are before prefix less known).right a there_before
        | inr out ↦ absent_right sound old.graph new.book (state_of new.payloads) (plan_of rounds) (round_count rounds) (kept rounds) are prefix known a out (silent out) before less
      ]

  -- so the world differs around the two ends
  pub ends_differ : (a b : ℕ) → DiffersAtPair old new (plan_of rounds) a b → AreRounds (λ p. setting kind_policy old.graph old.book (state_of old.payloads p)) (plan_of rounds) (round_count rounds) (kept rounds) → (t : Touched)
      → ((prefix : PrefixValue) → IsTrue (has_prefix (plan_of rounds) prefix) → Settled new rounds t prefix a b) → ((prefix : PrefixValue) → IsTrue (has_prefix (plan_of rounds) prefix) → Settled new rounds t prefix b a) → DiffersAround old new rounds (a ∷ b ∷ []) (touches t)
  ends_differ a b d are t first second = record {
    presence = λ x free. (let off = apart_pair a b x free in d.presence x off.0 off.1);
    links = λ x n free. (let off = apart_pair a b x free in d.links x n off.0 off.1);
    policies = λ x free. ap (λ (k : PolicyBook Kind). policy_at k x) d.book;
    at_ends = λ prefix x known end. elim (pair_end a b x end) [
      | inl is ↦ subst (λ (y : ℕ). (touches t prefix y ≡ true) ⊎ IsRightOn new rounds prefix y) (sym is)
          (settled_at a b (sym d.book) (sym d.payloads) (λ p there. d.announcers p a there) (λ n other. sym (links_at old.graph new.graph a b d.links n other)) are t prefix known (first prefix known))
      | inr is ↦ subst (λ (y : ℕ). (touches t prefix y ≡ true) ⊎ IsRightOn new rounds prefix y) (sym is)
          (settled_at b a (sym d.book) (sym d.payloads) (λ p there. d.announcers p b there) (λ n other. sym (links_at old.graph new.graph b a (λ y m not_b not_a. d.links y m not_a not_b) n other)) are t prefix known (second prefix known))
    ];
    marks = λ prefix x n r known free at. ap (λ (k : PolicyBook Kind). (kind_policy (policy_at k n)).marks) d.book;
    states = λ prefix x known free there. inr (λ origin is. ap (λ (v : Payloads). state_of v prefix origin) d.payloads);
  }
