-- What activations come to is one text.
use Rattle.std.proofs.Common.{◌≡◌, ◌≤◌, ◌-◌, ◌<◌, ◌↔◌, inl, inr, ℕ, Bool, true, false, ◌&&◌, IsTrue, nat_lt, Option, Some, None, List, [], ◌∷◌, ◌++◌, refl, sym, ap, subst, ◌∙◌, arith}
use Rattle.std.proofs.lemmas.Bool.{cases_eq, ltb-true}
use Rattle.clap.specs.Walk.{Text}
use Rattle.net_names.specs.Prefixes.{PrefixValue}
use Rattle.activations.specs.Pieces.{IsMostPieces}
use Rattle.activations.specs.declared.acts.Acts.{Acts}
use Rattle.asprop_run.specs.Settling.{IsActsText, acts_rows}
use Rattle.reports.specs.Rows.{table}
use Rattle.stability_laws.specs.EntryTexts.{entry_row}
use Rattle.as_graph.specs.Topology.{Topology, has}
use Rattle.origin_validation.specs.Judging.{state_of}
use Rattle.policy_kinds.specs.Kinds.{kind_policy}
use Rattle.policy_kinds.specs.declared.kind.Kind.{Kind}
use Rattle.policy_kinds.specs.declared.kind.Kind.TheVariants.{Plain}
use Rattle.std.specs.FinMap as fin
use Rattle.std.specs.FinSet as set
use Rattle.sim_core.specs.Kept.{Kept, IsKept}
use Rattle.sim_core.specs.World.{World, has_round, setting_of, topology}
use Rattle.sim_core.proofs.Families.{one_family}
use Rattle.sim_core.proofs.Watches.{round_within}
use Rattle.stability_laws.specs.AnyOrder.{IsActivated}
use Rattle.stability_laws.specs.Book.{PolicyBook}
use Rattle.stability_laws.specs.Laws.{IsHeight, OneAnswer}
use Rattle.stability_laws.specs.Plans.{announced_path, has_prefix}
use Rattle.stability_laws.specs.Rounds.{seed_given, seeds_of}
use Rattle.stability_laws.specs.Runs.{IsRunBy}
use Rattle.stability_laws.specs.Stable.{IsStable}
use Rattle.stability_laws.specs.Steps.{IsStepWhole}
use Rattle.stability_laws.specs.declared.entry.Entry.{Entry}
use Rattle.stability_laws.specs.declared.entry.Seed.{Seed}

-- the policies of a world as a book
abbrev pub book_of : World → PolicyBook Kind
book_of w = record { rest = Plain; named = w.kinds; room = set.empty }

module _ (one : OneAnswer kind_policy) (w : World) (prefix : PrefixValue) (seeds : ℕ → Option Seed) where
  -- an activation ends in one routing
  one_step : (f : ℕ → Option Entry) (a : ℕ) (g h : ℕ → Option Entry) → IsStepWhole (setting_of w prefix) seeds f a g → IsStepWhole (setting_of w prefix) seeds f a h → g ≡ h
  one_step f a g h p q =
      let only = one (topology w) (book_of w) (state_of w.payloads prefix) seeds f a in
      let same : (n : ℕ) → g n ≡ h n = λ n. elim (cases_eq n a) [
        | inl e ↦ subst (λ t. g t ≡ h t) (sym e) (only.2 (g a) p.right ∙ sym (only.2 (h a) q.right))
        | inr ne ↦ p.others n ne ∙ sym (q.others n ne)
      ] in
      λ i n. same n i

  -- activations end in one routing
  pub one_run : (xs : List ℕ) (f g h : ℕ → Option Entry) → IsRunBy (IsStepWhole (setting_of w prefix) seeds) xs f g → IsRunBy (IsStepWhole (setting_of w prefix) seeds) xs f h → g ≡ h
  one_run [] f g h p q = sym p ∙ q
  one_run (x ∷ xs) f g h p q =
      let same : p.0 ≡ q.0 = one_step f x p.0 q.0 p.1 q.1 in
      one_run xs p.0 g h p.2 (subst (λ m. IsRunBy (IsStepWhole (setting_of w prefix) seeds) xs m h) (sym same) q.2)

-- the greatest number of pieces is one
pub one_most : (there : ℕ → Bool) (xs : List ℕ) (m n : ℕ) → IsMostPieces there xs m → IsMostPieces there xs n → m ≡ n
one_most there xs m n p q =
    let up : m ≤ n = (q m).0 ((p m).1 (omega arith)) in
    let down : n ≤ m = (p n).0 ((q n).1 (omega arith)) in
    omega arith

reaches : (g : Topology) (m n : ℕ) → IsHeight g m → IsHeight g n → m ≤ n
reaches g m n p q = elim p.reached [
  | inl none ↦ omega (arith, none)
  | inr chain ↦ subst (λ k. k ≤ n) chain.4 (q.most chain.0 chain.1 chain.2 chain.3)
]

-- the height of a graph is one number
pub one_height : (g : Topology) (m n : ℕ) → IsHeight g m → IsHeight g n → m ≡ n
one_height g m n p q = omega (arith, reaches g m n p q, reaches g n m q p)

-- a test that is true exactly where a fact holds has one answer
pub one_test : {P : Type 0} (a b : Bool) → (IsTrue a ↔ P) → (IsTrue b ↔ P) → a ≡ b
one_test true true p q = refl
one_test true false p q = absurd (let no : false ≡ true = q.1 (p.0 refl) in cc)
one_test false true p q = absurd (let no : false ≡ true = p.1 (q.0 refl) in cc)
one_test false false p q = refl

seed_alike : (path : Option (List ℕ)) (later leaks : Bool) (x y : Option Entry) → (later ≡ true → x ≡ y) → seed_given path (later && leaks) x ≡ seed_given path (later && leaks) y
seed_alike (Some path) later leaks x y h = refl
seed_alike None false leaks x y h = refl
seed_alike None true leaks x y h = ap (λ e. seed_given None leaks e) (h refl)

module _ (w : World) (k l : Kept) (x : IsKept w k) (y : IsKept w l) (round : ℕ) (prefix : PrefixValue) (there : has_round w round ≡ true) (known : has_prefix w.plan prefix ≡ true) where
  -- the routing of the round before, in a later round
  before_alike : (a : ℕ) → nat_lt 1 round ≡ true → k.routings (round - 1) prefix a ≡ l.routings (round - 1) prefix a
  before_alike a later =
      let within = round_within w.rounds round there in
      let more : 1 < round = ltb-true 1 round later in
      one_family w k.routings l.routings x.routings y.routings (round - 1) prefix (omega (arith, more)) (omega (arith, within.1)) known a

  -- the seeds follow from whatever is kept
  pub one_seeds : seeds_of w.plan round prefix (k.routings (round - 1) prefix) ≡ seeds_of w.plan round prefix (l.routings (round - 1) prefix)
  one_seeds = λ i a. seed_alike (announced_path w.plan prefix a) (nat_lt 1 round) (fin.contains_key w.plan.leakers (round, a)) (k.routings (round - 1) prefix a) (l.routings (round - 1) prefix a) (before_alike a) i

module _ (one : OneAnswer kind_policy) (w : World) (acts : Acts) (there : has_round w acts.round ≡ true) (known : has_prefix w.plan acts.prefix ≡ true) where
  abbrev seeds_by : Kept → ℕ → Option Seed
  seeds_by kept = seeds_of w.plan acts.round acts.prefix (kept.routings (acts.round - 1) acts.prefix)

  -- two texts of what activations come to
  pub one_acts_text : (s t : Text) → IsActsText w acts s → IsActsText w acts t → s ≡ t
  one_acts_text s t g h =
      let same_seeds : seeds_by h.0 ≡ seeds_by g.0 = sym (one_seeds w g.0 h.0 g.1 h.1 acts.round acts.prefix there known) in
      let activated = subst (λ (seeds : ℕ → Option Seed). IsActivated (setting_of w acts.prefix) seeds acts.list (fin.get acts.held) h.2) same_seeds h.6.0 in
      let same : g.2 ≡ h.2 = one_run one w acts.prefix (seeds_by g.0) acts.list (fin.get acts.held) g.2 h.2 g.6.0 activated in
      let stable = subst (λ (seeds : ℕ → Option Seed). IsTrue h.5 ↔ IsStable (setting_of w acts.prefix) seeds h.2) same_seeds h.6.3 in
      let pieces = one_most (has (topology w)) acts.list g.3 h.3 g.6.2 h.6.2 in
      let height = one_height (topology w) g.4 h.4 g.6.1 h.6.1 in
      let settled = one_test g.5 h.5 g.6.3 (subst (λ (f : ℕ → Option Entry). IsTrue h.5 ↔ IsStable (setting_of w acts.prefix) (seeds_by g.0) f) (sym same) stable) in
      g.6.4 ∙ ((λ i. table (topology w) (λ a. entry_row a (same i a)) ++ acts_rows (pieces i) (height i) (settled i)) ∙ sym h.6.4)
