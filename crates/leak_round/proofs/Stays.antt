-- An AS stays right where the offers of all neighbours but one are as they were, and that one's is put behind what it holds.
use Rattle.std.proofs.Common.{◌≡◌, ◌≢◌, ◌⊎◌, inl, inr, ℕ, Bool, true, false, cond, IsTrue, Option, Some, None, option_map, List, refl, sym, ◌∙◌, ap, subst}
use Rattle.std.proofs.lemmas.Bool.{cases_eq}
use Rattle.std.specs.Prelude.{slice_get, option_and_then}
use Rattle.net_names.specs.Prefixes.{PrefixValue}
use Rattle.net_names.specs.declared.routes.Class.TheVariants as class
use Rattle.net_names.specs.declared.routes.Rel.{Rel}
use Rattle.net_names.specs.declared.routes.Rel.TheVariants.{Customer, Peer, Provider}
use Rattle.net_names.specs.declared.routes.State.{State}
use Rattle.policy_laws.specs.Policy.{Policy}
use Rattle.policy_laws.specs.declared.policy.View.{View}
use Rattle.as_graph.specs.Topology.{Topology, relation}
use Rattle.path_pool.specs.declared.pool.PathPool.{PathPool}
use Rattle.stability_laws.specs.declared.entry.Entry.{Entry}
use Rattle.stability_laws.specs.declared.entry.Seed.{Seed}
use Rattle.stability_laws.specs.Book.{PolicyBook, policy_at}
use Rattle.stability_laws.specs.Entries.{class_of}
use Rattle.stability_laws.specs.Laws.{OfferNames}
use Rattle.stability_laws.specs.OfferPaths.{OfferPath}
use Rattle.stability_laws.specs.Offers.{Setting, Offer, offer, offer_given}
use Rattle.stability_laws.specs.Stable.{IsBest, IsRight, IsRightGiven}
use Rattle.stability_laws.specs.World.{setting}
use Rattle.route_choice.specs.declared.round_tables.RoundTables.{RoundTables}
use Rattle.route_choice.specs.declared.table.Table.{Table}
use Rattle.route_choice.specs.RoundTables.{round_routing, table_at}
use Rattle.route_choice.specs.Routings.{table_routing}
use Rattle.leak_round.specs.Staying.{IsAhead}

-- the best offer stays the best one
best_stays : (p : Policy) (f g : ℕ → Option Offer) (end m : ℕ) (o : Offer) → ((n : ℕ) → n ≢ end → f n ≡ g n) → m ≢ end →
    ((x : Offer) → g end ≡ Some x → IsTrue (p.before o.view x.view)) → IsBest p f m o → IsBest p g m o
best_stays p f g end m o same other after best = record {
  made = sym (same m other) ∙ best.made;
  first = λ n x made apart. elim (cases_eq n end) [
    | inl e ↦ after x (ap g (sym e) ∙ made)
    | inr ne ↦ best.first n x (same n ne ∙ made) apart
  ];
}

no_origin : (from : Rel) → class.Origin ≡ class_of from → ⊥
no_origin Customer e = cc
no_origin Peer e = cc
no_origin Provider e = cc

module _ {P : Type 0} (meaning : P → Policy) (v w : Topology) (book : PolicyBook P) (state : ℕ → State) (seeds : ℕ → Option Seed) (f : ℕ → Option Entry) (a end : ℕ)
    (links : (n : ℕ) → n ≢ end → relation v a n ≡ relation w a n) where
  abbrev there : Setting
  there = setting meaning v book state

  abbrev here : Setting
  here = setting meaning w book state

  abbrev p : Policy
  p = meaning (policy_at book a)

  abbrev old : ℕ → Option Offer
  old n = offer there f n a

  abbrev new : ℕ → Option Offer
  new n = offer here f n a

  same : (n : ℕ) → n ≢ end → old n ≡ new n
  same n apart = ap (λ r. offer_given (meaning (policy_at book n)) p state n a r (f n)) (links n apart)

  by_seed : (s : Option Seed) (e : Entry) → e.class ≡ class.Origin → OfferNames meaning → IsRightGiven p s old (Some e) → IsRightGiven p s new (Some e)
  by_seed (Some s) e own names right = right
  by_seed None e own names (n, o, best, is) =
      let given = names v book state f n a o best.made in
      absurd (no_origin given.from (sym own ∙ ap (λ (t : Entry). t.class) is ∙ given.class))

  by_none : (s : Option Seed) → new end ≡ None → IsRightGiven p s old None → IsRightGiven p s new None
  by_none (Some s) none right = right
  by_none None none right = λ n. elim (cases_eq n end) [
    | inl e ↦ ap new e ∙ none
    | inr ne ↦ sym (same n ne) ∙ right n
  ]

  by_other : (s : Option Seed) (e : Entry) → ((from : ℕ) → slice_get e.path 1 ≡ Some from → IsAhead here f a end from) → OfferPath meaning →
      ((n : ℕ) (d : Entry) → f n ≡ Some d → slice_get d.path 0 ≡ Some n) → IsRightGiven p s old (Some e) → IsRightGiven p s new (Some e)
  by_other (Some s) e ahead path starts right = right
  by_other None e ahead path starts (m, o, best, is) =
      let (d, held, goes) = path v book state f m a o best.made in
      let second : slice_get e.path 1 ≡ Some m = ap (λ (t : Entry). slice_get t.path 1) is ∙ ap (λ (l : List ℕ). slice_get l 1) goes ∙ starts m d held in
      let beats = ahead m second in
      (m, o, best_stays p old new end m o same beats.other (λ x made. beats.before o x (sym (same m beats.other) ∙ best.made) made) best, is)

  abbrev at_entry : ((ℕ → Option Offer)) → Option Entry → Type 0
  at_entry offers h = IsRightGiven p (seeds a) offers h

  pub stays_own : (e : Entry) → f a ≡ Some e → e.class ≡ class.Origin → OfferNames meaning → IsRight there seeds f a → IsRight here seeds f a
  stays_own e held own names right = subst (at_entry new) (sym held) (by_seed (seeds a) e own names (subst (at_entry old) held right))

  pub stays_empty : f a ≡ None → new end ≡ None → IsRight there seeds f a → IsRight here seeds f a
  stays_empty held none right = subst (at_entry new) (sym held) (by_none (seeds a) none (subst (at_entry old) held right))

  pub stays_ahead : (e : Entry) → f a ≡ Some e → ((from : ℕ) → slice_get e.path 1 ≡ Some from → IsAhead here f a end from) → OfferPath meaning →
      ((n : ℕ) (d : Entry) → f n ≡ Some d → slice_get d.path 0 ≡ Some n) → IsRight there seeds f a → IsRight here seeds f a
  stays_ahead e held ahead path starts right = subst (at_entry new) (sym held) (by_other (seeds a) e ahead path starts (subst (at_entry old) held right))

-- ---- views

-- where there is no link there is no offer
unlinked : (s r : Policy) (state : ℕ → State) (n a : ℕ) (l : Option Rel) (held : Option Entry) (o : Offer) → l ≡ None → offer_given s r state n a l held ≡ Some o → ⊥
unlinked s r state n a None held o e made = let k : None ≡ Some o = made in cc
unlinked s r state n a (Some from) held o e made = cc

pub no_offer : (w : Setting) (f : ℕ → Option Entry) (n a : ℕ) (o : Offer) → w.relation a n ≡ None → offer w f n a ≡ Some o → ⊥
no_offer w f n a o none made = unlinked (w.policy n) (w.policy a) w.state n a (w.relation a n) (f n) o none made

abbrev view_in : Option Offer → Option View
view_in o = option_map (λ (t : Offer). t.view) o

-- an offer's view is what is seen of it where the path isn't asked for the receiver
pub seen_by : (through : Bool) (x : Option Offer) (v : Option View) → view_in x ≡ cond through None v → (o : Offer) → x ≡ Some o → v ≡ Some o.view
seen_by true x v e o made = let k : None ≡ Some o.view = sym e ∙ ap view_in made in cc
seen_by false x v e o made = sym e ∙ ap view_in made

pub unoffered : (x : Option Offer) (v : Option View) → ((o : Offer) → x ≡ Some o → v ≡ Some o.view) → v ≡ None → x ≡ None
unoffered None v seen none = refl
unoffered (Some o) v seen none = let k : None ≡ Some o.view = sym none ∙ seen o refl in cc

-- ---- rounds

-- a table of a round stands for what the round keeps of its prefix
pub routed : (pool kept : PathPool) (ts : RoundTables) (prefix : PrefixValue) (t : Table) (g : ℕ → Option Entry) → pool ≡ kept → table_at ts prefix ≡ Some t → ((b : ℕ) → round_routing kept ts prefix b ≡ g b) → (b : ℕ) → table_routing pool t b ≡ g b
routed pool kept ts prefix t g same at is b = ap (λ (p : PathPool). table_routing p t b) same ∙ sym (ap (option_and_then (λ (u : Table). table_routing kept u b)) at) ∙ is b

-- ---- who is touched

-- who is touched stays so
pub grow : {R : Type 0} (u t : Bool) → (u ≡ true → t ≡ true) → (u ≡ true) ⊎ R → (t ≡ true) ⊎ R
grow u t more (inl there) = inl (more there)
grow u t more (inr right) = inr right

pub next_only : {A : Type 0} (t u : Bool) → (t ≡ true → A) → (u ≡ true → t ≡ false → A) → u ≡ true → A
next_only true u old new is = old refl
next_only false u old new is = new is refl
