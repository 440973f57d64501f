-- What stands of ranks, tables and rounds where little or nothing is edited.
use Rattle.std.proofs.Common.{◌≡◌, ◌≢◌, refl, inl, inr, ℕ, suc, ◌-◌, ◌<◌, ◌≤◌, Bool, true, false, cond, is_some, IsTrue, ◌==◌, Option, None, Some, option_map, List, [], ◌∷◌, length, sym, ap, subst, ◌∙◌, arith}
use Rattle.std.specs.FinMap as fin
use Rattle.std.specs.FinSet as set
use Rattle.std.specs.Ordering.{eq_by_cmp}
use Rattle.std.specs.Prelude.{IsSome}
use Rattle.std.proofs.lemmas.Bool.{cases_Bool, eq-eqb, or_parts, true≢false}
use Rattle.net_names.proofs.Distinct.{apart_from_distinct}
use Rattle.net_names.specs.Links.{converse}
use Rattle.net_names.specs.Orders.{announcement_total}
use Rattle.net_names.specs.Numbers.{IsDistinct, occurs}
use Rattle.net_names.specs.Prefixes.{PrefixValue}
use Rattle.net_names.specs.declared.routes.Rel.TheVariants.{Customer}
use Rattle.net_names.specs.declared.routes.State.{State}
use Rattle.policy_laws.specs.Policy.{Policy}
use Rattle.as_graph.proofs.RowAses.{length-le-as_count}
use Rattle.as_graph.specs.Edits.{AsesAreKept, LinksAreSound, LinksAreTaken, without_link}
use Rattle.as_graph.specs.Hierarchy.{HasNoProviderCycle, IsRank, RanksFit}
use Rattle.as_graph.specs.Topology.{Topology, as_count, has, relation}
use Rattle.stability_laws.specs.Book.{PolicyBook}
use Rattle.stability_laws.specs.Laws.{RightFollows}
use Rattle.stability_laws.specs.Offers.{Setting}
use Rattle.stability_laws.specs.Plans.{Plan, announced_path, announcement_cmp, announces, has_prefix}
use Rattle.stability_laws.specs.Rounds.{AreRounds}
use Rattle.stability_laws.specs.SeedEdits.{without_announcement}
use Rattle.stability_laws.specs.Stable.{IsRight}
use Rattle.stability_laws.specs.World.{setting}
use Rattle.stability_laws.specs.declared.entry.Entry.{Entry}
use Rattle.stability_laws.specs.declared.entry.Seed.{Seed}
use Rattle.sim_core.proofs.Announcers.{announcer_there}
use Rattle.sim_core.specs.Lent.{IsGraphOf}
use Rattle.sim_core.specs.World.{World, graph_of, named}

-- who is no AS has rank 0
pub no_rank : RanksFit → LinksAreSound → (g : Topology) (rank : ℕ → ℕ) → HasNoProviderCycle (relation g) → ((a : ℕ) → IsRank (relation g) a (rank a)) → (a : ℕ) → has g a ≡ false → rank a ≡ 0
no_rank fit sound g rank no_cycle are a none = elim (fit g rank no_cycle are a).reached [
  | inl zero ↦ zero
  | inr (b, sells, more) ↦ absurd (true≢false (sym (sound.ends g b a (converse Customer) (sound.alike g a b ∙ ap (option_map converse) sells)) ∙ none))
]

-- beside the two ends of a link that went, what is right stays right, by the same seeds
pub right_beside : {P : Type 0} (meaning : P → Policy) → RightFollows meaning → LinksAreTaken → (w : Topology) (book : PolicyBook P) (state : ℕ → State) (seeds others : ℕ → Option Seed) (f : ℕ → Option Entry) (a b x : ℕ) → x ≢ a → x ≢ b → seeds x ≡ others x
    → IsRight (setting meaning w book state) seeds f x → IsRight (setting meaning (without_link w a b) book state) others f x
right_beside meaning follows taken w book state seeds others f a b x not_a not_b same right =
    follows w (without_link w a b) book book state state seeds others f f x (record {
      links = λ n. sym (taken.others w a b x n (λ (is_a, is_b). not_a is_a) (λ (is_b, is_a). not_b is_b));
      policy = refl;
      exports = λ n r link. refl;
      marks = λ n r link. refl;
      states = inr (λ origin. refl);
      entries = λ n r link. refl;
    }) same refl right

none_some : (o : Option Entry) → o ≡ None → IsSome o → ⊥
none_some None e h = cc
none_some (Some x) e h = cc

-- different ASes that hold something are at most as many as the graph has
pub few_hold : (g : Topology) (f : ℕ → Option Entry) (ases : List ℕ) → IsDistinct ases → ((a : ℕ) → occurs a ases ≡ true → IsSome (f a)) → ((a : ℕ) → has g a ≡ false → f a ≡ None) → length ases ≤ as_count g
few_hold g f ases apart held only = length-le-as_count g ases (apart_from_distinct ases apart) (λ a o. elim (cases_Bool (has g a)) [ inl there ↦ there | inr away ↦ absurd (none_some (f a) (only a away) (held a o)) ])

-- beside the two ends of a link that went, the same ASes are there
pub still_has : AsesAreKept → (w other : Topology) (a b x : ℕ) (t : Bool) → other ≡ without_link w a b → x ≢ a → x ≢ b → has other x ≡ t → has w x ≡ t
still_has kept w other a b x t is not_a not_b there = sym (kept.other_ends w a b x not_a not_b) ∙ (ap (λ (g : Topology). has g x) (sym is) ∙ there)

-- who is neither of the two listed differs from both
pub neither : (a b x : ℕ) → occurs x (a ∷ b ∷ []) ≡ false → (x ≢ a) × (x ≢ b)
neither a b x o =
    let first = or_parts (a == x) (occurs x (b ∷ [])) o in
    let second = or_parts (b == x) false first.1 in
    (λ e. true≢false (sym (eq-eqb a x (sym e)) ∙ first.0), λ e. true≢false (sym (eq-eqb b x (sym e)) ∙ second.0))

-- an entry that stands for nothing is none
pub none_held : {A B : Type 0} (f : A → B) (o : Option A) → option_map f o ≡ None → o ≡ None
none_held f None e = refl
none_held f (Some x) e = cc

-- who is no AS holds nothing
pub no_entry : (setting : PrefixValue → Setting) (plan : Plan) (rounds : ℕ) (f : ℕ → PrefixValue → ℕ → Option Entry) → AreRounds setting plan rounds f → (round : ℕ) (prefix : PrefixValue) (b : ℕ) → 1 ≤ round → round ≤ rounds → IsTrue (has_prefix plan prefix) → (setting prefix).has b ≡ false → f round prefix b ≡ None
no_entry setting plan rounds f are round prefix b low high known none =
    let before : suc (round - 1) ≡ round = omega (arith, low) in
    let less : round - 1 < rounds = omega (arith, low, high) in
    subst (λ (r : ℕ). f r prefix b ≡ None) before ((are (round - 1) prefix less known).only_ases b none)

-- rounds that hold the same are the same rounds
pub same_rounds : (setting : PrefixValue → Setting) (plan other : Plan) (rounds number : ℕ) (f g : ℕ → PrefixValue → ℕ → Option Entry) → other ≡ plan → number ≡ rounds → ((round : ℕ) (prefix : PrefixValue) (a : ℕ) → g round prefix a ≡ f round prefix a) → AreRounds setting plan rounds f → AreRounds setting other number g
same_rounds setting plan other rounds number f g plans numbers entries are =
    subst (λ (t : Plan × (ℕ × (ℕ → PrefixValue → ℕ → Option Entry))). AreRounds setting t.0 t.1.0 t.1.1) (λ i. (sym plans i, (sym numbers i, λ r p a. sym (entries r p a) i))) are

-- who announces after a withdrawal announced before
pub announced_before : (plan : Plan) (prefix q : PrefixValue) (asn a : ℕ) → IsTrue (announces (without_announcement plan prefix asn) q a) → IsTrue (announces plan q a)
announced_before plan prefix q asn a is = by (eq_by_cmp announcement_cmp (q, a) (prefix, asn)) (announced_path plan q a) (sym (ap is_some (fin.get-remove announcement_total plan.announced (prefix, asn) (q, a))) ∙ is)
  where
    by : (b : Bool) (o : Option (List ℕ)) → is_some (cond b None o) ≡ true → is_some o ≡ true
    by true o h = let wrong : false ≡ true = h in cc
    by false o h = h

-- whoever announces something in a world is an AS of its graph
pub lent_announcer : (w : World) (g : Topology) → IsGraphOf w g → (p : PrefixValue) (a : ℕ) → IsTrue (announces w.plan p a) → has g a ≡ true
lent_announcer w g is = announcer_there g w.plan w.kinds (is ∙ ap (λ links. graph_of links (set.from_list (named w.plan w.kinds))) (sym (ap (λ (t : Topology). t.links) is)))
