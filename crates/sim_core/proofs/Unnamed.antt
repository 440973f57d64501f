-- ASes that nothing names: they announce nothing, leak nothing, and hold nothing where they have no links.
use Rattle.std.proofs.Common.{◌≡◌, ◌==◌, ◌||◌, ◌&&◌, ℕ, nat_lt, Bool, true, false, is_some, Option, None, Some, List, [], ◌∷◌, map, refl, sym, ap, ◌∙◌}
use Rattle.std.specs.List.{list_any}
use Rattle.std.specs.FinMap as fin
use Rattle.std.specs.FinSet as set
use Rattle.std.specs.Ordering.{eq_by_cmp, nat_cmp}
use Rattle.std.proofs.lemmas.Bool.{eq-eqb, or_left, or_right, true≢false}
use Rattle.net_names.proofs.Pairs.{exact_pair, pairs_total}
use Rattle.net_names.specs.Links.{pair_cmp}
use Rattle.net_names.specs.Numbers.{occurs}
use Rattle.net_names.specs.Prefixes.{PrefixValue}
use Rattle.as_graph.specs.Topology.{Topology, has}
use Rattle.as_graph.proofs.RowAses.{occurs-append, occurs-items}
use Rattle.stability_laws.specs.Offers.{Setting, offer, offer_given}
use Rattle.stability_laws.specs.Plans.{Plan, announced_path, announcers_of, leaks_in}
use Rattle.stability_laws.specs.Rounds.{seed_given, seeds_of}
use Rattle.stability_laws.specs.Stable.{IsRight, IsRightGiven}
use Rattle.stability_laws.specs.declared.entry.Entry.{Entry}
use Rattle.stability_laws.specs.declared.entry.Seed.{Seed}
use Rattle.stability_laws.proofs.KeyLists.{eq_is}
use Rattle.sim_core.specs.World.{graph_of, named}
use Rattle.sim_core.proofs.Announcers.{is_announcer}
use Rattle.sim_core.proofs.PolicyEdits.{Kinds, leakers, named_by}

-- the plan or a policy names the AS
abbrev pub is_named : Plan → Kinds → ℕ → Bool
is_named plan kinds a = set.contains (set.from_list {R = nat_cmp} (named plan kinds)) a

leak_at : (round a : ℕ) (k : ℕ × ℕ) (more seen : Bool) → (more ≡ true → seen ≡ true) → (eq_by_cmp pair_cmp (round, a) k || more) ≡ true → ((k.1 == a) || seen) ≡ true
leak_at round a k more seen later h = by (eq_by_cmp pair_cmp (round, a) k) refl h
  where
    by : (t : Bool) → eq_by_cmp pair_cmp (round, a) k ≡ t → (t || more) ≡ true → ((k.1 == a) || seen) ≡ true
    by true e g = or_left (k.1 == a) seen (eq-eqb k.1 a (sym (ap (λ (t : ℕ × ℕ). t.1) (eq_is pairs_total exact_pair (round, a) k e))))
    by false e g = or_right (k.1 == a) seen (later g)

leak_listed : (round a : ℕ) (ks : List (ℕ × ℕ)) → list_any (eq_by_cmp pair_cmp (round, a)) ks ≡ true → occurs a (map (λ e. e.1) ks) ≡ true
leak_listed round a [] h = cc
leak_listed round a (k ∷ ks) h = leak_at round a k (list_any (eq_by_cmp pair_cmp (round, a)) ks) (occurs a (map (λ e. e.1) ks)) (leak_listed round a ks) h

off : (t : Bool) → (t ≡ true → ⊥) → t ≡ false
off true h = absurd (h refl)
off false h = refl

module _ (plan : Plan) (kinds : Kinds) (a : ℕ) (free : is_named plan kinds a ≡ false) where
  pub unannounced : (p : PrefixValue) → announced_path plan p a ≡ None
  unannounced p = by (announced_path plan p a) refl
    where
      by : (o : Option (List ℕ)) → announced_path plan p a ≡ o → o ≡ None
      by None e = refl
      by (Some path) e = absurd (true≢false (sym (named_by plan kinds a ∙ or_left (occurs a (announcers_of plan)) _ (is_announcer plan p a (ap is_some e))) ∙ free))

  pub unleaked : (round : ℕ) → leaks_in plan round a ≡ false
  unleaked round = off (leaks_in plan round a) (λ h.
      let listed = leak_listed round a (fin.keys plan.leakers) (sym (fin.contains_key-keys plan.leakers (round, a)) ∙ h) in
      true≢false (sym (named_by plan kinds a ∙ or_right (occurs a (announcers_of plan)) _ (or_left (occurs a (leakers plan)) _ listed)) ∙ free))

  -- it has no seed
  pub unseeded : (round : ℕ) (p : PrefixValue) (f : ℕ → Option Entry) → seeds_of plan round p f a ≡ None
  unseeded round p f = (λ i. seed_given (unannounced p i) (nat_lt 1 round && unleaked round i) (f a)) ∙ none (nat_lt 1 round) (f a)
    where
      none : (t : Bool) (held : Option Entry) → seed_given None (t && false) held ≡ None
      none true held = refl
      none false held = refl

-- an AS that is named is in a graph with the marks of all that are
pub named_there : (graph : Topology) (plan : Plan) (kinds : Kinds) (a : ℕ) → graph_of graph.links graph.marked ≡ graph_of graph.links (set.from_list (named plan kinds)) → is_named plan kinds a ≡ true → has graph a ≡ true
named_there graph plan kinds a is h =
    ap (λ (g : Topology). has g a) is ∙ (occurs-append a (set.items (set.from_list {R = nat_cmp} (named plan kinds))) _
    ∙ or_left (occurs a (set.items (set.from_list {R = nat_cmp} (named plan kinds)))) _ (occurs-items (set.from_list {R = nat_cmp} (named plan kinds)) a ∙ h))

pub gone_unnamed : (graph : Topology) (plan : Plan) (kinds : Kinds) (a : ℕ) → graph_of graph.links graph.marked ≡ graph_of graph.links (set.from_list (named plan kinds)) → has graph a ≡ false → is_named plan kinds a ≡ false
gone_unnamed graph plan kinds a is gone = off (is_named plan kinds a) (λ h. true≢false (sym (named_there graph plan kinds a is h) ∙ gone))

-- without a link there is no offer
pub no_offer : (w : Setting) (f : ℕ → Option Entry) (n a : ℕ) → w.relation a n ≡ None → offer w f n a ≡ None
no_offer w f n a none = ap (λ o. offer_given (w.policy n) (w.policy a) w.state n a o (f n)) none

-- who has no seed and no links is right with nothing, and with nothing alone
pub lone_right : (w : Setting) (seeds : ℕ → Option Seed) (f : ℕ → Option Entry) (a : ℕ) → seeds a ≡ None → ((n : ℕ) → w.relation a n ≡ None) → f a ≡ None → IsRight w seeds f a
lone_right w seeds f a unseeded unlinked nothing = coe 1 0 (i. IsRightGiven (w.policy a) (unseeded i) (λ n. offer w f n a) (nothing i)) (λ n. no_offer w f n a (unlinked n))

pub lone_nothing : (w : Setting) (seeds : ℕ → Option Seed) (f : ℕ → Option Entry) (a : ℕ) → seeds a ≡ None → ((n : ℕ) → w.relation a n ≡ None) → IsRight w seeds f a → f a ≡ None
lone_nothing w seeds f a unseeded unlinked right = by (f a) (coe 0 1 (i. IsRightGiven (w.policy a) (unseeded i) (λ n. offer w f n a) (f a)) right)
  where
    by : (held : Option Entry) → IsRightGiven (w.policy a) None (λ n. offer w f n a) held → held ≡ None
    by None r = refl
    by (Some e) (n, o, best, is) = absurd (let no : None ≡ Some o = sym (no_offer w f n a (unlinked n)) ∙ best.made in cc)
