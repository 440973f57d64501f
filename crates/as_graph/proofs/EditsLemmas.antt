-- What a new link changes.
use Rattle.std.proofs.Common.{◌≡◌, ◌≢◌, inl, inr, ℕ, ◌<◌, ◌≤◌, true, false, cond, nat_lt, Some, None, option_map, refl, ◌∙◌, ap, arith}
use Rattle.std.proofs.lemmas.Bool.{cases_Bool, ltb-true, ltb-false, lt-ltb, false_from_ne_true}
use Rattle.std.proofs.lemmas.Cmp.{tied_itself}
use Rattle.std.proofs.lemmas.Map.Lookups.{exact_pairs, exact_unsigned}
use Rattle.std.specs.Ordering.{nat_cmp, eq_by_cmp, is_eq}
use Rattle.std.specs.FinMap as map
use Rattle.net_names.specs.declared.routes.Rel.{Rel}
use Rattle.net_names.specs.declared.routes.Rel.TheVariants.{Customer, Peer, Provider}
use Rattle.net_names.specs.Links.{pair_cmp, converse}
use Rattle.net_names.proofs.Pairs.{pairs_total}
use Rattle.as_graph.specs.Topology.{Topology, relation}
use Rattle.as_graph.specs.Edits.{with_link, LinksAreSound, LinksAreSet}
use Rattle.as_graph.proofs.Links.{is_equal, relation_mutual, relation_self, linked_end}

-- the pair with this value, lower first
unfoldable pub put_pair : Topology → ℕ → ℕ → Rel → Topology
put_pair w lo hi v = record w { links = map.insert w.links (lo, hi) v }

at_pair : (w : Topology) (lo hi : ℕ) (v : Rel) → map.get (map.insert w.links (lo, hi) v) (lo, hi) ≡ Some v
at_pair w lo hi v = map.get-insert pairs_total w.links (lo, hi) v (lo, hi) ∙ ap (λ r. cond (is_eq r) (Some v) (map.get w.links (lo, hi))) (tied_itself pairs_total (lo, hi))

off_pair : (w : Topology) (lo hi : ℕ) (v : Rel) (q : ℕ × ℕ) → (q ≡ (lo, hi) → ⊥) → map.get (map.insert w.links (lo, hi) v) q ≡ map.get w.links q
off_pair w lo hi v q ne = map.get-insert pairs_total w.links (lo, hi) v q ∙ ap (λ b. cond b (Some v) (map.get w.links q))
    (false_from_ne_true (eq_by_cmp pair_cmp q (lo, hi)) (λ e. ne (exact_pairs nat_cmp nat_cmp exact_unsigned exact_unsigned q (lo, hi) (is_equal _ e))))

put_at : (w : Topology) (lo hi : ℕ) (v : Rel) → lo < hi → relation (put_pair w lo hi v) lo hi ≡ Some v
unfolding put_pair
put_at w lo hi v less =
    ap (λ b. cond b (map.get (map.insert w.links (lo, hi) v) (lo, hi)) (cond (nat_lt hi lo) (option_map converse (map.get (map.insert w.links (lo, hi) v) (hi, lo))) None)) (lt-ltb lo hi less)
    ∙ at_pair w lo hi v

put_off : (w : Topology) (lo hi : ℕ) (v : Rel) (x y : ℕ) → ((x ≡ lo) × (y ≡ hi) → ⊥) → ((x ≡ hi) × (y ≡ lo) → ⊥) → relation (put_pair w lo hi v) x y ≡ relation w x y
unfolding put_pair
put_off w lo hi v x y straight turned =
    λ i. cond (nat_lt x y) (off_pair w lo hi v (x, y) (λ e. straight (ap (λ (p : ℕ × ℕ). p.0) e, ap (λ (p : ℕ × ℕ). p.1) e)) i)
    (cond (nat_lt y x) (option_map converse (off_pair w lo hi v (y, x) (λ e. turned (ap (λ (p : ℕ × ℕ). p.1) e, ap (λ (p : ℕ × ℕ). p.0) e)) i)) None)

pub twice_one : (r : Rel) → converse (converse r) ≡ r
twice_one Customer = refl
twice_one Peer = refl
twice_one Provider = refl

pub is_put : (w : Topology) (a b : ℕ) (r : Rel) → nat_lt a b ≡ true → with_link w a b r ≡ put_pair w a b r
unfolding put_pair
is_put w a b r e = ap (λ t. record w { links = cond t (map.insert w.links (a, b) r) (map.insert w.links (b, a) (converse r)) }) e

pub is_put_turned : (w : Topology) (a b : ℕ) (r : Rel) → nat_lt a b ≡ false → with_link w a b r ≡ put_pair w b a (converse r)
unfolding put_pair
is_put_turned w a b r e = ap (λ t. record w { links = cond t (map.insert w.links (a, b) r) (map.insert w.links (b, a) (converse r)) }) e

pub links_are_set_lem : LinksAreSet
links_are_set_lem = record {
  at = λ w a b r ne. elim (cases_Bool (nat_lt a b)) [
    | inl e ↦ ap (λ g. relation g a b) (is_put w a b r e) ∙ put_at w a b r (ltb-true a b e)
    | inr e ↦ ap (λ g. relation g a b) (is_put_turned w a b r e) ∙ relation_mutual (put_pair w b a (converse r)) b a
        ∙ ap (option_map converse) (put_at w b a (converse r) (let le : b ≤ a = ltb-false a b e in let ne' : a ≢ b = ne in omega arith)) ∙ ap Some (twice_one r)
  ];
  others = λ w a b r x y ne straight turned. elim (cases_Bool (nat_lt a b)) [
    | inl e ↦ ap (λ g. relation g x y) (is_put w a b r e) ∙ put_off w a b r x y straight turned
    | inr e ↦ ap (λ g. relation g x y) (is_put_turned w a b r e) ∙ put_off w b a (converse r) x y turned straight
  ];
}

pub links_are_sound_lem : LinksAreSound
links_are_sound_lem = record { alike = relation_mutual; ends = linked_end; to_itself = relation_self }
