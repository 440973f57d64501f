-- The best entry of the prefixes that hold an address is by the longest prefix of which there is an entry.
use Rattle.std.proofs.Common.{◌≡◌, ℕ, Bool, true, false, Option, Some, None, List, [], ◌∷◌, refl, sym, ◌∙◌, ap, subst, cond}
use Rattle.std.specs.Prelude.{fold, filter, is_some, IfSome, option_map, option_and_then, ◌&&◌, nat_lt}
use Rattle.std.specs.Option.{option_map_or}
use Rattle.net_names.specs.Addresses.{AddrValue}
use Rattle.net_names.specs.Prefixes.{PrefixValue}
use Rattle.net_names.specs.Coverage.{holds}
use Rattle.path_pool.specs.declared.pool.PathPool.{PathPool}
use Rattle.path_pool.specs.Pool.{IsLive}
use Rattle.stability_laws.specs.Plans.{Plan, announces, prefixes_of}
use Rattle.route_choice.specs.declared.held.Held.{Held}
use Rattle.route_choice.specs.declared.table.Table.{Table}
use Rattle.route_choice.specs.declared.round_tables.RoundTables.{RoundTables}
use Rattle.route_choice.specs.Tables.{held_at}
use Rattle.route_choice.specs.Routings.{entry_of, table_routing}
use Rattle.route_choice.specs.RoundTables.{table_at, round_routing, AreAllLive}
use Rattle.data_trace.specs.declared.kinds.Hop.TheVariants.{Here, To, NoRoute}
use Rattle.data_trace.specs.declared.best.Best.{Best}
use Rattle.data_trace.specs.Hops.{sent_by, second_of, next_hop}
use Rattle.data_trace.specs.Best.{held_in, better_of, best_in, holding, hop_of}
use Rattle.data_trace.proofs.Inside.{hop_by}
use Rattle.data_trace.proofs.Longest.{longer, reduced}

-- ---- what is held, with its path and without

module _ (pool : PathPool) (tables : RoundTables) (a : ℕ) where
  entry_is : (p : PrefixValue) → round_routing pool tables p a ≡ option_map (entry_of pool) (held_in tables p a)
  entry_is p = by (table_at tables p)
    where
      by : (t : Option Table) → option_and_then (λ t. table_routing pool t a) t ≡ option_map (entry_of pool) (option_and_then (λ t. held_at t a) t)
      by None = refl
      by (Some t) = refl

  some_map : (h : Option Held) → is_some (option_map (entry_of pool) h) ≡ is_some h
  some_map None = refl
  some_map (Some h) = refl

  has_entry : (p : PrefixValue) → is_some (round_routing pool tables p a) ≡ is_some (held_in tables p a)
  has_entry p = ap is_some (entry_is p) ∙ some_map (held_in tables p a)

  -- the best so far is what is held of its prefix, which is the longest so far
  record IsBest (best : Option Best) (p : Option PrefixValue) : Type 0 where
    pub prefix : p ≡ option_map (λ b. b.prefix) best
    pub held : (b : Best) → best ≡ Some b → held_in tables b.prefix a ≡ Some b.held

  longer_is : (best : Option Best) (q : PrefixValue) (h : Held) → longer (option_map (λ b. b.prefix) best) q ≡ option_map (λ b. b.prefix) (better_of best q (Some h))
  longer_is None q h = refl
  longer_is (Some b) q h = by (nat_lt b.prefix.len q.len)
    where
      by : (v : Bool) → Some (cond v q b.prefix) ≡ option_map (λ b. b.prefix) (cond v (Some (record { prefix = q; held = h })) (Some b))
      by true = refl
      by false = refl

  better_held : (best : Option Best) (q : PrefixValue) (h : Held) → held_in tables q a ≡ Some h → ((b : Best) → best ≡ Some b → held_in tables b.prefix a ≡ Some b.held) → (b : Best) → better_of best q (Some h) ≡ Some b → held_in tables b.prefix a ≡ Some b.held
  better_held None q h e old b r = let k : record { prefix = q; held = h } ≡ b = cc in subst (λ (b : Best). held_in tables b.prefix a ≡ Some b.held) k e
  better_held (Some x) q h e old b r = by (nat_lt x.prefix.len q.len) r
    where
      by : (v : Bool) → cond v (Some (record { prefix = q; held = h })) (Some x) ≡ Some b → held_in tables b.prefix a ≡ Some b.held
      by true r = let k : record { prefix = q; held = h } ≡ b = cc in subst (λ (b : Best). held_in tables b.prefix a ≡ Some b.held) k e
      by false r = old b r

  step : (best : Option Best) (p : Option PrefixValue) (q : PrefixValue) (h : Option Held) → held_in tables q a ≡ h → IsBest best p → IsBest (better_of best q h) (cond (is_some h) (longer p q) p)
  step best p q None e r = r
  step best p q (Some h) e r = record { prefix = ap (λ t. longer t q) r.prefix ∙ longer_is best q h; held = better_held best q h e r.held }

  chain : (addr : AddrValue) (ps : List PrefixValue) (best : Option Best) (p : Option PrefixValue) → IsBest best p →
      IsBest (fold (λ best q. better_of best q (held_in tables q a)) best (filter (λ q. holds q addr) ps)) (fold longer p (filter (λ q. holds q addr && is_some (round_routing pool tables q a)) ps))
  chain addr [] best p r = r
  chain addr (q ∷ ps) best p r = by (holds q addr) (is_some (round_routing pool tables q a)) (has_entry q) (λ b p r. chain addr ps b p r)
    where
      by : (v w : Bool) → w ≡ is_some (held_in tables q a) →
          ((b : Option Best) (p : Option PrefixValue) → IsBest b p → IsBest (fold (λ best q. better_of best q (held_in tables q a)) b (filter (λ q. holds q addr) ps)) (fold longer p (filter (λ q. holds q addr && is_some (round_routing pool tables q a)) ps))) →
          IsBest (fold (λ best q. better_of best q (held_in tables q a)) best (cond v (q ∷ filter (λ q. holds q addr) ps) (filter (λ q. holds q addr) ps)))
          (fold longer p (cond (v && w) (q ∷ filter (λ q. holds q addr && is_some (round_routing pool tables q a)) ps) (filter (λ q. holds q addr && is_some (round_routing pool tables q a)) ps)))
      by false w e go = go best p r
      by true true e go = go _ _ (subst (λ v. IsBest (better_of best q (held_in tables q a)) (cond v (longer p q) p)) (sym e) (step best p q (held_in tables q a) refl r))
      by true false e go = go _ _ (subst (λ v. IsBest (better_of best q (held_in tables q a)) (cond v (longer p q) p)) (sym e) (step best p q (held_in tables q a) refl r))

  no_best : IsBest None None
  no_best = record { prefix = refl; held = λ b e. cc }

  best_is : (plan : Plan) (addr : AddrValue) → IsBest (best_in tables a (holding plan addr)) (sent_by plan (round_routing pool tables) addr a)
  best_is plan addr = subst (IsBest (best_in tables a (holding plan addr))) (reduced (filter (λ q. holds q addr && is_some (round_routing pool tables q a)) (prefixes_of plan))) (chain addr (prefixes_of plan) None None no_best)

  -- the next hop is that of the best entry
  pub next_hop_is : (plan : Plan) (addr : AddrValue) → next_hop plan (round_routing pool tables) addr a ≡ hop_of pool plan a (best_in tables a (holding plan addr))
  next_hop_is plan addr = let r : IsBest (best_in tables a (holding plan addr)) (sent_by plan (round_routing pool tables) addr a) = best_is plan addr in
      ap (hop_by plan (round_routing pool tables) a) r.prefix ∙ by (best_in tables a (holding plan addr)) r.held
    where
      by : (o : Option Best) → ((b : Best) → o ≡ Some b → held_in tables b.prefix a ≡ Some b.held) → hop_by plan (round_routing pool tables) a (option_map (λ b. b.prefix) o) ≡ hop_of pool plan a o
      by None held = refl
      by (Some b) held = ap (λ e. cond (announces plan b.prefix a) Here (option_map_or To (second_of e) NoRoute)) (entry_is b.prefix ∙ ap (option_map (entry_of pool)) (held b refl))

  live_at : (p : PrefixValue) (h : Held) → AreAllLive pool tables → held_in tables p a ≡ Some h → IsLive pool h.path.0
  live_at p h live e = by (table_at tables p) refl e
    where
      by : (t : Option Table) → table_at tables p ≡ t → option_and_then (λ t. held_at t a) t ≡ Some h → IsLive pool h.path.0
      by None q e = cc
      by (Some t) q e = live p t q a h e

  -- the path of the best entry is live
  pub best_live : (plan : Plan) (addr : AddrValue) → AreAllLive pool tables → IfSome (best_in tables a (holding plan addr)) (λ b. IsLive pool b.held.path.0)
  best_live plan addr live = by (best_in tables a (holding plan addr)) (best_is plan addr).held
    where
      by : (o : Option Best) → ((b : Best) → o ≡ Some b → held_in tables b.prefix a ≡ Some b.held) → IfSome o (λ b. IsLive pool b.held.path.0)
      by None held = tt
      by (Some b) held = live_at b.prefix b.held live (held b refl)
