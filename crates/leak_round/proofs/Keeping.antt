-- What stands for paths of a pool stands for the same paths in a pool that keeps them.
use Rattle.std.proofs.Common.{◌≡◌, ℕ, ◌+◌, ◌*◌, ◌≤◌, Option, Some, None, option_map, List, refl, sym, ap, ◌∙◌, arith}
use Rattle.std.specs.Prelude.{option_and_then}
use Rattle.net_names.specs.Prefixes.{PrefixValue}
use Rattle.path_pool.specs.declared.path_id.PathId.{PathId}
use Rattle.path_pool.specs.declared.pool.PathPool.{PathPool}
use Rattle.path_pool.specs.Pool.{list_of}
use Rattle.stability_laws.specs.declared.entry.Entry.{Entry}
use Rattle.stability_laws.specs.Plans.{Plan}
use Rattle.route_choice.specs.declared.held.Held.{Held}
use Rattle.route_choice.specs.declared.round_tables.RoundTables.{RoundTables}
use Rattle.route_choice.specs.declared.table.Table.{Table}
use Rattle.route_choice.specs.Resources.{AreEntriesLive}
use Rattle.route_choice.specs.Routings.{entry_of, table_routing}
use Rattle.route_choice.specs.RoundTables.{table_at, round_routing, AreAllLive}
use Rattle.route_choice.specs.Tables.{held_at}
use Rattle.leak_round.specs.declared.announced.Announced.{Announced}
use Rattle.leak_round.specs.Announced.{own_path, AreAnnounced}
use Rattle.leak_round.specs.Growth.{KeepsPaths, GrowsBy, HasRoomFor}
use Rattle.leak_round.specs.Tables.{tables_in, kept_in, AreFull, AreRoundsFull}

pub keeps_itself : (pool : PathPool) → KeepsPaths pool pool
keeps_itself pool = record { live = λ k l. l; lists = λ k l. refl }

pub keeps_on : (a b c : PathPool) → KeepsPaths a b → KeepsPaths b c → KeepsPaths a c
keeps_on a b c h k = record { live = λ i l. k.live i (h.live i l); lists = λ i l. k.lists i (h.live i l) ∙ h.lists i l }

pub grows_on : (a b c : PathPool) (m n k : ℕ) → GrowsBy a b m → GrowsBy b c n → k ≡ m + n → GrowsBy a c k
grows_on a b c m n k g h e = record { cells = omega (arith, g.cells, h.cells, e); counts = λ i. omega (arith, g.counts i, h.counts i, e); limit = h.limit ∙ g.limit }

-- there is room for the tables that are left
pub room_left : (a b : PathPool) (made left all : ℕ) → GrowsBy a b (150000 * made) → HasRoomFor a all → made + left ≤ all → HasRoomFor b left
room_left a b made left all g h few = record { cells = omega (arith, g.cells, g.limit, h.cells, few); counts = λ i. omega (arith, g.counts i, h.counts i, few) }

module _ (old new : PathPool) (keeps : KeepsPaths old new) where
  pub table_kept : (t : Table) → AreEntriesLive old t → (a : ℕ) → table_routing new t a ≡ table_routing old t a
  table_kept t live a = by (held_at t a) refl
    where
      by : (o : Option Held) → held_at t a ≡ o → option_map (entry_of new) o ≡ option_map (entry_of old) o
      by None e = refl
      by (Some h) e = (let with : List ℕ → Option Entry = λ l. Some (record { class = h.class; path = l; otc = h.otc }) in ap with (keeps.lists h.path.0 (live a h e)))

  pub round_kept : (tables : RoundTables) → AreAllLive old tables → (prefix : PrefixValue) (a : ℕ) → round_routing new tables prefix a ≡ round_routing old tables prefix a
  round_kept tables live prefix a = by (table_at tables prefix) refl
    where
      by : (o : Option Table) → table_at tables prefix ≡ o → option_and_then (λ t. table_routing new t a) o ≡ option_and_then (λ t. table_routing old t a) o
      by None e = refl
      by (Some t) e = table_kept t (live prefix t e) a

  pub live_kept : (tables : RoundTables) → AreAllLive old tables → AreAllLive new tables
  live_kept tables live prefix t at a h e = keeps.live h.path.0 (live prefix t at a h e)

  module _ (plan : Plan) where
    pub full_kept : (tables : RoundTables) → AreFull old plan tables → AreFull new plan tables
    full_kept tables h = record { there = h.there; by_prefix = h.by_prefix; live = live_kept tables h.live; size = h.size }

    pub rounds_full_kept : (rounds : List RoundTables) → AreRoundsFull old plan rounds → AreRoundsFull new plan rounds
    rounds_full_kept rounds h round tables at = full_kept tables (h round tables at)

    pub all_kept : (rounds : List RoundTables) → AreRoundsFull old plan rounds → (round : ℕ) (prefix : PrefixValue) (a : ℕ) → kept_in new rounds round prefix a ≡ kept_in old rounds round prefix a
    all_kept rounds full round prefix a = by (tables_in rounds round) refl
      where
        by : (o : Option RoundTables) → tables_in rounds round ≡ o → option_and_then (λ t. round_routing new t prefix a) o ≡ option_and_then (λ t. round_routing old t prefix a) o
        by None e = refl
        by (Some t) e = round_kept t (full round t e).live prefix a

    pub announced_kept : (xs : List Announced) → AreAnnounced old plan xs → AreAnnounced new plan xs
    announced_kept xs h = record {
      live = λ prefix a id e. keeps.live id.0 (h.live prefix a id e);
      each = λ place x at. (let (alive, own) = h.each place x at in (keeps.live x.path.0 alive, own ∙ ap (λ (l : List ℕ). Some l) (sym (keeps.lists x.path.0 alive))));
      paths = λ prefix a known. by prefix a (own_path xs prefix a) refl ∙ h.paths prefix a known;
      few = h.few;
    }
      where
        by : (prefix : PrefixValue) (a : ℕ) (o : Option PathId) → own_path xs prefix a ≡ o → option_map (λ id. list_of new id.0) o ≡ option_map (λ id. list_of old id.0) o
        by prefix a None e = refl
        by prefix a (Some id) e = ap (λ (l : List ℕ). Some l) (keeps.lists id.0 (h.live prefix a id e))
