-- A table that is moved to another pool.
use Rattle.std.proofs.Common.{◌≡◌, ℕ, ◌≤◌, Bool, true, cond, Option, Some, None, option_map, List, length, refl, sym, ap, subst, ◌∙◌, arith}
use Rattle.std.specs.Prelude.{IsSome, is_some, option_and_then}
use Rattle.std.proofs.lemmas.List.{length-map}
use Rattle.net_names.specs.Numbers.{occurs}
use Rattle.net_names.specs.Prefixes.{PrefixValue}
use Rattle.path_pool.specs.declared.pool.PathPool.{PathPool}
use Rattle.stability_laws.specs.declared.entry.Entry.{Entry}
use Rattle.stability_laws.specs.Plans.{Plan}
use Rattle.route_choice.specs.declared.held.Held.{Held}
use Rattle.route_choice.specs.declared.held.SeedHeld.{SeedHeld}
use Rattle.route_choice.specs.declared.overlay.Overlay.{Overlay}
use Rattle.route_choice.specs.declared.round_tables.RoundTables.{RoundTables}
use Rattle.route_choice.specs.declared.seeds.SeedIds.{SeedIds}
use Rattle.route_choice.specs.declared.table.Table.{Table}
use Rattle.route_choice.specs.Resources.{AreEntriesLive, AreSeedsLive}
use Rattle.route_choice.specs.Routings.{entry_of, seed_of, seeds_of, table_routing}
use Rattle.route_choice.specs.RoundTables.{table_at}
use Rattle.route_choice.specs.Tables.{change_at, seed_at}
use Rattle.leak_round.specs.declared.holders.Holder.{Holder}
use Rattle.leak_round.specs.Entries.{HasEntries}
use Rattle.leak_round.specs.Growth.{KeepsPaths}
use Rattle.leak_round.specs.Moved.{asns_of, AreHolders}
use Rattle.leak_round.specs.Overlays.{table_in, AreFew}
use Rattle.leak_round.specs.Tables.{kept_in, tables_in, AreRoundsFull}
use Rattle.leak_round.proofs.Counting.{apart_numbers, stands_occurs}
use Rattle.leak_round.proofs.Moves.{holder_of}

module _ (pool : PathPool) (rounds : List RoundTables) (round : ℕ) (prefix : PrefixValue) (table : Table) (at : table_in rounds round prefix ≡ Some table) where
  -- what is kept is what the table holds
  pub kept_at : (a : ℕ) → kept_in pool rounds round prefix a ≡ table_routing pool table a
  kept_at a = by (tables_in rounds round) refl at
    where
      by : (o : Option RoundTables) → tables_in rounds round ≡ o → option_and_then (λ t. table_at t prefix) o ≡ Some table → option_and_then (λ t. option_and_then (λ x. table_routing pool x a) (table_at t prefix)) o ≡ table_routing pool table a
      by None is e = cc
      by (Some t) is e = ap (option_and_then (λ (x : Table). table_routing pool x a)) e

  pub live_at : (plan : Plan) → AreRoundsFull pool plan rounds → AreEntriesLive pool table
  live_at plan full = by (tables_in rounds round) refl at
    where
      by : (o : Option RoundTables) → tables_in rounds round ≡ o → option_and_then (λ t. table_at t prefix) o ≡ Some table → AreEntriesLive pool table
      by None is e = cc
      by (Some t) is e = (full round t is).live prefix table e

-- the seeds are the same where the pool keeps its paths
pub seeds_still : (old new : PathPool) (seeds : SeedIds) → AreSeedsLive old seeds → KeepsPaths old new → (a : ℕ) → seeds_of new seeds a ≡ seeds_of old seeds a
seeds_still old new seeds live keeps a = by (seed_at seeds a) refl
  where
    by : (o : Option SeedHeld) → seed_at seeds a ≡ o → option_map (seed_of new) o ≡ option_map (seed_of old) o
    by None e = refl
    by (Some s) e = ap (λ (l : List ℕ). Some (record { path = l; otc = s.otc })) (keeps.lists s.path.0 (live a s e))

module _ (f : ℕ → Option Entry) (xs : List Holder) (holders : AreHolders f xs) where
  pub all_hold : (a : ℕ) → occurs a (asns_of xs) ≡ true → IsSome (f a)
  all_hold a o =
      let (i, x, at, same) = holder_of xs a o in
      let (e, held, long) = holders.entries i x at in
      ap is_some (ap f (sym same) ∙ held)

  -- they have places in an overlay for the ASes among which they are
  pub have_places : (made : Overlay) (ases : List ℕ) → ((a : ℕ) → change_at made a ≡ cond (occurs a ases) (Some None) None) → ((a : ℕ) → IsSome (f a) → occurs a ases ≡ true) → (a : ℕ) → occurs a (asns_of xs) ≡ true → IsSome (change_at made a)
  have_places made ases blank among a o = subst IsSome (sym (blank a ∙ ap (λ (b : Bool). cond b (Some None) None) (among a (all_hold a o)))) refl

  pub few_hold : AreFew f → length xs ≤ 150000
  few_hold few = let n = few (asns_of xs) holders.apart all_hold in omega (arith, n, length-map xs (λ (x : Holder). x.asn))

  -- there are as many entries
  pub holders_counted : (g : ℕ → Option Entry) → ((a : ℕ) → g a ≡ f a) → (n : ℕ) → n ≤ length xs → HasEntries g n
  holders_counted g same n most = record {
    places = asns_of xs;
    apart = apart_numbers (asns_of xs) holders.apart;
    entries = λ a s. subst IsSome (sym (same a)) (all_hold a (stands_occurs (asns_of xs) a s));
    enough = omega (arith, most, length-map xs (λ (x : Holder). x.asn));
  }

pub routed : (pool : PathPool) (o : Option Held) → IsSome o → IsSome (option_map (entry_of pool) o)
routed pool None h = h
routed pool (Some x) h = refl
