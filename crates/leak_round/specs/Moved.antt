-- Entries that get paths of their own in another pool.
use Rattle.std.specs.Prelude.{◌≡◌, ℕ, true, IsSome, Option, None, Some, List, ◌∷◌, length, map, slice_get}
use Rattle.net_names.specs.Numbers.{occurs, IsDistinct}
use Rattle.path_pool.specs.declared.pool.PathPool.{PathPool}
use Rattle.path_pool.specs.Pool.{IsLive, list_of}
use Rattle.stability_laws.specs.declared.entry.Entry.{Entry}
use Rattle.stability_laws.specs.declared.entry.Seed.{Seed}
use Rattle.route_choice.specs.declared.held.Held.{Held}
use Rattle.route_choice.specs.declared.held.SeedHeld.{SeedHeld}
use Rattle.route_choice.specs.declared.overlay.Overlay.{Overlay}
use Rattle.route_choice.specs.Tables.{change_at}
use Rattle.leak_round.specs.declared.holders.Holder.{Holder}

-- the ASes of holders
abbrev pub asns_of : List Holder → List ℕ
asns_of xs = map (λ x. x.asn) xs

-- these are the ASes that hold something, each once and with the length of its path
pub record AreHolders (f : ℕ → Option Entry) (xs : List Holder) : Type 0 where
  pub whole : (a : ℕ) → IsSome (f a) → occurs a (asns_of xs) ≡ true
  pub apart : IsDistinct (asns_of xs)
  pub entries : (i : ℕ) (x : Holder) → slice_get xs i ≡ Some x → (e : Entry) × (f x.asn ≡ Some e) × (length e.path ≡ x.length)

-- the AS as one that holds something, with the length of its path, if it does
abbrev pub IsHolder : (ℕ → Option Entry) → ℕ → Option Holder → Type 0
IsHolder f a None = f a ≡ None
IsHolder f a (Some x) = (x.asn ≡ a) × ((e : Entry) × (f a ≡ Some e) × (length e.path ≡ x.length))

-- where the path of an AS comes from: it is that of its seed, or the AS is put before the path of an AS that holds it
abbrev pub ComesFrom : Option Seed → (ℕ → Option Entry) → ℕ → List ℕ → Type 0
ComesFrom (Some s) f a path = path ≡ s.path
ComesFrom None f a path = (n : ℕ) × (e : Entry) × (f n ≡ Some e) × (path ≡ a ∷ e.path) × (slice_get e.path 0 ≡ Some n)

-- each path comes from a seed or from another entry, as in a stable routing (RFC 4271, section 5.1.2)
abbrev pub ArePassedOn : (ℕ → Option Seed) → (ℕ → Option Entry) → Type 0
ArePassedOn seeds f = (a : ℕ) (e : Entry) → f a ≡ Some e → ComesFrom (seeds a) f a e.path

-- the pool has what the path comes from: the path of the seed, or that which the overlay has of the second AS
abbrev pub HasSource : PathPool → Overlay → Option SeedHeld → ℕ → List ℕ → Type 0
HasSource pool made (Some s) a path = IsLive pool s.path.0 × (path ≡ list_of pool s.path.0)
HasSource pool made None a path = (n : ℕ) × (h : Held) × (change_at made n ≡ Some (Some h)) × IsLive pool h.path.0 × (path ≡ a ∷ list_of pool h.path.0) × (slice_get (list_of pool h.path.0) 0 ≡ Some n)
