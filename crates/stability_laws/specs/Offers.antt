-- Which offer one AS makes to another.
use denote.Enum.Bare.{sameb}
use Rattle.std.specs.Prelude.{◌≡◌, ℕ, ◌+◌, Bool, not, ◌&&◌, if◌then◌else◌, Option, None, Some, is_some, ◌∷◌, length, slice_get}
use Rattle.std.specs.Bool.{then_some}
use Rattle.std.specs.Option.{option_or}
use Rattle.net_names.specs.contracts.routes.Rel.{the_type as rel}
use Rattle.net_names.specs.declared.routes.Rel.{Rel}
use Rattle.net_names.specs.declared.routes.Rel.TheVariants.{Provider}
use Rattle.net_names.specs.declared.routes.State.{State}
use Rattle.policy_laws.specs.declared.policy.View.{View}
use Rattle.policy_laws.specs.Policy.{Policy}
use Rattle.net_names.specs.Links.{converse}
use Rattle.net_names.specs.Numbers.{occurs, last_or}
use Rattle.stability_laws.specs.declared.entry.Entry.{Entry}
use Rattle.stability_laws.specs.Entries.{class_of}

-- what stability at one prefix reads of a world: which numbers are ASes, what the second AS is to
-- the first, the policy of each AS, and the state of the prefix with each origin
pub record Setting : Type 0 where
  pub has : ℕ → Bool
  pub relation : ℕ → ℕ → Option Rel
  pub policy : ℕ → Policy
  pub state : ℕ → State

-- the number of a route on its way from AS n to one that is `to` to it, after an end of that link
-- that marks routes or does not: the number that it has; else n, where that end marks and the
-- receiver is a customer or a peer of n (RFC 9234, section 5, rule 1 on sending and rule 3 on
-- receipt); `sameb` says whether two are the same
abbrev pub marked : Bool → ℕ → Rel → Option ℕ → Option ℕ
marked marks n to otc = option_or otc (then_some (marks && not (sameb rel to Provider)) n)

-- an offer: what the receiver's policy sees of it, and the entry that the receiver would hold (RFC 4271, section 9.1)
pub record Offer : Type 0 where
  pub view : View
  pub entry : Entry

-- what an AS to which n is `from` sees of n's entry: the relation, the neighbour, the length of the
-- path with itself put before it, the state of the prefix with the path's last number, and the
-- number that is sent (RFC 4271, section 9.1.2; RFC 6811, section 2; RFC 9234, section 5)
abbrev pub view_of : Bool → (ℕ → State) → ℕ → Rel → Entry → View
view_of marks state n from e = record { rel = from; neighbour = n; length = length e.path + 1; state = state (last_or 0 e.path); otc = marked marks n (converse from) e.otc }

-- the entry that AS a would hold of n's entry: its class names what n is, its path is a followed by
-- n's path, and its number is the one that a keeps (RFC 4271, section 5.1.2; RFC 9234, section 5)
abbrev pub passed_on : Bool → Bool → ℕ → ℕ → Rel → Entry → Entry
passed_on n_marks a_marks n a from e = record { class = class_of from; path = a ∷ e.path; otc = marked a_marks n (converse from) (marked n_marks n (converse from) e.otc) }

-- the offer that n, with the policy s, makes to a, with the policy r, given the states, what n is
-- to a, and what n holds: there is one where there is a link and an entry, n exports the entry to
-- what a is to n, its path is not empty, a does not stand in its path, and a accepts the view (Gao
-- and Rexford 2001; RFC 4271, section 9.1, and section 9.1.2 on AS loops)
abbrev pub offer_given : Policy → Policy → (ℕ → State) → ℕ → ℕ → Option Rel → Option Entry → Option Offer
offer_given s r state n a (Some from) (Some e) = let view = view_of s.marks state n from e in
    if s.exports e.class e.otc (converse from) && (is_some (slice_get e.path 0) && (not (occurs a e.path) && r.accepts view))
    then Some (record { view = view; entry = passed_on s.marks r.marks n a from e }) else None
offer_given s r state n a from held = None

-- the offer that n makes to a in the routing f (RFC 4271, section 9.1)
abbrev pub offer : Setting → (ℕ → Option Entry) → ℕ → ℕ → Option Offer
offer w f n a = offer_given (w.policy n) (w.policy a) w.state n a (w.relation a n) (f n)

-- an offer of n comes over a link, and its view and its class name what n is
pub record GivenBy (relation : Option Rel) (n : ℕ) (o : Offer) : Type 0 where
  pub from : Rel
  pub linked : relation ≡ Some from
  pub rel : o.view.rel ≡ from
  pub neighbour : o.view.neighbour ≡ n
  pub class : o.entry.class ≡ class_of from
