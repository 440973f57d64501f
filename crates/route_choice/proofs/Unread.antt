-- Where a policy does not read states, any states lead to the same choice.
use Rattle.std.proofs.Common.{◌≡◌, ℕ, Bool, true, false, ◌&&◌, not, cond, IsTrue, Option, Some, None, refl, sym, ◌∙◌, ap}
use Rattle.std.specs.Prelude.{is_some, slice_get}
use Rattle.net_names.specs.declared.routes.Rel.{Rel}
use Rattle.net_names.specs.declared.routes.Rel.TheVariants.{Customer, Peer, Provider}
use Rattle.net_names.specs.declared.routes.State.{State}
use Rattle.net_names.specs.Numbers.{occurs, last_or}
use Rattle.net_names.specs.Links.{converse}
use Rattle.policy_laws.specs.Policy.{Policy, IgnoresState, with_state}
use Rattle.policy_laws.specs.declared.policy.View.{View}
use Rattle.as_graph.specs.Topology.{Topology}
use Rattle.stability_laws.specs.declared.entry.Entry.{Entry}
use Rattle.stability_laws.specs.declared.entry.Seed.{Seed}
use Rattle.stability_laws.specs.Book.{PolicyBook, policy_at}
use Rattle.stability_laws.specs.World.{setting}
use Rattle.stability_laws.specs.Offers.{Offer, offer, offer_given, passed_on, view_of}
use Rattle.stability_laws.specs.Stable.{IsBest}
use Rattle.stability_laws.specs.BestView.{IsBestView}
use Rattle.stability_laws.specs.Laws.{if_customer}
use Rattle.route_choice.specs.declared.choice.Part.{Part}
use Rattle.route_choice.specs.declared.choice.Part.TheVariants.{Up, Whole}
use Rattle.route_choice.specs.declared.choice.Choice.TheVariants as choice
use Rattle.route_choice.specs.Choices.{offers_of, IsChoice, state_seen}

-- An offer like o is made: its view differs in the state at most.
record IsMade (made : Option Offer) (o : Offer) : Type 0 where
  like : Offer
  is : made ≡ Some like
  state : State
  view : like.view ≡ with_state o.view state

let_through : (b c : Bool) (x y o : Offer) → c ≡ b → cond b (Some x) None ≡ Some o → (cond c (Some y) None ≡ Some y) × (x ≡ o)
let_through true c x y o e h = (ap (λ t. cond t (Some y) None) e, cc)
let_through false c x y o e h = cc

-- the offer that is made in other states
restated : (sender p : Policy) → IgnoresState p → p.reads_state ≡ false → (st st' : ℕ → State) (n a : ℕ) (relation : Option Rel) (held : Option Entry) (o : Offer) →
    offer_given sender p st n a relation held ≡ Some o → IsMade (offer_given sender p st' n a relation held) o
restated s p ignores unread st st' n a None held o h = cc
restated s p ignores unread st st' n a (Some from) None o h = cc
restated s p ignores unread st st' n a (Some from) (Some e) o h =
    let entry : Entry = passed_on s.marks p.marks n a from e in
    let x : Offer = record { view = view_of s.marks st n from e; entry = entry } in
    let y : Offer = record { view = view_of s.marks st' n from e; entry = entry } in
    let passes : Bool → Bool = λ b. s.exports e.class e.otc (converse from) && (is_some (slice_get e.path 0) && (not (occurs a e.path) && b)) in
    let through = let_through (passes (p.accepts x.view)) (passes (p.accepts y.view)) x y o (ap passes (ignores.accepts unread x.view (st' (last_or 0 e.path)))) h in
    record {
      like = y;
      is = through.0;
      state = st' (last_or 0 e.path);
      view = ap (λ (t : Offer). with_state t.view (st' (last_or 0 e.path))) through.1;
    }

-- an offer that is looked at where the giver is a customer
pub of_customer : (r : Option Rel) (x : Option Offer) (o : Offer) → if_customer r x ≡ Some o → (r ≡ Some Customer) × (x ≡ Some o)
of_customer None x o h = cc
of_customer (Some Customer) x o h = (refl, h)
of_customer (Some Peer) x o h = cc
of_customer (Some Provider) x o h = cc

module _ {P : Type 0} (meaning : P → Policy) (graph : Topology) (book : PolicyBook P) (f : ℕ → Option Entry) (a : ℕ) (ignores : IgnoresState (meaning (policy_at book a))) (unread : (meaning (policy_at book a)).reads_state ≡ false) where
  abbrev offers_in : Part → (ℕ → State) → ℕ → Option Offer
  offers_in part st n = offers_of part (setting meaning graph book st) f a n

  restated_part : (part : Part) (st st' : ℕ → State) (n : ℕ) (o : Offer) → offers_in part st n ≡ Some o → IsMade (offers_in part st' n) o
  restated_part Whole st st' n o h =
      restated (meaning (policy_at book n)) (meaning (policy_at book a)) ignores unread st st' n a ((setting meaning graph book st).relation a n) (f n) o h
  restated_part Up st st' n o h =
      let from = of_customer ((setting meaning graph book st).relation a n) (offer (setting meaning graph book st) f n a) o h in
      let made : IsMade (offer (setting meaning graph book st') f n a) o =
      restated (meaning (policy_at book n)) (meaning (policy_at book a)) ignores unread st st' n a ((setting meaning graph book st).relation a n) (f n) o from.1 in
      record { like = made.like; is = ap (λ r. if_customer r (offer (setting meaning graph book st') f n a)) from.0 ∙ made.is; state = made.state; view = made.view }

  none_too : (part : Part) (st st' : ℕ → State) (n : ℕ) → offers_in part st n ≡ None → offers_in part st' n ≡ None
  none_too part st st' n h = by (offers_in part st' n) refl
    where
      by : (x : Option Offer) → offers_in part st' n ≡ x → offers_in part st' n ≡ None
      by None e = e
      by (Some o) e = let made : IsMade (offers_in part st n) o = restated_part part st' st n o e in let is : offers_in part st n ≡ Some made.like = made.is in cc

  best_too : (part : Part) (st st' : ℕ → State) (n : ℕ) (o : Offer) → IsBest (meaning (policy_at book a)) (offers_in part st) n o →
      (q : Offer) × IsBest (meaning (policy_at book a)) (offers_in part st') n q × (q.view.rel ≡ o.view.rel)
  best_too part st st' n o best =
      let p : Policy = meaning (policy_at book a) in
      let made : IsMade (offers_in part st' n) o = restated_part part st st' n o best.made in (
        made.like,
        record {
          made = made.is;
          first = λ m other given apart.
              let back : IsMade (offers_in part st m) other = restated_part part st' st m other given in
              let there : IsTrue (p.before o.view back.like.view) = best.first m back.like back.is apart in
              let both : p.before (with_state o.view made.state) (with_state back.like.view other.view.state) ≡ p.before o.view back.like.view = ignores.before unread o.view back.like.view made.state other.view.state in
              let other_view : other.view ≡ with_state back.like.view other.view.state = sym (ap (λ v. with_state v other.view.state) back.view) in
              ap (λ v. p.before v other.view) made.view ∙ ap (λ v. p.before (with_state o.view made.state) v) other_view ∙ both ∙ there;
        },
        ap (λ (v : View). v.rel) made.view,
      )

-- what is best by the states that the policy sees is best
pub choice_seen : {P : Type 0} (meaning : P → Policy) (graph : Topology) (book : PolicyBook P) (f : ℕ → Option Entry) (a : ℕ) → IgnoresState (meaning (policy_at book a)) →
    (part : Part) (st : ℕ → State) (reads : Bool) → reads ≡ (meaning (policy_at book a)).reads_state → (seed : Option Seed) → seed ≡ None → (v : View) →
    IsBestView (meaning (policy_at book a)) (λ n. offers_of part (setting meaning graph book (state_seen reads st)) f a n) (Some v) →
    IsChoice (meaning (policy_at book a)) seed (λ n. offers_of part (setting meaning graph book st) f a n) (choice.Via v.neighbour v.rel)
choice_seen meaning graph book f a ignores part st true e seed none v best = (none, (best.0, best.1, ap (λ (w : View). w.rel) best.2))
choice_seen meaning graph book f a ignores part st false e seed none v best =
    let q = best_too meaning graph book f a ignores (sym e) part (state_seen false st) st v.neighbour best.0 best.1 in
    (none, (q.0, q.1, q.2 ∙ ap (λ (w : View). w.rel) best.2))

-- and where there is no offer by those states, there is none
pub nothing_seen : {P : Type 0} (meaning : P → Policy) (graph : Topology) (book : PolicyBook P) (f : ℕ → Option Entry) (a : ℕ) → IgnoresState (meaning (policy_at book a)) →
    (part : Part) (st : ℕ → State) (reads : Bool) → reads ≡ (meaning (policy_at book a)).reads_state →
    ((n : ℕ) → offers_of part (setting meaning graph book (state_seen reads st)) f a n ≡ None) → (n : ℕ) → offers_of part (setting meaning graph book st) f a n ≡ None
nothing_seen meaning graph book f a ignores part st true e none n = none n
nothing_seen meaning graph book f a ignores part st false e none n = none_too meaning graph book f a ignores (sym e) part (state_seen false st) st n (none n)
