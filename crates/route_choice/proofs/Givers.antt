-- Who makes an offer exports what it holds.
use Rattle.std.proofs.Common.{◌≡◌, ℕ, Bool, true, false, ◌&&◌, not, cond, Option, Some, None, refl, sym, ◌∙◌, ap}
use Rattle.std.specs.Prelude.{is_some, slice_get}
use Rattle.net_names.specs.declared.routes.Rel.{Rel}
use Rattle.net_names.specs.declared.routes.Rel.TheVariants.{Customer}
use Rattle.net_names.specs.declared.routes.State.{State}
use Rattle.net_names.specs.Links.{converse}
use Rattle.net_names.specs.Numbers.{occurs}
use Rattle.policy_laws.specs.Policy.{Policy}
use Rattle.stability_laws.specs.declared.entry.Entry.{Entry}
use Rattle.stability_laws.specs.Offers.{Setting, Offer, offer, offer_given, view_of}
use Rattle.route_choice.specs.declared.choice.Part.{Part}
use Rattle.route_choice.specs.declared.choice.Part.TheVariants.{Up, Whole}
use Rattle.route_choice.specs.Choices.{offers_of, is_looked_at}
use Rattle.route_choice.proofs.Unread.{of_customer}

-- over a link an entry is held and exported
pub record Exports (s : Policy) (relation : Option Rel) (held : Option Entry) : Type 0 where
  pub from : Rel
  pub entry : Entry
  pub linked : relation ≡ Some from
  pub is : held ≡ Some entry
  pub exported : s.exports entry.class entry.otc (converse from) ≡ true

first_of : (b c : Bool) (o q : Offer) → cond (b && c) (Some o) None ≡ Some q → b ≡ true
first_of true c o q e = refl
first_of false c o q e = cc

pub exports_given : (s r : Policy) (st : ℕ → State) (n a : ℕ) (relation : Option Rel) (held : Option Entry) (o : Offer) → offer_given s r st n a relation held ≡ Some o → Exports s relation held
exports_given s r st n a None held o e = cc
exports_given s r st n a (Some from) None o e = cc
exports_given s r st n a (Some from) (Some d) o e = record {
  from = from;
  entry = d;
  linked = refl;
  is = refl;
  exported = first_of (s.exports d.class d.otc (converse from)) (is_some (slice_get d.path 0) && (not (occurs a d.path) && r.accepts (view_of s.marks st n from d))) _ o e;
}

-- who makes an offer of the part, over which link, and of which entry
pub record Giver (part : Part) (w : Setting) (f : ℕ → Option Entry) (a n : ℕ) : Type 0 where
  pub exports : Exports (w.policy n) (w.relation a n) (f n)
  pub looked : is_looked_at part exports.from ≡ true

pub giver : (part : Part) (w : Setting) (f : ℕ → Option Entry) (a n : ℕ) (o : Offer) → offers_of part w f a n ≡ Some o → Giver part w f a n
giver Whole w f a n o made = record { exports = exports_given (w.policy n) (w.policy a) w.state n a (w.relation a n) (f n) o made; looked = refl }
giver Up w f a n o made =
    let both = of_customer (w.relation a n) (offer w f n a) o made in
    let exports : Exports (w.policy n) (w.relation a n) (f n) = exports_given (w.policy n) (w.policy a) w.state n a (w.relation a n) (f n) o both.1 in
    let customer : Some exports.from ≡ Some Customer = sym exports.linked ∙ both.0 in
    let from : exports.from ≡ Customer = cc in
    record { exports = exports; looked = ap (is_looked_at Up) from }
