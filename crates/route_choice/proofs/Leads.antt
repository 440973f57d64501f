-- The best offer of plain providers, and the entry that it makes.
use Rattle.std.proofs.Common.{◌≡◌, ◌≢◌, Ordering, Less, Equal, Greater, ℕ, suc, ◌+◌, ◌*◌, ◌≤◌, Bool, true, false, ◌&&◌, not, cond, ◌==◌, inl, inr, Option, Some, None, option_map, subst, List, [], ◌∷◌, ◌<◌, length, arith, refl, sym, ◌∙◌, ap}
use Rattle.std.specs.Prelude.{is_some, slice_get, IsSome, IsSomeAnd}
use Rattle.std.proofs.lemmas.Bool.{or_cases, eqb-true}
use Rattle.std.specs.Ordering.{nat_cmp, is_lt, ordering_then, MatchOrdering}
use Rattle.std.specs.Cmp.{nat_cmp_is, ranks}
use Rattle.std.specs.Cmp.Lexicographic.{slice_cmp}
use Rattle.net_names.specs.declared.routes.Class.TheVariants as class
use Rattle.net_names.specs.declared.routes.Rel.{Rel}
use Rattle.net_names.specs.declared.routes.Rel.TheVariants.{Customer, Provider}
use Rattle.net_names.specs.declared.routes.State.{State}
use Rattle.net_names.specs.Links.{converse}
use Rattle.net_names.specs.Numbers.{last_or, occurs}
use Rattle.policy_laws.specs.Policy.{Policy}
use Rattle.policy_laws.specs.Plain.{SendsPlainly, TakesNone, TakesPlainly, provider_key}
use Rattle.policy_laws.specs.declared.policy.View.{View}
use Rattle.as_graph.specs.declared.neighbour.Neighbour.{Neighbour}
use Rattle.as_graph.specs.Neighbours.{asns}
use Rattle.path_pool.specs.declared.pool.PathPool.{PathPool}
use Rattle.path_pool.specs.Pool.{list_of}
use Rattle.stability_laws.specs.declared.entry.Entry.{Entry}
use Rattle.stability_laws.specs.BestView.{better_of}
use Rattle.stability_laws.specs.Offers.{Setting, Offer, offer, offer_given, passed_on, view_of, marked}
use Rattle.stability_laws.specs.Stable.{IsRightGiven}
use Rattle.stability_laws.proofs.Verdicts.{entry_of}
use Rattle.route_choice.specs.declared.choice.Part.TheVariants.{Whole}
use Rattle.route_choice.specs.declared.held.Held.{Held}
use Rattle.route_choice.specs.declared.plain.Lead.{Lead}
use Rattle.route_choice.specs.Slots.{over}
use Rattle.route_choice.specs.Routings.{entry_of as held_entry}
use Rattle.route_choice.specs.Leads.{ArePlainSenders, IsLead, IsLeadOn, IsLeadWith, IsOffered, IsSeenAs}
use Rattle.route_choice.specs.Rows.{number_in}
use Rattle.route_choice.specs.declared.plain.TheConstants.{NOBODY}
use Rattle.route_choice.proofs.Givers.{Giver, giver}

-- a list that is not empty has a first item
first_there : (xs : List ℕ) → 0 < length xs → is_some (slice_get xs 0) ≡ true
first_there [] h = absurd (omega arith)
first_there (x ∷ xs) h = refl

-- a plain provider offers a plain AS what it holds, where the path is not empty and not through the AS
provider_offers : (s r : Policy) (test : State → Type 0) → SendsPlainly s → TakesPlainly r test → (st : ℕ → State) (n a : ℕ) (e : Entry) → test (st (last_or 0 e.path)) → is_some (slice_get e.path 0) ≡ true → occurs a e.path ≡ false →
    option_map (λ o. o.view) (offer_given s r st n a (Some Provider) (Some e)) ≡ Some (view_of s.marks st n Provider e)
provider_offers s r test from own st n a e passes some out =
    let view : View = view_of s.marks st n Provider e in
    let made : Offer = record { view = view; entry = passed_on s.marks r.marks n a Provider e } in
    let all : s.exports e.class e.otc Customer && (is_some (slice_get e.path 0) && (not (occurs a e.path) && r.accepts view)) ≡ true =
    (λ i. from.to_customers e.class e.otc i && (some i && (not (out i) && own.accepts view refl passes i))) in
    ap (λ b. option_map (λ (o : Offer). o.view) (cond b (Some made) None)) all

-- as one number, a length and a number behind it are in the order of the two
keys_alike : (a b m n x y : ℕ) → m < 4294967296 → n < 4294967296 → x ≡ a * 4294967296 + m → y ≡ b * 4294967296 + n → slice_cmp nat_cmp ((a + 1) ∷ m ∷ []) ((b + 1) ∷ n ∷ []) ≡ nat_cmp x y
keys_alike a b m n x y small small' is is' = nat_cmp_is x y (slice_cmp nat_cmp ((a + 1) ∷ m ∷ []) ((b + 1) ∷ n ∷ [])) (by (nat_cmp (a + 1) (b + 1)) (nat_cmp m n) (ranks (a + 1) (b + 1)) (ranks m n))
  where
    by : (o q : Ordering) → MatchOrdering o (a + 1 < b + 1) (a + 1 ≡ b + 1) (b + 1 < a + 1) → MatchOrdering q (m < n) (m ≡ n) (n < m) → MatchOrdering (ordering_then o (ordering_then q Equal)) (x < y) (x ≡ y) (y < x)
    by Less q lt other = omega (arith, lt, small, small', is, is')
    by Equal Less eq lt = omega (arith, eq, lt, is, is')
    by Equal Equal eq eq' = omega (arith, eq, eq', is, is')
    by Equal Greater eq gt = omega (arith, eq, gt, is, is')
    by Greater q gt other = omega (arith, gt, small, small', is, is')

-- a lead of somebody comes before that of nobody
under : (pool : PathPool) (n : ℕ) (h : Held) (l : Lead) → IsLeadOn pool n h l → l.key < NOBODY
under pool n h l on = omega (arith, on.key, on.short, on.small)

module _ (test : State → Type 0) (p : Policy) (own : TakesPlainly p test) (pool : PathPool) (held : ℕ → Option Held) where
  -- the plain policy compares providers' offers as leads are compared
  leads_compare : (x y : View) (new old : Lead) → IsSeenAs test pool held new (Some x) → IsSeenAs test pool held old (Some y) → p.before x y ≡ is_lt (nat_cmp new.key old.key)
  leads_compare x y new old (h, (holds, (on, (rel, (len, st))))) (h', (holds', (on', (rel', (len', st'))))) =
      own.before x y rel rel' st st'
      ∙ (λ i. is_lt (slice_cmp nat_cmp (provider_key (record x { length = len i })) (provider_key (record y { length = len' i }))))
      ∙ ap is_lt (keys_alike (length (list_of pool h.path.0)) (length (list_of pool h'.path.0)) x.neighbour y.neighbour new.key old.key on.small on'.small on.key on'.key)

  pub leads_weighed : (old new l : Lead) (v x : Option View) → (new.key < old.key → l ≡ new) → (old.key ≤ new.key → l ≡ old) → IsSeenAs test pool held old v → IsSeenAs test pool held new x → IsSeenAs test pool held l (better_of p v x)
  leads_weighed old new l None None first second seen is = ap (λ (t : Lead). t.key) (second (omega (arith, seen, is))) ∙ seen
  leads_weighed old new l None (Some x) first second seen is =
      let lower : new.key < NOBODY = under pool x.neighbour is.0 new is.1.1.0 in
      subst (λ t. IsSeenAs test pool held t (Some x)) (sym (first (omega (arith, seen, lower)))) is
  leads_weighed old new l (Some y) None first second seen is =
      let lower : old.key < NOBODY = under pool y.neighbour seen.0 old seen.1.1.0 in
      subst (λ t. IsSeenAs test pool held t (Some y)) (sym (second (omega (arith, is, lower)))) seen
  leads_weighed old new l (Some y) (Some x) first second seen is = both (p.before x y) (nat_cmp new.key old.key) (leads_compare x y new old is seen) (ranks new.key old.key)
    where
      both : (b : Bool) (o : Ordering) → b ≡ is_lt o → MatchOrdering o (new.key < old.key) (new.key ≡ old.key) (old.key < new.key) → IsSeenAs test pool held l (cond b (Some x) (Some y))
      both true Less e lt = subst (λ t. IsSeenAs test pool held t (Some x)) (sym (first lt)) is
      both false Less e lt = cc
      both true Equal e eq = cc
      both false Equal e eq = subst (λ t. IsSeenAs test pool held t (Some y)) (sym (second (omega (arith, eq)))) seen
      both true Greater e gt = cc
      both false Greater e gt = subst (λ t. IsSeenAs test pool held t (Some y)) (sym (second (omega (arith, gt)))) seen

-- what a plain provider holds is seen by a plain AS as its lead says
pub lead_seen : (test : State → Type 0) (w : Setting) (pool : PathPool) (held : ℕ → Option Held) (a n : ℕ) (l : Lead) → TakesPlainly (w.policy a) test → SendsPlainly (w.policy n) → w.relation a n ≡ Some Provider →
    ((h : Held) → held n ≡ Some h → test (w.state (last_or 0 (list_of pool h.path.0)))) →
    ((h : Held) → held n ≡ Some h → (0 < length (list_of pool h.path.0)) × (occurs a (list_of pool h.path.0) ≡ false)) → IsLeadWith pool n (held n) l →
    IsSeenAs test pool held l (option_map (λ (o : Offer). o.view) (offer w (λ m. option_map (held_entry pool) (held m)) n a))
lead_seen test w pool held a n l own from linked passes fits with = by (held n) refl with
  where
    by : (h : Option Held) → held n ≡ h → IsLeadWith pool n h l → IsSeenAs test pool held l (option_map (λ (o : Offer). o.view) (offer w (λ m. option_map (held_entry pool) (held m)) n a))
    by None none is =
        subst (λ (o : Option Offer). IsSeenAs test pool held l (option_map (λ (x : Offer). x.view) o))
        (λ i. offer_given (w.policy n) (w.policy a) w.state n a (sym linked i) (option_map (held_entry pool) (sym none i))) is
    by (Some h) some is =
        let e : Entry = held_entry pool h in
        let (there, out) = fits h some in
        let made : option_map (λ (o : Offer). o.view) (offer w (λ m. option_map (held_entry pool) (held m)) n a) ≡ Some (view_of (w.policy n).marks w.state n Provider e) =
        (λ i. option_map (λ (o : Offer). o.view) (offer_given (w.policy n) (w.policy a) w.state n a (linked i) (option_map (held_entry pool) (some i))))
        ∙ provider_offers (w.policy n) (w.policy a) test from own w.state n a e (passes h some) (first_there e.path there) out in
        subst (IsSeenAs test pool held l) (sym made) (h, (some, (is, (refl, (refl, passes h some)))))

-- without a number that is sent, and where neither end marks, the number is kept
kept_number : (n : ℕ) (to : Rel) (otc : Option ℕ) → marked false n to otc ≡ otc
kept_number n to None = refl
kept_number n to (Some x) = refl

-- the entry of a plain provider's offer to a plain AS
pub plainly_passed : (s r : Policy) (test : State → Type 0) → SendsPlainly s → TakesPlainly r test → (n a : ℕ) (e : Entry) → passed_on s.marks r.marks n a Provider e ≡ record { class = class.Provider; path = a ∷ e.path; otc = e.otc }
plainly_passed s r test from own n a e =
    let with : Bool → Bool → Entry = λ b c. passed_on b c n a Provider e in
    (λ i. with (from.unmarked i) (own.unmarked i))
    ∙ ap (λ (o : Option ℕ). let x : Entry = record { class = class.Provider; path = a ∷ e.path; otc = o } in x) (kept_number n Customer (marked false n Customer e.otc) ∙ kept_number n Customer e.otc)

-- What a lead stands for: a provider holds an entry, and with that entry passed on the AS is right.
pub record IsTaken (w : Setting) (pool : PathPool) (held : ℕ → Option Held) (a : ℕ) (l : Lead) : Type 0 where
  pub giver : ℕ
  pub entry : Held
  pub holds : held giver ≡ Some entry
  pub path : entry.path ≡ l.path
  pub right : IsRightGiven (w.policy a) None (λ m. offer w (λ n. option_map (held_entry pool) (held n)) m a) (Some (record { class = class.Provider; path = a ∷ list_of pool l.path.0; otc = number_in l.otc }))

pub lead_taken : (test : State → Type 0) (w : Setting) (pool : PathPool) (held : ℕ → Option Held) (a : ℕ) (l : Lead) → TakesPlainly (w.policy a) test →
    ((n : ℕ) (o : Offer) → offer w (λ m. option_map (held_entry pool) (held m)) n a ≡ Some o → SendsPlainly (w.policy n)) →
    IsLead test (w.policy a) pool held (λ n. offer w (λ m. option_map (held_entry pool) (held m)) n a) l → l.key ≢ NOBODY → IsTaken w pool held a l
lead_taken test w pool held a l own plain (None, (best, seen)) some = absurd (some seen)
lead_taken test w pool held a l own plain (Some v, ((o, best, is), (h, (holds, (on, (rel, len)))))) some =
    let n : ℕ = v.neighbour in
    let f : ℕ → Option Entry = λ m. option_map (held_entry pool) (held m) in
    let by : Giver Whole w f a n = giver Whole w f a n o best.made in
    let e : Entry = by.exports.entry in
    let passed : o.entry ≡ passed_on (w.policy n).marks (w.policy a).marks n a o.view.rel e = entry_of (w.policy n) (w.policy a) w.state n a (w.relation a n) (f n) o e best.made by.exports.is in
    let as_provider : o.view.rel ≡ Provider = ap (λ (x : View). x.rel) is ∙ rel in
    let there : f n ≡ Some (held_entry pool h) = ap (option_map (held_entry pool)) holds in
    let given : f n ≡ Some e = by.exports.is in
    let same : e ≡ held_entry pool h = cc in
    let longer : Entry → Entry = λ x. record { class = class.Provider; path = a ∷ x.path; otc = x.otc } in
    record {
      giver = n;
      entry = h;
      holds = holds;
      path = on.path;
      right = (
        n,
        o,
        best,
        sym (passed ∙ ap (λ r. passed_on (w.policy n).marks (w.policy a).marks n a r e) as_provider ∙ plainly_passed (w.policy n) (w.policy a) test (plain n o best.made) own n a e ∙ ap longer same
            ∙ (λ i. let x : Entry = record { class = class.Provider; path = a ∷ list_of pool (on.path i).0; otc = on.otc i } in x)),
      );
    }

-- without a lead there is no offer
pub no_lead : (test : State → Type 0) (p : Policy) (pool : PathPool) (held : ℕ → Option Held) (offers : ℕ → Option Offer) (l : Lead) → IsLead test p pool held offers l → l.key ≡ NOBODY → (n : ℕ) → offers n ≡ None
no_lead test p pool held offers l (None, (best, seen)) none = best
no_lead test p pool held offers l (Some v, (best, (h, (holds, (on, is))))) none = (let lower : l.key < NOBODY = under pool v.neighbour h l on in absurd (omega (arith, lower, none)))

-- a provider of the list sends as the plain policy does
pub plain_among : (policy : ℕ → Policy) (xs : List Neighbour) (n : ℕ) → ArePlainSenders policy xs → occurs n (asns xs) ≡ true → SendsPlainly (policy n)
plain_among policy [] n all is = (let e : false ≡ true = is in cc)
plain_among policy (x ∷ xs) n all is = elim (or_cases (x.asn == n) (occurs n (asns xs)) is) [
  | inl e ↦ subst (λ m. SendsPlainly (policy m)) (eqb-true x.asn n e) (all 0 x (omega arith)).1
  | inr e ↦ plain_among policy xs n (λ k d lt. all (suc k) d (omega (arith, lt))) e
]

-- a change that was put is what is held
pub put_there : {Y : Type 0} (f : Held → Y) (x : Option (Option Held)) (below : Option Held) (y : Option Y) → IsSomeAnd x (λ e. option_map f e ≡ y) → option_map f (over x below) ≡ y
put_there f None below y put = absurd put
put_there f (Some e) below y put = put

pub put_some : {X : Type 0} (P : X → Type 0) (x : Option X) → IsSomeAnd x P → IsSome x
put_some P None put = absurd put
put_some P (Some e) put = refl

-- who takes offers of some states plainly takes those of fewer states plainly
pub takes_within : (p : Policy) (test fewer : State → Type 0) → ((s : State) → fewer s → test s) → TakesPlainly p test → TakesPlainly p fewer
takes_within p test fewer within own = record {
  accepts = λ v r s. own.accepts v r (within v.state s);
  before = λ x y r r' s s'. own.before x y r r' (within x.state s) (within y.state s');
  unmarked = own.unmarked;
}

-- where the states of all entries' origins pass the test, those that are offered do
pub offered_within : (w : Setting) (f : ℕ → Option Entry) (a : ℕ) (test : State → Type 0) → ((n : ℕ) (e : Entry) → f n ≡ Some e → test (w.state (last_or 0 e.path))) → (s : State) → IsOffered w f a s → test s
offered_within w f a test all s (n, (e, (linked, (holds, is)))) = subst test is (all n e holds)

-- a conjunction whose last part is false
all_false : (x y z : Bool) → (x && (y && (z && false))) ≡ false
all_false false y z = refl
all_false true false z = refl
all_false true true false = refl
all_false true true true = refl

-- who takes no offer of the state of what is held gets no offer of it
no_offer_given : (s r : Policy) (st : ℕ → State) (n a : ℕ) (from : Option Rel) (h : Option Entry) (test : State → Type 0) → ((e : Entry) → h ≡ Some e → test (st (last_or 0 e.path))) → TakesNone r test → offer_given s r st n a from h ≡ None
no_offer_given s r st n a None h test all none = refl
no_offer_given s r st n a (Some from) None test all none = refl
no_offer_given s r st n a (Some from) (Some e) test all none =
    let view : View = view_of s.marks st n from e in
    let made : Offer = record { view = view; entry = passed_on s.marks r.marks n a from e } in
    let no : (s.exports e.class e.otc (converse from) && (is_some (slice_get e.path 0) && (not (occurs a e.path) && r.accepts view))) ≡ false =
    ap (λ c. s.exports e.class e.otc (converse from) && (is_some (slice_get e.path 0) && (not (occurs a e.path) && c))) (none view (all e refl))
    ∙ all_false (s.exports e.class e.otc (converse from)) (is_some (slice_get e.path 0)) (not (occurs a e.path)) in
    ap (λ b. cond b (Some made) None) no

-- who takes no offer of the states of all entries' origins gets no offer
pub no_offers : (w : Setting) (f : ℕ → Option Entry) (a : ℕ) (test : State → Type 0) → ((n : ℕ) (e : Entry) → f n ≡ Some e → test (w.state (last_or 0 e.path))) → TakesNone (w.policy a) test → (n : ℕ) → offer w f n a ≡ None
no_offers w f a test all none n = no_offer_given (w.policy n) (w.policy a) w.state n a (w.relation a n) (f n) test (all n) none
