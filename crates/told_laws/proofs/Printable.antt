-- Where seeds and ASes can be printed, so can all that a stable routing holds.
use Rattle.std.proofs.Common.{◌≡◌, ℕ, zero, suc, ◌<◌, Bool, true, false, ◌&&◌, nat_lt, nat_le, Option, Some, None, List, length, if◌then◌else◌, refl, sym, ap, subst, ◌∙◌, arith}
use Rattle.std.specs.Prelude.{IfSome, IsTrue}
use Rattle.std.specs.Bool.{then_some}
use Rattle.std.proofs.lemmas.Bool.{leb-true}
use Rattle.net_names.specs.Links.{converse}
use Rattle.net_names.specs.Prefixes.{PrefixValue}
use Rattle.net_names.specs.declared.routes.Rel.{Rel}
use Rattle.net_names.specs.declared.routes.State.{State}
use Rattle.policy_laws.specs.Policy.{Policy, is_own_or_customers}
use Rattle.stability_laws.specs.declared.entry.Entry.{Entry}
use Rattle.stability_laws.specs.declared.entry.Seed.{Seed}
use Rattle.stability_laws.specs.Entries.{seed_entry}
use Rattle.stability_laws.specs.Offers.{Offer, Setting, marked, offer, offer_given, passed_on}
use Rattle.stability_laws.specs.Plans.{announced_path, has_prefix, leaks_in}
use Rattle.stability_laws.specs.Rounds.{seed_given, seeds_of}
use Rattle.stability_laws.specs.Stable.{IsRightGiven, IsStable}
use Rattle.sim_core.specs.Kept.{Kept, IsKept}
use Rattle.sim_core.specs.World.{World, setting_of}
use Rattle.table_check.specs.Printed.{IsAsn, IsPrintable}
use Rattle.told_laws.specs.Printable.{HeldEntriesArePrintable, IsPath, IsPrintableWorld}

-- ---- offers

when : (b : Bool) (x o : Offer) → (if b then Some x else None) ≡ Some o → x ≡ o
when true x o h = cc
when false x o h = cc

given_by : (s r : Policy) (state : ℕ → State) (n a : ℕ) (rel : Option Rel) (held : Option Entry) (o : Offer) → offer_given s r state n a rel held ≡ Some o
    → (from : Rel) × (d : Entry) × (held ≡ Some d) × (o.entry ≡ passed_on s.marks r.marks n a from d)
given_by s r state n a None held o h = cc
given_by s r state n a (Some from) None o h = cc
given_by s r state n a (Some from) (Some d) o h = (from, d, refl, ap (λ (x : Offer). x.entry) (sym (when _ _ o h)))

then_asn : (b : Bool) (n : ℕ) → IsAsn n → IfSome (then_some b n) IsAsn
then_asn true n is = is
then_asn false n is = tt

marked_asn : (marks : Bool) (n : ℕ) (to : Rel) (otc : Option ℕ) → IsAsn n → IfSome otc IsAsn → IfSome (marked marks n to otc) IsAsn
marked_asn marks n to (Some m) is had = had
marked_asn marks n to None is had = then_asn _ n is

-- ---- one routing

-- a seed can be printed
pub record IsGood (s : Seed) : Type 0 where
  pub path : IsPath s.path
  pub otc : IfSome s.otc IsAsn

module _ (w : Setting) (asns : (a : ℕ) → w.has a ≡ true → IsAsn a) (seeds : ℕ → Option Seed) (good : (a : ℕ) (s : Seed) → seeds a ≡ Some s → IsGood s) (f : ℕ → Option Entry) (stable : IsStable w seeds f) where
  holder : (a : ℕ) (e : Entry) → f a ≡ Some e → w.has a ≡ true
  holder a e held = by (w.has a) refl
    where
      by : (b : Bool) → w.has a ≡ b → b ≡ true
      by true is = refl
      by false is = absurd (let none : None ≡ Some e = sym (stable.only_ases a is) ∙ held in cc)

  by_length : (n a : ℕ) (e : Entry) → length e.path < n → f a ≡ Some e → IsPrintable e
  by_length zero a e less held = absurd (omega (arith, less))
  by_length (suc n) a e less held =
      by (seeds a) refl (subst (λ o. IsRightGiven (w.policy a) (seeds a) (λ m. offer w f m a) o) held (stable.right a (holder a e held))) (λ m d short there. by_length n m d short there)
    where
      by : (s : Option Seed) → seeds a ≡ s → IsRightGiven (w.policy a) s (λ m. offer w f m a) (Some e) → ((m : ℕ) (d : Entry) → length d.path < n → f m ≡ Some d → IsPrintable d) → IsPrintable e
      by (Some s) is r more =
          let same : e ≡ seed_entry s = cc in
          let g = good a s is in
          subst IsPrintable (sym same) (record { some = g.path.0; path = g.path.1; otc = g.otc })
      by None is (m, o, best, same) more =
          let (from, d, there, passed) = given_by (w.policy m) (w.policy a) w.state m a (w.relation a m) (f m) o best.made in
          let whole = same ∙ passed in
          let long : length e.path ≡ suc (length d.path) = ap (λ (x : Entry). length x.path) whole in
          let p = more m d (omega (arith, long, less)) there in
          let n_asn = asns m (holder m d there) in
          subst IsPrintable (sym whole) (record {
            some = omega arith;
            path = (asns a (holder a e held), p.path);
            otc = marked_asn (w.policy a).marks m (converse from) (marked (w.policy m).marks m (converse from) d.otc) n_asn (marked_asn (w.policy m).marks m (converse from) d.otc n_asn p.otc);
          })

  pub all_printable : (a : ℕ) (e : Entry) → f a ≡ Some e → IsPrintable e
  all_printable a e held = by_length (suc (length e.path)) a e (omega arith) held

-- ---- all rounds

seed_good : (announced : Option (List ℕ)) (leaks : Bool) (held : Option Entry) (s : Seed) → ((path : List ℕ) → announced ≡ Some path → IsPath path) → ((d : Entry) → leaks ≡ true → held ≡ Some d → IsPrintable d)
    → seed_given announced leaks held ≡ Some s → IsGood s
seed_good (Some path) leaks held s own before h = let same : record { path = path; otc = None } ≡ s = cc in subst IsGood same (record { path = own path refl; otc = tt })
seed_good None false held s own before h = cc
seed_good None true None s own before h = cc
seed_good None true (Some d) s own before h = by (is_own_or_customers d.class) h
  where
    by : (b : Bool) → (if b then None else Some (record { path = d.path; otc = d.otc })) ≡ Some s → IsGood s
    by true e = cc
    by false e =
        let same : record { path = d.path; otc = d.otc } ≡ s = cc in
        let p = before d refl refl in
        subst IsGood same (record { path = (p.some, p.path); otc = p.otc })

module _ (w : World) (k : Kept) (printable : IsPrintableWorld w) (kept : IsKept w k) where
  round_printable : (before : ℕ) (p : PrefixValue) (a : ℕ) (e : Entry) → before < w.rounds → IsTrue (has_prefix w.plan p) → k.routings (suc before) p a ≡ Some e → IsPrintable e
  round_printable zero p a e within known held =
      all_printable (setting_of w p) printable.ases (seeds_of w.plan 1 p (k.routings 0 p))
      (λ b s is. seed_good (announced_path w.plan p b) (nat_lt 1 1 && leaks_in w.plan 1 b) (k.routings 0 p b) s (λ path own. printable.paths p b path own) (λ d leaks had. (let never : false ≡ true = leaks in cc)) is)
      (k.routings 1 p) (kept.routings.is 0 p within known) a e held
  round_printable (suc before) p a e within known held =
      all_printable (setting_of w p) printable.ases (seeds_of w.plan (suc (suc before)) p (k.routings (suc before) p))
      (λ b s is. seed_good (announced_path w.plan p b) (nat_lt 1 (suc (suc before)) && leaks_in w.plan (suc (suc before)) b) (k.routings (suc before) p b) s (λ path own. printable.paths p b path own)
      (λ d leaks had. round_printable before p b d (omega (arith, within)) known had) is)
      (k.routings (suc (suc before)) p) (kept.routings.is (suc before) p within known) a e held

both_true : (a b : Bool) → (a && b) ≡ true → (a ≡ true) × (b ≡ true)
both_true true b h = (refl, h)
both_true false b h = cc

pub held_printable : HeldEntriesArePrintable
held_printable w k zero p a e printable kept there known held = absurd (let never : false ≡ true = there in cc)
held_printable w k (suc before) p a e printable kept there known held =
    let within = leb-true (suc before) w.rounds (both_true (nat_le 1 (suc before)) (nat_le (suc before) w.rounds) there).1 in
    round_printable w k printable kept before p a e (omega (arith, within)) known held
