use Rattle.std.proofs.Common.{◌≡◌, sym, ap, refl, subst, ◌∙◌, arith, ℕ, false, Err, List, get_or}
use Rattle.std.specs.Ordering.{nat_cmp}
use Rattle.std.specs.FinMap as fin
use Rattle.std.specs.declared.cmp.Ordering.{Ordering}
use Rattle.net_names.specs.Prefixes.{PrefixValue, prefix_cmp}
use Rattle.net_names.proofs.DerivedOrders.{prefix_orders}
use Rattle.stability_laws.specs.declared.seed_plan.Announcement.{Announcement}
use Rattle.stability_laws.specs.Plans.{announcer_of, announces}
use Rattle.stability_laws.specs.PlanLists.{set_of, IsRising, plan_of, ArePlan}
use Rattle.stability_laws.proofs.KeyLists.{put_as}
use Rattle.stability_laws.proofs.PlanReads.{plan_announced, are_announced, not_new, first_is, Answers}
use Rattle.stability_laws.proofs.seed_plan.SeedPlan.announce.Goals as goal
use Rattle.stability_laws.proofs.seed_plan.SeedPlan.announce.Goals.{in-Ok, in-Err}

module _ (c : goal.After-put_key-2) where
  prefixes : IsRising prefix_cmp c.put_key.new.keys.items × (set_of prefix_cmp c.put_key.new.keys.items ≡ fin.insert (set_of prefix_cmp c.self.inside.prefixes.items) c.args.prefix tt)
  prefixes =
      let room = c.in_ok-reserve.ensures.ok in
      put_as prefix_cmp _ prefix_orders c.self.inside.prefixes.items c.reserve.new.self.items c.put_key.new.keys.items c.args.prefix c.put_key.result c.reserve.ensures.items
      (c.put_key.ensures.room (omega (arith, room))) c.put_key.ensures.ok c.put_key.ensures.rising

  announcers : IsRising nat_cmp c.put_key-2.new.keys.items × (set_of nat_cmp c.put_key-2.new.keys.items ≡ fin.insert (set_of nat_cmp c.self.inside.announcers.items) c.index-as_slice-0.result tt)
  announcers =
      let room = c.in_ok-reserve-2.ensures.ok in
      put_as nat_cmp _ refl c.self.inside.announcers.items c.reserve-2.new.self.items c.put_key-2.new.keys.items c.index-as_slice-0.result c.put_key-2.result c.reserve-2.ensures.items
      (c.put_key-2.ensures.room (omega (arith, room))) c.put_key-2.ensures.ok c.put_key-2.ensures.rising

  first : c.index-as_slice-0.result ≡ announcer_of c.args.path
  first =
      let P : List ℕ → Type 0 = λ xs. c.index-as_slice-0.result ≡ get_or xs 0 c.index-as_slice-0.result in
      first_is c.args.path c.index-as_slice-0.result c.requires.some (subst P c.as_slice.ensures c.index-as_slice-0.is)

  abbrev new : Announcement
  new = record { prefix = c.args.prefix; asn = c.index-as_slice-0.result; path = c.args.path }

  missed : Answers c.self.inside.prefixes.items c.self.inside.announced.items c.self.inside.announcers.items c.self.inside.leakers.items c.self.inside.leaking.items c.self.invariant c.args.self.now c.self.view_is c.as_slice-2.result.now c.as_slice-2.ensures.value c.args.prefix c.index-as_slice-0.result (Err c.match-place_of.at) c.as_slice-2.result.now
  missed = elim c.match-place_of.branch [
    | in-Ok w ↦ absurd (
        not_new c.self.inside.prefixes.items c.self.inside.announced.items c.self.inside.announcers.items c.self.inside.leakers.items c.self.inside.leaking.items c.self.invariant c.args.self.now c.self.view_is c.as_slice-2.result.now c.as_slice-2.ensures.value c.args.prefix c.index-as_slice-0.result
        w.in-Ok.at new (w.in-Ok.ensures.bound, w.in-Ok.ensures.position) (subst (λ (a : ℕ). announces c.args.self.now c.args.prefix a ≡ false) (sym first) c.requires.new)
        )
    | in-Err w ↦ rw w.at-is (w.in-Err.ensures.bound, w.in-Err.ensures.position)
  ]

pub put_key-requires-clause-rising : goal.put_key-requires-clause-rising
put_key-requires-clause-rising c =
    subst (λ (R : PrefixValue → PrefixValue → Ordering). IsRising R c.reserve.new.self.items) (sym prefix_orders)
    (subst (λ (xs : List PrefixValue). IsRising prefix_cmp xs) (sym c.reserve.ensures.items) c.self.invariant.prefixes_rise)

pub returns-clause-ok : goal.returns-clause-ok
returns-clause-ok c =
    ap (λ (xs : List Announcement). plan_of c.put_key.new.keys.items xs c.self.inside.leakers.items) c.in_ok-insert.ensures.items
    ∙ plan_announced c.self.inside.prefixes.items c.self.inside.announced.items c.self.inside.announcers.items c.self.inside.leakers.items c.self.inside.leaking.items c.self.invariant c.args.self.now c.self.view_is c.as_slice-2.result.now c.as_slice-2.ensures.value c.args.prefix c.index-as_slice-0.result
    c.match-place_of.at (missed c) c.args.path (first c) c.requires.some c.requires.short c.put_key.new.keys.items (prefixes c).0 (prefixes c).1 c.put_key-2.new.keys.items (announcers c).0 (announcers c).1

pub invariant_of-self-2 : goal.invariant_of-self-2
invariant_of-self-2 c =
    subst (λ (xs : List Announcement). ArePlan c.put_key.new.keys.items xs c.put_key-2.new.keys.items c.self.inside.leakers.items c.self.inside.leaking.items) (sym c.in_ok-insert.ensures.items)
    (are_announced c.self.inside.prefixes.items c.self.inside.announced.items c.self.inside.announcers.items c.self.inside.leakers.items c.self.inside.leaking.items c.self.invariant c.args.self.now c.self.view_is c.as_slice-2.result.now c.as_slice-2.ensures.value c.args.prefix c.index-as_slice-0.result
    c.match-place_of.at (missed c) c.args.path (first c) c.requires.some c.requires.short c.put_key.new.keys.items (prefixes c).0 (prefixes c).1 c.put_key-2.new.keys.items (announcers c).0 (announcers c).1)
