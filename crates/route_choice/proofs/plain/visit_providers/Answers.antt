use Rattle.std.proofs.Common.{List, ◌≡◌, ◌≢◌, ℕ, true, false, Some, None, option_map, ◌∷◌, refl, sym, ◌∙◌, ap, subst}
use Rattle.net_names.specs.declared.routes.Class.TheVariants as class
use Rattle.stability_laws.specs.declared.entry.Entry.{Entry}
use Rattle.stability_laws.specs.Offers.{offer}
use Rattle.stability_laws.specs.Stable.{IsRightGiven}
use Rattle.route_choice.specs.declared.choice.Part.TheVariants.{Whole}
use Rattle.route_choice.specs.PrefixWorlds.{setting_at, AreGiversAt}
use Rattle.route_choice.specs.declared.prefix_world.PrefixWorld.{PrefixWorld}
use Rattle.route_choice.specs.declared.overlay.Overlay.{Overlay}
use Rattle.route_choice.specs.declared.plain.Lead.{Lead}
use Rattle.route_choice.specs.declared.plain.TheConstants.{NOBODY}
use Rattle.route_choice.specs.Leads.{ArePlainSenders, IsLead, IsOffered}
use Rattle.route_choice.specs.Rows.{number_in}
use Rattle.path_pool.specs.declared.pool.PathPool.{PathPool}
use Rattle.path_pool.specs.declared.path_id.PathId.{PathId}
use Rattle.path_pool.specs.Pool.{IsLive, list_of}
use Rattle.net_names.specs.declared.routes.State.{State}
use Rattle.net_names.specs.Prefixes.{PrefixValue}
use Rattle.as_graph.specs.declared.neighbour.Neighbour.{Neighbour}
use Rattle.policy_laws.specs.Policy.{Policy}
use Rattle.policy_laws.specs.Plain.{TakesPlainly}
use Rattle.stability_laws.specs.Book.{policy_at}
use Rattle.route_choice.specs.Routings.{entry_of, routing_of, seed_of}
use Rattle.route_choice.specs.Tables.{change_at, held_at, joined}
use Rattle.route_choice.proofs.Givers.{Giver, giver}
use Rattle.route_choice.proofs.Leads.{IsTaken, lead_taken, plain_among, put_some, put_there}
use Rattle.route_choice.proofs.Lists.{joined_live, none_among, spent_same, keeps_entry}
use Rattle.route_choice.proofs.plain.visit_providers.Goals as goal

pub best_provider-lead-requires-clause-live : goal.best_provider-lead-requires-clause-live
best_provider-lead-requires-clause-live g c = joined_live c.args.pool.now c.args.at.now.table.now c.args.overlay.now c.requires.can.changes.held

-- what the lead of somebody stands for
taken_by : {P Q : Type 0} (meaning : P → Policy) (state_of : Q → PrefixValue → ℕ → State) (at : PrefixWorld P Q) (pool : PathPool) (overlay : Overlay) (a : ℕ) (providers : List Neighbour) (lead : Lead) → TakesPlainly (meaning (policy_at at.book.now a)) (IsOffered (setting_at meaning state_of at) (routing_of pool at.table.now overlay) a) →
    ArePlainSenders (λ n. meaning (policy_at at.book.now n)) providers → AreGiversAt meaning at pool overlay Whole a providers →
    IsLead (IsOffered (setting_at meaning state_of at) (routing_of pool at.table.now overlay) a) (meaning (policy_at at.book.now a)) pool (joined at.table.now overlay) (λ n. offer (setting_at meaning state_of at) (routing_of pool at.table.now overlay) n a) lead → lead.key ≢ NOBODY →
    IsTaken (setting_at meaning state_of at) pool (joined at.table.now overlay) a lead
taken_by meaning state_of at pool overlay a providers lead own plain givers is some =
    let here = setting_at meaning state_of at in
    let f = routing_of pool at.table.now overlay in
    lead_taken (IsOffered here f a) here pool (joined at.table.now overlay) a lead own
    (λ n o made. let by : Giver Whole here f a n = giver Whole here f a n o made in
    plain_among here.policy providers n plain (givers.complete n by.exports.from by.exports.entry by.exports.linked by.looked by.exports.is by.exports.exported))
    is some

pub put_longer-requires-clause-live : goal.put_longer-requires-clause-live
put_longer-requires-clause-live g c =
    let lead = c.best_provider-lead.result in
    let taken = taken_by g.P.RoutePolicy.meaning g.V.OriginStates.state_of c.args.at.now c.args.pool.now c.args.overlay.now c.args.placed.asn c.args.providers.now lead c.requires.own c.requires.plain c.requires.givers c.best_provider-lead.ensures c.if-lead.false in
    subst (λ (p : PathId). IsLive c.args.pool.now p.0) taken.path (joined_live c.args.pool.now c.args.at.now.table.now c.args.overlay.now c.requires.can.changes.held taken.giver taken.entry taken.holds)

pub put_longer-requires-clause-nothing : goal.put_longer-requires-clause-nothing
put_longer-requires-clause-nothing g c = none_among c.args.pool.now (change_at c.args.overlay.now c.args.placed.asn) (held_at c.args.at.now.table.now c.args.placed.asn) c.requires.nothing

pub returns-clause-visit : goal.returns-clause-visit
returns-clause-visit g c =
    let a : ℕ = c.args.placed.asn in
    let here = setting_at g.P.RoutePolicy.meaning g.V.OriginStates.state_of c.args.at.now in
    let f = routing_of c.args.pool.now c.args.at.now.table.now c.args.overlay.now in
    let f' = routing_of c.put_longer.new.pool c.args.at.now.table.now c.put_longer.new.overlay in
    let lead = c.best_provider-lead.result in
    let taken = taken_by g.P.RoutePolicy.meaning g.V.OriginStates.state_of c.args.at.now c.args.pool.now c.args.overlay.now a c.args.providers.now lead c.requires.own c.requires.plain c.requires.givers c.best_provider-lead.ensures c.if-lead.false in
    let longer : Entry = record { class = class.Provider; path = a ∷ list_of c.args.pool.now lead.path.0; otc = number_in lead.otc } in
    let there : f' a ≡ Some longer =
    put_there (entry_of c.put_longer.new.pool) (change_at c.put_longer.new.overlay a) (held_at c.args.at.now.table.now a) (Some (record longer { otc = c.asn_or_none.result })) c.put_longer.ensures.put
    ∙ (λ i. Some (record longer { otc = c.asn_or_none.ensures i })) in
    let none : f a ≡ None = c.requires.nothing in
    let changed : f' a ≢ f a = λ e. (let x : Some longer ≡ None = sym there ∙ e ∙ none in cc) in
    record {
      step = record {
        others = spent_same c.args.pool.now c.put_longer.new.pool c.args.at.now.table.now c.args.overlay.now c.put_longer.new.overlay a c.requires.can.changes.held c.put_longer.ensures.spent;
        right = subst (λ s. IsRightGiven (here.policy a) s (λ n. offer here f n a) (f' a)) (sym (ap (option_map (seed_of c.args.pool.now)) c.requires.unseeded))
            (subst (IsRightGiven (here.policy a) None (λ n. offer here f n a)) (sym there) taken.right);
      };
      changed = ((λ yes. changed), (λ other. refl));
      unchanged = λ no. (let x : true ≡ false = no in cc);
      put = λ yes. put_some _ (change_at c.put_longer.new.overlay a) c.put_longer.ensures.put;
      spent = c.put_longer.ensures.spent;
      kept = λ up. keeps_entry c.args.pool.now c.put_longer.new.pool c.args.at.now.seeds.now c.args.at.now.table.now c.args.overlay.now c.put_longer.new.overlay a c.requires.can.changes.seeds_live c.put_longer.ensures.spent.lists (λ _. c.put_longer.ensures.kept) changed up;
    }
