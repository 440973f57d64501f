use Rattle.std.proofs.Common.{◌≡◌, ◌≢◌, true, false, option_map, refl, sym, ◌∙◌, ap, arith}
use Rattle.std.proofs.lemmas.Bool.{both_ways}
use Rattle.route_choice.specs.Named.{wanted_entry}
use Rattle.route_choice.specs.Routings.{entry_of, routing_of}
use Rattle.route_choice.specs.Tables.{change_at, held_at}
use Rattle.route_choice.proofs.Leads.{put_some, put_there}
use Rattle.route_choice.proofs.Lists.{joined_live, spent_same, keeps_entry}
use Rattle.route_choice.proofs.settling.settle_chosen.Goals as goal

pub is_held-requires-clause-have : goal.is_held-requires-clause-have
is_held-requires-clause-have g c = λ h e.
    joined_live c.args.pool.now c.args.at.now.table.now c.args.overlay.now c.requires.pool.held c.args.placed.asn h (sym c.held_near-have.ensures ∙ e)

pub is_held-requires-clause-wanted : goal.is_held-requires-clause-wanted
is_held-requires-clause-wanted g c =
    c.wanted_by-wanted.ensures.live c.args.pool.now c.args.overlay.now c.requires.given (joined_live c.args.pool.now c.args.at.now.table.now c.args.overlay.now c.requires.pool.held) c.requires.pool.seeds_live

pub replace-requires-clause-live : goal.replace-requires-clause-live
replace-requires-clause-live g c =
    c.wanted_by-wanted.ensures.live c.args.pool.now c.args.overlay.now c.requires.given (joined_live c.args.pool.now c.args.at.now.table.now c.args.overlay.now c.requires.pool.held) c.requires.pool.seeds_live

pub returns : goal.returns
returns g c =
    let p = c.args.pool.now in let q = c.replace.new.pool in
    let x = c.args.overlay.now in let z = c.replace.new.overlay in
    let t = c.args.at.now.table.now in let a = c.args.placed.asn in
    let there : routing_of q t z a ≡ wanted_entry p a c.wanted_by-wanted.result =
    put_there (entry_of q) (change_at z a) (held_at t a) (wanted_entry p a c.wanted_by-wanted.result) c.replace.ensures.put in
    let changed : routing_of q t z a ≢ routing_of p t x a = λ e.
    both_ways c.is_held.result c.if-is_held.false (c.is_held.ensures.1 (ap (option_map (entry_of p)) c.held_near-have.ensures ∙ sym e ∙ there)) in
    record {
      named = there ∙ c.wanted_by-wanted.ensures.entry p x c.requires.given;
      others = spent_same p q t x z a c.requires.pool.held c.replace.ensures.spent;
      changed = ((λ yes. changed), (λ other. refl));
      unchanged = λ no. (let e : true ≡ false = no in cc);
      put = λ yes. put_some _ (change_at z a) c.replace.ensures.put;
      spent = c.replace.ensures.spent;
      live = λ l. c.wanted_by-wanted.ensures.via (c.replace.ensures.live l);
      next = λ n can live. record {
        held = λ k. omega (arith, can.held k, c.replace.ensures.spent.holds k);
        seeds_live = live;
        spare = omega (arith, can.spare, c.replace.ensures.spent.spare);
        counts = λ k. omega (arith, can.counts k, c.replace.ensures.spent.counts k);
      };
      kept = λ up. keeps_entry p q c.args.at.now.seeds.now t x z a c.requires.pool.seeds_live c.replace.ensures.spent.lists c.replace.ensures.kept changed up;
    }
