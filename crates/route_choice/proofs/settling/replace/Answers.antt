use Rattle.std.proofs.Common.{arith, ◌≡◌, ◌<◌, ℕ, Option, Some, option_map, sym, ap, subst, ◌∙◌}
use Rattle.std.specs.Prelude.{IsSomeAnd}
use Rattle.path_pool.specs.declared.pool.PathPool.{PathPool}
use Rattle.path_pool.specs.Pool.{holds_of}
use Rattle.route_choice.specs.declared.held.Held.{Held}
use Rattle.route_choice.specs.Slots.{use_of}
use Rattle.route_choice.specs.Routings.{entry_of}
use Rattle.route_choice.specs.Named.{wanted_entry}
use Rattle.route_choice.proofs.Uses.{use_of-le, use_of-itself}
use Rattle.route_choice.proofs.Lists.{held_live, entries_same}
use Rattle.route_choice.proofs.settling.replace.Goals as goal

pub returns-clause-put : goal.returns-clause-put
returns-clause-put c =
    let p : PathPool = c.let_go.new.pool in
    let held : (h : Held) → c.made-new.result ≡ Some h → 0 < holds_of p h.path.0 = λ h e.
    let k : ℕ = h.path.0 in
    omega (
      arith,
      c.let_go.ensures.holds k,
      c.made-new.ensures.takes.holds k,
      ap (use_of k) c.exchange_near-old.ensures.old,
      use_of-le c.args.overlay.now.changes c.args.asn k,
      c.requires.held k,
      ap (use_of k) e,
      use_of-itself h,
    ) in
    subst (λ (o : Option (Option Held)). IsSomeAnd o (λ e. option_map (entry_of p) e ≡ wanted_entry c.args.pool.now c.args.asn c.args.wanted)) (sym c.exchange_near-old.ensures.this)
    (entries_same c.made-new.new.pool p c.made-new.result (λ h e. c.let_go.ensures.back.lists h.path.0 (held_live p h.path.0 (held h e))) ∙ c.made-new.ensures.entry)
