use Rattle.std.proofs.Common.{◌≡◌, ◌∙◌, ◌≤◌, ℕ, [], ap, sym, subst}
use Rattle.std.specs.Result.{IfErr}
use Rattle.std.proofs.lemmas.Result.{err_from_is_err_and}
use Rattle.io_edge.specs.Faults.{HasRisen}
use Rattle.io_edge.proofs.Appending.{Appends-nil}
use Rattle.std.specs.FinMap as fin
use Rattle.std.specs.List.{All}
use Rattle.net_names.specs.Addresses.{AddrValue}
use Rattle.policy_kinds.specs.declared.kind.Kind.{Kind}
use Rattle.stability_laws.specs.Plans.{announcers_of}
use Rattle.sim_core.specs.Bases.{base_world}
use Rattle.sim_core.specs.World.{World, kind_at}
use Rattle.sim_core.specs.declared.base.Base.{Base}
use Rattle.sweep.specs.Swept.{IsBegun, IsSwept}
use Rattle.sweep.specs.Written.{Stops, Writes}
use Rattle.sweep.proofs.Parts.{begun_none}
use Rattle.trial_world.specs.Sweeps.{AreNumbers, with_kinds}
use Rattle.trial_world.specs.Trials.{as_set, is_of_line}
use Rattle.trial_world.specs.declared.fixed.Fixed.{Fixed}
use Rattle.trial_world.proofs.Lines.{few_numbers, own_line}
use Rattle.trial_world.proofs.PartPlans.{on_ok}
use Rattle.trial_world.proofs.sweeping.put_sweep.Goals as goal

-- what a trial is over is the world, the round and the address that its line is made for
over : (b : World × (ℕ × AddrValue)) (f : Fixed) (base : Base) (round : ℕ) (addr : AddrValue) → b ≡ (base_world f.base.now, (f.round, f.addr)) → f.base.now ≡ base → f.round ≡ round → f.addr ≡ addr → b ≡ (base_world base, (round, addr))
over b f base round addr is bases rounds addrs = is ∙ (λ i. (base_world (bases i), (rounds i, addrs i)))

pub sweep_rows-requires-clause-in_world : goal.sweep_rows-requires-clause-in_world
sweep_rows-requires-clause-in_world g c =
    let line = c.args.line.now in
    let fixed = c.in_ok-fixed.ensures in
    let base = over _ c.in_ok-fixed.fixed c.args.base.now line.round line.addr c.in_ok-trial.ensures.base fixed.base fixed.round fixed.addr in (
      ap (λ (b : World × (ℕ × AddrValue)). is_of_line b line.round line.addr) base ∙ own_line (base_world c.args.base.now) line.round line.addr,
      subst (λ (b : World × (ℕ × AddrValue)). All (λ k. k ≤ fin.len (as_set b.0)) line.ks) (sym base) (few_numbers (base_world c.args.base.now) line c.requires.inside),
    )

pub returns-clause-ok : goal.returns-clause-ok
returns-clause-ok g c =
    let line = c.args.line.now in
    let fixed = c.in_ok-fixed.ensures in
    let base = over _ c.in_ok-fixed.fixed c.args.base.now line.round line.addr c.in_ok-trial.ensures.base fixed.base fixed.round fixed.addr in
    let kinds = λ (a : ℕ). c.in_ok-trial.ensures.kinds a ∙ ap (λ (b : Base). kind_at (base_world b) a) fixed.base in
    on_ok c.sweep_rows.result (λ text. subst (λ (s : (World × (ℕ × AddrValue)) × (ℕ → Kind)).
    Writes (IsSwept (as_set s.0.0) (announcers_of s.0.0.plan) (λ kinds. AreNumbers (with_kinds s.0.0 kinds) line.round line.addr) s.1 line) (g.O.Sink.written c.args.out.now) (g.O.Sink.written c.sweep_rows.new.out))
    (λ i. (base i, λ a. kinds a i)) text) c.sweep_rows.ensures.ok

pub returns-clause-err : goal.returns-clause-err
returns-clause-err g c =
    let line = c.args.line.now in
    let fixed = c.in_ok-fixed.ensures in
    let base = over _ c.in_ok-fixed.fixed c.args.base.now line.round line.addr c.in_ok-trial.ensures.base fixed.base fixed.round fixed.addr in
    let kinds = λ (a : ℕ). c.in_ok-trial.ensures.kinds a ∙ ap (λ (b : Base). kind_at (base_world b) a) fixed.base in
    let old = g.O.Sink.written c.args.out.now in
    let new = g.O.Sink.written c.sweep_rows.new.out in
    subst (λ (s : (World × (ℕ × AddrValue)) × (ℕ → Kind)). IfErr c.sweep_rows.result
    (Stops (IsBegun (as_set s.0.0) (announcers_of s.0.0.plan) (λ kinds. AreNumbers (with_kinds s.0.0 kinds) line.round line.addr) s.1 line) old new (HasRisen (g.O.Sink.faults c.args.out.now) (g.O.Sink.faults c.sweep_rows.new.out))))
    (λ i. (base i, λ a. kinds a i)) c.sweep_rows.ensures.err

pub returns-in_err-fixed-clause-err : goal.returns-in_err-fixed-clause-err
returns-in_err-fixed-clause-err g c =
    let p = err_from_is_err_and c.from_residual.result c.from_residual.ensures.1 in
    let w = base_world c.args.base.now in
    let line = c.args.line.now in
    rw (p.1, p.2) (record {
      text = [];
      is = begun_none (as_set w) (announcers_of w.plan) (λ kinds. AreNumbers (with_kinds w kinds) line.round line.addr) (kind_at w) line;
      appended = Appends-nil (g.O.Sink.written c.args.out.now);
    })

pub returns-in_err-trial-clause-err : goal.returns-in_err-trial-clause-err
returns-in_err-trial-clause-err g c =
    let p = err_from_is_err_and c.from_residual-in_err-trial.result c.from_residual-in_err-trial.ensures.1 in
    let w = base_world c.args.base.now in
    let line = c.args.line.now in
    rw (p.1, p.2) (record {
      text = [];
      is = begun_none (as_set w) (announcers_of w.plan) (λ kinds. AreNumbers (with_kinds w kinds) line.round line.addr) (kind_at w) line;
      appended = Appends-nil (g.O.Sink.written c.args.out.now);
    })
