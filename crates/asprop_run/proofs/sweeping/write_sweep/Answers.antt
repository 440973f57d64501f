use Rattle.asprop_run.proofs.sweeping.write_sweep.Goals as goal

pub returns-clause-err : goal.returns-clause-err
returns-clause-err g c = rw c.in-Sweep.is c.put_sweep.ensures.err
