use Rattle.told_laws.proofs.laws.told_routes_are_accepted.Goals as goal

pub returns : goal.returns
returns c = λ form reads t k prefix more number answers of_files read has kept known within told.
    c.printed_routes_are_accepted.ensures t.world k prefix more number answers (c.loaded_worlds_are_printable.ensures form reads t of_files read) has.0 kept known within told
