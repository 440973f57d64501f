-- What contracts see of rounds: the plan, the pool, and what each AS holds of each prefix in each round.
use Rattle.std.specs.Prelude.{ℕ, ◌+◌, Bool, Option, List, length}
use Rattle.net_names.specs.Prefixes.{PrefixValue}
use Rattle.path_pool.specs.declared.pool.PathPool.{PathPool}
use Rattle.stability_laws.specs.declared.entry.Entry.{Entry}
use Rattle.stability_laws.specs.Plans.{Plan}
use Rattle.leak_round.specs.declared.announced.Announced.{Announced}
use Rattle.leak_round.specs.declared.rounds.Rounds.{Rounds}
use Rattle.leak_round.specs.Announced.{announced_uses}
use Rattle.leak_round.specs.Tables.{kept_in, entry_uses}

-- who announces what, and who leaks in which round
abbrev pub plan_of : Rounds → Plan
plan_of r = r.plan

-- a plan of changes is open
abbrev pub is_open : Rounds → Bool
is_open r = r.planned

-- the pool in which the paths stand
abbrev pub pool_of : Rounds → PathPool
pool_of r = r.pool

-- how many rounds there are
abbrev pub round_count : Rounds → ℕ
round_count r = length r.tables.items

-- what an AS holds of a prefix in a round; nothing in a round that is not there
abbrev pub kept : Rounds → ℕ → PrefixValue → ℕ → Option Entry
kept r round prefix a = kept_in r.pool r.tables.items round prefix a

-- the announcements, with their paths in the pool
abbrev pub announced_of : Rounds → List Announced
announced_of r = r.announced.items

-- how many entries of the tables and how many announcements have the path
abbrev pub uses_of : Rounds → ℕ → ℕ
uses_of r k = entry_uses r.tables.items k + announced_uses r.announced.items k
