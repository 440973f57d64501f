-- What the check of a printed table says.
use Rattle.std.specs.Prelude.{◌≡◌, ℕ, suc, Bool, true, false, ◌++◌, codes, Option}
use Rattle.clap.specs.Walk.{Text}
use Rattle.sim_core.specs.World.{World, setting_of}
use Rattle.stability_laws.specs.EntryTexts.{entry_row}
use Rattle.stability_laws.specs.declared.entry.Entry.{Entry}
use Rattle.table_check.specs.Checked.{IsAccepted, IsFirstWrong}
use Rattle.table_check.specs.Rows.{held_by}
use Rattle.table_check.specs.declared.tables.Tables.{Tables}
use Rattle.asprop_run.specs.Settling.{fact, said}

-- the text says that each AS is right in each section of the table, with the seeds of a round that follow from the section before, and no other number holds anything; or, and then `wrong` is true, it says the first section that is not so, its lowest such AS or number, the row that it has in the table, and the row with which it would be right (own format)
abbrev pub IsCheckText : World → Tables → (wrong : Bool) → Text → Type 0
IsCheckText w t false s = IsAccepted (setting_of w t.prefix) w.plan t × (s ≡ said "stable" true)
IsCheckText w t true s = (n a : ℕ) × (right : Option Entry) × IsFirstWrong (setting_of w t.prefix)
    w.plan t n a right × (s ≡ said "stable" false ++ (fact "round" (suc n) ++ (codes "holds|"
    ++ (entry_row a (held_by t.rows (suc n) a) ++ (codes "right|" ++ entry_row a right)))))
