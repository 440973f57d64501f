-- What a relationship file stands for: its links, or the fault of its first faulty line (for CAIDA's AS relationships, serial-1).
use Rattle.std.specs.Prelude.{ℕ, ◌+◌, nat_lt, List, [], ◌∷◌, length, map, Option, Some, None, Result, Ok, if◌then◌else◌}
use Rattle.std.specs.FinMap as fin
use Rattle.std.specs.List.{enumerate_from, flat_map}
use denote.Enum.Bare.{sameb}
use Rattle.net_names.specs.Steps.{unless, first_fault}
use Rattle.net_names.specs.Texts.{fields}
use Rattle.net_names.specs.Links.{pair_cmp, LinkMap}
use Rattle.net_names.specs.declared.routes.Rel.{Rel}
use Rattle.net_names.specs.contracts.routes.Rel.{the_type}
use Rattle.caida_reader.specs.Says.{says}
use Rattle.caida_reader.specs.declared.line.Line.{Line}
use Rattle.caida_reader.specs.declared.line.Line.TheVariants.{Skipped, Unreadable, SelfLink, Link}
use Rattle.caida_reader.specs.declared.firsts.First.{First}
use Rattle.caida_reader.specs.declared.errors.RelError.{RelError}
use Rattle.caida_reader.specs.declared.errors.RelError.TheVariants as fault
use Rattle.caida_reader.specs.declared.errors.RelError.TheVariants.{Conflict, TooManyLinks}
use Rattle.net_names.specs.declared.links.TheConstants.{MOST_LINKS}

-- The links that lines give, each under its pair, the lower AS and the higher one, with the number of its line, where the first line has this number.
abbrev pub numbered : ℕ → List Line → List ((ℕ × ℕ) × First)
numbered n said = flat_map (λ x. elim x.1 [ Link lo hi r ↦ ((lo, hi), record { rel = r; line = x.0 }) ∷ [] | _ ↦ [] ]) (enumerate_from n said)

-- The fault of a link in a line of this number, where so many pairs stand: its pair stands with another relation (`sameb` says whether two are the same), or it is new and 1,500,000 pairs stand.
abbrev pub link_fault : ℕ → Rel → ℕ → Option First → Option RelError
link_fault n r pairs None = if nat_lt pairs MOST_LINKS then None else Some (TooManyLinks n)
link_fault n r pairs (Some f) = if sameb the_type f.rel r then None else Some (Conflict n f.line)

-- The fault of a line of this number, where the lines before it give these pairs, each with its first line.
abbrev pub fault_at : fin.FinMap pair_cmp First → ℕ → Line → Option RelError
fault_at before n said = elim said [ Skipped ↦ None | Unreadable ↦ Some (fault.Unreadable n) | SelfLink ↦ Some (fault.SelfLink n) | Link lo hi r ↦ link_fault n r (fin.len before) (fin.get before (lo, hi)) ]

-- The fault of a line that stands behind these lines.
abbrev pub fault_after : List Line → Line → Option RelError
fault_after before said = fault_at (fin.from_entries (numbered 1 before)) (length before + 1) said

-- The links that the lines of a file give, each pair with the relation of the first line that gives it, or the fault of the first faulty line. The lines are the bytes between line feeds. What stands after the last line feed is a line too; where nothing stands there, that line is empty, and so it is skipped.
abbrev pub links_of : List ℕ → Result LinkMap RelError
links_of file = let said = map says (fields 10 file) in unless (first_fault fault_after [] said)
    (Ok (fin.from_entries (map (λ e. (e.0, e.1.rel)) (numbered 1 said))))

-- What each line of a file says.
abbrev pub said_in : List ℕ → List Line
said_in bytes = map says (fields 10 bytes)

-- The links that lines give, as a map. Where lines give a pair twice, the first of them counts.
abbrev pub links_in : List Line → LinkMap
links_in said = fin.from_entries (map (λ e. (e.0, e.1.rel)) (numbered 1 said))
