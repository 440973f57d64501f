-- A relationship file that comes in pieces from inputs.
use Rattle.std.proofs.Common.{◌≡◌, ◌+◌, ◌≤◌, ◌<◌, ℕ, List, [], ◌++◌, length, Option, Some, None, Result, Ok, Err, refl, sym, ap, ◌∙◌, subst, append_assoc, append-nil, length-append, arith, IfSome}
use Rattle.std.specs.Io.KnownBytes.{Consumes, Keeps, IsAtEnd}
use Rattle.std.proofs.KnownBytes.{Consumes-trans}
use Rattle.net_names.specs.Links.{LinkMap}
use Rattle.caida_reader.specs.Value.{links_of}
use Rattle.caida_reader.specs.Progress.{Progress, outcome, UnlessMemory, Fails}
use Rattle.net_names.specs.Steps.{unless}
use Rattle.caida_reader.specs.declared.errors.RelError.{RelError}
use Rattle.caida_reader.specs.declared.errors.RelError.TheVariants as rel
use Rattle.caida_reader.proofs.Reading.{unless_memory}
use Rattle.scenario_text.specs.Walks.{◌>>=◌}
use Rattle.task_reading.specs.Files.{IsFaultOf, ReadsTo}
use Rattle.task_reading.specs.declared.types.File.TheVariants as file
use Rattle.task_reading.specs.declared.types.AskError.{AskError}
use Rattle.task_reading.specs.declared.types.AskError.TheVariants as error
use Rattle.task_reading.specs.declared.types.Fault.TheVariants as fault
use Rattle.task_reading.specs.declared.types.Cause.TheVariants as cause
use Rattle.task_reading.proofs.ReadLemmas.{by_bytes, or_fault, relations, whole, too_long}
use Rattle.io_edge.specs.Whole.{TakesAtMost}

-- a relationship file within its limit
whole_links : (bytes : List ℕ) → length bytes ≤ 268435456 → relations (Some bytes) ≡ or_fault file.Relations cause.Relation (links_of bytes)
whole_links bytes h = by_bytes file.Relations 268435456 cause.Relation links_of (Some bytes) ∙ ap (λ r. r >>= λ b. or_fault file.Relations cause.Relation (links_of b)) (whole file.Relations 268435456 bytes h)

-- a relationship file that is longer
long_links : (bytes : List ℕ) → 268435456 < length bytes → relations (Some bytes) ≡ Err (fault.InFile file.Relations (cause.TooLong 268435456))
long_links bytes h = by_bytes file.Relations 268435456 cause.Relation links_of (Some bytes) ∙ ap (λ r. r >>= λ b. or_fault file.Relations cause.Relation (links_of b)) (too_long file.Relations 268435456 bytes h)

-- What was taken so far, and what the reader knows of it.
pub record Fed (held left : Option (List ℕ)) (reader : Progress) (taken : ℕ) : Type 0 where
  pub bytes : List ℕ
  pub long : length bytes ≡ taken
  pub took : Consumes held left bytes
  pub goes_on : UnlessMemory reader.failed ((more : List ℕ) → outcome reader more ≡ links_of (bytes ++ more))

-- two facts, the second of which holds unless memory ran out before
unless_both : (f before : Option RelError) (P Q R : Type 0) → (before ≡ Some rel.Memory → f ≡ Some rel.Memory) → (P → Q → R) → UnlessMemory f P → UnlessMemory before Q → UnlessMemory f R
unless_both f None P Q R stays h p q = unless_memory f P R (λ x. h x q) p
unless_both f (Some rel.Memory) P Q R stays h p q = rw (stays refl) tt
unless_both f (Some (rel.Unreadable n)) P Q R stays h p q = unless_memory f P R (λ x. h x q) p
unless_both f (Some (rel.SelfLink n)) P Q R stays h p q = unless_memory f P R (λ x. h x q) p
unless_both f (Some (rel.Conflict n m)) P Q R stays h p q = unless_memory f P R (λ x. h x q) p
unless_both f (Some (rel.TooManyLinks n)) P Q R stays h p q = unless_memory f P R (λ x. h x q) p

stays_failed : {T : Type 0} (result : Result T RelError) (old new : Progress) → IfSome old.failed (λ e. (result ≡ Err e) × (new ≡ old)) → old.failed ≡ Some rel.Memory → new.failed ≡ Some rel.Memory
stays_failed result old new h is =
    let P : Option RelError → Type 0 = λ f. IfSome f (λ e. (result ≡ Err e) × (new ≡ old)) in
    let same : new ≡ old = (subst P is h).1 in
    ap (λ (p : Progress). p.failed) same ∙ is

-- one more piece was taken and fed
pub more_fed : (held left now : Option (List ℕ)) (old new : Progress) (result : Result (Unit {0}) RelError) (taken count : ℕ) (piece : List ℕ) → Fed held left old taken → Consumes left now piece → length piece ≡ count
    → UnlessMemory new.failed ((more : List ℕ) → outcome new more ≡ outcome old (piece ++ more)) → IfSome old.failed (λ e. (result ≡ Err e) × (new ≡ old))
    → Fed held now new (taken + count)
more_fed held left now old new result taken count piece fed took long goes_on stays = record {
  bytes = fed.bytes ++ piece;
  long = omega (arith, length-append fed.bytes piece, fed.long, long);
  took = Consumes-trans held left now fed.bytes piece fed.took took;
  goes_on = unless_both new.failed old.failed _ _ _ (stays_failed result old new stays)
      (λ here before more. here more ∙ before (piece ++ more) ∙ ap links_of (sym (append_assoc fed.bytes piece more))) goes_on fed.goes_on;
}

-- the file was taken to its end
whole_bytes : (held left : Option (List ℕ)) (bytes : List ℕ) → Consumes held left bytes → IsAtEnd left → Keeps held (Some bytes)
whole_bytes None left bytes h e = tt
whole_bytes (Some x) None bytes h e = absurd h
whole_bytes (Some x) (Some y) bytes h e = sym (h ∙ ap (λ l. bytes ++ l) e ∙ append-nil bytes)

known_ok : (f : Option RelError) (rest value : Result LinkMap RelError) (links : LinkMap) → UnlessMemory f (unless f rest ≡ value) → unless f rest ≡ Ok links → value ≡ Ok links
known_ok None rest value links h is = sym h ∙ is
known_ok (Some e) rest value links h is = cc

known_err : (f : Option RelError) (e : RelError) (rest value : Result LinkMap RelError) → UnlessMemory f (unless f rest ≡ value) → Fails e (unless f rest) → Fails e value
known_err None e rest value h is = subst (Fails e) h is
known_err (Some rel.Memory) rel.Memory rest value h is = tt
known_err (Some rel.Memory) (rel.Unreadable n) rest value h is = cc
known_err (Some rel.Memory) (rel.SelfLink n) rest value h is = cc
known_err (Some rel.Memory) (rel.Conflict n m) rest value h is = cc
known_err (Some rel.Memory) (rel.TooManyLinks n) rest value h is = cc
known_err (Some (rel.Unreadable n)) e rest value h is = subst (Fails e) h is
known_err (Some (rel.SelfLink n)) e rest value h is = subst (Fails e) h is
known_err (Some (rel.Conflict n m)) e rest value h is = subst (Fails e) h is
known_err (Some (rel.TooManyLinks n)) e rest value h is = subst (Fails e) h is

at_end : (p : Progress) (bytes : List ℕ) → UnlessMemory p.failed ((more : List ℕ) → outcome p more ≡ links_of (bytes ++ more)) → UnlessMemory p.failed (outcome p [] ≡ links_of bytes)
at_end p bytes h = unless_memory p.failed _ _ (λ on. on [] ∙ ap links_of (append-nil bytes)) h

taken_long : (held left : Option (List ℕ)) (bytes : List ℕ) (fails : Type 0) → Consumes held left bytes → 268435456 < length bytes → ReadsTo held fails (λ (links : LinkMap). links) (Err (error.Fault (fault.InFile file.Relations (cause.TooLong 268435456)))) (λ reads. relations (reads file.Relations))
taken_long None left bytes fails took many = record { read = Some bytes; is_read = tt; finds = long_links bytes many }
taken_long (Some x) None bytes fails took many = absurd took
taken_long (Some x) (Some y) bytes fails took many =
    let long : 268435456 < length x = rw took (omega (arith, length-append bytes y, many)) in
    record { read = Some x; is_read = refl; finds = long_links x long }

module _ {held left : Option (List ℕ)} {fails : Type 0} {reader : Progress} {taken : ℕ} (fed : Fed held left reader taken) where
  -- what was fed is the whole file, and the reader gave its links
  pub ends_ok : (now : Option (List ℕ)) (links : LinkMap) → Consumes left now [] → IsAtEnd now → taken ≤ 268435456 → outcome reader [] ≡ Ok links → ReadsTo held fails (λ (links : LinkMap). links) (Ok links) (λ reads. relations (reads file.Relations))
  ends_ok now links took end few is = record {
    read = Some fed.bytes;
    is_read = whole_bytes held now fed.bytes (rw append-nil at (Consumes-trans held left now fed.bytes [] fed.took took)) end;
    finds = whole_links fed.bytes (omega (arith, fed.long, few)) ∙ ap (or_fault file.Relations cause.Relation) (known_ok reader.failed _ _ links (at_end reader fed.bytes fed.goes_on) is);
  }

  pub ends_err : (now : Option (List ℕ)) (e : RelError) (s : AskError) → Consumes left now [] → IsAtEnd now → taken ≤ 268435456 → Fails e (outcome reader [])
      → ((value : Result LinkMap RelError) → Fails e value → IsFaultOf s (or_fault file.Relations cause.Relation value)) → ReadsTo held fails (λ (links : LinkMap). links) (Err s) (λ reads. relations (reads file.Relations))
  ends_err now e s took end few is stops = record {
    read = Some fed.bytes;
    is_read = whole_bytes held now fed.bytes (rw append-nil at (Consumes-trans held left now fed.bytes [] fed.took took)) end;
    finds = subst (IsFaultOf s) (sym (whole_links fed.bytes (omega (arith, fed.long, few)))) (stops (links_of fed.bytes) (known_err reader.failed e _ _ (at_end reader fed.bytes fed.goes_on) is));
  }

  -- more was taken than a file may have
  pub ends_long : 268435456 < taken → ReadsTo held fails (λ (links : LinkMap). links) (Err (error.Fault (fault.InFile file.Relations (cause.TooLong 268435456)))) (λ reads. relations (reads file.Relations))
  ends_long many = taken_long held left fed.bytes fails fed.took (omega (arith, fed.long, many))

-- nothing was left to take, and no more was taken than a file may have
pub all_taken : {held left : Option (List ℕ)} {reader : Progress} {taken : ℕ} → Fed held left reader taken → (now : Option (List ℕ)) → Consumes left now [] → taken ≤ 268435456 → TakesAtMost 268435456 held now
all_taken {held} {left} fed now took few = record {
  bytes = fed.bytes;
  within = omega (arith, fed.long, few);
  taken = rw append-nil at (Consumes-trans held left now fed.bytes [] fed.took took);
}
