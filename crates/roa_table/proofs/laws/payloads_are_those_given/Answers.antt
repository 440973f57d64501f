use Rattle.std.proofs.Common.{◌≡◌, [], Option, Some, None, Ok, Err, IsOk, refl, sym, ap, ◌∙◌}
use Rattle.net_names.specs.Steps.{unless}
use Rattle.roa_table.specs.Sets.{Payloads, has}
use Rattle.roa_table.specs.Files.{rows_of, given}
use Rattle.roa_table.specs.Judging.{payloads_of}
use Rattle.roa_table.specs.declared.errors.VrpError.{VrpError}
use Rattle.roa_table.proofs.Placed.{has_set_of}
use Rattle.roa_table.proofs.Gathered.{first_fault}
use Rattle.roa_table.proofs.Accepted.{nothing_has_payloads, HasPayloads-from_faultless, faultless_of_HasPayloads, first_faulty, given_by, stands_if_given}
use Rattle.roa_table.proofs.laws.payloads_are_those_given.Goals as goal

no_fault : (f : Option VrpError) (set : Payloads) → IsOk (unless f (Ok set)) → f ≡ None
no_fault None set h = refl
no_fault (Some e) set h = cc

set_is : (f : Option VrpError) (set value : Payloads) → unless f (Ok set) ≡ Ok value → set ≡ value
set_is None set value h = cc
set_is (Some e) set value h = cc

fault_is : (f : Option VrpError) (set : Payloads) (e : VrpError) → unless f (Ok set) ≡ Err e → f ≡ Some e
fault_is None set e h = cc
fault_is (Some x) set e h = let same : x ≡ e = cc in ap (λ y. Some y) same

pub returns-clause-accepted : goal.returns-clause-accepted
returns-clause-accepted c = λ bytes.
    let rows = rows_of bytes in (
      λ ok. HasPayloads-from_faultless [] rows nothing_has_payloads (no_fault (first_fault [] rows) (given rows) ok),
      λ h. rw (faultless_of_HasPayloads rows h) refl,
    )

pub returns-clause-given : goal.returns-clause-given
returns-clause-given c = λ bytes set v is.
    let rows = rows_of bytes in
    let same : has set v ≡ has (given rows) v = ap (λ s. has s v) (sym (set_is (first_fault [] rows) (given rows) set is)) in (
      λ h. given_by v rows (sym (has_set_of (payloads_of rows) v) ∙ sym same ∙ h),
      λ some. same ∙ has_set_of (payloads_of rows) v ∙ stands_if_given v rows some,
    )

pub returns-clause-first_faulty : goal.returns-clause-first_faulty
returns-clause-first_faulty c = λ bytes e is. first_faulty (rows_of bytes) e (fault_is (first_fault [] (rows_of bytes)) (given (rows_of bytes)) e is)
