-- The first faulty line, and the lines in front of it.
use Rattle.std.proofs.Common.{◌≡◌, ℕ, zero, suc, ◌+◌, ◌<◌, ◌≤◌, List, [], ◌∷◌, ◌++◌, length, length-append, take, drop, take-append-drop, append-nil, append_assoc, slice_get, Option, Some, None, refl, sym, ap, ◌∙◌, arith, if◌then◌else◌, Bool, true, false}
use Rattle.std.specs.Prelude.{nat_lt}
use Rattle.std.specs.FinMap.{len, get}
use Rattle.std.specs.Option.{option_or}
use denote.Enum.Bare.{sameb}
use Rattle.net_names.specs.declared.routes.Rel.{Rel}
use Rattle.net_names.specs.contracts.routes.Rel.{the_type}
use Rattle.caida_reader.specs.Firsts.{firsts, FirstMap}
use Rattle.caida_reader.specs.Value.{link_fault, fault_at, fault_after}
use Rattle.caida_reader.specs.Laws.{line_of}
use Rattle.caida_reader.specs.declared.line.Line.{Line}
use Rattle.caida_reader.specs.declared.line.Line.TheVariants.{Skipped, Unreadable, SelfLink, Link}
use Rattle.caida_reader.specs.declared.firsts.First.{First}
use Rattle.caida_reader.specs.declared.errors.RelError.{RelError}
use Rattle.caida_reader.specs.declared.errors.RelError.TheVariants as fault
use Rattle.caida_reader.proofs.Values.{first_fault}
use Rattle.net_names.proofs.Shared.{take-take}

if_some : (b : Bool) (f e : RelError) → (if b then None else Some f) ≡ Some e → f ≡ e
if_some true f e h = cc
if_some false f e h = cc

link_line : (line : ℕ) (rel : Rel) (pairs : ℕ) (o : Option First) (e : RelError) → link_fault line rel pairs o ≡ Some e → line_of e ≡ line
link_line line rel pairs None e h = ap line_of (sym (if_some (nat_lt pairs 1500000) (fault.TooManyLinks line) e h))
link_line line rel pairs (Some first) e h = ap line_of (sym (if_some (sameb the_type first.rel rel) (fault.Conflict line first.line) e h))

-- a fault names its line
line_of-fault_at : (before : FirstMap) (line : ℕ) (said : Line) (e : RelError) → fault_at before line said ≡ Some e → line_of e ≡ line
line_of-fault_at before line Skipped e h = cc
line_of-fault_at before line Unreadable e h = ap line_of (let same : fault.Unreadable line ≡ e = cc in sym same)
line_of-fault_at before line SelfLink e h = ap line_of (let same : fault.SelfLink line ≡ e = cc in sym same)
line_of-fault_at before line (Link lo hi rel) e h = link_line line rel (len before) (get before (lo, hi)) e h

-- where the first fault stands among the lines
pub record AtFault (before more : List Line) (e : RelError) : Type 0 where
  pub place : ℕ
  pub said : Line
  pub says : slice_get more place ≡ Some said
  pub faulty : fault_after (before ++ take place more) said ≡ Some e
  pub inside : place < length more
  pub line : line_of e ≡ length before + suc place
  pub none : first_fault before (take place more) ≡ None
  pub here : first_fault before (take (suc place) more) ≡ Some e

found_here : (before : List Line) (said : Line) (more : List Line) (e : RelError) → fault_after before said ≡ Some e → AtFault before (said ∷ more) e
found_here before said more e is = record {
  place = 0;
  said = said;
  says = refl;
  faulty = rw (append-nil before) is;
  inside = omega arith;
  line = line_of-fault_at (firsts before) (length before + 1) said e is;
  none = refl;
  here = rw is refl;
}

found_later : (before : List Line) (said : Line) (more : List Line) (e : RelError) → fault_after before said ≡ None → AtFault (before ++ said ∷ []) more e → AtFault before (said ∷ more) e
found_later before said more e is later = record {
  place = suc later.place;
  said = later.said;
  says = later.says;
  faulty = rw (append_assoc before (said ∷ []) (take later.place more)) at later.faulty;
  inside = omega (arith, later.inside);
  line = let n = length-append before (said ∷ []) in omega (arith, later.line, n);
  none = rw is later.none;
  here = rw is later.here;
}

pub at_fault : (before more : List Line) (e : RelError) → first_fault before more ≡ Some e → AtFault before more e
at_fault before [] e h = cc
at_fault before (said ∷ more) e h = by_first (fault_after before said) refl h (λ found. at_fault (before ++ said ∷ []) more e found)
  where
    by_first : (f : Option RelError) → fault_after before said ≡ f → option_or f (first_fault (before ++ said ∷ []) more) ≡ Some e
        → (first_fault (before ++ said ∷ []) more ≡ Some e → AtFault (before ++ said ∷ []) more e) → AtFault before (said ∷ more) e
    by_first (Some f) is found later = found_here before said more e (is ∙ found)
    by_first None is found later = found_later before said more e is (later found)

-- lines in front of lines without a fault
pub front_faultless : (before xs ys : List Line) → first_fault before (xs ++ ys) ≡ None → first_fault before xs ≡ None
front_faultless before [] ys h = refl
front_faultless before (x ∷ xs) ys h = by_first (fault_after before x) refl h (λ none. front_faultless (before ++ x ∷ []) xs ys none)
  where
    by_first : (f : Option RelError) → fault_after before x ≡ f → option_or f (first_fault (before ++ x ∷ []) (xs ++ ys)) ≡ None
        → (first_fault (before ++ x ∷ []) (xs ++ ys) ≡ None → first_fault (before ++ x ∷ []) xs ≡ None) → first_fault before (x ∷ xs) ≡ None
    by_first None is none later = rw is (later none)
    by_first (Some f) is none later = cc

pub take_faultless : (said : List Line) (k n : ℕ) → k ≤ n → first_fault [] (take n said) ≡ None → first_fault [] (take k said) ≡ None
take_faultless said k n le h =
    rw (take-take k n said le) at (front_faultless [] (take k (take n said)) (drop k (take n said)) (rw (take-append-drop k (take n said)) h))
