-- Each fault is one that the lines have.
use Rattle.std.proofs.Common.{◌≡◌, ◌≢◌, ℕ, zero, suc, ◌+◌, ◌-◌, ◌<◌, ◌≤◌, Bool, true, false, cond, List, [], ◌∷◌, length, take, length-take-le, Contains, Option, Some, None, refl, sym, ap, subst, ◌∙◌, arith, slice_get, if◌then◌else◌}
use Rattle.std.specs.Prelude.{nat_lt, option_map}
use Rattle.std.specs.Ordering.{eq_by_cmp, is_eq}
use Rattle.std.specs.Cmp.{tied_itself}
use Rattle.std.proofs.lemmas.Bool.{ltb-false}
use Rattle.std.proofs.lemmas.Option.{slice_get_within, get_or_from_slice_get}
use Rattle.std.specs.FinMap.{find, get, len, get-from_entries}
use Rattle.net_names.specs.Links.{pair_cmp}
use Rattle.net_names.proofs.Pairs.{pairs_total}
use denote.Enum.Bare.{sameb}
use Rattle.net_names.specs.declared.routes.Rel.{Rel}
use Rattle.net_names.specs.contracts.routes.Rel.{the_type}
use Rattle.net_names.specs.declared.routes.Rel.TheVariants.{Customer, Peer, Provider}
use Rattle.caida_reader.specs.Firsts.{firsts}
use Rattle.caida_reader.specs.Value.{links_in, numbered, link_fault, fault_after}
use Rattle.caida_reader.specs.Laws.{SaysAt, IsConflict, IsOneTooMany, IsCause}
use Rattle.caida_reader.specs.declared.line.Line.{Line}
use Rattle.caida_reader.specs.declared.line.Line.TheVariants.{Skipped, Unreadable, SelfLink, Link}
use Rattle.caida_reader.specs.declared.firsts.First.{First}
use Rattle.caida_reader.specs.declared.errors.RelError.{RelError}
use Rattle.caida_reader.specs.declared.errors.RelError.TheVariants as fault
use Rattle.caida_reader.proofs.PairLemmas.{same_pair}
use Rattle.caida_reader.proofs.Given.{find-firsts, missing_is_not_given, len-links_in}
use Rattle.caida_reader.proofs.Accepted.{HasLinks-from_faultless, nothing_has_links}
use Rattle.caida_reader.proofs.Faulty.{AtFault}

Contains-from_slice_get : {X : Type 0} (xs : List X) (k : ℕ) (x : X) → slice_get xs k ≡ Some x → Contains xs x
Contains-from_slice_get xs k x h = (k, slice_get_within xs k x h, get_or_from_slice_get xs k x x h)

slice_get-front : {X : Type 0} (xs : List X) (n k : ℕ) → k < n → slice_get (take n xs) k ≡ slice_get xs k
slice_get-front xs zero k lt = absurd (omega (arith, lt))
slice_get-front [] (suc n) k lt = refl
slice_get-front (x ∷ xs) (suc n) zero lt = refl
slice_get-front (x ∷ xs) (suc n) (suc k) lt = slice_get-front xs n k (omega (arith, lt))

-- the first line of a pair among lines that are numbered on from n
pub record FirstOf (n : ℕ) (said : List Line) (lo hi : ℕ) (first : First) : Type 0 where
  pub place : ℕ
  pub line : first.line ≡ n + place
  pub at : slice_get said place ≡ Some (Link lo hi first.rel)
  pub none : (k : ℕ) (rel : Rel) → k < place → slice_get said k ≡ Some (Link lo hi rel) → ⊥

tied : (lo hi c d : ℕ) (rel s : Rel) → eq_by_cmp pair_cmp (lo, hi) (c, d) ≡ false → Link c d s ≡ Link lo hi rel → ⊥
tied lo hi c d rel s apart e =
    let lower : c ≡ lo = cc in
    let higher : d ≡ hi = cc in
    let f : eq_by_cmp pair_cmp (lo, hi) (lo, hi) ≡ false = rw (lower, higher) at apart in
    let t : eq_by_cmp pair_cmp (lo, hi) (lo, hi) ≡ true = ap is_eq (tied_itself pairs_total (lo, hi)) in
    cc

later : (n : ℕ) (x : Line) (said : List Line) (lo hi : ℕ) (first : First) → ((rel : Rel) → x ≡ Link lo hi rel → ⊥) → FirstOf (n + 1) said lo hi first → FirstOf n (x ∷ said) lo hi first
later n x said lo hi first other h = record {
  place = suc h.place;
  line = omega (arith, h.line);
  at = h.at;
  none = before;
}
  where
    before : (k : ℕ) (rel : Rel) → k < suc h.place → slice_get (x ∷ said) k ≡ Some (Link lo hi rel) → ⊥
    before zero rel lt is = other rel (cc)
    before (suc k) rel lt is = h.none k rel (omega (arith, lt)) is

by_tie : (n : ℕ) (c d : ℕ) (s : Rel) (said : List Line) (lo hi : ℕ) (first : First) (b : Bool) → eq_by_cmp pair_cmp (lo, hi) (c, d) ≡ b → (rest : Option First)
    → (rest ≡ Some first → FirstOf (n + 1) said lo hi first) → cond b (Some (record { rel = s; line = n })) rest ≡ Some first → FirstOf n (Link c d s ∷ said) lo hi first
by_tie n c d s said lo hi first true is rest further h =
    let same : ◌≡◌ {A = ℕ × ℕ} (lo, hi) (c, d) = same_pair (lo, hi) (c, d) is in
    let here : record { rel = s; line = n } ≡ first = cc in
    record {
      place = 0;
      line = ap (λ (f : First). f.line) (sym here) ∙ omega arith;
      at = ap (λ (p : ℕ × ℕ). Some (Link p.0 p.1 s)) (sym same) ∙ ap (λ (f : First). Some (Link lo hi f.rel)) here;
      none = λ k rel lt e. omega (arith, lt);
    }
by_tie n c d s said lo hi first false is rest further h = later n (Link c d s) said lo hi first (λ rel e. tied lo hi c d rel s is e) (further h)

pub first_of : (n : ℕ) (said : List Line) (lo hi : ℕ) (first : First) → find pair_cmp (lo, hi) (numbered n said) ≡ Some first → FirstOf n said lo hi first
first_of n [] lo hi first h = cc
first_of n (Link c d s ∷ said) lo hi first h = by_tie n c d s said lo hi first (eq_by_cmp pair_cmp (lo, hi) (c, d)) refl (find pair_cmp (lo, hi) (numbered (n + 1) said)) (λ e. first_of (n + 1) said lo hi first e) h
first_of n (Skipped ∷ said) lo hi first h = later n Skipped said lo hi first (λ rel e. cc) (first_of (n + 1) said lo hi first h)
first_of n (Unreadable ∷ said) lo hi first h = later n Unreadable said lo hi first (λ rel e. cc) (first_of (n + 1) said lo hi first h)
first_of n (SelfLink ∷ said) lo hi first h = later n SelfLink said lo hi first (λ rel e. cc) (first_of (n + 1) said lo hi first h)

not_same : (r q : Rel) → sameb the_type r q ≡ false → q ≢ r
not_same Customer q h e = let f : sameb the_type Customer Customer ≡ false = rw e at h in cc
not_same Peer q h e = let f : sameb the_type Peer Peer ≡ false = rw e at h in cc
not_same Provider q h e = let f : sameb the_type Provider Provider ≡ false = rw e at h in cc

module _ (said : List Line) (place : ℕ) (inside : place < length said) where
  abbrev front : List Line
  front = take place said

  number : length front + 1 ≡ place + 1
  number = ap (λ n. n + 1) (length-take-le place said (omega (arith, inside)))

  says_at : (what : Line) → slice_get said place ≡ Some what → SaysAt said (length front + 1) what
  says_at what is = (omega arith, ap (slice_get said) (let n = number in omega (arith, n)) ∙ is)

  in_front : (line : ℕ) (what : Line) → line < length front + 1 → SaysAt said line what → slice_get front (line - 1) ≡ Some what
  in_front line what lt h = slice_get-front said place (line - 1) (let n = number in omega (arith, n, lt, h.0)) ∙ h.1

  too_many : (lo hi : ℕ) (rel : Rel) → slice_get said place ≡ Some (Link lo hi rel) → get (firsts front) (lo, hi) ≡ None → len (firsts front) ≤ 1500000 → 1500000 ≤ len (firsts front) → IsOneTooMany said (length front + 1)
  too_many lo hi rel is none most least = record {
    lo = lo;
    hi = hi;
    rel = rel;
    here = says_at (Link lo hi rel) is;
    new = λ earlier other lt h. missing_is_not_given front lo hi other (find-firsts front (lo, hi) ∙ ap (option_map (λ (f : First). f.rel)) none) (Contains-from_slice_get front (earlier - 1) _ (in_front earlier _ lt h));
    full = ap (λ n. len (links_in (take n said))) (let n = number in omega (arith, n)) ∙ len-links_in front ∙ omega (arith, most, least);
  }

  conflict : (lo hi : ℕ) (rel : Rel) (first : First) → slice_get said place ≡ Some (Link lo hi rel) → get (firsts front) (lo, hi) ≡ Some first → sameb the_type first.rel rel ≡ false → IsConflict said (length front + 1) first.line
  conflict lo hi rel first is stands apart =
      let given = first_of 1 front lo hi first (sym (get-from_entries pairs_total (numbered 1 front) (lo, hi)) ∙ stands) in
      let within : given.place < length front = slice_get_within front given.place _ given.at in
      let n = number in
      record {
        lo = lo;
        hi = hi;
        rel = rel;
        other = first.rel;
        here = says_at (Link lo hi rel) is;
        there = (omega (arith, given.line), ap (slice_get said) (omega (arith, given.line)) ∙ sym (slice_get-front said place given.place (omega (arith, within, n))) ∙ given.at);
        first = λ earlier other lt h. given.none (earlier - 1) other (omega (arith, given.line, lt, h.0)) (in_front earlier _ (omega (arith, lt, given.line, within)) h);
        before = omega (arith, given.line, within);
        differ = not_same first.rel rel apart;
      }

  by_first : (lo hi : ℕ) (rel : Rel) (e : RelError) → slice_get said place ≡ Some (Link lo hi rel) → len (firsts front) ≤ 1500000 → (o : Option First) → get (firsts front) (lo, hi) ≡ o
      → link_fault (length front + 1) rel (len (firsts front)) o ≡ Some e → IsCause said e
  by_first lo hi rel e is most None none found = by_room (nat_lt (len (firsts front)) 1500000) refl found
    where
      by_room : (b : Bool) → nat_lt (len (firsts front)) 1500000 ≡ b → (if b then None else Some (fault.TooManyLinks (length front + 1))) ≡ Some e → IsCause said e
      by_room true lt h = cc
      by_room false lt h =
          let same : fault.TooManyLinks (length front + 1) ≡ e = cc in
          subst (IsCause said) same (too_many lo hi rel is none most (ltb-false _ _ lt))
  by_first lo hi rel e is most (Some first) stands found = by_same (sameb the_type first.rel rel) refl found
    where
      by_same : (b : Bool) → sameb the_type first.rel rel ≡ b → (if b then None else Some (fault.Conflict (length front + 1) first.line)) ≡ Some e → IsCause said e
      by_same true s h = cc
      by_same false s h =
          let same : fault.Conflict (length front + 1) first.line ≡ e = cc in
          subst (IsCause said) same (conflict lo hi rel first is stands s)

  by_line : (what : Line) (e : RelError) → slice_get said place ≡ Some what → len (firsts front) ≤ 1500000 → fault_after front what ≡ Some e → IsCause said e
  by_line Skipped e is most h = cc
  by_line Unreadable e is most h = let same : fault.Unreadable (length front + 1) ≡ e = cc in subst (IsCause said) same (says_at Unreadable is)
  by_line SelfLink e is most h = let same : fault.SelfLink (length front + 1) ≡ e = cc in subst (IsCause said) same (says_at SelfLink is)
  by_line (Link lo hi rel) e is most h = by_first lo hi rel e is most (get (firsts front) (lo, hi)) refl h

-- the fault of lines is one that they have
pub cause : (said : List Line) (e : RelError) → AtFault [] said e → IsCause said e
cause said e at =
    let before = HasLinks-from_faultless [] (take at.place said) nothing_has_links at.none in
    by_line said at.place at.inside at.said e at.says (rw (len-links_in (take at.place said)) at before.few) at.faulty
