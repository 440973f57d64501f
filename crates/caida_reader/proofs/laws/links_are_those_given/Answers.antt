use Rattle.std.proofs.Common.{◌≡◌, ℕ, suc, List, [], take, Contains, IsPermutation, Option, Some, None, Ok, Err, IsOk, refl, sym, ap, ◌∙◌, arith}
use Rattle.std.proofs.lemmas.List.Sorted.{IsPermutation-map, IsPermutation-sym, All-permutation, Contains-permutation}
use Rattle.std.specs.FinMap.{find, get, get-from_entries, same_map}
use Rattle.net_names.specs.Links.{pair_cmp, LinkMap}
use Rattle.net_names.specs.Texts.{fields}
use Rattle.net_names.proofs.Pairs.{exact_pair, pairs_total}
use Rattle.net_names.specs.declared.routes.Rel.{Rel}
use Rattle.caida_reader.specs.Says.{says}
use Rattle.caida_reader.specs.Value.{said_in, links_in}
use Rattle.net_names.specs.Steps.{unless}
use Rattle.caida_reader.specs.Laws.{HasLinks, line_of}
use Rattle.caida_reader.specs.declared.line.Line.{Line}
use Rattle.caida_reader.specs.declared.line.Line.TheVariants.{Unreadable, SelfLink, Link}
use Rattle.caida_reader.specs.declared.errors.RelError.{RelError}
use Rattle.caida_reader.proofs.Values.{first_fault, links_given, links_in-given}
use Rattle.caida_reader.proofs.Given.{found_is_given, missing_is_not_given}
use Rattle.caida_reader.proofs.Accepted.{nothing_has_links, HasLinks-from_faultless, faultless_of_HasLinks}
use Rattle.caida_reader.proofs.Causes.{cause}
use Rattle.caida_reader.proofs.Faulty.{at_fault, take_faultless}
use Rattle.caida_reader.proofs.laws.links_are_those_given.Goals as goal

no_fault : (f : Option RelError) (links : LinkMap) → IsOk (unless f (Ok links)) → f ≡ None
no_fault None links h = refl
no_fault (Some e) links h = cc

ok_parts : (f : Option RelError) (links value : LinkMap) → unless f (Ok links) ≡ Ok value → (f ≡ None) × (links ≡ value)
ok_parts None links value h = (refl, cc)
ok_parts (Some e) links value h = cc

err_part : (f : Option RelError) (links : LinkMap) (e : RelError) → unless f (Ok links) ≡ Err e → f ≡ Some e
err_part None links e h = cc
err_part (Some f) links e h = let same : f ≡ e = cc in ap (λ x. Some x) same

has_links : (said : List Line) → first_fault [] said ≡ None → HasLinks said
has_links said none = HasLinks-from_faultless [] said nothing_has_links none

pub returns-clause-accepted : goal.returns-clause-accepted
returns-clause-accepted c = λ bytes. (
  λ ok. has_links (said_in bytes) (no_fault (first_fault [] (said_in bytes)) (links_in (said_in bytes)) ok),
  λ h. rw (faultless_of_HasLinks [] (said_in bytes) h) refl,
)

-- a link that is given, where all that are given agree
found_if_given : (said : List Line) → HasLinks said → (lo hi : ℕ) (rel : Rel) → Contains said (Link lo hi rel) → (o : Option Rel) → find pair_cmp (lo, hi) (links_given said) ≡ o → o ≡ Some rel
found_if_given said h lo hi rel given None is = absurd (missing_is_not_given said lo hi rel is given)
found_if_given said h lo hi rel given (Some other) is = ap (λ r. Some r) (h.agree lo hi other rel (found_is_given said lo hi other is) given)

pub returns-clause-given : goal.returns-clause-given
returns-clause-given c = λ bytes links is lo hi rel.
    let said = said_in bytes in
    let parts = ok_parts (first_fault [] said) (links_in said) links is in
    let got : get links (lo, hi) ≡ find pair_cmp (lo, hi) (links_given said) = ap (λ (m : LinkMap). get m (lo, hi)) (sym parts.1 ∙ links_in-given said) ∙ get-from_entries pairs_total (links_given said) (lo, hi) in (
      λ h. found_is_given said lo hi rel (sym got ∙ h),
      λ given. got ∙ found_if_given said (has_links said parts.0) lo hi rel given (find pair_cmp (lo, hi) (links_given said)) refl,
    )

-- the same links in another order
module _ (said others : List Line) (perm : IsPermutation said others) (h : HasLinks said) where
  back : IsPermutation others said
  back = IsPermutation-sym said others perm

  same_find : (lo hi : ℕ) (o : Option Rel) → find pair_cmp (lo, hi) (links_given others) ≡ o → find pair_cmp (lo, hi) (links_given said) ≡ o
  same_find lo hi None is = none_if (find pair_cmp (lo, hi) (links_given said)) refl
    where
      none_if : (o : Option Rel) → find pair_cmp (lo, hi) (links_given said) ≡ o → o ≡ None
      none_if None e = refl
      none_if (Some rel) e = absurd (missing_is_not_given others lo hi rel is (Contains-permutation said others (Link lo hi rel) perm (found_is_given said lo hi rel e)))
  same_find lo hi (Some rel) is = found_if_given said h lo hi rel (Contains-permutation others said (Link lo hi rel) back (found_is_given others lo hi rel is)) (find pair_cmp (lo, hi) (links_given said)) refl

  same_links : links_in others ≡ links_in said
  same_links =
      links_in-given others
      ∙ same_map pairs_total exact_pair _ _ (λ q.
      get-from_entries pairs_total (links_given others) q ∙ sym (same_find q.0 q.1 (find pair_cmp q (links_given others)) refl) ∙ sym (get-from_entries pairs_total (links_given said) q))
      ∙ sym (links_in-given said)

  others_have_links : HasLinks others
  others_have_links = record {
    readable = All-permutation (λ line. line ≡ Unreadable → ⊥) said others perm h.readable;
    apart = All-permutation (λ line. line ≡ SelfLink → ⊥) said others perm h.apart;
    agree = λ lo hi rel other a b. h.agree lo hi rel other (Contains-permutation others said _ back a) (Contains-permutation others said _ back b);
    few = rw same_links h.few;
  }

pub returns-clause-any_order : goal.returns-clause-any_order
returns-clause-any_order c = λ bytes others links perm is.
    let said = said_in bytes in
    let parts = ok_parts (first_fault [] said) (links_in said) links is in
    let moved = IsPermutation-map says (fields 10 bytes) (fields 10 others) perm in
    let h = has_links said parts.0 in
    rw (faultless_of_HasLinks [] (said_in others) (others_have_links said (said_in others) moved h))
    (ap (λ (m : LinkMap). Ok m) (same_links said (said_in others) moved h ∙ parts.1))

pub returns-clause-first_faulty : goal.returns-clause-first_faulty
returns-clause-first_faulty c = λ bytes e is.
    let said = said_in bytes in
    let at = at_fault [] said e (err_part (first_fault [] said) (links_in said) e is) in
    let n : line_of e ≡ suc at.place = omega (arith, at.line) in
    record {
      inside = omega (arith, at.line, at.inside);
      before = λ line lt. rw (take_faultless said line at.place (omega (arith, lt, at.line)) at.none) refl;
      here = rw n (ap (λ f. unless f (Ok (links_in (take (suc at.place) said)))) at.here);
    }

pub returns-clause-cause : goal.returns-clause-cause
returns-clause-cause c = λ bytes e is. cause (said_in bytes) e (at_fault [] (said_in bytes) e (err_part (first_fault [] (said_in bytes)) (links_in (said_in bytes)) e is))
