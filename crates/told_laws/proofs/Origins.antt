-- The one origin that words name is an AS.
use Rattle.std.proofs.Common.{◌≡◌, ℕ, Bool, true, false, List, [], ◌∷◌, Option, Some, None, option_map, if◌then◌else◌, refl, ap, subst}
use Rattle.clap.specs.Walk.{Text}
use Rattle.net_names.specs.Texts.{asn_of}
use Rattle.table_check.specs.Printed.{IsAsn}
use Rattle.task_reading.specs.Words.{Form, demo_form, form_by, form_of, origin_form}
use Rattle.task_reading.specs.declared.words.FileOption.{FileOption}
use Rattle.told_laws.specs.Printable.{OriginsAreAses}
use Rattle.told_laws.proofs.GoodFiles.{asn_read}

or_zero : Option Form → ℕ
or_zero (Some (origin_form rel origin)) = origin
or_zero form = 0

is_origin : Option Form → Bool
is_origin (Some (origin_form rel origin)) = true
is_origin form = false

no_demo : (o : Option ℕ) (rel : Text) (origin : ℕ) → option_map demo_form o ≡ Some (origin_form rel origin) → IsAsn origin
unfolding is_origin
no_demo None rel origin h = absurd (let t : false ≡ true = ap is_origin h in cc)
no_demo (Some n) rel origin h = absurd (let t : false ≡ true = ap is_origin h in cc)

no_file : (form : Option Form) (rel : Text) (origin : ℕ) → is_origin form ≡ false → form ≡ Some (origin_form rel origin) → IsAsn origin
unfolding is_origin
no_file form rel origin is h = absurd (let t : is_origin form ≡ true = ap is_origin h in cc)

one_origin : (r : Text) (o : Option ℕ) (rel : Text) (origin : ℕ) → ((n : ℕ) → o ≡ Some n → IsAsn n) → option_map (origin_form r) o ≡ Some (origin_form rel origin) → IsAsn origin
unfolding is_origin or_zero
one_origin r None rel origin asn h = absurd (let t : false ≡ true = ap is_origin h in cc)
one_origin r (Some n) rel origin asn h = let same : n ≡ origin = ap or_zero h in subst IsAsn same (asn n refl)

by_forms : (files : List (FileOption × Text)) (r v p a d : Option Text) (rel : Text) (origin : ℕ) → form_by files r v p a d ≡ Some (origin_form rel origin) → IsAsn origin
unfolding is_origin
by_forms [] None None None None None rel origin h = no_file _ rel origin refl h
by_forms [] None None None None (Some d) rel origin h = no_demo _ rel origin h
by_forms [] None None None (Some a) None rel origin h = no_file _ rel origin refl h
by_forms [] None None None (Some a) (Some d) rel origin h = no_file _ rel origin refl h
by_forms [] None None (Some p) None None rel origin h = no_file _ rel origin refl h
by_forms [] None None (Some p) None (Some d) rel origin h = no_file _ rel origin refl h
by_forms [] None None (Some p) (Some a) None rel origin h = no_file _ rel origin refl h
by_forms [] None None (Some p) (Some a) (Some d) rel origin h = no_file _ rel origin refl h
by_forms [] None (Some v) None None None rel origin h = no_file _ rel origin refl h
by_forms [] None (Some v) None None (Some d) rel origin h = no_file _ rel origin refl h
by_forms [] None (Some v) None (Some a) None rel origin h = no_file _ rel origin refl h
by_forms [] None (Some v) None (Some a) (Some d) rel origin h = no_file _ rel origin refl h
by_forms [] None (Some v) (Some p) None None rel origin h = no_file _ rel origin refl h
by_forms [] None (Some v) (Some p) None (Some d) rel origin h = no_file _ rel origin refl h
by_forms [] None (Some v) (Some p) (Some a) None rel origin h = no_file _ rel origin refl h
by_forms [] None (Some v) (Some p) (Some a) (Some d) rel origin h = no_file _ rel origin refl h
by_forms [] (Some r) None None None None rel origin h = no_file _ rel origin refl h
by_forms [] (Some r) None None None (Some d) rel origin h = no_file _ rel origin refl h
by_forms [] (Some r) None None (Some a) None rel origin h = one_origin r (asn_of a) rel origin (asn_read a) h
by_forms [] (Some r) None None (Some a) (Some d) rel origin h = no_file _ rel origin refl h
by_forms [] (Some r) None (Some p) None None rel origin h = no_file _ rel origin refl h
by_forms [] (Some r) None (Some p) None (Some d) rel origin h = no_file _ rel origin refl h
by_forms [] (Some r) None (Some p) (Some a) None rel origin h = no_file _ rel origin refl h
by_forms [] (Some r) None (Some p) (Some a) (Some d) rel origin h = no_file _ rel origin refl h
by_forms [] (Some r) (Some v) None None None rel origin h = no_file _ rel origin refl h
by_forms [] (Some r) (Some v) None None (Some d) rel origin h = no_file _ rel origin refl h
by_forms [] (Some r) (Some v) None (Some a) None rel origin h = no_file _ rel origin refl h
by_forms [] (Some r) (Some v) None (Some a) (Some d) rel origin h = no_file _ rel origin refl h
by_forms [] (Some r) (Some v) (Some p) None None rel origin h = no_file _ rel origin refl h
by_forms [] (Some r) (Some v) (Some p) None (Some d) rel origin h = no_file _ rel origin refl h
by_forms [] (Some r) (Some v) (Some p) (Some a) None rel origin h = no_file _ rel origin refl h
by_forms [] (Some r) (Some v) (Some p) (Some a) (Some d) rel origin h = no_file _ rel origin refl h
by_forms (o ∷ []) None None None None None rel origin h = no_file _ rel origin refl h
by_forms (o ∷ []) None None None None (Some d) rel origin h = no_file _ rel origin refl h
by_forms (o ∷ []) None None None (Some a) None rel origin h = no_file _ rel origin refl h
by_forms (o ∷ []) None None None (Some a) (Some d) rel origin h = no_file _ rel origin refl h
by_forms (o ∷ []) None None (Some p) None None rel origin h = no_file _ rel origin refl h
by_forms (o ∷ []) None None (Some p) None (Some d) rel origin h = no_file _ rel origin refl h
by_forms (o ∷ []) None None (Some p) (Some a) None rel origin h = no_file _ rel origin refl h
by_forms (o ∷ []) None None (Some p) (Some a) (Some d) rel origin h = no_file _ rel origin refl h
by_forms (o ∷ []) None (Some v) None None None rel origin h = no_file _ rel origin refl h
by_forms (o ∷ []) None (Some v) None None (Some d) rel origin h = no_file _ rel origin refl h
by_forms (o ∷ []) None (Some v) None (Some a) None rel origin h = no_file _ rel origin refl h
by_forms (o ∷ []) None (Some v) None (Some a) (Some d) rel origin h = no_file _ rel origin refl h
by_forms (o ∷ []) None (Some v) (Some p) None None rel origin h = no_file _ rel origin refl h
by_forms (o ∷ []) None (Some v) (Some p) None (Some d) rel origin h = no_file _ rel origin refl h
by_forms (o ∷ []) None (Some v) (Some p) (Some a) None rel origin h = no_file _ rel origin refl h
by_forms (o ∷ []) None (Some v) (Some p) (Some a) (Some d) rel origin h = no_file _ rel origin refl h
by_forms (o ∷ []) (Some r) None None None None rel origin h = no_file _ rel origin refl h
by_forms (o ∷ []) (Some r) None None None (Some d) rel origin h = no_file _ rel origin refl h
by_forms (o ∷ []) (Some r) None None (Some a) None rel origin h = no_file _ rel origin refl h
by_forms (o ∷ []) (Some r) None None (Some a) (Some d) rel origin h = no_file _ rel origin refl h
by_forms (o ∷ []) (Some r) None (Some p) None None rel origin h = no_file _ rel origin refl h
by_forms (o ∷ []) (Some r) None (Some p) None (Some d) rel origin h = no_file _ rel origin refl h
by_forms (o ∷ []) (Some r) None (Some p) (Some a) None rel origin h = no_file _ rel origin refl h
by_forms (o ∷ []) (Some r) None (Some p) (Some a) (Some d) rel origin h = no_file _ rel origin refl h
by_forms (o ∷ []) (Some r) (Some v) None None None rel origin h = no_file _ rel origin refl h
by_forms (o ∷ []) (Some r) (Some v) None None (Some d) rel origin h = no_file _ rel origin refl h
by_forms (o ∷ []) (Some r) (Some v) None (Some a) None rel origin h = no_file _ rel origin refl h
by_forms (o ∷ []) (Some r) (Some v) None (Some a) (Some d) rel origin h = no_file _ rel origin refl h
by_forms (o ∷ []) (Some r) (Some v) (Some p) None None rel origin h = no_file _ rel origin refl h
by_forms (o ∷ []) (Some r) (Some v) (Some p) None (Some d) rel origin h = no_file _ rel origin refl h
by_forms (o ∷ []) (Some r) (Some v) (Some p) (Some a) None rel origin h = no_file _ rel origin refl h
by_forms (o ∷ []) (Some r) (Some v) (Some p) (Some a) (Some d) rel origin h = no_file _ rel origin refl h
by_forms (o ∷ q ∷ os) None None None None None rel origin h = no_file _ rel origin refl h
by_forms (o ∷ q ∷ os) None None None None (Some d) rel origin h = no_file _ rel origin refl h
by_forms (o ∷ q ∷ os) None None None (Some a) None rel origin h = no_file _ rel origin refl h
by_forms (o ∷ q ∷ os) None None None (Some a) (Some d) rel origin h = no_file _ rel origin refl h
by_forms (o ∷ q ∷ os) None None (Some p) None None rel origin h = no_file _ rel origin refl h
by_forms (o ∷ q ∷ os) None None (Some p) None (Some d) rel origin h = no_file _ rel origin refl h
by_forms (o ∷ q ∷ os) None None (Some p) (Some a) None rel origin h = no_file _ rel origin refl h
by_forms (o ∷ q ∷ os) None None (Some p) (Some a) (Some d) rel origin h = no_file _ rel origin refl h
by_forms (o ∷ q ∷ os) None (Some v) None None None rel origin h = no_file _ rel origin refl h
by_forms (o ∷ q ∷ os) None (Some v) None None (Some d) rel origin h = no_file _ rel origin refl h
by_forms (o ∷ q ∷ os) None (Some v) None (Some a) None rel origin h = no_file _ rel origin refl h
by_forms (o ∷ q ∷ os) None (Some v) None (Some a) (Some d) rel origin h = no_file _ rel origin refl h
by_forms (o ∷ q ∷ os) None (Some v) (Some p) None None rel origin h = no_file _ rel origin refl h
by_forms (o ∷ q ∷ os) None (Some v) (Some p) None (Some d) rel origin h = no_file _ rel origin refl h
by_forms (o ∷ q ∷ os) None (Some v) (Some p) (Some a) None rel origin h = no_file _ rel origin refl h
by_forms (o ∷ q ∷ os) None (Some v) (Some p) (Some a) (Some d) rel origin h = no_file _ rel origin refl h
by_forms (o ∷ q ∷ os) (Some r) None None None None rel origin h = no_file _ rel origin refl h
by_forms (o ∷ q ∷ os) (Some r) None None None (Some d) rel origin h = no_file _ rel origin refl h
by_forms (o ∷ q ∷ os) (Some r) None None (Some a) None rel origin h = no_file _ rel origin refl h
by_forms (o ∷ q ∷ os) (Some r) None None (Some a) (Some d) rel origin h = no_file _ rel origin refl h
by_forms (o ∷ q ∷ os) (Some r) None (Some p) None None rel origin h = no_file _ rel origin refl h
by_forms (o ∷ q ∷ os) (Some r) None (Some p) None (Some d) rel origin h = no_file _ rel origin refl h
by_forms (o ∷ q ∷ os) (Some r) None (Some p) (Some a) None rel origin h = no_file _ rel origin refl h
by_forms (o ∷ q ∷ os) (Some r) None (Some p) (Some a) (Some d) rel origin h = no_file _ rel origin refl h
by_forms (o ∷ q ∷ os) (Some r) (Some v) None None None rel origin h = no_file _ rel origin refl h
by_forms (o ∷ q ∷ os) (Some r) (Some v) None None (Some d) rel origin h = no_file _ rel origin refl h
by_forms (o ∷ q ∷ os) (Some r) (Some v) None (Some a) None rel origin h = no_file _ rel origin refl h
by_forms (o ∷ q ∷ os) (Some r) (Some v) None (Some a) (Some d) rel origin h = no_file _ rel origin refl h
by_forms (o ∷ q ∷ os) (Some r) (Some v) (Some p) None None rel origin h = no_file _ rel origin refl h
by_forms (o ∷ q ∷ os) (Some r) (Some v) (Some p) None (Some d) rel origin h = no_file _ rel origin refl h
by_forms (o ∷ q ∷ os) (Some r) (Some v) (Some p) (Some a) None rel origin h = no_file _ rel origin refl h
by_forms (o ∷ q ∷ os) (Some r) (Some v) (Some p) (Some a) (Some d) rel origin h = no_file _ rel origin refl h

pub origins_are_ases : OriginsAreAses
unfolding form_of is_origin
origins_are_ases words rel origin h = by _ _ _ _ _ _ _ h
  where
    by : (b : Bool) (files : List (FileOption × Text)) (r v p a d : Option Text) → (if b then form_by files r v p a d else None) ≡ Some (origin_form rel origin) → IsAsn origin
    by true files r v p a d e = by_forms files r v p a d rel origin e
    by false files r v p a d e = no_file None rel origin refl e
