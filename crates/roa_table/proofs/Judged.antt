-- A record with three fields at least, and one with fewer.
use Rattle.std.proofs.Common.{◌≡◌, ℕ, List, [], ◌∷◌, Some, None, Err, refl}
use Rattle.csv.specs.Records.{field_at}
use Rattle.roa_table.specs.Records.{payload_of}
use Rattle.roa_table.specs.declared.errors.VrpError.TheVariants as fault

some_is : (x y : List ℕ) → Some x ≡ Some y → x ≡ y
some_is x y e = cc e

pub same_texts : (fields : List (List ℕ)) (a p m : List ℕ) → field_at fields 0 ≡ Some a → field_at fields 1 ≡ Some p → field_at fields 2 ≡ Some m → payload_of fields ≡ payload_of (a ∷ p ∷ m ∷ [])
unfolding field_at
same_texts [] a p m ea ep em = cc ea
same_texts (x ∷ []) a p m ea ep em = cc ep
same_texts (x ∷ (y ∷ [])) a p m ea ep em = cc em
same_texts (x ∷ (y ∷ (z ∷ more))) a p m ea ep em = λ i. payload_of (some_is x a ea i ∷ some_is y p ep i ∷ some_is z m em i ∷ [])

pub fewer : (fields : List (List ℕ)) → field_at fields 2 ≡ None → payload_of fields ≡ Err fault.Fields
unfolding field_at
fewer [] e = refl
fewer (x ∷ []) e = refl
fewer (x ∷ (y ∷ [])) e = refl
fewer (x ∷ (y ∷ (z ∷ more))) e = cc e

pub fewer_than_two : (fields : List (List ℕ)) → field_at fields 1 ≡ None → payload_of fields ≡ Err fault.Fields
unfolding field_at
fewer_than_two [] e = refl
fewer_than_two (x ∷ []) e = refl
fewer_than_two (x ∷ (y ∷ more)) e = cc e

pub none_at_all : (fields : List (List ℕ)) → field_at fields 0 ≡ None → payload_of fields ≡ Err fault.Fields
unfolding field_at
none_at_all [] e = refl
none_at_all (x ∷ more) e = cc e
