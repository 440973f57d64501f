-- Digits from the front of a text on, and the line that begins with them.
use Rattle.std.proofs.Common.{◌≡◌, ◌≢◌, ℕ, suc, ◌+◌, ◌-◌, ◌^◌, ◌<◌, ◌≤◌, Bool, true, false, List, [], ◌∷◌, ◌++◌, length, length-append, length-drop, take, drop, get_or, take-append-drop, append_assoc, Option, Some, All, codes, refl, sym, ap, ◌∙◌, arith, inl, inr, if◌then◌else◌}
use Rattle.std.specs.Prelude.{◌==◌, nat_lt, option_map, unwrap_or}
use Rattle.std.specs.Char.{is_digit}
use Rattle.std.specs.List.{list_all}
use Rattle.std.proofs.lemmas.Bool.{lt-ltb, ne_eqb, eqb-false, cases_Bool}
use Rattle.std.proofs.Math.Seq.{get_or-append_right, take-append-add}
use Rattle.std.proofs.lemmas.List.{drop_more, take_all}
use Rattle.std.proofs.lemmas.List.Folds.{list_all_at}
use Rattle.std.proofs.lemmas.List.Elements.{All-append, All-cons, All-nil}
use Rattle.std.specs.Str.Lines.{strip_carriage_return}
use Rattle.net_names.specs.Steps.{◌>>=◌}
use Rattle.net_names.specs.declared.routes.Rel.{Rel}
use Rattle.net_names.specs.Texts.{fields, is_skipped, numeral, asn_of, rel_of}
use Rattle.net_names.proofs.TextLaws.{cut_again}
use Rattle.net_names.proofs.Cuts.{fields_cut}
use Rattle.caida_reader.specs.Lines.{IsOneLine}
use Rattle.caida_reader.specs.Says.{link, said_by, says}
use Rattle.caida_reader.specs.Plain.{BeginsWithAsn, BeginsWithFields, BeginsWithLine, BeginsWithRel}
use Rattle.caida_reader.specs.declared.line.Line.{Line}
use Rattle.caida_reader.specs.declared.line.Line.TheVariants as what

-- digits before a bar
pub whole : (text : List ℕ) (n : ℕ) → n < length text → get_or text n 0 ≡ 124 → text ≡ take n text ++ 124 ∷ take (length text - (n + 1)) (drop (n + 1) text)
whole text n lt bar =
    let all : take (length text - (n + 1)) (drop (n + 1) text) ≡ drop (n + 1) text = take_all (length text - (n + 1)) (drop (n + 1) text) (let l = length-drop (n + 1) text in omega (arith, l)) in
    sym (take-append-drop n text) ∙ ap (λ l. take n text ++ l) (drop_more text n 0 lt ∙ ap (λ b. b ∷ drop (n + 1) text) bar ∙ ap (λ l. 124 ∷ l) (sym all))

-- a byte that is no digit stands nowhere among digits
module _ (byte : ℕ) (other : is_digit byte 10 ≡ false) where
  unlike : (c : ℕ) → is_digit c 10 ≡ true → (c == byte) ≡ false
  unlike c h = ne_eqb c byte (λ q. let k = rw (q, other) at h in absurd (cc))

  free : (xs : List ℕ) → list_all (λ c. is_digit c 10) xs ≡ true → All (λ c. (c == byte) ≡ false) xs
  free xs h k d lt = elim (cases_Bool (is_digit (get_or xs k d) 10)) [
    | inl t ↦ unlike (get_or xs k d) t
    | inr f ↦ let e : true ≡ false = sym h ∙ list_all_at (λ c. is_digit c 10) xs k d lt f in absurd (cc)
  ]

fields_digits : (field rest : List ℕ) → list_all (λ c. is_digit c 10) field ≡ true → fields 124 (field ++ 124 ∷ rest) ≡ field ∷ fields 124 rest
fields_digits field rest digits = fields_cut 124 (field ++ 124 ∷ rest) field rest (cut_again 124 field rest (free 124 refl field digits))

not_skipped : (field rest : List ℕ) → 0 < length field → list_all (λ c. is_digit c 10) field ≡ true → is_skipped (field ++ rest) ≡ false
not_skipped [] rest some digits = absurd (omega (arith, some))
not_skipped (c ∷ cs) rest some digits = free 35 refl (c ∷ cs) digits 0 c (omega arith)

one_line : (field : List ℕ) → list_all (λ c. is_digit c 10) field ≡ true → IsOneLine field
one_line field digits k d lt = eqb-false _ _ (free 10 refl field digits k d lt)

-- what stands in front of a bar is kept where a carriage return is dropped
strip_carriage_return-behind : (front end : List ℕ) → strip_carriage_return (front ++ 124 ∷ end) ≡ front ++ 124 ∷ strip_carriage_return end
strip_carriage_return-behind front [] =
    let l : length (front ++ 124 ∷ []) - 1 ≡ length front = let n = length-append front (124 ∷ []) in omega (arith, n) in
    let e : get_or (front ++ 124 ∷ []) (length front) 0 ≡ 124 = get_or-append_right front (124 ∷ []) (length front) 0 (omega arith) ∙ ap (λ i. get_or (124 ∷ []) i 0) (let z : length front - length front ≡ 0 = omega arith in z) in
    rw (l, e) refl
strip_carriage_return-behind front (b ∷ bs) =
    let m : ℕ = length bs in
    let l : length (front ++ 124 ∷ b ∷ bs) - 1 ≡ length front + suc m = let n = length-append front (124 ∷ b ∷ bs) in omega (arith, n) in
    let e : get_or (front ++ 124 ∷ b ∷ bs) (length front + suc m) 0 ≡ get_or (b ∷ bs) m 0 =
    get_or-append_right front (124 ∷ b ∷ bs) (length front + suc m) 0 (omega arith) ∙ ap (λ i. get_or (124 ∷ b ∷ bs) i 0) (let z : length front + suc m - length front ≡ suc m = omega arith in z) in
    let t : take (length front + suc m) (front ++ 124 ∷ b ∷ bs) ≡ front ++ 124 ∷ take m (b ∷ bs) = take-append-add front (124 ∷ b ∷ bs) (suc m) in
    let n : suc m - 1 ≡ m = omega arith in
    rw (l, e, t, n) (by_last (get_or (b ∷ bs) m 0 == 13))
  where
    by_last : (t : Bool) → (if t then front ++ 124 ∷ take (length bs) (b ∷ bs) else front ++ 124 ∷ b ∷ bs) ≡ front ++ 124 ∷ (if t then take (length bs) (b ∷ bs) else b ∷ bs)
    by_last true = refl
    by_last false = refl

-- what a text without its carriage return says
abbrev said_of : List ℕ → Line
said_of text = if is_skipped text then what.Skipped else said_by (fields 124 text)

-- what two AS numbers and a relation say
abbrev pub linked : ℕ → ℕ → Option Rel → Line
linked a b rel = unwrap_or (option_map (link a b) rel) what.Unreadable

-- a line whose first two fields are AS numbers
module _ (text one two end rest : List ℕ) (a b : ℕ) (first : BeginsWithAsn text a one) (second : BeginsWithAsn one b two) (cut : two ≡ end ++ 10 ∷ rest) (ended : IsOneLine end) where
  abbrev line : List ℕ
  line = first.field ++ 124 ∷ (second.field ++ 124 ∷ end)

  parted : text ≡ line ++ 10 ∷ rest
  parted =
      first.whole ∙ ap (λ l. first.field ++ 124 ∷ l) (second.whole ∙ ap (λ l. second.field ++ 124 ∷ l) cut ∙ sym (append_assoc second.field (124 ∷ end) (10 ∷ rest)))
      ∙ sym (append_assoc first.field (124 ∷ (second.field ++ 124 ∷ end)) (10 ∷ rest))

  line-one_line : IsOneLine line
  line-one_line = All-append (λ byte. byte ≢ 10) first.field _ (one_line first.field first.digits) (All-cons (λ byte. byte ≢ 10) 124 _ (λ e. cc)
      (All-append (λ byte. byte ≢ 10) second.field _ (one_line second.field second.digits) (All-cons (λ byte. byte ≢ 10) 124 end (λ e. cc) ended)))

  said : (third : List ℕ) (further : List (List ℕ)) → fields 124 (strip_carriage_return end) ≡ third ∷ further → says line ≡ linked a b (rel_of third)
  said third further is =
      ap said_of (strip_carriage_return-behind first.field (second.field ++ 124 ∷ end) ∙ ap (λ l. first.field ++ 124 ∷ l) (strip_carriage_return-behind second.field end))
      ∙ ap (λ (s : Bool). if s then what.Skipped else said_by (fields 124 (first.field ++ 124 ∷ (second.field ++ 124 ∷ strip_carriage_return end)))) (not_skipped first.field (124 ∷ (second.field ++ 124 ∷ strip_carriage_return end)) first.some first.digits)
      ∙ ap said_by (fields_digits first.field (second.field ++ 124 ∷ strip_carriage_return end) first.digits ∙ ap (λ l. first.field ∷ l) (fields_digits second.field (strip_carriage_return end) second.digits ∙ ap (λ l. second.field ∷ l) is))
      ∙ ap (λ o. unwrap_or (o >>= λ x. asn_of second.field >>= λ y. option_map (link x y) (rel_of third)) what.Unreadable) first.value
      ∙ ap (λ o. unwrap_or (o >>= λ y. option_map (link a y) (rel_of third)) what.Unreadable) second.value

  pub begins : (third : List ℕ) (further : List (List ℕ)) (s : Line) → fields 124 (strip_carriage_return end) ≡ third ∷ further → s ≡ linked a b (rel_of third) → BeginsWithLine text s rest
  begins third further s is value = record { line = line; whole = parted; one_line = line-one_line; value = value ∙ sym (said third further is) }

customer : IsOneLine (codes "-1")
customer = All-cons (λ byte. byte ≢ 10) 45 (49 ∷ []) (λ e. cc) (All-cons (λ byte. byte ≢ 10) 49 [] (λ e. cc) (All-nil (λ byte. byte ≢ 10)))

peer : IsOneLine (codes "0")
peer = All-cons (λ byte. byte ≢ 10) 48 [] (λ e. cc) (All-nil (λ byte. byte ≢ 10))

-- a line whose first two fields are AS numbers, and whose third is this relation
module _ (text one two more rest : List ℕ) (a b : ℕ) (rel : Rel) (said : Line) (first : BeginsWithAsn text a one) (second : BeginsWithAsn one b two) (last : BeginsWithFields more rest) (value : said ≡ linked a b (Some rel)) where
  with_field : (field : List ℕ) → rel_of field ≡ Some rel → IsOneLine field → fields 124 (strip_carriage_return (field ++ [])) ≡ field ∷ [] → ((x : List ℕ) → fields 124 (field ++ 124 ∷ x) ≡ field ∷ fields 124 x) → two ≡ field ++ more → BeginsWithLine text said rest
  with_field field says_rel line alone barred whole_two =
      let ended : two ≡ (field ++ last.end) ++ 10 ∷ rest = whole_two ∙ ap (λ l. field ++ l) last.whole ∙ sym (append_assoc field last.end (10 ∷ rest)) in
      let all : IsOneLine (field ++ last.end) = All-append (λ byte. byte ≢ 10) field last.end line last.one_line in
      let is : said ≡ linked a b (rel_of field) = value ∙ ap (linked a b) (sym says_rel) in
      elim last.bar [
        | inl none ↦ begins text one two (field ++ last.end) rest a b first second ended all field [] said (ap (λ l. fields 124 (strip_carriage_return (field ++ l))) none ∙ alone) is
        | inr bar ↦ begins text one two (field ++ last.end) rest a b first second ended all field (fields 124 (strip_carriage_return bar.0)) said
            (ap (λ l. fields 124 (strip_carriage_return (field ++ l))) bar.1 ∙ ap (fields 124) (strip_carriage_return-behind field bar.0) ∙ barred (strip_carriage_return bar.0)) is
      ]

  pub begins_plain : BeginsWithRel two rel more → BeginsWithLine text said rest
  unfolding rel_of
  begins_plain (inl (is, whole_two)) = with_field (codes "-1") (ap Some (sym is)) customer refl (λ x. fields_cut 124 (codes "-1" ++ 124 ∷ x) (codes "-1") x (cut_again 124 (codes "-1") x (All-cons (λ c. (c == 124) ≡ false) 45 (49 ∷ []) refl (All-cons (λ c. (c == 124) ≡ false) 49 [] refl (All-nil (λ c. (c == 124) ≡ false)))))) whole_two
  begins_plain (inr (is, whole_two)) = with_field (codes "0") (ap Some (sym is)) peer refl (λ x. fields_cut 124 (codes "0" ++ 124 ∷ x) (codes "0") x (cut_again 124 (codes "0") x (All-cons (λ c. (c == 124) ≡ false) 48 [] refl (All-nil (λ c. (c == 124) ≡ false))))) whole_two

pub asn_again : (text : List ℕ) (n : ℕ) → numeral 10 10 text ≡ Some n → 1 ≤ n → n < 2 ^ 32 → asn_of text ≡ Some n
unfolding asn_of
asn_again text n read some small =
    let a : nat_lt 0 n ≡ true = lt-ltb 0 n (omega (arith, some)) in
    let b : nat_lt n (2 ^ 32) ≡ true = lt-ltb n (2 ^ 32) small in
    rw (read, a, b) refl
