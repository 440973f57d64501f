-- The records of a text, one read after the other.
use Rattle.std.proofs.Common.{◌≡◌, ℕ, zero, suc, ◌<◌, ◌≤◌, ◌+◌, Bool, true, false, cond, List, [], ◌∷◌, ◌++◌, Option, Some, None, refl, sym, ap, subst, ◌∙◌, length, arith, Bor, inl}
use Rattle.std.specs.Prelude.{◌==◌, ◌||◌}
use Rattle.csv.specs.Machine.{Read, next_record, step, is_end, ends_at_end, fields_after, field_after, in_field, start_record}
use Rattle.csv.specs.Reading.{records_from, records_next, default_config, source_of, pending_of, is_flexible, ReadRecord, ReadsNext, NextIs}
use Rattle.csv.specs.declared.parser.State.{State}
use Rattle.csv.specs.declared.parser.State.TheVariants as st
use Rattle.csv.specs.declared.parser.Action.{Action}
use Rattle.csv.specs.declared.parser.Action.TheVariants as act
use Rattle.roa_table.specs.Standing.{Record, ByteReader, records_left, Stands, GoesOn}
pub use Rattle.std.proofs.lemmas.Option.{same_Some as some_is}

-- a state in which a record starts
abbrev pub IsStart : State → Type 0
IsStart s = ends_at_end s ≡ false

-- a byte that ends a record leads to such a state
ends_field : (a b d : Bool) (q : State × Action) → q ≡ cond a (st.StartField, act.EndField) (cond b (cond d st.AfterCr st.StartRecord, act.EndRecord) (st.InField, act.Copy)) → is_end q.1 ≡ true → IsStart q.0
ends_field true b d q e h = cc h
ends_field false true true q e h = ap (λ (p : State × Action). ends_at_end p.0) e
ends_field false true false q e h = ap (λ (p : State × Action). ends_at_end p.0) e
ends_field false false d q e h = cc h

in_field_ends : (c : ℕ) → is_end (in_field default_config c).1 ≡ true → IsStart (in_field default_config c).0
in_field_ends c h = ends_field (c == 44) ((c == 13) || (c == 10)) (c == 13) (in_field default_config c) refl h

quoted_ends : (a : Bool) (c : ℕ) → is_end (cond a (st.InQuoted, act.Skip) (in_field default_config c)).1 ≡ true → IsStart (cond a (st.InQuoted, act.Skip) (in_field default_config c)).0
quoted_ends true c h = cc h
quoted_ends false c h = in_field_ends c h

record_ends : (a b : Bool) (c : ℕ) → is_end (cond a (st.StartRecord, act.Skip) (cond b (st.InQuoted, act.Skip) (in_field default_config c))).1 ≡ true → IsStart (cond a (st.StartRecord, act.Skip) (cond b (st.InQuoted, act.Skip) (in_field default_config c))).0
record_ends true b c h = cc
record_ends false b c h = quoted_ends b c h

after_quote_ends : (a : Bool) (c : ℕ) → is_end (cond a (st.InQuoted, act.Copy) (in_field default_config c)).1 ≡ true → IsStart (cond a (st.InQuoted, act.Copy) (in_field default_config c)).0
after_quote_ends true c h = cc h
after_quote_ends false c h = in_field_ends c h

cond_ends : (a : Bool) (x y : State × Action) → (is_end x.1 ≡ true → IsStart x.0) → (is_end y.1 ≡ true → IsStart y.0) → is_end (cond a x y).1 ≡ true → IsStart (cond a x y).0
cond_ends true x y f g h = f h
cond_ends false x y f g h = g h

pub step_ends : (s : State) (c : ℕ) → is_end (step default_config s c).1 ≡ true → IsStart (step default_config s c).0
step_ends st.StartRecord c h = record_ends ((c == 13) || (c == 10)) (c == 34) c h
step_ends st.StartField c h = quoted_ends (c == 34) c h
step_ends st.InField c h = in_field_ends c h
step_ends st.InQuoted c h = cond_ends (c == 34) (st.AfterQuote, act.Skip) (st.InQuoted, act.Copy) (λ e. cc e) (λ e. cc e) h
step_ends st.InEscape c h = cc h
step_ends st.AfterQuote c h = after_quote_ends (c == 34) c h
step_ends st.InComment c h = cond_ends (c == 10) (st.StartRecord, act.Skip) (st.InComment, act.Skip) (λ e. cc) (λ e. cc) h
step_ends st.AfterCr c h = cond_ends (c == 10) (st.StartRecord, act.Skip) (start_record default_config c) (λ e. cc) (record_ends ((c == 13) || (c == 10)) (c == 34) c) h

-- a record takes bytes, and the next one starts after it
pub record IsNext (xs : List ℕ) (p : Read) : Type 0 where
  pub short : length p.2 ≤ length xs
  pub start : IsStart p.1

pub next_is : (s : State) (fields : List (List ℕ)) (field xs : List ℕ) (p : Read) → next_record default_config s fields field xs ≡ Some p → IsNext xs p
unfolding next_record
next_is s fields field [] p e = by (ends_at_end s) e
  where
    by : (b : Bool) → cond b (Some (fields ++ (field ∷ []), st.StartRecord, [])) None ≡ Some p → IsNext [] p
    by true e = subst (IsNext []) (some_is _ p e) (record { short = omega arith; start = refl })
    by false e = cc e
next_is s fields field (c ∷ rest) p e = by (is_end (step default_config s c).1) refl e (next_is (step default_config s c).0 (fields_after (step default_config s c).1 fields field) (field_after (step default_config s c).1 c field) rest p)
  where
    by : (b : Bool) → is_end (step default_config s c).1 ≡ b → cond b (Some (fields_after (step default_config s c).1 fields field, (step default_config s c).0, rest)) (next_record default_config (step default_config s c).0 (fields_after (step default_config s c).1 fields field) (field_after (step default_config s c).1 c field) rest) ≡ Some p
        → (next_record default_config (step default_config s c).0 (fields_after (step default_config s c).1 fields field) (field_after (step default_config s c).1 c field) rest ≡ Some p → IsNext rest p) → IsNext (c ∷ rest) p
    by true h e f = subst (IsNext (c ∷ rest)) (some_is _ p e) (record { short = omega arith; start = step_ends s c h })
    by false h e f = let k = f e in record { short = omega (arith, k.short); start = k.start }

-- from a start there is no record in no bytes, and else it leaves fewer
pub next_shorter : (s : State) (xs : List ℕ) (p : Read) → IsStart s → next_record default_config s [] [] xs ≡ Some p → length p.2 < length xs
unfolding next_record
next_shorter s [] p h e = by (ends_at_end s) h e
  where
    by : (b : Bool) → b ≡ false → cond b (Some ([] ++ ([] ∷ []), st.StartRecord, [])) None ≡ Some p → length p.2 < 0
    by true h e = cc h
    by false h e = cc e
next_shorter s (c ∷ rest) p h e = by (is_end (step default_config s c).1) e
  where
    by : (b : Bool) → cond b (Some (fields_after (step default_config s c).1 [] [], (step default_config s c).0, rest)) (next_record default_config (step default_config s c).0 (fields_after (step default_config s c).1 [] []) (field_after (step default_config s c).1 c []) rest) ≡ Some p
        → length p.2 < length (c ∷ rest)
    by true e = subst (λ (q : Read). length q.2 < length (c ∷ rest)) (some_is _ p e) (omega arith)
    by false e = let k = next_is _ _ _ rest p e in omega (arith, k.short)

-- how many records are looked for doesn't matter, once there are enough
pub enough : (n m : ℕ) (s : State) (xs : List ℕ) → IsStart s → length xs < n → length xs < m → records_from default_config n s xs ≡ records_from default_config m s xs
unfolding records_from
enough zero m s xs h a b = absurd (omega (arith, a))
enough (suc n) zero s xs h a b = absurd (omega (arith, b))
enough (suc n) (suc m) s xs h a b = by (next_record default_config s [] [] xs) refl (enough n m)
  where
    by : (o : Option Read) → next_record default_config s [] [] xs ≡ o → ((s2 : State) (ys : List ℕ) → IsStart s2 → length ys < n → length ys < m → records_from default_config n s2 ys ≡ records_from default_config m s2 ys)
        → records_next (records_from default_config n) o ≡ records_next (records_from default_config m) o
    by None e f = refl
    by (Some p) e f =
        let k = next_is s [] [] xs p e in
        let l = next_shorter s xs p h e in
        ap (λ t. p.0 ∷ t) (f p.1 p.2 k.start (omega (arith, l, a)) (omega (arith, l, b)))

pub records_suc : (n : ℕ) (s : State) (xs : List ℕ) → records_from default_config (suc n) s xs ≡ records_next (records_from default_config n) (next_record default_config s [] [] xs)
unfolding records_from
records_suc n s xs = refl

pub left_is : (s : State) (xs : List ℕ) → records_left s xs ≡ records_next (records_from default_config (length xs)) (next_record default_config s [] [] xs)
left_is s xs =
    let next : length xs + 1 ≡ suc (length xs) = omega arith in
    ap (λ n. records_from default_config n s xs) next ∙ records_suc (length xs) s xs

pub left_none : (s : State) (xs : List ℕ) → next_record default_config s [] [] xs ≡ None → records_left s xs ≡ []
left_none s xs e = left_is s xs ∙ ap (records_next (records_from default_config (length xs))) e

pub left_some : (s : State) (xs : List ℕ) (p : Read) → IsStart s → next_record default_config s [] [] xs ≡ Some p → records_left s xs ≡ p.0 ∷ records_left p.1 p.2
left_some s xs p h e =
    let k = next_is s [] [] xs p e in
    let l = next_shorter s xs p h e in
    left_is s xs ∙ ap (records_next (records_from default_config (length xs))) e ∙ ap (λ t. p.0 ∷ t) (enough (length xs) (length p.2 + 1) p.1 p.2 k.start l (omega arith))

abbrev left : Bor (List ℕ) → Option (List ℕ)
left s = Some s.now

-- a read goes on to the next of the records that are to come
module _ (a b : ByteReader) (rest : List Record) (at : Stands a rest) (found : Bool) (fields : Record) where
  module _ (r : ReadRecord left a b found fields) (took : b.first ≡ true) (flexible : is_flexible b ≡ is_flexible a) where
    by_next : (z : List ℕ) → source_of left b ≡ Some z → (o : Option Read) → next_record default_config a.state [] [] at.text ≡ o → NextIs o found fields b.state z → GoesOn b rest found fields
    by_next z src None e n = subst (λ l. GoesOn b l found fields) (sym (at.is ∙ left_none a.state at.text e)) n
    by_next z src (Some p) e n =
        let next : Stands b (records_left p.1 p.2) = record {
          untrimmed = r.3 ∙ at.untrimmed;
          flexible = flexible ∙ at.flexible;
          ready = inl took;
          config = r.2 ∙ at.config;
          text = p.2;
          source = src ∙ ap (λ t. Some t) n.3;
          start = ap ends_at_end n.2 ∙ (next_is a.state [] [] at.text p e).start;
          is = ap (λ s. records_left s p.2) (sym n.2);
        } in
        subst (λ l. GoesOn b l found fields) (sym (at.is ∙ left_some a.state at.text p at.start e)) (n.0, n.1, next)

    by_pending : (k : Option (List ℕ)) → pending_of (left b.rdr) b ≡ k → ReadsNext default_config a.state (Some at.text) k found fields b.state → GoesOn b rest found fields
    by_pending None e n = absurd n
    by_pending (Some z) e n = by_next z (rw r.1 e) (next_record default_config a.state [] [] at.text) refl n

    pub goes_on : GoesOn b rest found fields
    goes_on = by_pending (pending_of (left b.rdr) b) refl (coe 0 1 (i. ReadsNext (at.config i) a.state (at.source i) (pending_of (left b.rdr) b) found fields b.state) r.0)

-- no record was found
pub ended : (b : ByteReader) (rest : List Record) (fields : Record) → GoesOn b rest false fields → rest ≡ []
ended b [] fields h = refl
ended b (f ∷ rest) fields h = cc h.0

-- a record was found
pub record More (b : ByteReader) (rest : List Record) (fields : Record) : Type 0 where
  pub next : List Record
  pub is : rest ≡ fields ∷ next
  pub stands : Stands b next

pub more : (b : ByteReader) (rest : List Record) (fields : Record) → GoesOn b rest true fields → More b rest fields
more b [] fields h = cc h
more b (f ∷ rest) fields h = record { next = rest; is = ap (λ x. x ∷ rest) (sym h.1); stands = h.2 }
