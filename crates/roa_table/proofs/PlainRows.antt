-- The record of a row without quotes: its fields are what stands between its commas.
use Rattle.std.proofs.Common.{◌≡◌, ℕ, zero, suc, ◌<◌, ◌≤◌, ◌+◌, Bool, true, false, cond, not, ◌||◌, List, [], ◌∷◌, ◌++◌, take, drop, get_or, take-append-drop, length-drop, ◌-◌, ◌&&◌, Option, Some, None, refl, sym, ap, subst, ◌∙◌, length, arith, inl, inr, ◌⊎◌, append_assoc, append-nil}
use Rattle.std.specs.Prelude.{◌==◌}
use Rattle.std.specs.List.{list_all, position, position_or_len}
use Rattle.std.proofs.lemmas.List.{drop_more, take_all}
use Rattle.std.proofs.lemmas.List.Folds.{list_all_more}
use Rattle.std.proofs.lemmas.Grind.{common_steps}
use Rattle.std.proofs.lemmas.List.Quantifiers.{position-Some}
use Rattle.std.proofs.lemmas.List.Sums.{fails_before_first, list_all-from_AllPass}
use Rattle.csv.specs.Machine.{Read, next_record, step, is_end, ends_at_end, fields_after, field_after}
use Rattle.csv.specs.Reading.{records, records_from, records_next, default_config, strip_bom, is_bom}
use Rattle.csv.specs.declared.parser.State.{State}
use Rattle.csv.specs.declared.parser.State.TheVariants as st
use Rattle.csv.specs.declared.parser.Action.{Action}
use Rattle.csv.specs.declared.parser.Action.TheVariants as act
use Rattle.std.proofs.lemmas.Bool.{eqb-true, ne_eqb}
use Rattle.net_names.proofs.Shortening.{both}
use Rattle.roa_table.specs.Standing.{Record, records_left}
use Rattle.roa_table.specs.Plain.{stops_line, stops_field, SplitsField, EndsLine, IsLineEnd, BeginsRows}
use Rattle.roa_table.proofs.CsvRecords.{enough, records_suc, left_is, left_none, left_some}
use Rattle.std.proofs.lemmas.Bool.{not-true as not_so}

-- what is read from a byte on, where it does this
abbrev after_step : State × Action → ℕ → Record → List ℕ → List ℕ → Option Read
after_step p c fields field rest = cond (is_end p.1) (Some (fields_after p.1 fields field, p.0, rest)) (next_record default_config p.0 (fields_after p.1 fields field) (field_after p.1 c field) rest)

read_step : (s : State) (c : ℕ) (p : State × Action) → step default_config s c ≡ p → (fields : Record) (field rest : List ℕ) → next_record default_config s fields field (c ∷ rest) ≡ after_step p c fields field rest
unfolding next_record
read_step s c p e fields field rest = ap (λ q. after_step q c fields field rest) e

-- what a byte does inside a record, at the start of a field and at the start of a record, where it is told whether it is a comma, a quote, a carriage return and a line feed
abbrev Move : Type 0
Move = State × Action

abbrev copied : Move
copied = (st.InField, act.Copy)

abbrev parted : Move
parted = (st.StartField, act.EndField)

abbrev move_in : Bool → Bool → Bool → Bool → Move
move_in comma quote return feed = cond comma parted (cond (return || feed) (cond return st.AfterCr st.StartRecord, act.EndRecord) copied)

abbrev move_start : Bool → Bool → Bool → Bool → Move
move_start comma quote return feed = cond quote (st.InQuoted, act.Skip) (move_in comma quote return feed)

abbrev move_record : Bool → Bool → Bool → Bool → Move
move_record comma quote return feed = cond (return || feed) (st.StartRecord, act.Skip) (move_start comma quote return feed)

-- a byte that stops no field
module _ (c : ℕ) (h : stops_field c ≡ false) where
  by_four : (move : Bool → Bool → Bool → Bool → Move) → move false false false false ≡ copied → (a q d e : Bool) → (a || (q || (d || e))) ≡ false → move a q d e ≡ copied
  by_four move is true q d e h = cc h
  by_four move is false true d e h = cc h
  by_four move is false false true e h = cc h
  by_four move is false false false true h = cc h
  by_four move is false false false false h = is

  step_in : step default_config st.InField c ≡ (st.InField, act.Copy)
  step_in = by_four move_in refl (c == 44) (c == 34) (c == 13) (c == 10) h

  step_start : step default_config st.StartField c ≡ (st.InField, act.Copy)
  step_start = by_four move_start refl (c == 44) (c == 34) (c == 13) (c == 10) h

  step_record : step default_config st.StartRecord c ≡ (st.InField, act.Copy)
  step_record = by_four move_record refl (c == 44) (c == 34) (c == 13) (c == 10) h

-- bytes that stop no field join the one at hand
copies : (front more : List ℕ) (fields : Record) (field : List ℕ) → list_all (λ b. not (stops_field b)) front ≡ true → next_record default_config st.InField fields field (front ++ more) ≡ next_record default_config st.InField fields (field ++ front) more
copies [] more fields field h = ap (λ f. next_record default_config st.InField fields f more) (sym (append-nil field))
copies (c ∷ front) more fields field h =
    let k = both _ _ h in
    read_step st.InField c (st.InField, act.Copy) (step_in c (not_so (stops_field c) k.left)) fields field (front ++ more)
    ∙ copies front more fields (field ++ (c ∷ [])) k.right
    ∙ ap (λ f. next_record default_config st.InField fields f more) (append_assoc field (c ∷ []) front)

-- the states in which a field starts, and whether the first byte goes on as in any of them
pub record Opens (s : State) : Type 0 where
  pub plain : (c : ℕ) → stops_field c ≡ false → step default_config s c ≡ (st.InField, act.Copy)
  pub comma : step default_config s 44 ≡ (st.StartField, act.EndField)

start_opens : Opens st.StartField
start_opens = record { plain = step_start; comma = refl }

record_opens : Opens st.StartRecord
record_opens = record { plain = step_record; comma = refl }

-- a field and its comma
field_read : (s : State) → Opens s → (front rest : List ℕ) (fields : Record) → list_all (λ b. not (stops_field b)) front ≡ true → next_record default_config s fields [] (front ++ (44 ∷ rest)) ≡ next_record default_config st.StartField (fields ++ (front ∷ [])) [] rest
field_read s o [] rest fields h = read_step s 44 (st.StartField, act.EndField) o.comma fields [] rest
field_read s o (c ∷ front) rest fields h =
    let k = both _ _ h in
    read_step s c (st.InField, act.Copy) (o.plain c (not_so (stops_field c) k.left)) fields [] (front ++ (44 ∷ rest))
    ∙ copies front (44 ∷ rest) fields (c ∷ []) k.right
    ∙ read_step st.InField 44 (st.StartField, act.EndField) refl fields (c ∷ front) rest

-- a byte that no record has: what is left to read is left behind it
skipped : (s : State) (c : ℕ) (rest : List ℕ) → step default_config s c ≡ (st.StartRecord, act.Skip) → records_left s (c ∷ rest) ≡ records_left st.StartRecord rest
skipped s c rest e =
    left_is s (c ∷ rest)
    ∙ ap (records_next (records_from default_config (length (c ∷ rest)))) (read_step s c (st.StartRecord, act.Skip) e [] [] rest)
    ∙ sym (records_suc (length (c ∷ rest)) st.StartRecord rest) ∙ enough (suc (length (c ∷ rest))) (length rest + 1) st.StartRecord rest refl (omega arith) (omega arith)

pub behind_feed : (rest : List ℕ) → records_left st.StartRecord (10 ∷ rest) ≡ records_left st.StartRecord rest
behind_feed rest = skipped st.StartRecord 10 rest refl

-- the states inside a record in which no quote is open
abbrev inside : Bool → State
inside true = st.StartField
inside false = st.InField

at_feed : (b : Bool) → step default_config (inside b) 10 ≡ (st.StartRecord, act.EndRecord)
at_feed true = refl
at_feed false = refl

-- the end of the text ends the record
at_end : (b : Bool) (fields : Record) (field : List ℕ) → next_record default_config (inside b) fields field [] ≡ Some (fields ++ (field ∷ []), st.StartRecord, [])
unfolding next_record
at_end true fields field = refl
at_end false fields field = refl

-- where no record is open, it has none
none_at_end : (s : State) → ends_at_end s ≡ false → next_record default_config s [] [] [] ≡ None
unfolding next_record
none_at_end s e = ap (λ b. cond b (Some ([] ∷ [], st.StartRecord, [])) None) e

at_return : (b : Bool) → step default_config (inside b) 13 ≡ (st.AfterCr, act.EndRecord)
at_return true = refl
at_return false = refl

-- a byte that stops no line
by_three : (move : Bool → Bool → Bool → Bool → Move) → ((a : Bool) → move a false false false ≡ cond a parted copied) → (a q d e : Bool) → (q || (d || e)) ≡ false → move a q d e ≡ cond a parted copied
by_three move is a true d e h = cc h
by_three move is a false true e h = cc h
by_three move is a false false true h = cc h
by_three move is a false false false h = is a

in_line : (b : Bool) (c : ℕ) → stops_line c ≡ false → step default_config (inside b) c ≡ cond (c == 44) parted copied
in_line true c h = by_three move_start (λ a. refl) (c == 44) (c == 34) (c == 13) (c == 10) h
in_line false c h = by_three move_in (λ a. refl) (c == 44) (c == 34) (c == 13) (c == 10) h

record_line : (c : ℕ) → stops_line c ≡ false → step default_config st.StartRecord c ≡ cond (c == 44) parted copied
record_line c h = by_three move_record (λ a. refl) (c == 44) (c == 34) (c == 13) (c == 10) h

-- a record is read to the end of its line, and its first fields are these
pub record Ends (s : State) (fields : Record) (field text : List ℕ) (known : Record) (rest : List ℕ) : Type 0 where
  pub read : Read
  pub is : next_record default_config s fields field text ≡ Some read
  pub more : Record
  pub starts : read.0 ≡ known ++ more
  pub left : records_left read.1 read.2 ≡ records_left st.StartRecord rest

-- a line ends here, in a field or behind a comma
ends_here : (rest : List ℕ) → IsLineEnd rest → (b : Bool) (fields : Record) (field text : List ℕ) → (text ≡ rest) ⊎ (text ≡ 13 ∷ rest) → Ends (inside b) fields field text (fields ++ (field ∷ [])) rest
ends_here [] end b fields field text (inl e) = record {
  read = (fields ++ (field ∷ []), st.StartRecord, []);
  is = ap (next_record default_config (inside b) fields field) e ∙ at_end b fields field;
  more = [];
  starts = sym (append-nil (fields ++ (field ∷ [])));
  left = refl;
}
ends_here [] end b fields field text (inr e) = record {
  read = (fields ++ (field ∷ []), st.AfterCr, []);
  is = ap (next_record default_config (inside b) fields field) e ∙ read_step (inside b) 13 (st.AfterCr, act.EndRecord) (at_return b) fields field [];
  more = [];
  starts = sym (append-nil (fields ++ (field ∷ [])));
  left = left_none st.AfterCr [] (none_at_end st.AfterCr refl) ∙ sym (left_none st.StartRecord [] (none_at_end st.StartRecord refl));
}
ends_here (c ∷ behind) end b fields field text (inl e) = record {
  read = (fields ++ (field ∷ []), st.StartRecord, behind);
  is = ap (next_record default_config (inside b) fields field) (e ∙ ap (λ x. x ∷ behind) end) ∙ read_step (inside b) 10 (st.StartRecord, act.EndRecord) (at_feed b) fields field behind;
  more = [];
  starts = sym (append-nil (fields ++ (field ∷ [])));
  left = sym (ap (λ x. records_left st.StartRecord (x ∷ behind)) end ∙ behind_feed behind);
}
ends_here (c ∷ behind) end b fields field text (inr e) = record {
  read = (fields ++ (field ∷ []), st.AfterCr, c ∷ behind);
  is = ap (next_record default_config (inside b) fields field) e ∙ read_step (inside b) 13 (st.AfterCr, act.EndRecord) (at_return b) fields field (c ∷ behind);
  more = [];
  starts = sym (append-nil (fields ++ (field ∷ [])));
  left = ap (λ x. records_left st.AfterCr (x ∷ behind)) end ∙ skipped st.AfterCr 10 behind refl ∙ sym (ap (λ x. records_left st.StartRecord (x ∷ behind)) end ∙ behind_feed behind);
}

module _ (rest : List ℕ) (end : IsLineEnd rest) where
  module _ (last : List ℕ) (is_last : (last ≡ rest) ⊎ (last ≡ 13 ∷ rest)) where
    -- the rest of a line without quotes
    line_ends : (b : Bool) (part : List ℕ) (fields : Record) (field : List ℕ) → list_all (λ c. not (stops_line c)) part ≡ true → Ends (inside b) fields field (part ++ last) fields rest
    line_ends b [] fields field h =
        let e = ends_here rest end b fields field last is_last in
        record { read = e.read; is = e.is; more = field ∷ e.more; starts = e.starts ∙ append_assoc fields (field ∷ []) e.more; left = e.left }
    line_ends b (c ∷ part) fields field h =
        let k = both _ _ h in
        by (c == 44) (in_line b c (not_so (stops_line c) k.left)) (line_ends true part (fields ++ (field ∷ [])) [] k.right) (line_ends false part fields (field ++ (c ∷ [])) k.right)
      where
        by : (x : Bool) → step default_config (inside b) c ≡ cond x parted copied
            → Ends st.StartField (fields ++ (field ∷ [])) [] (part ++ last) (fields ++ (field ∷ [])) rest
            → Ends st.InField fields (field ++ (c ∷ [])) (part ++ last) fields rest → Ends (inside b) fields field (c ∷ (part ++ last)) fields rest
        by true e f g = record {
          read = f.read;
          is = read_step (inside b) c (st.StartField, act.EndField) e fields field (part ++ last) ∙ f.is;
          more = field ∷ f.more;
          starts = f.starts ∙ append_assoc fields (field ∷ []) f.more;
          left = f.left;
        }
        by false e f g = record {
          read = g.read;
          is = read_step (inside b) c (st.InField, act.Copy) e fields field (part ++ last) ∙ g.is;
          more = g.more;
          starts = g.starts;
          left = g.left;
        }

    -- a line from its start on
    opening_line : (c : ℕ) (part : List ℕ) → list_all (λ c. not (stops_line c)) (c ∷ part) ≡ true → Ends st.StartRecord [] [] (c ∷ (part ++ last)) [] rest
    opening_line c part h =
        let k = both _ _ h in
        by (c == 44) (record_line c (not_so (stops_line c) k.left)) (line_ends true part ([] ∷ []) [] k.right) (line_ends false part [] (c ∷ []) k.right)
      where
        by : (x : Bool) → step default_config st.StartRecord c ≡ cond x parted copied
            → Ends st.StartField ([] ∷ []) [] (part ++ last) ([] ∷ []) rest → Ends st.InField [] (c ∷ []) (part ++ last) [] rest → Ends st.StartRecord [] [] (c ∷ (part ++ last)) [] rest
        by true e f g = record { read = f.read; is = read_step st.StartRecord c (st.StartField, act.EndField) e [] [] (part ++ last) ∙ f.is; more = [] ∷ f.more; starts = f.starts; left = f.left }
        by false e f g = record { read = g.read; is = read_step st.StartRecord c (st.InField, act.Copy) e [] [] (part ++ last) ∙ g.is; more = g.more; starts = g.starts; left = g.left }

    -- the last field of a line
    field_ends : (field : List ℕ) (fields : Record) → list_all (λ c. not (stops_field c)) field ≡ true → Ends st.StartField fields [] (field ++ last) (fields ++ (field ∷ [])) rest
    field_ends [] fields h = ends_here rest end true fields [] last is_last
    field_ends (c ∷ front) fields h =
        let k = both _ _ h in
        let e = ends_here rest end false fields (c ∷ front) last is_last in
        record {
          read = e.read;
          is = read_step st.StartField c (st.InField, act.Copy) (step_start c (not_so (stops_field c) k.left)) fields [] (front ++ last) ∙ copies front last fields (c ∷ []) k.right ∙ e.is;
          more = e.more;
          starts = e.starts;
          left = e.left;
        }

    -- a field, and then the rest of its line, which begins with what stops the field
    field_goes_on : (part field : List ℕ) (fields : Record) → list_all (λ c. not (stops_field c)) field ≡ true → list_all (λ c. not (stops_line c)) part ≡ true
        → ((c : ℕ) (cs : List ℕ) → part ++ last ≡ c ∷ cs → stops_field c ≡ true) → Ends st.StartField fields [] (field ++ (part ++ last)) (fields ++ (field ∷ [])) rest
    field_goes_on [] field fields h k stops = field_ends field fields h
    field_goes_on (c ∷ part) field fields h k stops =
        let two = both _ _ k in
        let comma : c ≡ 44 = eqb-true c 44 (only_comma (c == 44) (stops_line c) (not_so (stops_line c) two.left) (stops c (part ++ last) refl)) in
        let e = line_ends true part (fields ++ (field ∷ [])) [] two.right in
        record {
          read = e.read;
          is = ap (λ x. next_record default_config st.StartField fields [] (field ++ (x ∷ (part ++ last)))) comma ∙ field_read st.StartField start_opens field (part ++ last) fields h ∙ e.is;
          more = e.more;
          starts = e.starts;
          left = e.left;
        }
      where
        only_comma : (a b : Bool) → b ≡ false → (a || b) ≡ true → a ≡ true
        only_comma true b e h = refl
        only_comma false true e h = cc e
        only_comma false false e h = cc h

pub head_is : (x y : ℕ) (xs ys : List ℕ) → x ∷ xs ≡ y ∷ ys → x ≡ y
head_is x y xs ys e = ap head e
  where
    head : List ℕ → ℕ
    head [] = x
    head (z ∷ zs) = z

-- the record of a row of three fields and more
pub record Row (text asn prefix max left : List ℕ) : Type 0 where
  pub more : Record
  pub is : records_left st.StartRecord text ≡ (asn ∷ prefix ∷ max ∷ more) ∷ records_left st.StartRecord left

module _ (text line asn one one_left prefix two two_left max more left : List ℕ) (fed : text ≡ 10 ∷ line) (first : SplitsField line asn one) (first_comma : one ≡ 44 ∷ one_left) (second : SplitsField one_left prefix two)
    (second_comma : two ≡ 44 ∷ two_left) (third : SplitsField two_left max more) (ends : EndsLine more left) where
  third_ends : (last : List ℕ) → more ≡ ends.part ++ last → (last ≡ left) ⊎ (last ≡ 13 ∷ left) → Ends st.StartField (asn ∷ prefix ∷ []) [] two_left (asn ∷ prefix ∷ max ∷ []) left
  third_ends last e is_last =
      let r = field_goes_on left ends.ends last is_last ends.part max (asn ∷ prefix ∷ []) third.free ends.free
      (λ c cs q. third.stops c cs (e ∙ q)) in
      subst (λ t. Ends st.StartField (asn ∷ prefix ∷ []) [] t (asn ∷ prefix ∷ max ∷ []) left) (sym (third.whole ∙ ap (λ l. max ++ l) e)) r

  either : (more ≡ ends.part ++ left) ⊎ (more ≡ ends.part ++ 13 ∷ left) → Ends st.StartField (asn ∷ prefix ∷ []) [] two_left (asn ∷ prefix ∷ max ∷ []) left
  either (inl e) = third_ends left e (inl refl)
  either (inr e) = third_ends (13 ∷ left) e (inr refl)

  pub row_read : Row text asn prefix max left
  row_read =
      let r = either ends.whole in
      let read : next_record default_config st.StartRecord [] [] line ≡ Some r.read =
      ap (next_record default_config st.StartRecord [] []) (first.whole ∙ ap (λ l. asn ++ l) first_comma) ∙ field_read st.StartRecord record_opens asn one_left [] first.free
      ∙ ap (next_record default_config st.StartField (asn ∷ []) []) (second.whole ∙ ap (λ l. prefix ++ l) second_comma) ∙ field_read st.StartField start_opens prefix two_left (asn ∷ []) second.free ∙ r.is in
      record {
        more = r.more;
        is = ap (records_left st.StartRecord) fed ∙ behind_feed line ∙ left_some st.StartRecord line r.read refl read ∙ (λ i. r.starts i ∷ r.left i);
      }

-- a text that begins with another byte has no byte order mark
pub strip_bom-other : (a : ℕ) (xs : List ℕ) → (a == 239) ≡ false → strip_bom (a ∷ xs) ≡ a ∷ xs
unfolding strip_bom
strip_bom-other a [] h = refl
strip_bom-other a (b ∷ []) h = refl
strip_bom-other a (b ∷ (c ∷ xs)) h = ap (λ (x : Bool). cond x xs (a ∷ (b ∷ (c ∷ xs)))) (let e : is_bom a b c ≡ false = rw h refl in e)

-- nor has one where a line ends
pub strip_bom-line_end : (text : List ℕ) → IsLineEnd text → strip_bom text ≡ text
unfolding strip_bom
strip_bom-line_end [] end = refl
strip_bom-line_end (c ∷ behind) end = strip_bom-other c behind (ap (λ x. x == 239) end)

drop_zero : (xs : List Record) → drop 0 xs ≡ xs
drop_zero [] = refl
drop_zero (x ∷ xs) = refl

-- what stands behind the header of a file, which begins with no byte order mark
module _ (first : ℕ) (text left : List ℕ) (other : (first == 239) ≡ false) (plain : stops_line first ≡ false) (ends : EndsLine (first ∷ text) left) where
  begins_no_end : {X : Type 0} (rest : List ℕ) → IsLineEnd rest → first ∷ text ≡ rest → X
  begins_no_end [] end e = cc e
  begins_no_end (c ∷ behind) end e = let no : stops_line first ≡ true = ap stops_line (head_is first c text behind e ∙ end) in cc (sym no ∙ plain)

  header_ends : (last : List ℕ) → (last ≡ left) ⊎ (last ≡ 13 ∷ left) → (part : List ℕ) → list_all (λ c. not (stops_line c)) part ≡ true → first ∷ text ≡ part ++ last → Ends st.StartRecord [] [] (first ∷ text) [] left
  header_ends last (inl q) [] free e = begins_no_end left ends.ends (e ∙ q)
  header_ends last (inr q) [] free e = let no : stops_line first ≡ true = ap stops_line (head_is first 13 text left (e ∙ q)) in cc (sym no ∙ plain)
  header_ends last is_last (c ∷ part) free e = subst (λ t. Ends st.StartRecord [] [] t [] left) (sym e) (opening_line left ends.ends last is_last c part free)

  ends_either : (first ∷ text ≡ ends.part ++ left) ⊎ (first ∷ text ≡ ends.part ++ 13 ∷ left) → Ends st.StartRecord [] [] (first ∷ text) [] left
  ends_either (inl e) = header_ends left (inl refl) ends.part ends.free e
  ends_either (inr e) = header_ends (13 ∷ left) (inr refl) ends.part ends.free e

  pub header_read : BeginsRows (first ∷ text) left
  header_read =
      let r = ends_either ends.whole in
      record {
        is = ap (λ t. drop 1 (records default_config t)) (strip_bom-other first text other) ∙ ap (drop 1) (left_some st.StartRecord (first ∷ text) r.read refl r.is) ∙ drop_zero (records_left r.read.1 r.read.2) ∙ r.left;
        ends = ends.ends;
      }

pub behind_header : (text left : List ℕ) → 0 < length text → (get_or text 0 0 ≡ 239 → ⊥) → stops_line (get_or text 0 0) ≡ false → EndsLine text left → BeginsRows text left
behind_header [] left some other plain ends = absurd (omega (arith, some))
behind_header (first ∷ text) left some other plain ends = header_read first text left (ne_eqb first 239 other) plain ends

-- a place of a text at which a byte passes a test, as no byte before it does
module _ (p : ℕ → Bool) (text : List ℕ) (at : ℕ) (found : Some at ≡ position p text) where
  abbrev facts : (at < length text) × (p (get_or text at 0) ≡ true) × ((k : ℕ) → k < at → p (get_or text k 0) ≡ false)
  facts = position-Some p text at 0 (sym found)

  fails : (n : ℕ) → n ≤ at → list_all (λ b. not (p b)) (take n text) ≡ true
  fails zero h = refl
  fails (suc n) h =
      let within : n < at = omega (arith, h) in
      let lt : n < length text = omega (arith, within, facts.0) in
      let e = list_all_more (λ b. not (p b)) text n 0 lt in
      subst (λ m. list_all (λ b. not (p b)) (take m text) ≡ true) (let m : n + 1 ≡ suc n = omega arith in m) (e ∙ (λ i. fails n (omega (arith, h)) i && not (facts.2 n within i)))

  pub free_before : list_all (λ b. not (p b)) (take at text) ≡ true
  free_before = fails at (omega arith)

  pub within_text : at < length text
  within_text = facts.0

  pub stops_at : p (get_or text at 0) ≡ true
  stops_at = facts.1

-- a text in which no byte passes the test
pub free_of : (p : ℕ → Bool) (text : List ℕ) → None ≡ position p text → list_all (λ b. not (p b)) text ≡ true
free_of p text none =
    let all : length text ≤ position_or_len p text = grind (arith, common_steps) in
    list_all-from_AllPass (λ b. not (p b)) text (λ k d less. ap not (fails_before_first p text k d (omega (arith, all, less))))

-- what a slice from a place on has
pub slice_from : (text : List ℕ) (at : ℕ) → take (length text - at) (drop at text) ≡ drop at text
slice_from text at = take_all (length text - at) (drop at text) (let l = length-drop at text in omega (arith, l))

pub slice_begins : (text : List ℕ) (at : ℕ) → at < length text → take (length text - at) (drop at text) ≡ get_or text at 0 ∷ drop (at + 1) text
slice_begins text at h = slice_from text at ∙ drop_more text at 0 h

pub slices_join : (text : List ℕ) (at : ℕ) → text ≡ take at text ++ take (length text - at) (drop at text)
slices_join text at = sym (take-append-drop at text) ∙ ap (λ l. take at text ++ l) (sym (slice_from text at))

-- a text whose first byte is this one
pub begins_by : (text : List ℕ) (byte : ℕ) → 0 < length text → get_or text 0 0 ≡ byte → text ≡ byte ∷ drop 1 text
begins_by text byte h e = drop_all text ∙ drop_more text 0 0 h ∙ ap (λ b. b ∷ drop 1 text) e
  where
    drop_all : (xs : List ℕ) → xs ≡ drop 0 xs
    drop_all [] = refl
    drop_all (x ∷ xs) = refl
