-- A JSON value as its text has it, beside the same value as serde_json keeps it, where the last of two equal names counts.
use Rattle.std.proofs.Common.{◌≡◌, ℕ, ◌≤◌, max, List, [], ◌∷◌, ◌&&◌, Bool, true, false, cond, bytes_eq, Ordering, Less, Equal, Greater, Option, Some, None, option_map, option_and_then, refl, sym, ap, ◌∙◌, subst, arith}
use Rattle.std.specs.Prelude.{MatchOption, IfSome}
use Rattle.std.specs.List.{list_any}
use Rattle.std.specs.Cmp.Lexicographic.{slice_cmp}
use Rattle.std.specs.Ordering.{nat_cmp, match_ordering, is_eq}
use Rattle.std.proofs.lemmas.Map.Text.{is_eq-slice_cmp}
use Rattle.std.proofs.lemmas.Slice.Eq.{bytes_eq-Decides}
use Rattle.json.specs.Json as json
use Rattle.json.specs.Json.{Json}
use Rattle.json.specs.Find as find
use Rattle.json.specs.Tree.{depth, members_depth}
use Rattle.json.proofs.Found.{Some_inj, not_found}
use Rattle.serde_json.specs.Data.{Data, null, boolean, number, string, array, object, Num, Items, no_items, item, Members, no_members, member, put}
use Rattle.serde_json.specs.Find.{get, get_member, as_str, as_number, as_u64, as_array, as_object}
use Rattle.serde_json.specs.Read.{number_of, of_json, of_items, of_members}
use Rattle.serde_json.proofs.Views.{get_member-put, get_member-put_other}
use Rattle.scenario_text.specs.Members.{all_in}

-- d is j, level by level
abbrev pub Same : Json → Data → Type 0
Same json.null d = null ≡ d
Same (json.boolean b) d = boolean b ≡ d
Same (json.number s) d = (n : Num) × (number_of s ≡ Some n) × (number n ≡ d)
Same (json.string s) d = string s ≡ d
Same (json.array js) d = (ds : Items) × (of_items js ≡ Some ds) × (array ds ≡ d)
Same (json.object ms) d = (found : Members) × (of_members ms no_members ≡ Some found) × (object found ≡ d)

mapped : {A : Type 0} (f : A → Data) (o : Option A) (d : Data) → option_map f o ≡ Some d → (a : A) × (o ≡ Some a) × (f a ≡ d)
mapped f None d e = not_found d e
mapped f (Some a) d e = (a, refl, Some_inj _ _ e)

pub chained : {A B : Type 0} (f : A → Option B) (o : Option A) (b : B) → option_and_then f o ≡ Some b → (a : A) × (o ≡ Some a) × (f a ≡ Some b)
chained f None b e = not_found b e
chained f (Some a) b e = (a, refl, e)

pub same : (j : Json) (d : Data) → of_json j ≡ Some d → Same j d
same json.null d e = Some_inj _ _ e
same (json.boolean b) d e = Some_inj _ _ e
same (json.number s) d e = mapped number (number_of s) d e
same (json.string s) d e = Some_inj _ _ e
same (json.array js) d e = mapped array (of_items js) d e
same (json.object ms) d e = mapped object (of_members ms no_members) d e

pub as_str-same : (j : Json) (d : Data) → Same j d → find.as_str j ≡ as_str d
as_str-same json.null d h = rw (← h) refl
as_str-same (json.boolean b) d h = rw (← h) refl
as_str-same (json.number s) d h = rw (← h.2) refl
as_str-same (json.string s) d h = rw (← h) refl
as_str-same (json.array js) d h = rw (← h.2) refl
as_str-same (json.object ms) d h = rw (← h.2) refl

-- the number as a whole one, by its text
abbrev pub whole_at : Option (List ℕ) → Option ℕ
whole_at o = option_and_then (λ s. option_and_then as_u64 (number_of s)) o

pub as_u64-same : (j : Json) (d : Data) → Same j d → whole_at (find.as_number j) ≡ option_and_then as_u64 (as_number d)
as_u64-same json.null d h = rw (← h) refl
as_u64-same (json.boolean b) d h = rw (← h) refl
as_u64-same (json.number s) d h = rw (← h.2, h.1) refl
as_u64-same (json.string s) d h = rw (← h) refl
as_u64-same (json.array js) d h = rw (← h.2) refl
as_u64-same (json.object ms) d h = rw (← h.2) refl

pub no_array : (j : Json) (d : Data) → Same j d → find.as_array j ≡ None → as_array d ≡ None
no_array json.null d h none = rw (← h) refl
no_array (json.boolean b) d h none = rw (← h) refl
no_array (json.number s) d h none = rw (← h.2) refl
no_array (json.string s) d h none = rw (← h) refl
no_array (json.array js) d h none = not_found js (sym none)
no_array (json.object ms) d h none = rw (← h.2) refl

pub no_object : (j : Json) (d : Data) → Same j d → find.as_object j ≡ None → as_object d ≡ None
no_object json.null d h none = rw (← h) refl
no_object (json.boolean b) d h none = rw (← h) refl
no_object (json.number s) d h none = rw (← h.2) refl
no_object (json.string s) d h none = rw (← h) refl
no_object (json.array js) d h none = rw (← h.2) refl
no_object (json.object ms) d h none = not_found ms (sym none)

-- the first item and the others, as serde_json keeps them
pub first_item : (j : Json) (js : json.Items) (ds : Items) → of_items (json.item j js) ≡ Some ds → (d : Data) × (rest : Items) × (of_json j ≡ Some d) × (of_items js ≡ Some rest) × (item d rest ≡ ds)
first_item j js ds e =
    let first = chained (λ d. option_map (item d) (of_items js)) (of_json j) ds e in
    let more = chained (λ rest. Some (item first.0 rest)) (of_items js) ds (as_steps (item first.0) (of_items js) ∙ first.2) in
    (first.0, more.0, first.1, more.1, Some_inj _ _ more.2)
  where
    as_steps : {A B : Type 0} (f : A → B) (o : Option A) → option_and_then (λ x. Some (f x)) o ≡ option_map f o
    as_steps f None = refl
    as_steps f (Some a) = refl

-- what stands at a name, where the members of a text go into these
abbrev pub Stands : List ℕ → Members → Members → Option Json → Type 0
Stands name before after o = MatchOption o (get_member name after ≡ get_member name before) (λ j. (d : Data) × (of_json j ≡ Some d) × (get_member name after ≡ Some d))

by_name : (b : Bool) (name k : List ℕ) (j : Json) (d : Data) (before after : Members) → bytes_eq k name ≡ b → of_json j ≡ Some d → Stands name (put k d before) after None → Stands name before after (cond b (Some j) None)
by_name true name k j d before after e h f =
    let is : k ≡ name = (bytes_eq-Decides k name).0 e in
    (d, h, f ∙ subst (λ n. get_member n (put k d before) ≡ Some d) is (get_member-put k d before))
by_name false name k j d before after e h f = f ∙ get_member-put_other name k d before (λ is. let yes = (bytes_eq-Decides k name).1 (sym is) in absurd (cc))

later : (o : Option Json) (name k : List ℕ) (j : Json) (d : Data) (before after : Members) → of_json j ≡ Some d → Stands name (put k d before) after o → Stands name before after (find.later_or o (cond (bytes_eq k name) (Some j) None))
later None name k j d before after h f = by_name (bytes_eq k name) name k j d before after refl h f
later (Some i) name k j d before after h f = f

get_members : (name : List ℕ) (ms : json.Members) (before after : Members) → of_members ms before ≡ Some after → Stands name before after (find.get_member name ms)
get_members name json.no_members before after e = ap (get_member name) (sym (Some_inj _ _ e))
get_members name (json.member k j ms) before after e =
    let first = chained (λ d. of_members ms (put k d before)) (of_json j) after e in
    later (find.get_member name ms) name k j first.0 before after first.1 (get_members name ms (put k first.0 before) after first.2)

-- what stands at a name, if anything
abbrev pub Found : Option Json → Option Data → Type 0
Found o p = MatchOption o (p ≡ None) (λ j. (d : Data) × (of_json j ≡ Some d) × (p ≡ Some d))

pub get-same : (name : List ℕ) (j : Json) (d : Data) → Same j d → Found (find.get name j) (get name d)
get-same name json.null d h = rw (← h) refl
get-same name (json.boolean b) d h = rw (← h) refl
get-same name (json.number s) d h = rw (← h.2) refl
get-same name (json.string s) d h = rw (← h) refl
get-same name (json.array js) d h = rw (← h.2) refl
get-same name (json.object ms) d h = subst (λ x. Found (find.get_member name ms) (get name x)) h.2 (get_members name ms no_members h.0 h.1)

-- a member is no deeper than all of them
deeper : (o : Option Json) (b : Bool) (j : Json) (n : ℕ) → IfSome o (λ i. depth i ≤ n) → IfSome (find.later_or o (cond b (Some j) None)) (λ i. depth i ≤ max (depth j) n)
deeper None true j n h = omega arith
deeper None false j n h = tt
deeper (Some i) b j n h = omega arith

depth-get_member : (name : List ℕ) (ms : json.Members) → IfSome (find.get_member name ms) (λ i. depth i ≤ members_depth ms)
depth-get_member name json.no_members = tt
depth-get_member name (json.member k j ms) = deeper (find.get_member name ms) (bytes_eq k name) j (members_depth ms) (depth-get_member name ms)

one_more_level : (o : Option Json) (n m : ℕ) → n ≤ m → IfSome o (λ i. depth i ≤ n) → IfSome o (λ i. depth i ≤ m)
one_more_level None n m le h = tt
one_more_level (Some i) n m le h = omega arith

pub depth-get : (name : List ℕ) (j : Json) → IfSome (find.get name j) (λ i. depth i ≤ depth j)
depth-get name json.null = tt
depth-get name (json.boolean b) = tt
depth-get name (json.number s) = tt
depth-get name (json.string s) = tt
depth-get name (json.array js) = tt
depth-get name (json.object ms) = one_more_level (find.get_member name ms) (members_depth ms) _ (omega arith) (depth-get_member name ms)

-- each member of a text has one of these names
abbrev pub known_in : List (List ℕ) → json.Members → Bool
known_in names json.no_members = true
known_in names (json.member k j ms) = list_any (bytes_eq k) names && known_in names ms

twice_and : (a b : Bool) → (a && (a && b)) ≡ (a && b)
twice_and true b = refl
twice_and false b = refl

swapped_and : (a b c : Bool) → (a && (b && c)) ≡ (b && (a && c))
swapped_and true b c = refl
swapped_and false true c = refl
swapped_and false false c = refl

moved_and : (a b c : Bool) → (a && (b && c)) ≡ ((b && a) && c)
moved_and true true c = refl
moved_and true false c = refl
moved_and false true c = refl
moved_and false false c = refl

all_in-put_at : (o : Ordering) (names : List (List ℕ)) (k l : List ℕ) (d e : Data) (ms : Members) → slice_cmp nat_cmp k l ≡ o → all_in names (put k d ms) ≡ (list_any (bytes_eq k) names && all_in names ms)
    → all_in names (match_ordering o (member k d (member l e ms)) (member l d ms) (member l e (put k d ms))) ≡ (list_any (bytes_eq k) names && all_in names (member l e ms))
all_in-put_at Less names k l d e ms is more = refl
all_in-put_at Equal names k l d e ms is more =
    let tie : k ≡ l = (bytes_eq-Decides k l).0 (sym (is_eq-slice_cmp k l) ∙ ap is_eq is) in
    subst (λ (n : List ℕ). all_in names (member l d ms) ≡ (list_any (bytes_eq n) names && all_in names (member l e ms))) (sym tie) (sym (twice_and (list_any (bytes_eq l) names) (all_in names ms)))
all_in-put_at Greater names k l d e ms is more = ap (λ (b : Bool). list_any (bytes_eq l) names && b) more ∙ swapped_and (list_any (bytes_eq l) names) (list_any (bytes_eq k) names) (all_in names ms)

all_in-put : (names : List (List ℕ)) (k : List ℕ) (d : Data) (ms : Members) → all_in names (put k d ms) ≡ (list_any (bytes_eq k) names && all_in names ms)
all_in-put names k d no_members = refl
all_in-put names k d (member l e ms) = all_in-put_at _ names k l d e ms refl (all_in-put names k d ms)

all_in-members : (names : List (List ℕ)) (ms : json.Members) (before after : Members) → of_members ms before ≡ Some after → all_in names after ≡ (known_in names ms && all_in names before)
all_in-members names json.no_members before after e = ap (all_in names) (sym (Some_inj _ _ e))
all_in-members names (json.member k j ms) before after e =
    let first = chained (λ d. of_members ms (put k d before)) (of_json j) after e in
    all_in-members names ms (put k first.0 before) after first.2 ∙ ap (λ (b : Bool). known_in names ms && b) (all_in-put names k first.0 before)
    ∙ moved_and (known_in names ms) (list_any (bytes_eq k) names) (all_in names before)

and_true : (b : Bool) → (b && true) ≡ b
and_true true = refl
and_true false = refl

pub all_in-same : (names : List (List ℕ)) (ms : json.Members) (found : Members) → of_members ms no_members ≡ Some found → all_in names found ≡ known_in names ms
all_in-same names ms found e = all_in-members names ms no_members found e ∙ and_true (known_in names ms)
